use Rattle.std.proofs.Common.{◌≡◌, ◌++◌}
use Rattle.list_replica.specs.Stores.{listed}
use Rattle.list_replica.proofs.contents.list_all.Given as goal

-- the partitions so far, and those to come
abbrev pub invariant-loop-partition : goal.invariant-loop-partition
invariant-loop-partition l = l.partitions.items ++ listed l.range l.partition-iterator ≡ listed l.range l.contents.entries

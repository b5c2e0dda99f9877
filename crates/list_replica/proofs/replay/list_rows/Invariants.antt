use Rattle.std.proofs.Common.{◌≡◌, ◌++◌, map}
use Rattle.list_replica.specs.Rows.{row_entry}
use Rattle.list_replica.proofs.replay.list_rows.Given as goal

-- the rows so far, and those to come
abbrev pub invariant-loop-partition : goal.invariant-loop-partition
invariant-loop-partition l = l.list.items ++ map row_entry l.partition-iterator ≡ map row_entry l.fn.rows.entries

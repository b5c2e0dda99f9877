use Rattle.std.proofs.Common.{take}
use Rattle.row_store.specs.Stores.{AreSettledIn}
use Rattle.row_store.proofs.store.settle_all.Given as goal

-- of the partitions so far it is kept
abbrev pub invariant-loop-partition : goal.invariant-loop-partition
invariant-loop-partition l = AreSettledIn (take l.partition-index l.set) l.fn.slots.entries l.slots.entries

use Rattle.std.proofs.Common.{take}
use Rattle.row_store.specs.Stores.{AreUnsetIn}
use Rattle.row_store.proofs.store.unset_all.Given as goal

-- of the partitions so far it is undone
abbrev pub invariant-loop-partition : goal.invariant-loop-partition
invariant-loop-partition l = AreUnsetIn (take l.partition-index l.set) l.fn.slots.entries l.slots.entries

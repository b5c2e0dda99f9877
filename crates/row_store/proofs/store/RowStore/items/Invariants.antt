use Rattle.std.proofs.Common.{◌≡◌, map, take}
use Rattle.row_store.specs.Stores.{item_of, now}
use Rattle.row_store.proofs.store.RowStore.items.Given as goal

-- those of the partitions so far
abbrev pub invariant-loop-partition : goal.invariant-loop-partition
invariant-loop-partition l = l.items.items ≡ map (item_of (now l.self)) (take l.partition-index l.self.set)

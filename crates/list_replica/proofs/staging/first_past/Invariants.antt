use Rattle.std.proofs.Common.{take}
use Rattle.list_replica.specs.Staging.{AllStayWithin}
use Rattle.list_replica.proofs.staging.first_past.Given as goal

-- the partitions of the items so far stay within
abbrev pub invariant-loop-item : goal.invariant-loop-item
invariant-loop-item l = AllStayWithin l.contents l.staged (take l.item-index l.items)

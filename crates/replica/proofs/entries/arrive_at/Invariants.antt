use Rattle.std.proofs.Common.{take}
use Rattle.replica.specs.Kept.{ArriveAllAt}
use Rattle.replica.proofs.entries.arrive_at.Given as goal

abbrev pub invariant-loop-item : goal.invariant-loop-item
invariant-loop-item l = ArriveAllAt l.at (take l.item-index l.item-items)

use Rattle.std.proofs.Common.{take}
use Rattle.replica.specs.Kept.{PurgeNothing}
use Rattle.replica.proofs.entries.purges_nothing.Given as goal

abbrev pub invariant-loop-item : goal.invariant-loop-item
invariant-loop-item l = PurgeNothing (take l.item-index l.item-items)

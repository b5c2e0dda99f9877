use Rattle.std.proofs.Common.{take}
use Rattle.list_replica.specs.Staging.{Stages}
use Rattle.list_replica.proofs.staging.stage.Given as goal

abbrev pub invariant-loop-item : goal.invariant-loop-item
invariant-loop-item l = Stages l.items (take l.item-index l.items) l.staged.items

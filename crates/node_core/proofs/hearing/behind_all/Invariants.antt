use Rattle.std.specs.Prelude.{take}
use Rattle.node_core.specs.Moving.{AreBehind}
use Rattle.node_core.proofs.hearing.behind_all.Given as goal

abbrev pub invariant-loop-item : goal.invariant-loop-item
invariant-loop-item l = AreBehind (take l.item-index l.items) l.query l.fn.part l.all

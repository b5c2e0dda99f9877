use Rattle.std.specs.Prelude.{◌≡◌, take}
use Rattle.node_core.proofs.hearing.copied.Given as goal

abbrev pub invariant-loop-change : goal.invariant-loop-change
invariant-loop-change l = l.copies ≡ take l.change-index l.changes

use Rattle.std.proofs.Common.{◌≡◌, filter, take}
use Rattle.std.specs.Prelude.{◌==◌, not}
use Rattle.node_core.proofs.batches.without.Given as goal

abbrev pub invariant-loop-other : goal.invariant-loop-other
invariant-loop-other l = l.left ≡ filter (λ n. not (n == l.number)) (take l.other-index l.numbers)

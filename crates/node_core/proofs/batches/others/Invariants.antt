use Rattle.std.proofs.Common.{◌≡◌, filter, take}
use Rattle.std.specs.Prelude.{◌==◌, not}
use Rattle.node_core.proofs.batches.others.Given as goal

abbrev pub invariant-loop-batch : goal.invariant-loop-batch
invariant-loop-batch l = l.others ≡ filter (λ b. not (b.peer == l.peer)) (take l.batch-index l.batches)

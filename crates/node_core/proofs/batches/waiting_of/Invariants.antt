use Rattle.std.proofs.Common.{◌≡◌}
use Rattle.std.specs.Prelude.{drop}
use Rattle.node_steps.specs.Hints.{waiting_of}
use Rattle.node_core.proofs.batches.waiting_of.Given as goal

abbrev pub invariant-loop-batch : goal.invariant-loop-batch
invariant-loop-batch l = waiting_of l.batches l.peer ≡ waiting_of (drop l.batch-index l.batches) l.peer

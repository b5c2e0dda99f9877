use Rattle.std.proofs.Common.{List, filter, sym, ap, ◌++◌, ◌∷◌, [], ◌∙◌}
use Rattle.std.specs.Prelude.{◌==◌, not}
use Rattle.node_steps.specs.State.{Batch}
use Rattle.node_core.proofs.Longer.{filter_front}
use Rattle.node_core.proofs.batches.others.Goals as goal

pub loop-batch-preserved : goal.loop-batch-preserved
loop-batch-preserved c =
    c.in_ok-add_other.ensures
    ∙ ap (λ (bs : List Batch). bs ++ filter (λ b. not (b.peer == c.args.peer)) (c.batch-item.result ∷ [])) c.loop-batch.invariant
    ∙ sym (filter_front (λ b. not (b.peer == c.args.peer)) c.args.batches.now c.loop-batch.batch-index c.batch-item.result c.loop-batch-test.true c.batch-item.is)

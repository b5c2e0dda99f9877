use Rattle.std.proofs.Common.{ℕ, List, sym, ap, ◌++◌, ◌∷◌, [], ◌∙◌}
use Rattle.node_steps.specs.Hints.{number_of}
use Rattle.node_core.proofs.Longer.{map_front}
use Rattle.node_core.proofs.hints.numbers_of.Goals as goal

pub loop-hint-preserved : goal.loop-hint-preserved
loop-hint-preserved c =
    c.in_ok-push.ensures.items
    ∙ ap (λ (ns : List ℕ). ns ++ c.hint-item.result.number ∷ []) c.loop-hint.invariant
    ∙ sym (map_front number_of c.args.hints.now c.loop-hint.hint-index c.hint-item.result c.loop-hint-test.true c.hint-item.is)

use Rattle.std.proofs.Common.{rules, List, ap, ◌∙◌}
use Rattle.std.specs.Prelude.{filter}
use Rattle.std.proofs.lemmas.Fn.{filter_same}
use Rattle.peer_messages.specs.declared.chronicle.Entry.{Entry}
use Rattle.node_steps.specs.Stops.{is_entered_at_stop}
use Rattle.cluster_model.proofs.entering.remaining.Goals as goal

pub returns : goal.returns
returns c =
    c.from_vec.ensures
    ∙ filter_same _ _ _ (λ x b f' k. search rules) _ _ c.retain.ensures.filtered
    ∙ ap (λ (es : List Entry). filter is_entered_at_stop es) c.into_vec-entries.ensures

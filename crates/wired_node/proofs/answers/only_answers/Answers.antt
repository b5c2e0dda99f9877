use Rattle.std.proofs.Common.{rules, List, filter, ap, ◌∙◌}
use Rattle.std.proofs.lemmas.Fn.{filter_same}
use Rattle.peer_messages.specs.declared.chronicle.Entry.{Entry}
use Rattle.wired_node.specs.Answers.{is_answer}
use Rattle.wired_node.proofs.answers.only_answers.Goals as goal

pub returns : goal.returns
returns c = filter_same _ is_answer _ (λ x b f' k. search rules) _ _ c.retain.ensures.filtered ∙ ap (λ (entries : List Entry). filter is_answer entries) c.into_vec-told.ensures

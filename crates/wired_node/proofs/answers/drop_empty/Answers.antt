use Rattle.std.proofs.Common.{rules, List, ap, ◌∙◌}
use Rattle.std.proofs.lemmas.Fn.{filter_same}
use Rattle.peer_messages.specs.declared.chronicle.Entry.{Entry}
use Rattle.wired_node.specs.Answers.{has_some, joined}
use Rattle.wired_node.proofs.Pieces.{joined_some}
use Rattle.wired_node.proofs.answers.drop_empty.Goals as goal

pub returns : goal.returns
returns c = ap (λ (pieces : List (List Entry)). joined pieces) (filter_same _ has_some _ (λ x b f' k. search rules) _ _ c.retain.ensures.filtered) ∙ joined_some c.args.pieces.now.items

use Rattle.std.proofs.Common.{Option, ℕ, ap, ◌∙◌}
use Rattle.std.specs.Prelude.{is_some}
use Rattle.std.specs.List.{list_any}
use Rattle.wired_node.specs.Answers.{is_answer_to}
use Rattle.wired_node.proofs.Pieces.{any_joined, any_place}
use Rattle.wired_node.proofs.answers.is_kept.Goals as goal

pub returns : goal.returns
returns c =
    c.is_some.ensures ∙ (ap (λ (o : Option ℕ). is_some o) c.piece_of.ensures ∙ (any_place (list_any (is_answer_to c.args.request.now)) c.args.pieces.now ∙ any_joined (is_answer_to c.args.request.now) c.args.pieces.now))

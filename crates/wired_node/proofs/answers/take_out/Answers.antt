use Rattle.std.proofs.Common.{◌≡◌, None, List, rules, set, sym, ap, ◌∙◌}
use Rattle.std.specs.List.{list_any}
use Rattle.peer_messages.specs.declared.chronicle.Entry.{Entry}
use Rattle.wired_node.specs.Answers.{is_answer_to, joined}
use Rattle.wired_node.proofs.Pieces.{any_joined, find_none, none_place, taken_in, without_none}
use Rattle.wired_node.proofs.answers.take_out.Goals as goal

pub returns-in_err-place-clause-taken : goal.returns-in_err-place-clause-taken
returns-in_err-place-clause-taken c =
    let p = is_answer_to c.args.request.now in
    let none : c.from_residual.result ≡ None = search rules in
    none ∙ sym (find_none p (joined c.args.pieces.now) (sym (any_joined p c.args.pieces.now) ∙ none_place (list_any p) c.args.pieces.now (sym c.piece_of.ensures ∙ c.in_err-place.was)))

pub returns-in_err-place-clause-left : goal.returns-in_err-place-clause-left
returns-in_err-place-clause-left c =
    let p = is_answer_to c.args.request.now in
    sym (without_none p (joined c.args.pieces.now) (sym (any_joined p c.args.pieces.now) ∙ none_place (list_any p) c.args.pieces.now (sym c.piece_of.ensures ∙ c.in_err-place.was)))

pub returns-clause-taken : goal.returns-clause-taken
returns-clause-taken c =
    c.take_from.ensures.taken ∙ sym (taken_in (is_answer_to c.args.request.now) c.args.pieces.now c.in_ok-place.place c.index-pieces-place.result (sym c.piece_of.ensures ∙ c.in_ok-place.was)).0

pub returns-clause-left : goal.returns-clause-left
returns-clause-left c =
    ap (λ (piece : List Entry). joined (set c.args.pieces.now c.in_ok-place.place piece)) c.take_from.ensures.left
    ∙ (taken_in (is_answer_to c.args.request.now) c.args.pieces.now c.in_ok-place.place c.index-pieces-place.result (sym c.piece_of.ensures ∙ c.in_ok-place.was)).1

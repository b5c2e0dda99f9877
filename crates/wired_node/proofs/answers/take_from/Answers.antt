use Rattle.std.proofs.Common.{◌≡◌, None, List, rules, sym, ap, ◌∙◌, get_or}
use Rattle.std.specs.Prelude.{position}
use Rattle.std.specs.List.{remove}
use Rattle.peer_messages.specs.declared.chronicle.Entry.{Entry}
use Rattle.wired_node.specs.Answers.{is_answer_to}
use Rattle.wired_node.proofs.Pieces.{find_none, none_place, taken_at, without_none}
use Rattle.wired_node.proofs.answers.take_from.Goals as goal

pub returns-in_err-place-clause-taken : goal.returns-in_err-place-clause-taken
returns-in_err-place-clause-taken c =
    let p = is_answer_to c.args.request.now in
    let none : c.from_residual.result ≡ None = search rules in
    none ∙ sym (find_none p c.args.piece.now (none_place p c.args.piece.now (ap (λ (es : List Entry). position p es) (sym c.as_slice.ensures) ∙ (sym c.place_in.ensures ∙ c.in_err-place.was))))

pub returns-in_err-place-clause-left : goal.returns-in_err-place-clause-left
returns-in_err-place-clause-left c =
    let p = is_answer_to c.args.request.now in
    sym (without_none p c.args.piece.now (none_place p c.args.piece.now (ap (λ (es : List Entry). position p es) (sym c.as_slice.ensures) ∙ (sym c.place_in.ensures ∙ c.in_err-place.was))))

pub returns-clause-taken : goal.returns-clause-taken
returns-clause-taken c =
    let p = is_answer_to c.args.request.now in
    let place = ap (λ (es : List Entry). position p es) (sym c.as_slice.ensures) ∙ (sym c.place_in.ensures ∙ c.in_ok-place.was) in
    let items = c.into_vec-entries.ensures ∙ c.replace.ensures.value in
    (taken_at p c.args.piece.now c.in_ok-place.place c.remove-taken.result place (c.remove-taken.ensures.value ∙ ap (λ (es : List Entry). get_or es c.in_ok-place.place c.remove-taken.result) items)).0

pub returns-clause-left : goal.returns-clause-left
returns-clause-left c =
    let p = is_answer_to c.args.request.now in
    let place = ap (λ (es : List Entry). position p es) (sym c.as_slice.ensures) ∙ (sym c.place_in.ensures ∙ c.in_ok-place.was) in
    let items = c.into_vec-entries.ensures ∙ c.replace.ensures.value in
    c.replace-2.ensures.after ∙ (c.from_vec.ensures ∙ (c.remove-taken.ensures.items ∙ (ap (λ (es : List Entry). remove es c.in_ok-place.place) items
    ∙ (taken_at p c.args.piece.now c.in_ok-place.place c.remove-taken.result place (c.remove-taken.ensures.value ∙ ap (λ (es : List Entry). get_or es c.in_ok-place.place c.remove-taken.result) items)).1)))

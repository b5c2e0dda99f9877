use Rattle.std.proofs.lemmas.Result.{err_from_is_err_and}
use Rattle.node_core.proofs.Answered.{handed_on, hands_on, ok_no_error, same_told}
use Rattle.node_core.proofs.Refusing.{call_errors}
use Rattle.node_core.proofs.hearing.answer.Goals as goal

pub returns-clause-ok : goal.returns-clause-ok
returns-clause-ok g c = λ honest d' commits. (
  c.in_ok-behind_all.ensures.ok c.requires.items.0 c.requires.items.1 (g.R.Replica.durable c.args.replica.now) d' commits (c.in_ok-part.ensures.ok honest),
  c.in_ok-behind_all.ensures.ordered,
)

pub returns-in_err-part-clause-ok : goal.returns-in_err-part-clause-ok
returns-in_err-part-clause-ok g c =
    let e = err_from_is_err_and c.from_residual.result c.from_residual.ensures.1 in
    rw e.1 tt

pub returns-in_err-part-clause-peeks : goal.returns-in_err-part-clause-peeks
returns-in_err-part-clause-peeks g c = c.held.ensures.peeks

pub returns-in_err-part-clause-whole : goal.returns-in_err-part-clause-whole
returns-in_err-part-clause-whole g c =
    let e = err_from_is_err_and c.from_residual.result c.from_residual.ensures.1 in
    λ fine. c.in_err-part.ensures.whole (λ told. fine (hands_on e told))

pub returns-in_err-part-clause-failed : goal.returns-in_err-part-clause-failed
returns-in_err-part-clause-failed g c =
    let e = err_from_is_err_and c.from_residual.result c.from_residual.ensures.1 in
    λ told. c.in_err-part.ensures.failed (handed_on e told)

pub returns-in_err-part-clause-surely : goal.returns-in_err-part-clause-surely
returns-in_err-part-clause-surely g c =
    let e = err_from_is_err_and c.from_residual.result c.from_residual.ensures.1 in
    λ told. c.in_err-part.ensures.surely (handed_on e told)

pub returns-in_err-behind_all-clause-ok : goal.returns-in_err-behind_all-clause-ok
returns-in_err-behind_all-clause-ok g c =
    let e = err_from_is_err_and c.from_residual-in_err-behind_all.result c.from_residual-in_err-behind_all.ensures.1 in
    rw e.1 tt

pub returns-in_err-behind_all-clause-peeks : goal.returns-in_err-behind_all-clause-peeks
returns-in_err-behind_all-clause-peeks g c = c.held.ensures.peeks

pub returns-in_err-behind_all-clause-whole : goal.returns-in_err-behind_all-clause-whole
returns-in_err-behind_all-clause-whole g c = λ fine. c.in_ok-part.ensures.whole (λ told. ok_no_error told)

pub returns-in_err-behind_all-clause-failed : goal.returns-in_err-behind_all-clause-failed
returns-in_err-behind_all-clause-failed g c =
    let e = err_from_is_err_and c.from_residual-in_err-behind_all.result c.from_residual-in_err-behind_all.ensures.1 in
    λ told. absurd (call_errors (same_told e told))

pub returns-in_err-behind_all-clause-surely : goal.returns-in_err-behind_all-clause-surely
returns-in_err-behind_all-clause-surely g c =
    let e = err_from_is_err_and c.from_residual-in_err-behind_all.result c.from_residual-in_err-behind_all.ensures.1 in
    λ told. absurd (call_errors (same_told e told))

pub returns-clause-peeks : goal.returns-clause-peeks
returns-clause-peeks g c = c.held.ensures.peeks

pub returns-clause-whole : goal.returns-clause-whole
returns-clause-whole g c = λ fine. c.in_ok-part.ensures.whole (λ told. ok_no_error told)

pub returns-clause-failed : goal.returns-clause-failed
returns-clause-failed g c = λ told. absurd (ok_no_error told)

pub returns-clause-surely : goal.returns-clause-surely
returns-clause-surely g c = λ told. absurd (ok_no_error told)

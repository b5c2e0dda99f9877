use Rattle.std.proofs.Common.{sym, refl, ◌∙◌}
use Rattle.std.proofs.lemmas.Result.{err_from_is_err_and}
use Rattle.node_core.proofs.Answered.{handed_on, hands_on, ok_no_error}
use Rattle.node_core.proofs.keep.write.Goals as goal

pub flush_with-requires-clause-arrival : goal.flush_with-requires-clause-arrival
flush_with-requires-clause-arrival g c = (c.args.at, c.requires.arrival)

pub returns-in_err-flush_with-clause-back : goal.returns-in_err-flush_with-clause-back
returns-in_err-flush_with-clause-back g c = c.flush_with.ensures.back

pub returns-in_err-flush_with-clause-ok : goal.returns-in_err-flush_with-clause-ok
returns-in_err-flush_with-clause-ok g c =
    let e = err_from_is_err_and c.from_residual.result c.from_residual.ensures.1 in
    rw e.1 tt

pub returns-in_err-flush_with-clause-tables : goal.returns-in_err-flush_with-clause-tables
returns-in_err-flush_with-clause-tables g c =
    let e = err_from_is_err_and c.from_residual.result c.from_residual.ensures.1 in
    rw e.1 tt

pub returns-in_err-flush_with-clause-room : goal.returns-in_err-flush_with-clause-room
returns-in_err-flush_with-clause-room g c =
    let e = err_from_is_err_and c.from_residual.result c.from_residual.ensures.1 in
    rw e.1 tt

pub returns-in_err-flush_with-clause-whole : goal.returns-in_err-flush_with-clause-whole
returns-in_err-flush_with-clause-whole g c =
    let e = err_from_is_err_and c.from_residual.result c.from_residual.ensures.1 in
    λ fine. c.in_err-flush_with.ensures.whole (λ told. fine (hands_on e told))

pub returns-in_err-flush_with-clause-same : goal.returns-in_err-flush_with-clause-same
returns-in_err-flush_with-clause-same g c =
    let e = err_from_is_err_and c.from_residual.result c.from_residual.ensures.1 in
    rw e.1 (λ fine. c.in_err-flush_with.ensures.same (λ told. fine (sym e.1 ∙ hands_on e told)))

pub returns-in_err-flush_with-clause-too_large : goal.returns-in_err-flush_with-clause-too_large
returns-in_err-flush_with-clause-too_large g c =
    let e = err_from_is_err_and c.from_residual.result c.from_residual.ensures.1 in
    λ p told. c.in_err-flush_with.ensures.too_large p (handed_on e told)

pub returns-in_err-flush_with-clause-no_room : goal.returns-in_err-flush_with-clause-no_room
returns-in_err-flush_with-clause-no_room g c =
    let e = err_from_is_err_and c.from_residual.result c.from_residual.ensures.1 in
    λ told. c.in_err-flush_with.ensures.no_room (handed_on e told)

pub returns-in_err-flush_with-clause-failed : goal.returns-in_err-flush_with-clause-failed
returns-in_err-flush_with-clause-failed g c =
    let e = err_from_is_err_and c.from_residual.result c.from_residual.ensures.1 in
    λ told. c.in_err-flush_with.ensures.failed (handed_on e told)

pub returns-in_err-flush_with-clause-surely : goal.returns-in_err-flush_with-clause-surely
returns-in_err-flush_with-clause-surely g c =
    let e = err_from_is_err_and c.from_residual.result c.from_residual.ensures.1 in
    λ told. c.in_err-flush_with.ensures.surely (handed_on e told)

pub returns-in_err-flush_with-clause-faults : goal.returns-in_err-flush_with-clause-faults
returns-in_err-flush_with-clause-faults g c = c.flush_with.ensures.faults

pub returns-in_err-flush_with-clause-spared : goal.returns-in_err-flush_with-clause-spared
returns-in_err-flush_with-clause-spared g c = c.flush_with.ensures.spared

pub returns-in_err-flush_with-clause-any_moment : goal.returns-in_err-flush_with-clause-any_moment
returns-in_err-flush_with-clause-any_moment g c = c.flush_with.ensures.any_moment

pub returns-in_err-keep-clause-back : goal.returns-in_err-keep-clause-back
returns-in_err-keep-clause-back g c = refl

pub returns-in_err-keep-clause-ok : goal.returns-in_err-keep-clause-ok
returns-in_err-keep-clause-ok g c =
    let e = err_from_is_err_and c.from_residual-in_err-keep.result c.from_residual-in_err-keep.ensures.1 in
    rw e.1 tt

pub returns-in_err-keep-clause-tables : goal.returns-in_err-keep-clause-tables
returns-in_err-keep-clause-tables g c =
    let e = err_from_is_err_and c.from_residual-in_err-keep.result c.from_residual-in_err-keep.ensures.1 in
    rw e.1 tt

pub returns-in_err-keep-clause-room : goal.returns-in_err-keep-clause-room
returns-in_err-keep-clause-room g c =
    let e = err_from_is_err_and c.from_residual-in_err-keep.result c.from_residual-in_err-keep.ensures.1 in
    rw e.1 tt

pub returns-in_err-keep-clause-whole : goal.returns-in_err-keep-clause-whole
returns-in_err-keep-clause-whole g c =
    let e = err_from_is_err_and c.from_residual-in_err-keep.result c.from_residual-in_err-keep.ensures.1 in
    λ fine. c.in_err-keep.ensures.whole (λ told. fine (hands_on e told))

pub returns-in_err-keep-clause-same : goal.returns-in_err-keep-clause-same
returns-in_err-keep-clause-same g c =
    let e = err_from_is_err_and c.from_residual-in_err-keep.result c.from_residual-in_err-keep.ensures.1 in
    rw e.1 (λ fine. c.in_err-keep.ensures.same (λ told. fine (sym e.1 ∙ hands_on e told)))

pub returns-in_err-keep-clause-too_large : goal.returns-in_err-keep-clause-too_large
returns-in_err-keep-clause-too_large g c =
    let e = err_from_is_err_and c.from_residual-in_err-keep.result c.from_residual-in_err-keep.ensures.1 in
    λ p told. c.in_err-keep.ensures.too_large p (handed_on e told)

pub returns-in_err-keep-clause-no_room : goal.returns-in_err-keep-clause-no_room
returns-in_err-keep-clause-no_room g c =
    let e = err_from_is_err_and c.from_residual-in_err-keep.result c.from_residual-in_err-keep.ensures.1 in
    λ told. c.in_err-keep.ensures.no_room (handed_on e told)

pub returns-in_err-keep-clause-failed : goal.returns-in_err-keep-clause-failed
returns-in_err-keep-clause-failed g c =
    let e = err_from_is_err_and c.from_residual-in_err-keep.result c.from_residual-in_err-keep.ensures.1 in
    λ told. c.in_err-keep.ensures.failed (handed_on e told)

pub returns-in_err-keep-clause-surely : goal.returns-in_err-keep-clause-surely
returns-in_err-keep-clause-surely g c =
    let e = err_from_is_err_and c.from_residual-in_err-keep.result c.from_residual-in_err-keep.ensures.1 in
    λ told. c.in_err-keep.ensures.surely (handed_on e told)

pub returns-in_err-keep-clause-faults : goal.returns-in_err-keep-clause-faults
returns-in_err-keep-clause-faults g c = c.keep.ensures.faults

pub returns-in_err-keep-clause-spared : goal.returns-in_err-keep-clause-spared
returns-in_err-keep-clause-spared g c = c.keep.ensures.spared

pub returns-in_err-keep-clause-any_moment : goal.returns-in_err-keep-clause-any_moment
returns-in_err-keep-clause-any_moment g c = c.keep.ensures.any_moment

pub returns-then-flushes-clause-back : goal.returns-then-flushes-clause-back
returns-then-flushes-clause-back g c = c.flush_with.ensures.back

pub returns-then-flushes-clause-ok : goal.returns-then-flushes-clause-ok
returns-then-flushes-clause-ok g c = c.in_ok-flush_with.ensures.ok

pub returns-then-flushes-clause-room : goal.returns-then-flushes-clause-room
returns-then-flushes-clause-room g c = c.in_ok-flush_with.ensures.room

pub returns-then-flushes-clause-whole : goal.returns-then-flushes-clause-whole
returns-then-flushes-clause-whole g c = λ fine. c.in_ok-flush_with.ensures.whole (λ told. ok_no_error told)

pub returns-then-flushes-clause-same : goal.returns-then-flushes-clause-same
returns-then-flushes-clause-same g c = tt

pub returns-then-flushes-clause-too_large : goal.returns-then-flushes-clause-too_large
returns-then-flushes-clause-too_large g c = λ p told. absurd (ok_no_error told)

pub returns-then-flushes-clause-no_room : goal.returns-then-flushes-clause-no_room
returns-then-flushes-clause-no_room g c = λ told. absurd (ok_no_error told)

pub returns-then-flushes-clause-failed : goal.returns-then-flushes-clause-failed
returns-then-flushes-clause-failed g c = λ told. absurd (ok_no_error told)

pub returns-then-flushes-clause-surely : goal.returns-then-flushes-clause-surely
returns-then-flushes-clause-surely g c = λ told. absurd (ok_no_error told)

pub returns-then-flushes-clause-faults : goal.returns-then-flushes-clause-faults
returns-then-flushes-clause-faults g c = c.flush_with.ensures.faults

pub returns-then-flushes-clause-spared : goal.returns-then-flushes-clause-spared
returns-then-flushes-clause-spared g c = c.flush_with.ensures.spared

pub returns-then-flushes-clause-any_moment : goal.returns-then-flushes-clause-any_moment
returns-then-flushes-clause-any_moment g c = c.flush_with.ensures.any_moment

pub returns-clause-back : goal.returns-clause-back
returns-clause-back g c = refl

pub returns-clause-ok : goal.returns-clause-ok
returns-clause-ok g c = c.in_ok-keep.ensures.ok

pub returns-clause-room : goal.returns-clause-room
returns-clause-room g c = c.in_ok-keep.ensures.room

pub returns-clause-whole : goal.returns-clause-whole
returns-clause-whole g c = λ fine. c.in_ok-keep.ensures.whole (λ told. ok_no_error told)

pub returns-clause-same : goal.returns-clause-same
returns-clause-same g c = tt

pub returns-clause-too_large : goal.returns-clause-too_large
returns-clause-too_large g c = λ p told. absurd (ok_no_error told)

pub returns-clause-no_room : goal.returns-clause-no_room
returns-clause-no_room g c = λ told. absurd (ok_no_error told)

pub returns-clause-failed : goal.returns-clause-failed
returns-clause-failed g c = λ told. absurd (ok_no_error told)

pub returns-clause-surely : goal.returns-clause-surely
returns-clause-surely g c = λ told. absurd (ok_no_error told)

pub returns-clause-faults : goal.returns-clause-faults
returns-clause-faults g c = c.keep.ensures.faults

pub returns-clause-spared : goal.returns-clause-spared
returns-clause-spared g c = c.keep.ensures.spared

pub returns-clause-any_moment : goal.returns-clause-any_moment
returns-clause-any_moment g c = c.keep.ensures.any_moment

pub returns-in_err-flush_with-clause-log : goal.returns-in_err-flush_with-clause-log
returns-in_err-flush_with-clause-log g c =
    let e = err_from_is_err_and c.from_residual.result c.from_residual.ensures.1 in
    rw e.1 (λ fine. c.in_err-flush_with.ensures.log (λ told. fine (sym e.1 ∙ hands_on e told)))

pub returns-in_err-keep-clause-log : goal.returns-in_err-keep-clause-log
returns-in_err-keep-clause-log g c =
    let e = err_from_is_err_and c.from_residual-in_err-keep.result c.from_residual-in_err-keep.ensures.1 in
    rw e.1 (λ fine. c.in_err-keep.ensures.log (λ told. fine (sym e.1 ∙ hands_on e told)))

pub returns-then-flushes-clause-log : goal.returns-then-flushes-clause-log
returns-then-flushes-clause-log g c = tt

pub returns-clause-log : goal.returns-clause-log
returns-clause-log g c = tt

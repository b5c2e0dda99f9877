use Rattle.std.proofs.Common.{◌+◌, refl, subst, arith}
use Rattle.std.proofs.lemmas.Result.{err_from_is_err_and}
use Rattle.durable_state.specs.State.{Durable}
use Rattle.durable_state.specs.Keeping.{Commits}
use Rattle.replica.proofs.Fronts.{looked_leaves, looked_then}
use Rattle.node_core.proofs.Answered.{err_not_ok, handed_on, hands_on, ok_no_error}
use Rattle.node_core.proofs.Entry.{still_with}
use Rattle.node_core.proofs.Refusing.{failed_no_room, failed_not_large, unit_error_of}
use Rattle.node_core.proofs.keep.keep.Goals as goal

pub returns-in_err-room-clause-whole : goal.returns-in_err-room-clause-whole
returns-in_err-room-clause-whole g c =
    let e = err_from_is_err_and c.from_residual.result c.from_residual.ensures.1 in
    λ fine. c.in_err-room.ensures.whole (λ told. fine (hands_on e told))

pub returns-in_err-room-clause-same : goal.returns-in_err-room-clause-same
returns-in_err-room-clause-same g c =
    let e = err_from_is_err_and c.from_residual.result c.from_residual.ensures.1 in
    rw e.1 (λ fine honest. (c.room.ensures.looked honest).same)

pub returns-in_err-room-clause-too_large : goal.returns-in_err-room-clause-too_large
returns-in_err-room-clause-too_large g c =
    let e = err_from_is_err_and c.from_residual.result c.from_residual.ensures.1 in
    λ p told. c.in_err-room.ensures.too_large p (handed_on e told)

pub returns-in_err-room-clause-no_room : goal.returns-in_err-room-clause-no_room
returns-in_err-room-clause-no_room g c =
    let e = err_from_is_err_and c.from_residual.result c.from_residual.ensures.1 in
    λ told honest. let h = c.in_err-room.ensures.no_room (handed_on e told) in (h.0, h.1 honest)

pub returns-in_err-room-clause-failed : goal.returns-in_err-room-clause-failed
returns-in_err-room-clause-failed g c =
    let e = err_from_is_err_and c.from_residual.result c.from_residual.ensures.1 in
    λ told. c.in_err-room.ensures.failed (handed_on e told)

pub returns-in_err-room-clause-faults : goal.returns-in_err-room-clause-faults
returns-in_err-room-clause-faults g c =
    c.room.ensures.faults

pub returns-in_err-room-clause-surely : goal.returns-in_err-room-clause-surely
returns-in_err-room-clause-surely g c =
    let e = err_from_is_err_and c.from_residual.result c.from_residual.ensures.1 in
    λ told all. (c.in_err-room.ensures.surely all).0 (handed_on e told)

pub returns-in_err-room-clause-spared : goal.returns-in_err-room-clause-spared
returns-in_err-room-clause-spared g c =
    λ all. (c.room.ensures.surely all).1

pub returns-in_err-room-clause-any_moment : goal.returns-in_err-room-clause-any_moment
returns-in_err-room-clause-any_moment g c =
    λ honest. looked_leaves g.R.Replica.stands_for (λ r. g.R.Disk.Store.disk (g.R.Replica.disk r)) g.R.Replica.durable c.args.entry.now.items c.args.replica.now c.room.new.self (c.room.ensures.looked honest)

pub commit-requires-clause-granted : goal.commit-requires-clause-granted
commit-requires-clause-granted g c = c.in_ok-room.ensures.ok

pub commit-requires-clause-whole : goal.commit-requires-clause-whole
commit-requires-clause-whole g c = c.in_ok-room.ensures.whole (λ told. ok_no_error told)

pub returns-in-Ok-clause-ok : goal.returns-in-Ok-clause-ok
returns-in-Ok-clause-ok g c = λ honest.
    subst (λ (d : Durable). Commits c.args.entry.now.items d (g.R.Replica.durable c.commit.new.self)) (c.room.ensures.looked honest).same (c.in-Ok.ensures.ok honest).keeps

pub returns-in-Ok-clause-whole : goal.returns-in-Ok-clause-whole
returns-in-Ok-clause-whole g c = λ fine. c.in-Ok.ensures.whole

pub returns-in-Ok-clause-same : goal.returns-in-Ok-clause-same
returns-in-Ok-clause-same g c = tt

pub returns-in-Ok-clause-too_large : goal.returns-in-Ok-clause-too_large
returns-in-Ok-clause-too_large g c = λ p told. absurd (ok_no_error told)

pub returns-in-Ok-clause-room : goal.returns-in-Ok-clause-room
returns-in-Ok-clause-room g c = λ honest some. (c.in_ok-room.ensures.short, c.in_ok-room.ensures.small honest)

pub returns-in-Ok-clause-no_room : goal.returns-in-Ok-clause-no_room
returns-in-Ok-clause-no_room g c = λ told. absurd (ok_no_error told)

pub returns-in-Ok-clause-failed : goal.returns-in-Ok-clause-failed
returns-in-Ok-clause-failed g c = λ told. absurd (ok_no_error told)

pub returns-in-Ok-clause-surely : goal.returns-in-Ok-clause-surely
returns-in-Ok-clause-surely g c = λ told. absurd (ok_no_error told)

pub returns-in-Ok-clause-spared : goal.returns-in-Ok-clause-spared
returns-in-Ok-clause-spared g c = λ all n. (c.commit.ensures.surely (n + 4) n (omega arith) ((c.room.ensures.surely all).1 (n + 4))).1

pub returns-in-Ok-clause-any_moment : goal.returns-in-Ok-clause-any_moment
returns-in-Ok-clause-any_moment g c = λ honest.
    looked_then g.R.Replica.stands_for (λ r. g.R.Disk.Store.disk (g.R.Replica.disk r)) g.R.Replica.durable c.args.entry.now.items c.args.replica.now c.room.new.self c.commit.new.self (c.room.ensures.looked honest) (c.commit.ensures.any_moment honest)

pub returns-in-Err-clause-ok : goal.returns-in-Err-clause-ok
returns-in-Err-clause-ok g c = tt

pub returns-in-Err-clause-room : goal.returns-in-Err-clause-room
returns-in-Err-clause-room g c = tt

pub returns-in-Err-clause-whole : goal.returns-in-Err-clause-whole
returns-in-Err-clause-whole g c = λ fine. absurd (fine refl)

pub returns-in-Err-clause-same : goal.returns-in-Err-clause-same
returns-in-Err-clause-same g c = λ fine. absurd (fine refl)

pub returns-in-Err-clause-too_large : goal.returns-in-Err-clause-too_large
returns-in-Err-clause-too_large g c = λ p told. absurd (failed_not_large p (unit_error_of _ _ told))

pub returns-in-Err-clause-no_room : goal.returns-in-Err-clause-no_room
returns-in-Err-clause-no_room g c = λ told. absurd (failed_no_room (unit_error_of _ _ told))

pub returns-in-Err-clause-surely : goal.returns-in-Err-clause-surely
returns-in-Err-clause-surely g c = λ told all. err_not_ok c.commit.result _ c.in-Err.is ((c.commit.ensures.surely 4 0 (omega arith) ((c.room.ensures.surely all).1 4)).0)

pub returns-in-Err-clause-spared : goal.returns-in-Err-clause-spared
returns-in-Err-clause-spared g c = λ all n. (c.commit.ensures.surely (n + 4) n (omega arith) ((c.room.ensures.surely all).1 (n + 4))).1

pub returns-in-Err-clause-any_moment : goal.returns-in-Err-clause-any_moment
returns-in-Err-clause-any_moment g c = λ honest.
    looked_then g.R.Replica.stands_for (λ r. g.R.Disk.Store.disk (g.R.Replica.disk r)) g.R.Replica.durable c.args.entry.now.items c.args.replica.now c.room.new.self c.commit.new.self (c.room.ensures.looked honest) (c.commit.ensures.any_moment honest)

pub returns-then-is_empty-clause-any_moment : goal.returns-then-is_empty-clause-any_moment
returns-then-is_empty-clause-any_moment g c = λ honest.
    still_with g.R.Replica.stands_for c.args.entry.now.items (g.R.Replica.durable c.args.replica.now) (g.R.Disk.Store.disk (g.R.Replica.disk c.args.replica.now)) (g.met.R.Replica.is_safe c.args.replica.now honest c.requires.whole)

pub returns-then-is_empty-clause-whole : goal.returns-then-is_empty-clause-whole
returns-then-is_empty-clause-whole g c = λ fine. c.requires.whole

pub returns-then-is_empty-clause-same : goal.returns-then-is_empty-clause-same
returns-then-is_empty-clause-same g c = tt

pub returns-then-is_empty-clause-too_large : goal.returns-then-is_empty-clause-too_large
returns-then-is_empty-clause-too_large g c = λ p told. absurd (ok_no_error told)

pub returns-then-is_empty-clause-no_room : goal.returns-then-is_empty-clause-no_room
returns-then-is_empty-clause-no_room g c = λ told. absurd (ok_no_error told)

pub returns-then-is_empty-clause-failed : goal.returns-then-is_empty-clause-failed
returns-then-is_empty-clause-failed g c = λ told. absurd (ok_no_error told)

pub returns-then-is_empty-clause-surely : goal.returns-then-is_empty-clause-surely
returns-then-is_empty-clause-surely g c = λ told. absurd (ok_no_error told)

pub returns-then-is_empty-clause-spared : goal.returns-then-is_empty-clause-spared
returns-then-is_empty-clause-spared g c = λ all. all

pub returns-in_err-room-clause-ok : goal.returns-in_err-room-clause-ok
returns-in_err-room-clause-ok g c =
    let e = err_from_is_err_and c.from_residual.result c.from_residual.ensures.1 in
    rw e.1 tt

pub returns-in_err-room-clause-room : goal.returns-in_err-room-clause-room
returns-in_err-room-clause-room g c =
    let e = err_from_is_err_and c.from_residual.result c.from_residual.ensures.1 in
    rw e.1 tt

pub returns-in_err-room-clause-log : goal.returns-in_err-room-clause-log
returns-in_err-room-clause-log g c =
    let e = err_from_is_err_and c.from_residual.result c.from_residual.ensures.1 in
    rw e.1 (λ fine. (c.room.ensures.log, c.room.ensures.flushed))

pub returns-in-Ok-clause-log : goal.returns-in-Ok-clause-log
returns-in-Ok-clause-log g c = tt

pub returns-in-Err-clause-log : goal.returns-in-Err-clause-log
returns-in-Err-clause-log g c = λ fine. absurd (fine refl)

pub returns-then-is_empty-clause-log : goal.returns-then-is_empty-clause-log
returns-then-is_empty-clause-log g c = tt

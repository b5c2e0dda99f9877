use Rattle.std.proofs.Common.{ℕ, Result, Err, ap, sym, subst, ◌∙◌}
use Rattle.std.proofs.lemmas.Result.{err_from_is_err_and}
use Rattle.durable_state.specs.State.{Durable}
use Rattle.durable_state.specs.Keeping.{Commits}
use Rattle.replica.specs.declared.error.CallError.{CallError}
use Rattle.replica.specs.declared.error.RoomError.{RoomError}
use Rattle.replica.specs.declared.error.RoomError.TheVariants as room_error
use Rattle.replica.specs.Kept.{IsKeptAfter}
use Rattle.replica.proofs.Fronts.{looked_leaves, looked_then}
use Rattle.node_core.proofs.Answered.{handed_on, hands_on, at_most, ok_no_error, risen_later}
use Rattle.node_core.proofs.Refusing.{call_error_of, call_failed, call_memory, call_told, failed_no_room, failed_not_large, memory_no_room, memory_not_large}
use Rattle.node_core.proofs.keep.keep_and_flush.Goals as goal

pub returns-in_err-room-clause-whole : goal.returns-in_err-room-clause-whole
returns-in_err-room-clause-whole g c =
    let e = err_from_is_err_and c.from_residual.result c.from_residual.ensures.1 in
    λ fine. c.in_err-room.ensures.whole (λ told. fine (hands_on e told))

pub returns-in_err-room-clause-same : goal.returns-in_err-room-clause-same
returns-in_err-room-clause-same g c =
    let e = err_from_is_err_and c.from_residual.result c.from_residual.ensures.1 in
    rw e.1 (λ fine honest. (c.room.ensures.looked honest).same)

pub returns-in_err-room-clause-too_large : goal.returns-in_err-room-clause-too_large
returns-in_err-room-clause-too_large g c =
    let e = err_from_is_err_and c.from_residual.result c.from_residual.ensures.1 in
    λ p told. c.in_err-room.ensures.too_large p (handed_on e told)

pub returns-in_err-room-clause-no_room : goal.returns-in_err-room-clause-no_room
returns-in_err-room-clause-no_room g c =
    let e = err_from_is_err_and c.from_residual.result c.from_residual.ensures.1 in
    λ told honest. let h = c.in_err-room.ensures.no_room (handed_on e told) in (h.0, h.1 honest)

pub returns-in_err-room-clause-failed : goal.returns-in_err-room-clause-failed
returns-in_err-room-clause-failed g c =
    let e = err_from_is_err_and c.from_residual.result c.from_residual.ensures.1 in
    λ told. c.in_err-room.ensures.failed (handed_on e told)

pub returns-in_err-room-clause-faults : goal.returns-in_err-room-clause-faults
returns-in_err-room-clause-faults g c =
    c.room.ensures.faults

pub returns-in_err-room-clause-surely : goal.returns-in_err-room-clause-surely
returns-in_err-room-clause-surely g c =
    let e = err_from_is_err_and c.from_residual.result c.from_residual.ensures.1 in
    λ told all. (c.in_err-room.ensures.surely all).0 (handed_on e told)

pub returns-in_err-room-clause-spared : goal.returns-in_err-room-clause-spared
returns-in_err-room-clause-spared g c =
    λ all. (c.room.ensures.surely all).1

pub returns-in_err-room-clause-any_moment : goal.returns-in_err-room-clause-any_moment
returns-in_err-room-clause-any_moment g c =
    λ honest. looked_leaves g.R.Replica.stands_for (λ r. g.R.Disk.Store.disk (g.R.Replica.disk r)) g.R.Replica.durable c.args.entry.now.items c.args.replica.now c.room.new.self (c.room.ensures.looked honest)

pub flush-requires-clause-granted : goal.flush-requires-clause-granted
flush-requires-clause-granted g c = c.in_ok-room.ensures.ok

pub flush-requires-clause-whole : goal.flush-requires-clause-whole
flush-requires-clause-whole g c = c.in_ok-room.ensures.whole (λ told. ok_no_error told)

pub flush-requires-clause-kept : goal.flush-requires-clause-kept
flush-requires-clause-kept g c = λ honest. subst (λ (d : Durable). IsKeptAfter c.args.entry.now.items d c.args.kept.now) (sym (c.room.ensures.looked honest).same) (c.requires.kept honest)

pub returns-in-Ok-clause-ok : goal.returns-in-Ok-clause-ok
returns-in-Ok-clause-ok g c = λ honest.
    subst (λ (d : Durable). Commits c.args.entry.now.items d (g.R.Replica.durable c.flush.new.self)) (c.room.ensures.looked honest).same (c.in-Ok.ensures.ok honest).keeps

pub returns-in-Ok-clause-whole : goal.returns-in-Ok-clause-whole
returns-in-Ok-clause-whole g c = λ fine. c.in-Ok.ensures.whole (λ told. ok_no_error told)

pub returns-in-Ok-clause-same : goal.returns-in-Ok-clause-same
returns-in-Ok-clause-same g c = tt

pub returns-in-Ok-clause-too_large : goal.returns-in-Ok-clause-too_large
returns-in-Ok-clause-too_large g c = λ p told. absurd (ok_no_error told)

pub returns-in-Ok-clause-room : goal.returns-in-Ok-clause-room
returns-in-Ok-clause-room g c = λ honest some. (c.in_ok-room.ensures.short, c.in_ok-room.ensures.small honest)

pub returns-in-Ok-clause-no_room : goal.returns-in-Ok-clause-no_room
returns-in-Ok-clause-no_room g c = λ told. absurd (ok_no_error told)

pub returns-in-Ok-clause-failed : goal.returns-in-Ok-clause-failed
returns-in-Ok-clause-failed g c = λ told. absurd (ok_no_error told)

pub returns-in-Ok-clause-surely : goal.returns-in-Ok-clause-surely
returns-in-Ok-clause-surely g c = λ told. absurd (ok_no_error told)

pub returns-in-Ok-clause-spared : goal.returns-in-Ok-clause-spared
returns-in-Ok-clause-spared g c = λ all. (c.flush.ensures.surely ((c.room.ensures.surely all).1)).1

pub returns-in-Ok-clause-tables : goal.returns-in-Ok-clause-tables
returns-in-Ok-clause-tables g c = c.in-Ok.ensures.tables

pub returns-in-Ok-clause-faults : goal.returns-in-Ok-clause-faults
returns-in-Ok-clause-faults g c = at_most c.room.ensures.faults c.flush.ensures.faults

pub returns-in-Ok-clause-any_moment : goal.returns-in-Ok-clause-any_moment
returns-in-Ok-clause-any_moment g c = λ honest.
    looked_then g.R.Replica.stands_for (λ r. g.R.Disk.Store.disk (g.R.Replica.disk r)) g.R.Replica.durable c.args.entry.now.items c.args.replica.now c.room.new.self c.flush.new.self (c.room.ensures.looked honest) (c.flush.ensures.any_moment honest)

pub returns-in-Err-clause-ok : goal.returns-in-Err-clause-ok
returns-in-Err-clause-ok g c = tt

pub returns-in-Err-clause-tables : goal.returns-in-Err-clause-tables
returns-in-Err-clause-tables g c = tt

pub returns-in-Err-clause-room : goal.returns-in-Err-clause-room
returns-in-Err-clause-room g c = tt

pub returns-in-Err-clause-whole : goal.returns-in-Err-clause-whole
returns-in-Err-clause-whole g c = λ fine.
    c.in-Err.ensures.whole (λ told. fine (ap (λ (x : RoomError). let r : Result ℕ RoomError = Err x in r) (c.as_room_error.ensures.failed (call_error_of _ _ told))))

pub returns-in-Err-clause-same : goal.returns-in-Err-clause-same
returns-in-Err-clause-same g c = λ fine honest.
    let error = call_memory c.in-Err.error c.as_room_error.result c.as_room_error.ensures.failed fine in
    (c.in-Err.ensures.no_memory (ap (λ (x : CallError). let r : Result ℕ CallError = Err x in r) error) honest).same ∙ (c.room.ensures.looked honest).same

pub returns-in-Err-clause-too_large : goal.returns-in-Err-clause-too_large
returns-in-Err-clause-too_large g c = λ p told. absurd (call_told c.in-Err.error c.as_room_error.result (room_error.TooLarge p) c.as_room_error.ensures.failed c.as_room_error.ensures.no_memory (failed_not_large p) (memory_not_large p) told)

pub returns-in-Err-clause-no_room : goal.returns-in-Err-clause-no_room
returns-in-Err-clause-no_room g c = λ told. absurd (call_told c.in-Err.error c.as_room_error.result room_error.NoRoom c.as_room_error.ensures.failed c.as_room_error.ensures.no_memory failed_no_room memory_no_room told)

pub returns-in-Err-clause-failed : goal.returns-in-Err-clause-failed
returns-in-Err-clause-failed g c = λ told.
    let error = call_failed c.in-Err.error c.as_room_error.result c.as_room_error.ensures.no_memory told in
    risen_later _ _ _ c.room.ensures.faults c.flush.ensures.faults (c.in-Err.ensures.failed (ap (λ (x : CallError). let r : Result ℕ CallError = Err x in r) error))

pub returns-in-Err-clause-surely : goal.returns-in-Err-clause-surely
returns-in-Err-clause-surely g c = λ told all.
    let error = call_failed c.in-Err.error c.as_room_error.result c.as_room_error.ensures.no_memory told in
    (c.flush.ensures.surely ((c.room.ensures.surely all).1)).0 (c.in-Err.is ∙ ap (λ (x : CallError). let r : Result ℕ CallError = Err x in r) error)

pub returns-in-Err-clause-spared : goal.returns-in-Err-clause-spared
returns-in-Err-clause-spared g c = λ all. (c.flush.ensures.surely ((c.room.ensures.surely all).1)).1

pub returns-in-Err-clause-faults : goal.returns-in-Err-clause-faults
returns-in-Err-clause-faults g c = at_most c.room.ensures.faults c.flush.ensures.faults

pub returns-in-Err-clause-any_moment : goal.returns-in-Err-clause-any_moment
returns-in-Err-clause-any_moment g c = λ honest.
    looked_then g.R.Replica.stands_for (λ r. g.R.Disk.Store.disk (g.R.Replica.disk r)) g.R.Replica.durable c.args.entry.now.items c.args.replica.now c.room.new.self c.flush.new.self (c.room.ensures.looked honest) (c.flush.ensures.any_moment honest)

pub returns-in_err-room-clause-ok : goal.returns-in_err-room-clause-ok
returns-in_err-room-clause-ok g c =
    let e = err_from_is_err_and c.from_residual.result c.from_residual.ensures.1 in
    rw e.1 tt

pub returns-in_err-room-clause-tables : goal.returns-in_err-room-clause-tables
returns-in_err-room-clause-tables g c =
    let e = err_from_is_err_and c.from_residual.result c.from_residual.ensures.1 in
    rw e.1 tt

pub returns-in_err-room-clause-room : goal.returns-in_err-room-clause-room
returns-in_err-room-clause-room g c =
    let e = err_from_is_err_and c.from_residual.result c.from_residual.ensures.1 in
    rw e.1 tt

pub returns-in_err-room-clause-log : goal.returns-in_err-room-clause-log
returns-in_err-room-clause-log g c =
    let e = err_from_is_err_and c.from_residual.result c.from_residual.ensures.1 in
    rw e.1 (λ fine. (c.room.ensures.log, c.room.ensures.flushed))

pub returns-in-Ok-clause-log : goal.returns-in-Ok-clause-log
returns-in-Ok-clause-log g c = tt

pub returns-in-Err-clause-log : goal.returns-in-Err-clause-log
returns-in-Err-clause-log g c = λ fine.
    let error = call_memory c.in-Err.error c.as_room_error.result c.as_room_error.ensures.failed fine in
    let same = c.in-Err.ensures.no_memory_log (ap (λ (x : CallError). let r : Result ℕ CallError = Err x in r) error) in
    (same.0 ∙ c.room.ensures.log, same.1 ∙ c.room.ensures.flushed)

use Rattle.std.proofs.Common.{refl, arith}
use Rattle.std.proofs.lemmas.Result.{err_from_is_err_and}
use Rattle.node_core.proofs.Answered.{same_told}
use Rattle.node_core.proofs.Entry.{still_with}
use Rattle.node_core.proofs.Refusing.{memory_not_failed, memory_no_room, memory_not_large}
use Rattle.node_core.proofs.keep.flush_with.Goals as goal

pub returns-in_err-all-clause-any_moment : goal.returns-in_err-all-clause-any_moment
returns-in_err-all-clause-any_moment g c = λ honest.
    still_with g.R.Replica.stands_for c.args.entry.now.items (g.R.Replica.durable c.args.replica.now) (g.R.Disk.Store.disk (g.R.Replica.disk c.args.replica.now)) (g.met.R.Replica.is_safe c.args.replica.now honest c.requires.whole)

pub returns-in_err-numbers-clause-any_moment : goal.returns-in_err-numbers-clause-any_moment
returns-in_err-numbers-clause-any_moment g c = λ honest.
    still_with g.R.Replica.stands_for c.args.entry.now.items (g.R.Replica.durable c.args.replica.now) (g.R.Disk.Store.disk (g.R.Replica.disk c.args.replica.now)) (g.met.R.Replica.is_safe c.args.replica.now honest c.requires.whole)

pub returns-in_err-all-clause-back : goal.returns-in_err-all-clause-back
returns-in_err-all-clause-back g c = refl

pub returns-in_err-all-clause-ok : goal.returns-in_err-all-clause-ok
returns-in_err-all-clause-ok g c =
    let e = err_from_is_err_and c.from_residual.result c.from_residual.ensures.1 in
    rw e.1 tt

pub returns-in_err-all-clause-tables : goal.returns-in_err-all-clause-tables
returns-in_err-all-clause-tables g c =
    let e = err_from_is_err_and c.from_residual.result c.from_residual.ensures.1 in
    rw e.1 tt

pub returns-in_err-all-clause-room : goal.returns-in_err-all-clause-room
returns-in_err-all-clause-room g c =
    let e = err_from_is_err_and c.from_residual.result c.from_residual.ensures.1 in
    rw e.1 tt

pub returns-in_err-all-clause-whole : goal.returns-in_err-all-clause-whole
returns-in_err-all-clause-whole g c = λ fine. c.requires.whole

pub returns-in_err-all-clause-same : goal.returns-in_err-all-clause-same
returns-in_err-all-clause-same g c =
    let e = err_from_is_err_and c.from_residual.result c.from_residual.ensures.1 in
    rw e.1 (λ fine honest. refl)

pub returns-in_err-all-clause-too_large : goal.returns-in_err-all-clause-too_large
returns-in_err-all-clause-too_large g c =
    let e = err_from_is_err_and c.from_residual.result c.from_residual.ensures.1 in
    λ p told. absurd (memory_not_large p (same_told e told))

pub returns-in_err-all-clause-no_room : goal.returns-in_err-all-clause-no_room
returns-in_err-all-clause-no_room g c =
    let e = err_from_is_err_and c.from_residual.result c.from_residual.ensures.1 in
    λ told. absurd (memory_no_room (same_told e told))

pub returns-in_err-all-clause-failed : goal.returns-in_err-all-clause-failed
returns-in_err-all-clause-failed g c =
    let e = err_from_is_err_and c.from_residual.result c.from_residual.ensures.1 in
    λ told. absurd (memory_not_failed (same_told e told))

pub returns-in_err-all-clause-surely : goal.returns-in_err-all-clause-surely
returns-in_err-all-clause-surely g c =
    let e = err_from_is_err_and c.from_residual.result c.from_residual.ensures.1 in
    λ told. absurd (memory_not_failed (same_told e told))

pub returns-in_err-all-clause-spared : goal.returns-in_err-all-clause-spared
returns-in_err-all-clause-spared g c = λ all. all

pub returns-in_err-all-clause-faults : goal.returns-in_err-all-clause-faults
returns-in_err-all-clause-faults g c = omega arith

pub returns-in_err-numbers-clause-back : goal.returns-in_err-numbers-clause-back
returns-in_err-numbers-clause-back g c = refl

pub returns-in_err-numbers-clause-ok : goal.returns-in_err-numbers-clause-ok
returns-in_err-numbers-clause-ok g c =
    let e = err_from_is_err_and c.from_residual-in_err-numbers.result c.from_residual-in_err-numbers.ensures.1 in
    rw e.1 tt

pub returns-in_err-numbers-clause-tables : goal.returns-in_err-numbers-clause-tables
returns-in_err-numbers-clause-tables g c =
    let e = err_from_is_err_and c.from_residual-in_err-numbers.result c.from_residual-in_err-numbers.ensures.1 in
    rw e.1 tt

pub returns-in_err-numbers-clause-room : goal.returns-in_err-numbers-clause-room
returns-in_err-numbers-clause-room g c =
    let e = err_from_is_err_and c.from_residual-in_err-numbers.result c.from_residual-in_err-numbers.ensures.1 in
    rw e.1 tt

pub returns-in_err-numbers-clause-whole : goal.returns-in_err-numbers-clause-whole
returns-in_err-numbers-clause-whole g c = λ fine. c.requires.whole

pub returns-in_err-numbers-clause-same : goal.returns-in_err-numbers-clause-same
returns-in_err-numbers-clause-same g c =
    let e = err_from_is_err_and c.from_residual-in_err-numbers.result c.from_residual-in_err-numbers.ensures.1 in
    rw e.1 (λ fine honest. refl)

pub returns-in_err-numbers-clause-too_large : goal.returns-in_err-numbers-clause-too_large
returns-in_err-numbers-clause-too_large g c =
    let e = err_from_is_err_and c.from_residual-in_err-numbers.result c.from_residual-in_err-numbers.ensures.1 in
    λ p told. absurd (memory_not_large p (same_told e told))

pub returns-in_err-numbers-clause-no_room : goal.returns-in_err-numbers-clause-no_room
returns-in_err-numbers-clause-no_room g c =
    let e = err_from_is_err_and c.from_residual-in_err-numbers.result c.from_residual-in_err-numbers.ensures.1 in
    λ told. absurd (memory_no_room (same_told e told))

pub returns-in_err-numbers-clause-failed : goal.returns-in_err-numbers-clause-failed
returns-in_err-numbers-clause-failed g c =
    let e = err_from_is_err_and c.from_residual-in_err-numbers.result c.from_residual-in_err-numbers.ensures.1 in
    λ told. absurd (memory_not_failed (same_told e told))

pub returns-in_err-numbers-clause-surely : goal.returns-in_err-numbers-clause-surely
returns-in_err-numbers-clause-surely g c =
    let e = err_from_is_err_and c.from_residual-in_err-numbers.result c.from_residual-in_err-numbers.ensures.1 in
    λ told. absurd (memory_not_failed (same_told e told))

pub returns-in_err-numbers-clause-spared : goal.returns-in_err-numbers-clause-spared
returns-in_err-numbers-clause-spared g c = λ all. all

pub returns-in_err-numbers-clause-faults : goal.returns-in_err-numbers-clause-faults
returns-in_err-numbers-clause-faults g c = omega arith

pub returns-clause-ok : goal.returns-clause-ok
returns-clause-ok g c = c.keep_and_flush-told.ensures.ok

pub returns-clause-tables : goal.returns-clause-tables
returns-clause-tables g c = c.keep_and_flush-told.ensures.tables

pub returns-clause-whole : goal.returns-clause-whole
returns-clause-whole g c = c.keep_and_flush-told.ensures.whole

pub returns-clause-same : goal.returns-clause-same
returns-clause-same g c = c.keep_and_flush-told.ensures.same

pub returns-clause-too_large : goal.returns-clause-too_large
returns-clause-too_large g c = c.keep_and_flush-told.ensures.too_large

pub returns-clause-room : goal.returns-clause-room
returns-clause-room g c = c.keep_and_flush-told.ensures.room

pub returns-clause-no_room : goal.returns-clause-no_room
returns-clause-no_room g c = c.keep_and_flush-told.ensures.no_room

pub returns-clause-failed : goal.returns-clause-failed
returns-clause-failed g c = c.keep_and_flush-told.ensures.failed

pub returns-clause-faults : goal.returns-clause-faults
returns-clause-faults g c = c.keep_and_flush-told.ensures.faults

pub returns-clause-surely : goal.returns-clause-surely
returns-clause-surely g c = c.keep_and_flush-told.ensures.surely

pub returns-clause-spared : goal.returns-clause-spared
returns-clause-spared g c = c.keep_and_flush-told.ensures.spared

pub returns-clause-any_moment : goal.returns-clause-any_moment
returns-clause-any_moment g c = c.keep_and_flush-told.ensures.any_moment

pub returns-in_err-all-clause-log : goal.returns-in_err-all-clause-log
returns-in_err-all-clause-log g c =
    let e = err_from_is_err_and c.from_residual.result c.from_residual.ensures.1 in
    rw e.1 (λ fine. (refl, refl))

pub returns-in_err-numbers-clause-log : goal.returns-in_err-numbers-clause-log
returns-in_err-numbers-clause-log g c =
    let e = err_from_is_err_and c.from_residual-in_err-numbers.result c.from_residual-in_err-numbers.ensures.1 in
    rw e.1 (λ fine. (refl, refl))

pub returns-clause-log : goal.returns-clause-log
returns-clause-log g c = c.keep_and_flush-told.ensures.log

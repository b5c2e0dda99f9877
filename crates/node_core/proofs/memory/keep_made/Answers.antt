use Rattle.std.proofs.Common.{ℕ, List, Option, Result, Err, IsErrOf, refl, sym, ap, subst, ◌∙◌}
use Rattle.std.proofs.lemmas.Result.{err_from_is_err_and}
use Rattle.replica.specs.declared.error.RoomError.{RoomError}
use Rattle.replica.specs.declared.error.RoomError.TheVariants as room_error
use Rattle.row_change.specs.declared.entry.LogItem.{LogItem}
use Rattle.replica.specs.Kept.{ArriveAllAt}
use Rattle.replica.specs.declared.kept.Kept.{Kept}
use Rattle.replica.specs.Kept.{IsKeptAfter}
use Rattle.node_core.specs.declared.work.Work.{Work}
use Rattle.node_core.specs.Memory.{IsRefusal, entry_made, kept_with}
use Rattle.node_core.specs.Opening.{IsBegunAs, MayPut}
use Rattle.node_core.proofs.Answered.{err_here, ok_here, ok_no_error, same_told}
use Rattle.node_core.proofs.Entry.{commits_as, entry_arrives, entry_fits, entry_purges, large_as, moment_as, overflow_as, room_as, still_with}
use Rattle.node_core.proofs.Requests.{close_known, core_back, core_put, may_put, put_known}
use Rattle.node_core.proofs.Refusing.{failed_cause, failed_memory, fine, large_cause, memory_large, memory_room, no_room_cause, told_one}
use Rattle.node_core.proofs.memory.keep_made.Goals as goal

-- the work, as the calls leave it
pub put_begun-requires-clause-write : goal.put_begun-requires-clause-write
put_begun-requires-clause-write g c =
    subst (λ (w : Work). MayPut w.request c.args.memory.now.base.writes.entries w.write) (sym c.entry_of.ensures.work)
    (may_put c.args.memory.now.base.me c.args.memory.now.made.work.time c.args.memory.now.made.work.request c.args.memory.now.made.work.write c.args.memory.now.base.writes.entries c.requires.sound.early.write c.requires.later.writes)

pub put_begun-requires-clause-read : goal.put_begun-requires-clause-read
put_begun-requires-clause-read g c =
    subst (λ (w : Work). MayPut w.request c.args.memory.now.base.reads.entries w.read) (sym c.entry_of.ensures.work)
    (may_put c.args.memory.now.base.me c.args.memory.now.made.work.time c.args.memory.now.made.work.request c.args.memory.now.made.work.read c.args.memory.now.base.reads.entries c.requires.sound.early.read c.requires.later.reads)

pub commit-requires-clause-fits : goal.commit-requires-clause-fits
commit-requires-clause-fits g c = entry_fits c.args.memory.now.base c.args.memory.now.made.work c.in_ok-entry.entry c.args.memory.now.kept.ceiling c.in_ok-entry.ensures.items c.in_ok-entry.ensures.few c.requires.sound

pub commit-requires-clause-no_purges : goal.commit-requires-clause-no_purges
commit-requires-clause-no_purges g c = entry_purges c.args.memory.now.base c.args.memory.now.made.work c.in_ok-entry.entry.items c.args.memory.now.kept.ceiling c.in_ok-entry.ensures.items c.requires.sound

pub commit-requires-clause-arrival : goal.commit-requires-clause-arrival
commit-requires-clause-arrival g c =
    subst (λ (w : Work). ArriveAllAt w.time c.in_ok-entry.entry.items) (sym c.entry_of.ensures.work) (entry_arrives c.args.memory.now.base c.args.memory.now.made.work c.in_ok-entry.entry.items c.args.memory.now.kept.ceiling c.in_ok-entry.ensures.items c.requires.sound)

pub commit-requires-clause-kept : goal.commit-requires-clause-kept
commit-requires-clause-kept g c = λ honest.
    subst (λ (w : Work). IsKeptAfter c.in_ok-entry.entry.items (g.R.Replica.durable c.args.replica.now) (record (kept_with c.args.memory.now.hints.now c.args.memory.now.kept) { ceiling = w.ceiling })) (sym c.entry_of.ensures.work)
    (subst (λ (items : List LogItem). IsKeptAfter items (g.R.Replica.durable c.args.replica.now) (record (kept_with c.args.memory.now.hints.now c.args.memory.now.kept) { ceiling = c.args.memory.now.made.work.ceiling })) (sym c.in_ok-entry.ensures.items) (c.requires.kept honest))

pub returns-in-Ok-clause-behind : goal.returns-in-Ok-clause-behind
returns-in-Ok-clause-behind g c =
    let w1 : Work = record c.entry_of.new.work { write = c.put_begun.new.write; read = c.put_begun.new.read } in
    let opened = subst (λ (w : Work). IsBegunAs w.request w.write w.read c.args.memory.now.base c.in_ok-began.began c.put_begun.new.write c.put_begun.new.read c.put_begun.new.self) c.entry_of.ensures.work c.in_ok-began.ensures.ok in
    let same = ap (λ (w : Work). let v : Work = record w { write = c.put_begun.new.write; read = c.put_begun.new.read } in v) c.entry_of.ensures.work in
    core_put c.args.memory.now (record { base = c.put_rest.new.self; time = c.put_rest.new.work.time; kept = c.commit.new.kept; hints = c.settle.new.self; made = c.args.memory.now.made }) c.args.memory.now.made.work
    (put_known c.args.memory.now.base c.put_begun.new.self c.put_rest.new.self c.args.memory.now.made.work w1 c.in_ok-began.began c.requires.sound c.requires.holding.own_writes c.requires.holding.own_reads c.requires.later opened same c.put_rest.ensures.known)
    (ap (λ (w : Work). w.time) c.put_rest.ensures.work ∙ ap (λ (w : Work). w.time) c.entry_of.ensures.work)
    (ok_here c.commit.result c.in-Ok.tables _ c.in-Ok.is c.commit.ensures.raised ∙ ap (λ (w : Work). let k : Kept = record c.args.memory.now.kept { ceiling = w.ceiling } in k) c.entry_of.ensures.work)
    c.settle.ensures.before

pub returns-in-Ok-clause-ok : goal.returns-in-Ok-clause-ok
returns-in-Ok-clause-ok g c = λ honest.
    commits_as c.in_ok-entry.entry.items (entry_made c.args.memory.now.kept.ceiling c.args.memory.now.made.work) (g.R.Replica.durable c.args.replica.now) (g.R.Replica.durable c.commit.new.replica) c.in_ok-entry.ensures.items (ok_here c.commit.result c.in-Ok.tables _ c.in-Ok.is c.commit.ensures.ok honest)

pub returns-in-Ok-clause-room : goal.returns-in-Ok-clause-room
returns-in-Ok-clause-room g c = λ honest.
    room_as (g.R.Replica.log_end c.args.replica.now) (g.R.Replica.durable c.args.replica.now) c.in_ok-entry.entry.items (entry_made c.args.memory.now.kept.ceiling c.args.memory.now.made.work) c.in_ok-entry.ensures.items (ok_here c.commit.result c.in-Ok.tables _ c.in-Ok.is c.commit.ensures.room honest)

pub returns-in-Ok-clause-any_moment : goal.returns-in-Ok-clause-any_moment
returns-in-Ok-clause-any_moment g c = λ honest.
    moment_as g.R.Replica.stands_for c.in_ok-entry.entry.items (entry_made c.args.memory.now.kept.ceiling c.args.memory.now.made.work) (g.R.Replica.durable c.args.replica.now) (g.R.Disk.Store.disk (g.R.Replica.disk c.args.replica.now)) (g.R.Disk.Store.disk (g.R.Replica.disk c.commit.new.replica)) c.in_ok-entry.ensures.items (c.commit.ensures.any_moment honest)

pub returns-clause-back : goal.returns-clause-back
returns-clause-back g c =
    let may_write = subst (λ (w : Work). MayPut w.request c.args.memory.now.base.writes.entries w.write) (sym c.entry_of.ensures.work)
    (may_put c.args.memory.now.base.me c.args.memory.now.made.work.time c.args.memory.now.made.work.request c.args.memory.now.made.work.write c.args.memory.now.base.writes.entries c.requires.sound.early.write c.requires.later.writes) in
    let may_read = subst (λ (w : Work). MayPut w.request c.args.memory.now.base.reads.entries w.read) (sym c.entry_of.ensures.work)
    (may_put c.args.memory.now.base.me c.args.memory.now.made.work.time c.args.memory.now.made.work.request c.args.memory.now.made.work.read c.args.memory.now.base.reads.entries c.requires.sound.early.read c.requires.later.reads) in
    core_back c.args.memory.now (record { base = c.take_begun.new.self; time = c.args.memory.now.time; kept = c.commit.new.kept; hints = c.args.memory.now.hints; made = c.args.memory.now.made })
    (close_known c.entry_of.new.work.request c.entry_of.new.work.write c.entry_of.new.work.read c.args.memory.now.base c.put_begun.new.self c.take_begun.new.self c.in_ok-began.began c.put_begun.new.write c.put_begun.new.read may_write may_read c.in_ok-began.ensures.ok c.take_begun.ensures.known) refl
    (err_here c.commit.result c.in-Err.error _ c.in-Err.is c.commit.ensures.back) refl

pub returns-clause-whole : goal.returns-clause-whole
returns-clause-whole g c = λ on.
    c.commit.ensures.whole (subst (λ (r : Result (Option ℕ) RoomError). IsErrOf r room_error.Failed → ⊥) (sym c.in-Err.is) (fine c.args.memory.now.made.started c.args.memory.now.made.work.entries c.in-Err.error c.refusal.result (subst (λ (w : Work). IsRefusal c.in-Err.error c.args.memory.now.made.started w.entries c.refusal.result) c.entry_of.ensures.work c.refusal.ensures) on))

pub returns-clause-same : goal.returns-clause-same
returns-clause-same g c = λ on.
    err_here c.commit.result c.in-Err.error _ c.in-Err.is c.commit.ensures.same (subst (λ (r : Result (Option ℕ) RoomError). IsErrOf r room_error.Failed → ⊥) (sym c.in-Err.is) (fine c.args.memory.now.made.started c.args.memory.now.made.work.entries c.in-Err.error c.refusal.result (subst (λ (w : Work). IsRefusal c.in-Err.error c.args.memory.now.made.started w.entries c.refusal.result) c.entry_of.ensures.work c.refusal.ensures) on))

pub returns-clause-too_large : goal.returns-clause-too_large
returns-clause-too_large g c = λ p told honest.
    let cause = large_cause c.args.memory.now.made.started c.args.memory.now.made.work.entries c.in-Err.error c.refusal.result p (subst (λ (w : Work). IsRefusal c.in-Err.error c.args.memory.now.made.started w.entries c.refusal.result) c.entry_of.ensures.work c.refusal.ensures) (told_one c.refusal.result _ told) in
    large_as c.in_ok-entry.entry.items (entry_made c.args.memory.now.kept.ceiling c.args.memory.now.made.work) (g.R.Replica.durable c.args.replica.now) p c.in_ok-entry.ensures.items (c.commit.ensures.too_large p (c.in-Err.is ∙ ap (λ (x : RoomError). let r : Result (Option ℕ) RoomError = Err x in r) cause) honest)

pub returns-clause-no_room : goal.returns-clause-no_room
returns-clause-no_room g c = λ told honest.
    let cause = no_room_cause c.args.memory.now.made.started c.args.memory.now.made.work.entries c.in-Err.error c.refusal.result (subst (λ (w : Work). IsRefusal c.in-Err.error c.args.memory.now.made.started w.entries c.refusal.result) c.entry_of.ensures.work c.refusal.ensures) (told_one c.refusal.result _ told) in
    overflow_as (g.R.Replica.log_end c.args.replica.now) (g.R.Replica.durable c.args.replica.now) c.in_ok-entry.entry.items (entry_made c.args.memory.now.kept.ceiling c.args.memory.now.made.work) c.in_ok-entry.ensures.items
    (c.commit.ensures.no_room (c.in-Err.is ∙ ap (λ (x : RoomError). let r : Result (Option ℕ) RoomError = Err x in r) cause) honest)

pub returns-clause-lost : goal.returns-clause-lost
returns-clause-lost g c = λ l told.
    let cause = failed_cause c.args.memory.now.made.started c.args.memory.now.made.work.entries c.in-Err.error c.refusal.result l (subst (λ (w : Work). IsRefusal c.in-Err.error c.args.memory.now.made.started w.entries c.refusal.result) c.entry_of.ensures.work c.refusal.ensures) (told_one c.refusal.result _ told) in cause.1

pub returns-clause-failed : goal.returns-clause-failed
returns-clause-failed g c = λ l told.
    let cause = failed_cause c.args.memory.now.made.started c.args.memory.now.made.work.entries c.in-Err.error c.refusal.result l (subst (λ (w : Work). IsRefusal c.in-Err.error c.args.memory.now.made.started w.entries c.refusal.result) c.entry_of.ensures.work c.refusal.ensures) (told_one c.refusal.result _ told) in
    c.commit.ensures.failed (c.in-Err.is ∙ ap (λ (x : RoomError). let r : Result (Option ℕ) RoomError = Err x in r) cause.0)

pub returns-clause-any_moment : goal.returns-clause-any_moment
returns-clause-any_moment g c = λ honest.
    moment_as g.R.Replica.stands_for c.in_ok-entry.entry.items (entry_made c.args.memory.now.kept.ceiling c.args.memory.now.made.work) (g.R.Replica.durable c.args.replica.now) (g.R.Disk.Store.disk (g.R.Replica.disk c.args.replica.now)) (g.R.Disk.Store.disk (g.R.Replica.disk c.commit.new.replica)) c.in_ok-entry.ensures.items (c.commit.ensures.any_moment honest)

pub returns-in_err-entry-clause-any_moment : goal.returns-in_err-entry-clause-any_moment
returns-in_err-entry-clause-any_moment g c = λ honest. still_with g.R.Replica.stands_for _ (g.R.Replica.durable c.args.replica.now) (g.R.Disk.Store.disk (g.R.Replica.disk c.args.replica.now)) (g.met.R.Replica.is_safe c.args.replica.now honest c.requires.whole)

pub returns-in_err-began-clause-any_moment : goal.returns-in_err-began-clause-any_moment
returns-in_err-began-clause-any_moment g c = λ honest. still_with g.R.Replica.stands_for _ (g.R.Replica.durable c.args.replica.now) (g.R.Disk.Store.disk (g.R.Replica.disk c.args.replica.now)) (g.met.R.Replica.is_safe c.args.replica.now honest c.requires.whole)

pub returns-clause-surely : goal.returns-clause-surely
returns-clause-surely g c = λ l told.
    let cause = failed_cause c.args.memory.now.made.started c.args.memory.now.made.work.entries c.in-Err.error c.refusal.result l (subst (λ (w : Work). IsRefusal c.in-Err.error c.args.memory.now.made.started w.entries c.refusal.result) c.entry_of.ensures.work c.refusal.ensures) (told_one c.refusal.result _ told) in
    c.commit.ensures.surely (c.in-Err.is ∙ ap (λ (x : RoomError). let r : Result (Option ℕ) RoomError = Err x in r) cause.0)

pub returns-in_err-entry-clause-outputs : goal.returns-in_err-entry-clause-outputs
returns-in_err-entry-clause-outputs g c =
    let e = err_from_is_err_and c.from_residual.result c.from_residual.ensures.1 in
    rw e.1 tt

pub returns-in_err-entry-clause-ok : goal.returns-in_err-entry-clause-ok
returns-in_err-entry-clause-ok g c =
    let e = err_from_is_err_and c.from_residual.result c.from_residual.ensures.1 in
    rw e.1 tt

pub returns-in_err-entry-clause-behind : goal.returns-in_err-entry-clause-behind
returns-in_err-entry-clause-behind g c =
    let e = err_from_is_err_and c.from_residual.result c.from_residual.ensures.1 in
    rw e.1 tt

pub returns-in_err-entry-clause-room : goal.returns-in_err-entry-clause-room
returns-in_err-entry-clause-room g c =
    let e = err_from_is_err_and c.from_residual.result c.from_residual.ensures.1 in
    rw e.1 tt

pub returns-in_err-entry-clause-back : goal.returns-in_err-entry-clause-back
returns-in_err-entry-clause-back g c =
    let e = err_from_is_err_and c.from_residual.result c.from_residual.ensures.1 in
    rw e.1 refl

pub returns-in_err-entry-clause-bare : goal.returns-in_err-entry-clause-bare
returns-in_err-entry-clause-bare g c = c.requires.bare

pub returns-in_err-entry-clause-whole : goal.returns-in_err-entry-clause-whole
returns-in_err-entry-clause-whole g c = λ on. c.requires.whole

pub returns-in_err-entry-clause-same : goal.returns-in_err-entry-clause-same
returns-in_err-entry-clause-same g c =
    let e = err_from_is_err_and c.from_residual.result c.from_residual.ensures.1 in
    rw e.1 (λ on honest. refl)

pub returns-in_err-entry-clause-too_large : goal.returns-in_err-entry-clause-too_large
returns-in_err-entry-clause-too_large g c =
    let e = err_from_is_err_and c.from_residual.result c.from_residual.ensures.1 in
    λ p told. absurd (memory_large p (same_told e told))

pub returns-in_err-entry-clause-no_room : goal.returns-in_err-entry-clause-no_room
returns-in_err-entry-clause-no_room g c =
    let e = err_from_is_err_and c.from_residual.result c.from_residual.ensures.1 in
    λ told. absurd (memory_room (same_told e told))

pub returns-in_err-entry-clause-lost : goal.returns-in_err-entry-clause-lost
returns-in_err-entry-clause-lost g c =
    let e = err_from_is_err_and c.from_residual.result c.from_residual.ensures.1 in
    λ l told. absurd (failed_memory l (sym (same_told e told)))

pub returns-in_err-entry-clause-failed : goal.returns-in_err-entry-clause-failed
returns-in_err-entry-clause-failed g c =
    let e = err_from_is_err_and c.from_residual.result c.from_residual.ensures.1 in
    λ l told. absurd (failed_memory l (sym (same_told e told)))

pub returns-in_err-entry-clause-surely : goal.returns-in_err-entry-clause-surely
returns-in_err-entry-clause-surely g c =
    let e = err_from_is_err_and c.from_residual.result c.from_residual.ensures.1 in
    λ l told. absurd (failed_memory l (sym (same_told e told)))

pub returns-in_err-entry-clause-spared : goal.returns-in_err-entry-clause-spared
returns-in_err-entry-clause-spared g c = λ all. all

pub returns-in_err-began-clause-outputs : goal.returns-in_err-began-clause-outputs
returns-in_err-began-clause-outputs g c =
    let e = err_from_is_err_and c.from_residual-in_err-began.result c.from_residual-in_err-began.ensures.1 in
    rw e.1 tt

pub returns-in_err-began-clause-ok : goal.returns-in_err-began-clause-ok
returns-in_err-began-clause-ok g c =
    let e = err_from_is_err_and c.from_residual-in_err-began.result c.from_residual-in_err-began.ensures.1 in
    rw e.1 tt

pub returns-in_err-began-clause-behind : goal.returns-in_err-began-clause-behind
returns-in_err-began-clause-behind g c =
    let e = err_from_is_err_and c.from_residual-in_err-began.result c.from_residual-in_err-began.ensures.1 in
    rw e.1 tt

pub returns-in_err-began-clause-room : goal.returns-in_err-began-clause-room
returns-in_err-began-clause-room g c =
    let e = err_from_is_err_and c.from_residual-in_err-began.result c.from_residual-in_err-began.ensures.1 in
    rw e.1 tt

pub returns-in_err-began-clause-bare : goal.returns-in_err-began-clause-bare
returns-in_err-began-clause-bare g c = c.requires.bare

pub returns-in_err-began-clause-whole : goal.returns-in_err-began-clause-whole
returns-in_err-began-clause-whole g c = λ on. c.requires.whole

pub returns-in_err-began-clause-same : goal.returns-in_err-began-clause-same
returns-in_err-began-clause-same g c =
    let e = err_from_is_err_and c.from_residual-in_err-began.result c.from_residual-in_err-began.ensures.1 in
    rw e.1 (λ on honest. refl)

pub returns-in_err-began-clause-too_large : goal.returns-in_err-began-clause-too_large
returns-in_err-began-clause-too_large g c =
    let e = err_from_is_err_and c.from_residual-in_err-began.result c.from_residual-in_err-began.ensures.1 in
    λ p told. absurd (memory_large p (same_told e told))

pub returns-in_err-began-clause-no_room : goal.returns-in_err-began-clause-no_room
returns-in_err-began-clause-no_room g c =
    let e = err_from_is_err_and c.from_residual-in_err-began.result c.from_residual-in_err-began.ensures.1 in
    λ told. absurd (memory_room (same_told e told))

pub returns-in_err-began-clause-lost : goal.returns-in_err-began-clause-lost
returns-in_err-began-clause-lost g c =
    let e = err_from_is_err_and c.from_residual-in_err-began.result c.from_residual-in_err-began.ensures.1 in
    λ l told. absurd (failed_memory l (sym (same_told e told)))

pub returns-in_err-began-clause-failed : goal.returns-in_err-began-clause-failed
returns-in_err-began-clause-failed g c =
    let e = err_from_is_err_and c.from_residual-in_err-began.result c.from_residual-in_err-began.ensures.1 in
    λ l told. absurd (failed_memory l (sym (same_told e told)))

pub returns-in_err-began-clause-surely : goal.returns-in_err-began-clause-surely
returns-in_err-began-clause-surely g c =
    let e = err_from_is_err_and c.from_residual-in_err-began.result c.from_residual-in_err-began.ensures.1 in
    λ l told. absurd (failed_memory l (sym (same_told e told)))

pub returns-in_err-began-clause-spared : goal.returns-in_err-began-clause-spared
returns-in_err-began-clause-spared g c = λ all. all

pub returns-in-Ok-clause-back : goal.returns-in-Ok-clause-back
returns-in-Ok-clause-back g c = tt

pub returns-in-Ok-clause-same : goal.returns-in-Ok-clause-same
returns-in-Ok-clause-same g c = tt

pub returns-in-Ok-clause-too_large : goal.returns-in-Ok-clause-too_large
returns-in-Ok-clause-too_large g c = λ p told. absurd (ok_no_error told)

pub returns-in-Ok-clause-no_room : goal.returns-in-Ok-clause-no_room
returns-in-Ok-clause-no_room g c = λ told. absurd (ok_no_error told)

pub returns-in-Ok-clause-lost : goal.returns-in-Ok-clause-lost
returns-in-Ok-clause-lost g c = λ l told. absurd (ok_no_error told)

pub returns-in-Ok-clause-failed : goal.returns-in-Ok-clause-failed
returns-in-Ok-clause-failed g c = λ l told. absurd (ok_no_error told)

pub returns-in-Ok-clause-surely : goal.returns-in-Ok-clause-surely
returns-in-Ok-clause-surely g c = λ l told. absurd (ok_no_error told)

pub returns-in-Ok-clause-whole : goal.returns-in-Ok-clause-whole
returns-in-Ok-clause-whole g c = λ on. c.in-Ok.ensures.whole (λ told. ok_no_error told)

pub returns-in-Ok-clause-faults : goal.returns-in-Ok-clause-faults
returns-in-Ok-clause-faults g c = c.commit.ensures.faults

pub returns-in-Ok-clause-spared : goal.returns-in-Ok-clause-spared
returns-in-Ok-clause-spared g c = c.commit.ensures.spared

pub returns-clause-outputs : goal.returns-clause-outputs
returns-clause-outputs g c = tt

pub returns-clause-ok : goal.returns-clause-ok
returns-clause-ok g c = tt

pub returns-clause-behind : goal.returns-clause-behind
returns-clause-behind g c = tt

pub returns-clause-room : goal.returns-clause-room
returns-clause-room g c = tt

pub returns-clause-faults : goal.returns-clause-faults
returns-clause-faults g c = c.commit.ensures.faults

pub returns-clause-spared : goal.returns-clause-spared
returns-clause-spared g c = c.commit.ensures.spared

pub returns-clause-ordered : goal.returns-clause-ordered
returns-clause-ordered g c = c.take_begun.ensures.ordered

pub returns-clause-log : goal.returns-clause-log
returns-clause-log g c = λ on.
    err_here c.commit.result c.in-Err.error _ c.in-Err.is c.commit.ensures.log (subst (λ (r : Result (Option ℕ) RoomError). IsErrOf r room_error.Failed → ⊥) (sym c.in-Err.is) (fine c.args.memory.now.made.started c.args.memory.now.made.work.entries c.in-Err.error c.refusal.result (subst (λ (w : Work). IsRefusal c.in-Err.error c.args.memory.now.made.started w.entries c.refusal.result) c.entry_of.ensures.work c.refusal.ensures) on))

pub returns-in_err-entry-clause-log : goal.returns-in_err-entry-clause-log
returns-in_err-entry-clause-log g c =
    let e = err_from_is_err_and c.from_residual.result c.from_residual.ensures.1 in
    rw e.1 (λ on. (refl, refl))

pub returns-in_err-began-clause-log : goal.returns-in_err-began-clause-log
returns-in_err-began-clause-log g c =
    let e = err_from_is_err_and c.from_residual-in_err-began.result c.from_residual-in_err-began.ensures.1 in
    rw e.1 (λ on. (refl, refl))

pub returns-in-Ok-clause-log : goal.returns-in-Ok-clause-log
returns-in-Ok-clause-log g c = tt

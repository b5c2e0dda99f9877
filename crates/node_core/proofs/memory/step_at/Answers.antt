use Rattle.std.proofs.Common.{rules, ℕ, IfOk, IsErrOf, refl, sym, subst, ◌∙◌, arith}
use Rattle.durable_state.specs.State.{Durable}
use Rattle.durable_state.specs.Keeping.{IsWithOrWithout}
use Rattle.replica.specs.Finding.{AlwaysLeaves}
use Rattle.replica.specs.Kept.{IsKeptAfter, IsKeptOf}
use Rattle.replica.specs.Lengths.{IsFirstTooLarge}
use Rattle.replica.specs.declared.error.CallError.TheVariants as call_error
use Rattle.node_core.specs.declared.memory.Made.{Made}
use Rattle.node_core.specs.Memory.{AreOutputsOf, IsLost, core_of, entry_made, kept_with}
use Rattle.node_core.specs.Moving.{IsNewTo}
use Rattle.node_core.specs.Nodes.{Core, OverflowsLog}
use Rattle.node_core.proofs.Answered.{at_most, err_more, ok_here, risen_later}
use Rattle.node_core.proofs.Ending.{begun_about, begun_later, begun_new, begun_started, begun_within, held_kept, held_with, lost_as, room_kept, same_core, same_kept, steps_kept, tied_kept}
use Rattle.node_core.proofs.Stepping.{commit_halts, cut_at, kept_after, look_halts, look_leaves, no_room, ready, step_leaves, too_large}
use Rattle.node_core.proofs.memory.step_at.Goals as goal

pub work_out-requires-clause-about : goal.work_out-requires-clause-about
work_out-requires-clause-about g c = begun_about c.args.memory.now c.args.time c.args.event.now (record { what = c.begin.new.event.what; made = c.begin.new.self }) c.begin.ensures

pub work_out-requires-clause-new : goal.work_out-requires-clause-new
work_out-requires-clause-new g c = begun_new c.args.memory.now c.args.time c.args.event.now (record { what = c.begin.new.event.what; made = c.begin.new.self }) c.begin.ensures c.requires.time c.requires.held

pub work_out-requires-clause-time : goal.work_out-requires-clause-time
work_out-requires-clause-time g c = begun_within c.args.memory.now c.args.time c.args.event.now (record { what = c.begin.new.event.what; made = c.begin.new.self }) c.begin.ensures c.requires.within

pub keep_made-requires-clause-sound : goal.keep_made-requires-clause-sound
keep_made-requires-clause-sound g c =
    let worked = ok_here c.work_out.result _ _ c.in-Ok.is c.work_out.ensures.ok in
    worked.worked.sound

pub keep_made-requires-clause-later : goal.keep_made-requires-clause-later
keep_made-requires-clause-later g c =
    let worked = ok_here c.work_out.result _ _ c.in-Ok.is c.work_out.ensures.ok in
    subst (λ (t : ℕ). IsNewTo c.args.memory.now.base t) (sym (worked.worked.time ∙ worked.due.time)) (begun_new c.args.memory.now c.args.time c.args.event.now (record { what = c.begin.new.event.what; made = c.begin.new.self }) c.begin.ensures c.requires.time c.requires.held)

pub keep_made-requires-clause-kept : goal.keep_made-requires-clause-kept
keep_made-requires-clause-kept g c = λ honest.
    let worked = ok_here c.work_out.result _ _ c.in-Ok.is c.work_out.ensures.ok in
    subst (λ (d : Durable). IsKeptAfter (entry_made c.args.memory.now.kept.ceiling c.work_out.new.self.work) d (record (kept_with c.work_out.new.hints.now c.args.memory.now.kept) { ceiling = c.work_out.new.self.work.ceiling })) (sym (c.work_out.ensures.peeks.looked honest).same)
    (kept_after c.args.memory.now (g.R.Replica.durable c.args.replica.now) c.args.event.now (record c.begin.new.self { work = c.work_out.new.self.work }) c.work_out.new.hints.now (ready c.args.memory.now (g.R.Replica.durable c.args.replica.now) c.args.event.now c.args.time (record { what = c.begin.new.event.what; made = c.begin.new.self }) g.R.Disk.Store.is_honest c.work_out.new.self.work c.work_out.new.hints.now c.requires.time c.begin.ensures worked honest (c.requires.tied honest) c.requires.settled) (c.requires.tied honest))

pub returns-in-Ok-clause-ok : goal.returns-in-Ok-clause-ok
returns-in-Ok-clause-ok g c =
    let worked = ok_here c.work_out.result _ _ c.in-Ok.is c.work_out.ensures.ok in
    steps_kept c.keep_made.result c.args.memory.now c.keep_made.new.memory (core_of c.args.memory.now) (g.R.Replica.durable c.args.replica.now) (g.R.Replica.durable c.work_out.new.replica) (g.R.Replica.durable c.keep_made.new.replica) c.args.event.now (record c.begin.new.self { work = c.work_out.new.self.work }) c.work_out.new.hints.now g.R.Disk.Store.is_honest refl
    (λ honest. ready c.args.memory.now (g.R.Replica.durable c.args.replica.now) c.args.event.now c.args.time (record { what = c.begin.new.event.what; made = c.begin.new.self }) g.R.Disk.Store.is_honest c.work_out.new.self.work c.work_out.new.hints.now c.requires.time c.begin.ensures worked honest (c.requires.tied honest) c.requires.settled)
    (λ honest. (c.work_out.ensures.peeks.looked honest).same) (subst (λ (y : Made). IfOk c.keep_made.result (AreOutputsOf y)) c.work_out.ensures.made c.keep_made.ensures.outputs) c.keep_made.ensures.ok c.keep_made.ensures.behind

pub returns-in-Ok-clause-held : goal.returns-in-Ok-clause-held
returns-in-Ok-clause-held g c =
    let worked = ok_here c.work_out.result _ _ c.in-Ok.is c.work_out.ensures.ok in
    let later = begun_later c.args.memory.now c.args.time c.args.event.now (record { what = c.begin.new.event.what; made = c.begin.new.self }) c.begin.ensures c.requires.time in
    let time = worked.worked.time ∙ worked.due.time in
    held_kept c.keep_made.result c.args.memory.now c.keep_made.new.memory c.work_out.new.self.work c.work_out.new.hints.now c.requires.held (omega arith) worked.worked.sound c.keep_made.ensures.ordered c.keep_made.ensures.bare c.keep_made.ensures.behind
    (err_more c.keep_made.result _ _ (λ is. is ∙ same_core c.args.memory.now c.work_out.new.hints c.work_out.ensures.before) c.keep_made.ensures.back)

pub returns-in-Ok-clause-tied : goal.returns-in-Ok-clause-tied
returns-in-Ok-clause-tied g c =
    let worked = ok_here c.work_out.result _ _ c.in-Ok.is c.work_out.ensures.ok in
    tied_kept c.keep_made.result c.args.memory.now c.keep_made.new.memory (g.R.Replica.durable c.args.replica.now) (g.R.Replica.durable c.work_out.new.replica) (g.R.Replica.durable c.keep_made.new.replica) c.args.event.now (record c.begin.new.self { work = c.work_out.new.self.work }) c.work_out.new.hints.now g.R.Disk.Store.is_honest (λ honest. ready c.args.memory.now (g.R.Replica.durable c.args.replica.now) c.args.event.now c.args.time (record { what = c.begin.new.event.what; made = c.begin.new.self }) g.R.Disk.Store.is_honest c.work_out.new.self.work c.work_out.new.hints.now c.requires.time c.begin.ensures worked honest (c.requires.tied honest) c.requires.settled) (λ honest. (c.requires.tied honest))
    (λ honest. (c.work_out.ensures.peeks.looked honest).same) c.keep_made.ensures.ok c.keep_made.ensures.behind (err_more c.keep_made.result _ _ (λ is. is ∙ same_core c.args.memory.now c.work_out.new.hints c.work_out.ensures.before) c.keep_made.ensures.back) c.keep_made.ensures.same

pub returns-in-Ok-clause-back : goal.returns-in-Ok-clause-back
returns-in-Ok-clause-back g c = err_more c.keep_made.result _ _ (λ is. is ∙ same_core c.args.memory.now c.work_out.new.hints c.work_out.ensures.before) c.keep_made.ensures.back

pub returns-in-Ok-clause-same : goal.returns-in-Ok-clause-same
returns-in-Ok-clause-same g c = same_kept c.keep_made.result (g.R.Replica.durable c.args.replica.now) (g.R.Replica.durable c.work_out.new.replica) (g.R.Replica.durable c.keep_made.new.replica) g.R.Disk.Store.is_honest (λ honest. (c.work_out.ensures.peeks.looked honest).same) c.keep_made.ensures.same

pub returns-in-Ok-clause-room : goal.returns-in-Ok-clause-room
returns-in-Ok-clause-room g c =
    let worked = ok_here c.work_out.result _ _ c.in-Ok.is c.work_out.ensures.ok in
    room_kept c.keep_made.result c.args.memory.now (core_of c.args.memory.now) (g.R.Replica.durable c.args.replica.now) (g.R.Replica.durable c.work_out.new.replica) (g.R.Replica.log_end c.args.replica.now) (g.R.Replica.log_end c.work_out.new.replica) c.args.event.now (record c.begin.new.self { work = c.work_out.new.self.work }) c.work_out.new.hints.now g.R.Disk.Store.is_honest refl
    (λ honest. ready c.args.memory.now (g.R.Replica.durable c.args.replica.now) c.args.event.now c.args.time (record { what = c.begin.new.event.what; made = c.begin.new.self }) g.R.Disk.Store.is_honest c.work_out.new.self.work c.work_out.new.hints.now c.requires.time c.begin.ensures worked honest (c.requires.tied honest) c.requires.settled)
    (λ honest. (c.work_out.ensures.peeks.looked honest).same) c.work_out.ensures.peeks.log c.keep_made.ensures.room

pub returns-in-Ok-clause-no_room : goal.returns-in-Ok-clause-no_room
returns-in-Ok-clause-no_room g c = λ told honest.
    let worked = ok_here c.work_out.result _ _ c.in-Ok.is c.work_out.ensures.ok in
    let made = ready c.args.memory.now (g.R.Replica.durable c.args.replica.now) c.args.event.now c.args.time (record { what = c.begin.new.event.what; made = c.begin.new.self }) g.R.Disk.Store.is_honest c.work_out.new.self.work c.work_out.new.hints.now c.requires.time c.begin.ensures worked honest (c.requires.tied honest) c.requires.settled in
    (no_room c.args.memory.now (g.R.Replica.durable c.args.replica.now) (g.R.Replica.log_end c.args.replica.now) c.args.event.now (record c.begin.new.self { work = c.work_out.new.self.work }) c.work_out.new.hints.now made
    (subst (λ (n : ℕ). OverflowsLog n (g.R.Replica.durable c.args.replica.now) (entry_made c.args.memory.now.kept.ceiling c.work_out.new.self.work)) c.work_out.ensures.peeks.log
    (subst (λ (d : Durable). OverflowsLog (g.R.Replica.log_end c.work_out.new.replica) d (entry_made c.args.memory.now.kept.ceiling c.work_out.new.self.work)) (c.work_out.ensures.peeks.looked honest).same (c.keep_made.ensures.no_room told honest))))

pub returns-in-Ok-clause-too_large : goal.returns-in-Ok-clause-too_large
returns-in-Ok-clause-too_large g c = λ p told honest.
    let worked = ok_here c.work_out.result _ _ c.in-Ok.is c.work_out.ensures.ok in
    let made = ready c.args.memory.now (g.R.Replica.durable c.args.replica.now) c.args.event.now c.args.time (record { what = c.begin.new.event.what; made = c.begin.new.self }) g.R.Disk.Store.is_honest c.work_out.new.self.work c.work_out.new.hints.now c.requires.time c.begin.ensures worked honest (c.requires.tied honest) c.requires.settled in
    (too_large c.args.memory.now (g.R.Replica.durable c.args.replica.now) c.args.event.now (record c.begin.new.self { work = c.work_out.new.self.work }) c.work_out.new.hints.now p made
    (subst (λ (d : Durable). IsFirstTooLarge (entry_made c.args.memory.now.kept.ceiling c.work_out.new.self.work) d p) (c.work_out.ensures.peeks.looked honest).same (c.keep_made.ensures.too_large p told honest)))

pub returns-in-Ok-clause-cause : goal.returns-in-Ok-clause-cause
returns-in-Ok-clause-cause g c = λ l told. risen_later _ _ _ c.work_out.ensures.peeks.faults c.keep_made.ensures.faults (c.keep_made.ensures.failed l told)

pub returns-in-Ok-clause-halts : goal.returns-in-Ok-clause-halts
returns-in-Ok-clause-halts g c = λ l told honest.
    let worked = ok_here c.work_out.result _ _ c.in-Ok.is c.work_out.ensures.ok in
    let made = ready c.args.memory.now (g.R.Replica.durable c.args.replica.now) c.args.event.now c.args.time (record { what = c.begin.new.event.what; made = c.begin.new.self }) g.R.Disk.Store.is_honest c.work_out.new.self.work c.work_out.new.hints.now c.requires.time c.begin.ensures worked honest (c.requires.tied honest) c.requires.settled in
    let lost = subst (λ (y : Made). IsLost y.started y.work.entries l) c.work_out.ensures.made (c.keep_made.ensures.lost l told) in
    (commit_halts _ c.args.memory.now (g.R.Replica.durable c.args.replica.now) c.args.event.now (record c.begin.new.self { work = c.work_out.new.self.work }) c.work_out.new.hints.now l _ _ made lost
    (subst (λ (d : Durable). AlwaysLeaves g.R.Replica.stands_for (IsWithOrWithout (entry_made c.args.memory.now.kept.ceiling c.work_out.new.self.work) d) (g.R.Disk.Store.disk (g.R.Replica.disk c.work_out.new.replica)) (g.R.Disk.Store.disk (g.R.Replica.disk c.keep_made.new.replica))) (c.work_out.ensures.peeks.looked honest).same (c.keep_made.ensures.any_moment honest)))

pub returns-in-Ok-clause-any_moment : goal.returns-in-Ok-clause-any_moment
returns-in-Ok-clause-any_moment g c = λ honest.
    let worked = ok_here c.work_out.result _ _ c.in-Ok.is c.work_out.ensures.ok in
    let made = ready c.args.memory.now (g.R.Replica.durable c.args.replica.now) c.args.event.now c.args.time (record { what = c.begin.new.event.what; made = c.begin.new.self }) g.R.Disk.Store.is_honest c.work_out.new.self.work c.work_out.new.hints.now c.requires.time c.begin.ensures worked honest (c.requires.tied honest) c.requires.settled in
    (step_leaves _ c.args.memory.now (g.R.Replica.durable c.args.replica.now) c.args.event.now (record c.begin.new.self { work = c.work_out.new.self.work }) c.work_out.new.hints.now _ _ _ made (c.work_out.ensures.peeks.looked honest).leaves
    (subst (λ (d : Durable). AlwaysLeaves g.R.Replica.stands_for (IsWithOrWithout (entry_made c.args.memory.now.kept.ceiling c.work_out.new.self.work) d) (g.R.Disk.Store.disk (g.R.Replica.disk c.work_out.new.replica)) (g.R.Disk.Store.disk (g.R.Replica.disk c.keep_made.new.replica))) (c.work_out.ensures.peeks.looked honest).same (c.keep_made.ensures.any_moment honest)))

pub returns-in-Err-Failed-clause-whole : goal.returns-in-Err-Failed-clause-whole
returns-in-Err-Failed-clause-whole g c = λ on. absurd (on c.lost.result refl)

pub returns-in-Err-Failed-clause-cause : goal.returns-in-Err-Failed-clause-cause
returns-in-Err-Failed-clause-cause g c = λ l told.
    let failed : IsErrOf c.work_out.result call_error.Failed = search rules in
    c.work_out.ensures.failed failed

pub returns-in-Err-Failed-clause-held : goal.returns-in-Err-Failed-clause-held
returns-in-Err-Failed-clause-held g c = held_with c.args.memory.now c.work_out.new.hints c.lost.new.self c.requires.held

pub returns-in-Err-Failed-clause-back : goal.returns-in-Err-Failed-clause-back
returns-in-Err-Failed-clause-back g c = same_core c.args.memory.now c.work_out.new.hints c.work_out.ensures.before

pub returns-in-Err-Failed-clause-halts : goal.returns-in-Err-Failed-clause-halts
returns-in-Err-Failed-clause-halts g c = λ l told honest.
    let failed : IsErrOf c.work_out.result call_error.Failed = search rules in
    let cut = cut_at c.args.memory.now (g.R.Replica.durable c.args.replica.now) c.args.event.now c.args.time (record { what = c.begin.new.event.what; made = c.begin.new.self }) c.work_out.new.self.work c.requires.time c.begin.ensures (c.work_out.ensures.cut failed honest) (c.requires.tied honest) c.requires.settled in
    let lost = lost_as c.work_out.new.self.started c.work_out.new.self.work.entries c.lost.result l told c.lost.ensures in
    let begun = subst (λ (y : Made). IsLost y.started c.work_out.new.self.work.entries l) c.work_out.ensures.made lost in
    (look_halts _ c.args.memory.now (g.R.Replica.durable c.args.replica.now) c.args.event.now c.work_out.new.self.work c.begin.new.self.started l _ _ cut (begun_started c.args.memory.now c.args.time c.args.event.now (record { what = c.begin.new.event.what; made = c.begin.new.self }) c.begin.ensures c.requires.time) begun (c.work_out.ensures.peeks.looked honest).leaves)

pub returns-in-Err-Failed-clause-any_moment : goal.returns-in-Err-Failed-clause-any_moment
returns-in-Err-Failed-clause-any_moment g c = λ honest. look_leaves g.R.Replica.stands_for (core_of c.args.memory.now) (g.R.Replica.durable c.args.replica.now) c.args.event.now (g.R.Disk.Store.disk (g.R.Replica.disk c.args.replica.now)) (g.R.Disk.Store.disk (g.R.Replica.disk c.work_out.new.replica)) (c.work_out.ensures.peeks.looked honest).leaves

pub returns-in-Err-NoMemory-clause-any_moment : goal.returns-in-Err-NoMemory-clause-any_moment
returns-in-Err-NoMemory-clause-any_moment g c = λ honest. look_leaves g.R.Replica.stands_for (core_of c.args.memory.now) (g.R.Replica.durable c.args.replica.now) c.args.event.now (g.R.Disk.Store.disk (g.R.Replica.disk c.args.replica.now)) (g.R.Disk.Store.disk (g.R.Replica.disk c.work_out.new.replica)) (c.work_out.ensures.peeks.looked honest).leaves

pub returns-in-Err-NoMemory-clause-held : goal.returns-in-Err-NoMemory-clause-held
returns-in-Err-NoMemory-clause-held g c = held_with c.args.memory.now c.work_out.new.hints c.work_out.new.self c.requires.held

pub returns-in-Err-NoMemory-clause-back : goal.returns-in-Err-NoMemory-clause-back
returns-in-Err-NoMemory-clause-back g c = same_core c.args.memory.now c.work_out.new.hints c.work_out.ensures.before

pub returns-in-Err-NoMemory-clause-tied : goal.returns-in-Err-NoMemory-clause-tied
returns-in-Err-NoMemory-clause-tied g c = λ on honest.
    subst (λ (d : Durable). IsKeptOf d (core_of (record c.args.memory.now { hints = c.work_out.new.hints })).kept) (sym (c.work_out.ensures.peeks.looked honest).same)
    (subst (λ (n : Core). IsKeptOf (g.R.Replica.durable c.args.replica.now) n.kept) (sym (same_core c.args.memory.now c.work_out.new.hints c.work_out.ensures.before)) (c.requires.tied honest))

pub returns-in-Ok-clause-surely : goal.returns-in-Ok-clause-surely
returns-in-Ok-clause-surely g c = λ l told all. c.keep_made.ensures.surely l told (c.work_out.ensures.peeks.spared all)

pub returns-in-Ok-clause-spared : goal.returns-in-Ok-clause-spared
returns-in-Ok-clause-spared g c = λ all. c.keep_made.ensures.spared (c.work_out.ensures.peeks.spared all)

pub returns-in-Err-Failed-clause-surely : goal.returns-in-Err-Failed-clause-surely
returns-in-Err-Failed-clause-surely g c = λ l told all.
    let failed : IsErrOf c.work_out.result call_error.Failed = search rules in
    c.work_out.ensures.surely failed all

pub returns-in-Err-Failed-clause-spared : goal.returns-in-Err-Failed-clause-spared
returns-in-Err-Failed-clause-spared g c = c.work_out.ensures.peeks.spared

pub returns-in-Err-NoMemory-clause-spared : goal.returns-in-Err-NoMemory-clause-spared
returns-in-Err-NoMemory-clause-spared g c = c.work_out.ensures.peeks.spared

pub returns-in-Ok-clause-log : goal.returns-in-Ok-clause-log
returns-in-Ok-clause-log g c = err_more c.keep_made.result _ _ (λ still on. ((still on).0 ∙ c.work_out.ensures.peeks.log, (still on).1 ∙ c.work_out.ensures.peeks.flushed)) c.keep_made.ensures.log

pub returns-in-Err-Failed-clause-log : goal.returns-in-Err-Failed-clause-log
returns-in-Err-Failed-clause-log g c = λ on. absurd (on c.lost.result refl)

pub returns-in-Err-NoMemory-clause-log : goal.returns-in-Err-NoMemory-clause-log
returns-in-Err-NoMemory-clause-log g c = λ on. (c.work_out.ensures.peeks.log, c.work_out.ensures.peeks.flushed)

pub returns-in-Ok-clause-faults : goal.returns-in-Ok-clause-faults
returns-in-Ok-clause-faults g c = at_most c.work_out.ensures.peeks.faults c.keep_made.ensures.faults

pub returns-in-Err-Failed-clause-faults : goal.returns-in-Err-Failed-clause-faults
returns-in-Err-Failed-clause-faults g c = c.work_out.ensures.peeks.faults

pub returns-in-Err-NoMemory-clause-faults : goal.returns-in-Err-NoMemory-clause-faults
returns-in-Err-NoMemory-clause-faults g c = c.work_out.ensures.peeks.faults

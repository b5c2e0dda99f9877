use Rattle.std.proofs.Common.{◌≡◌, ◌*◌, ℕ, vec_len, length, refl, sym, subst, ap, ◌∙◌, arith}
use Rattle.std.specs.List.{AllZip}
use Rattle.cs_base.specs.Faults.{HasRisen}
use Rattle.item_groups.specs.Zips.{AllZip3}
use Rattle.item_groups.proofs.PlaceLaws.{zip2-long}
use Rattle.item_groups.proofs.ZipLaws.{zip3-long}
use Rattle.served_run.specs.Crews.{IsDeskOf, IsManned, IsSiteOf}
use Rattle.served_run.specs.Works.{ConsoleDid}
use Rattle.served_run.proofs.WorkLaws.{all_manned, have_worked, jobs_long, ok_both, work_lost}
use Rattle.served_run.proofs.working.work_all.Goals as goal

pub assign-requires : goal.assign-requires
assign-requires g c =
    subst (λ sites. AllZip IsManned sites c.args.crews.items) (sym c.as_slice.ensures.value)
    (all_manned c.args.host.now c.args.jobs c.args.locks.now c.in-Ok.sites.items c.args.crews.items c.in-Ok.ensures c.requires.crews)

pub new-console-requires : goal.new-console-requires
new-console-requires g c =
    let sites = c.as_slice.result.now in
    let long = (zip3-long IsDeskOf sites c.args.crews.items c.in-Ok-assign.assigned.operated.items c.in-Ok-assign.ensures.operated).1 in
    let same = ap length c.as_slice.ensures.value in
    let many = zip2-long (IsSiteOf c.args.host.now) c.args.locks.now c.in-Ok.sites.items c.in-Ok.ensures in
    let few = c.requires.few in
    (omega (arith, long, same, many, few.0), omega (arith, long, same, many, few.1))

pub worked_by-requires : goal.worked_by-requires
worked_by-requires g c =
    let sites = c.as_slice.result.now in
    let all = c.in-Ok-assign.assigned.jobs in
    let nodes = c.new-console.ensures.nodes in
    ok_both c.run_threads.result
    (λ r. vec_len r.0 ≡ vec_len all)
    (λ r. ConsoleDid g.N.Stepper.steps g.N.Stepper.event_of g.N.Stepper.reply_of g.N.Stepper.refuses g.C.Clock.gives g.S.Source.remaining g.S.Source.faults g.T.Sink.contents g.T.Sink.faults
    record { console = c.new-console.result; opening = c.args.desk.opening }
    r.1)
    (λ r. vec_len r.0 ≡ vec_len r.1.console.nodes * c.args.jobs)
    (λ r len did. len ∙ all.ok.0
    ∙ jobs_long c.args.jobs c.args.locks.now sites c.args.crews.items all.items c.new-console.result.nodes.items r.1.console.nodes.items c.requires.crews c.in-Ok-assign.ensures.jobs
    (subst (λ v. AllZip3 IsDeskOf sites c.args.crews.items v.items) (sym nodes) c.in-Ok-assign.ensures.operated) did.0
    ∙ ap (λ (n : ℕ). n * c.args.jobs) (sym r.1.console.nodes.ok.0))
    c.run_threads.ensures.len c.run_threads.ensures.here

pub returns-clause-worked : goal.returns-clause-worked
returns-clause-worked g c =
    let sites = c.as_slice.result.now in
    let ended = c.run_threads.ensures in
    let worked = c.worked_by.ensures in
    let console = c.new-console.ensures in
    have_worked g.N.Stepper.steps g.N.Stepper.event_of g.N.Stepper.reply_of g.N.Stepper.refuses g.C.Clock.gives g.D.Link.Link.remaining g.D.Link.Link.written g.D.Link.Link.faults g.D.Door.given g.D.Door.returned g.D.Door.faults c.args.host.now
    (HasRisen (g.P.Spawner.faults c.args.spawner.now) (g.P.Spawner.faults c.run_threads.new.spawner)) g.S.Source.remaining g.S.Source.faults g.T.Sink.contents g.T.Sink.faults
    c.args.jobs c.args.locks.now sites c.args.crews.items c.in-Ok-assign.assigned.jobs.items c.args.desk
    record { console = c.new-console.result; opening = c.args.desk.opening }
    c.run_threads.result c.worked_by.result
    (subst (λ xs. AllZip (IsSiteOf c.args.host.now) c.args.locks.now xs) (sym c.as_slice.ensures.value) c.in-Ok.ensures)
    c.requires.crews c.in-Ok-assign.ensures.jobs
    (subst (λ v. AllZip3 IsDeskOf sites c.args.crews.items v.items) (sym console.nodes) c.in-Ok-assign.ensures.operated)
    record { source = console.source; sink = console.sink; lines = console.lines; opening = refl }
    ended.each ended.here worked.done worked.backs worked.nothing

pub returns-clause-lost : goal.returns-clause-lost
returns-clause-lost g c =
    let ended = c.run_threads.ensures in
    let worked = c.worked_by.ensures in
    let console = c.new-console.ensures in
    work_lost g.N.Stepper.steps g.N.Stepper.event_of g.N.Stepper.reply_of g.N.Stepper.refuses g.C.Clock.gives g.D.Link.Link.remaining g.D.Link.Link.written g.D.Link.Link.faults g.D.Door.given g.D.Door.returned g.D.Door.faults c.args.host.now
    (HasRisen (g.P.Spawner.faults c.args.spawner.now) (g.P.Spawner.faults c.run_threads.new.spawner)) g.S.Source.remaining g.S.Source.faults g.T.Sink.contents g.T.Sink.faults
    c.args.desk
    record { console = c.new-console.result; opening = c.args.desk.opening }
    c.run_threads.result c.worked_by.result
    record { source = console.source; sink = console.sink; lines = console.lines; opening = refl }
    ended.back ended.here worked.done worked.source worked.sink worked.end

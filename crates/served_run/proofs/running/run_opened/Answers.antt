use Rattle.std.proofs.Common.{sym, subst}
use Rattle.std.proofs.lemmas.Option.{IfSome_then}
use Rattle.std.specs.List.{AllZip}
use Rattle.cs_base.specs.Faults.{HasRisen}
use Rattle.served_run.specs.Crews.{IsBack, IsCrewOf}
use Rattle.served_run.proofs.RunLaws.{are_back}
use Rattle.served_run.proofs.WorkLaws.{have_closed, run_lost}
use Rattle.served_run.proofs.running.run_opened.Goals as goal

pub close_worked-requires : goal.close_worked-requires
close_worked-requires g c =
    IfSome_then c.work_all-worked.result.backs c.work_all-worked.ensures.worked
    (λ backs h.
    subst (λ ls. AllZip IsBack ls backs.items) c.as_slice.ensures.value
    (are_back g.N.Stepper.steps g.N.Stepper.event_of g.N.Stepper.reply_of g.N.Stepper.refuses g.C.Clock.gives g.D.Link.Link.remaining g.D.Link.Link.written g.D.Link.Link.faults g.D.Door.given g.D.Door.returned g.D.Door.faults c.args.host.now
    (HasRisen (g.P.Spawner.faults c.args.spawner.now) (g.P.Spawner.faults c.work_all-worked.new.spawner))
    c.args.jobs c.as_slice.result.now c.args.opened.crews.items h.job.console.nodes.items h.done.console.nodes.items backs.items
    (subst (λ ls. AllZip (IsCrewOf c.args.jobs) ls c.args.opened.crews.items) (sym c.as_slice.ensures.value) c.requires.crews)
    h.began h.kept h.firsts h.crews_worked))

pub returns : goal.returns
returns g c =
    let closed = c.close_worked.ensures in
    let work = c.work_all-worked.ensures in
    record {
      counted = work.counted;
      closed =
          have_closed g.N.Stepper.steps g.N.Stepper.event_of g.N.Stepper.reply_of g.N.Stepper.refuses g.C.Clock.gives g.D.Link.Link.remaining g.D.Link.Link.written g.D.Link.Link.faults g.D.Door.given g.D.Door.returned g.D.Door.faults c.args.host.now
          (HasRisen (g.P.Spawner.faults c.args.spawner.now) (g.P.Spawner.faults c.work_all-worked.new.spawner)) g.S.Source.remaining g.S.Source.faults g.T.Sink.contents g.T.Sink.faults
          c.args.opened.locks.items c.as_slice.result.now c.args.opened.crews.items c.args.desk c.work_all-worked.result c.close_worked.result c.work_all-worked.result.backs c.close_worked.result.nodes
          c.as_slice.ensures.value closed.source closed.sink closed.end work.worked closed.closed closed.none;
      lost =
          run_lost g.N.Stepper.steps g.N.Stepper.event_of g.N.Stepper.reply_of g.N.Stepper.refuses g.C.Clock.gives g.D.Link.Link.remaining g.D.Link.Link.written g.D.Link.Link.faults g.D.Door.given g.D.Door.returned g.D.Door.faults c.args.host.now
          (HasRisen (g.P.Spawner.faults c.args.spawner.now) (g.P.Spawner.faults c.work_all-worked.new.spawner)) g.S.Source.remaining g.S.Source.faults g.T.Sink.contents g.T.Sink.faults
          c.as_slice.result.now c.args.opened.crews.items c.args.desk c.work_all-worked.result c.close_worked.result c.work_all-worked.result.backs c.close_worked.result.nodes
          closed.source closed.sink closed.end work.worked work.lost;
    }

use Rattle.std.proofs.lemmas.Result.{IfOk-weaker}
use Rattle.cs_base.specs.Faults.{HasRisen}
use Rattle.served_run.proofs.RunLaws.{have_run}
use Rattle.served_run.proofs.running.run_nodes.Goals as goal

pub returns-in-Ok : goal.returns-in-Ok
returns-in-Ok g c =
    let ran = c.run_opened.ensures in
    record {
      counted = ran.counted;
      ran = IfOk-weaker c.run_opened.result.nodes _ _
          (λ left h.
          have_run g.N.Stepper.steps g.N.Stepper.event_of g.N.Stepper.reply_of g.N.Stepper.refuses g.C.Clock.gives g.D.Link.Link.remaining g.D.Link.Link.written g.D.Link.Link.faults g.D.Door.given g.D.Door.returned g.D.Door.faults c.args.host.now
          (HasRisen (g.P.Spawner.faults c.args.spawner.now) (g.P.Spawner.faults c.run_opened.new.spawner)) g.S.Source.remaining g.S.Source.faults g.T.Sink.contents g.T.Sink.faults
          c.args.jobs c.args.nodes.items c.in-Ok.opened.locks.items c.in-Ok.opened.crews.items c.args.desk left.items c.run_opened.result c.in-Ok.ensures.each h)
          ran.closed;
      lost = ran.lost;
    }

use Rattle.served_jobs.proofs.WorkLaws.{works_own}
use Rattle.served_jobs.proofs.job.NodeJobJob.work.Goals as goal

pub returns-clause-ends : goal.returns-clause-ends
returns-clause-ends g c = record {
  lock = c.work_at.ensures.lock;
  pass = c.work_at.ensures.pass;
  own = λ own.
      works_own
      g.N.Stepper.steps g.N.Stepper.event_of g.N.Stepper.reply_of g.N.Stepper.refuses g.C.Clock.gives g.D.Link.Link.remaining g.D.Link.Link.written g.D.Link.Link.faults g.D.Door.given g.D.Door.returned g.D.Door.faults
      c.args.self.site.now c.args.self.duty c.args.self.pass c.work_at.result c.work_at.ensures.works own;
}

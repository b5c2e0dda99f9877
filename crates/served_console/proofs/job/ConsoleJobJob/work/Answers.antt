use Rattle.served_console.proofs.ConsoleLaws.{passes_given}
use Rattle.served_console.proofs.job.ConsoleJobJob.work.Goals as goal

pub returns-clause-ends : goal.returns-clause-ends
returns-clause-ends g c = passes_given g.N.Stepper.steps g.N.Stepper.event_of g.N.Stepper.reply_of g.N.Stepper.refuses g.C.Clock.gives g.S.Source.remaining g.S.Source.faults g.T.Sink.contents g.T.Sink.faults c.deref.result.now c.args.self.console c.operate-end.new.self c.operate-end.result c.operate-end.ensures

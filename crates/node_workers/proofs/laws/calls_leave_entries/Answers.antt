use Rattle.node_workers.proofs.CallChains.{calls_leave}
use Rattle.node_workers.proofs.laws.calls_leave_entries.Goals as goal

pub returns : goal.returns
returns g c = λ start v w calls h. calls_leave g.N.Stepper.steps g.N.Stepper.event_of g.N.Stepper.reply_of g.N.Stepper.refuses start v w calls h

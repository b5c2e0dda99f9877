use Rattle.std.proofs.Common.{ap}
use Rattle.node_workers.specs.Calls.{calls_in}
use Rattle.node_lock.specs.Passes.{view_of}
use Rattle.node_workers.proofs.AtLock.{at_first}
use Rattle.node_workers.proofs.desk.LockDesk.new.Goals as goal

pub invariant_of-result : goal.invariant_of-result
invariant_of-result g c =
    at_first g.N.Stepper.steps g.N.Stepper.event_of g.N.Stepper.reply_of g.N.Stepper.refuses g.C.Clock.gives
    record { site = record { rt = c.args.rt; lock = c.args.lock; clock = c.args.clock; stop = c.args.stop }; pass = c.args.pass; since = c.of-since.result; calls = c.new.result }
    c.requires (ap calls_in c.new.ensures) (ap view_of c.of-since.ensures)

use Rattle.std.proofs.Common.{length, ap}
use Rattle.served_console.specs.Asking.{asks_of}
use Rattle.served_console.proofs.NodeLaws.{asks_silent}
use Rattle.served_console.proofs.asking.ask_by.Goals as goal

pub returns-in-Err-clause-asks : goal.returns-in-Err-clause-asks
returns-in-Err-clause-asks g c =
    asks_silent g.N.Stepper.steps g.N.Stepper.event_of g.N.Stepper.reply_of g.N.Stepper.refuses g.C.Clock.gives c.args.nodes.now.items (asks_of (length c.args.nodes.now.items) c.args.said.now) c.nothing.result
    (ap (asks_of (length c.args.nodes.now.items)) c.in-Err.is) c.nothing.ensures

use Rattle.std.proofs.Common.{length, ap}
use Rattle.served_console.specs.Asking.{asks_for}
use Rattle.served_console.proofs.NodeLaws.{asks_silent}
use Rattle.served_console.proofs.asking.ask_for.Goals as goal

pub returns-in-Stop-clause-asks : goal.returns-in-Stop-clause-asks
returns-in-Stop-clause-asks g c =
    asks_silent g.N.Stepper.steps g.N.Stepper.event_of g.N.Stepper.reply_of g.N.Stepper.refuses g.C.Clock.gives c.args.nodes.now.items (asks_for (length c.args.nodes.now.items) c.args.command.now) c.nothing.result
    (ap (asks_for (length c.args.nodes.now.items)) c.in-Stop.is) c.nothing.ensures

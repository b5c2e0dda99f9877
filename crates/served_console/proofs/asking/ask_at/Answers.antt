use Rattle.std.proofs.Common.{arith}
use Rattle.served_console.proofs.NodeLaws.{asks_at}
use Rattle.served_console.proofs.asking.ask_at.Goals as goal

pub returns-clause-asks : goal.returns-clause-asks
returns-clause-asks g c =
    asks_at g.N.Stepper.steps g.N.Stepper.event_of g.N.Stepper.reply_of g.N.Stepper.refuses g.C.Clock.gives c.args.nodes.now.items c.args.place c.args.what c.args.told c.and.result
    c.ask-outcome.result c.index_mut-node.result.now c.ask-outcome.new.self c.index_mut-node.result.now (omega (arith, c.args.nodes.now.ok.0)) c.index_mut-node.ensures.value c.ask-outcome.ensures c.and.ensures

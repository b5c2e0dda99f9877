use Rattle.std.proofs.Common.{List, []}
use Rattle.served_console.specs.Consoles.{GoesOn}
use Rattle.served_console.specs.Turns.{Turn}
use Rattle.served_console.proofs.console.Console.take_lines.Given as goal

abbrev pub invariant-loop : goal.invariant-loop
invariant-loop g l = (turns : List Turn) × GoesOn g.N.Stepper.steps g.N.Stepper.event_of g.N.Stepper.reply_of g.N.Stepper.refuses g.C.Clock.gives g.S.Source.remaining g.S.Source.faults g.T.Sink.contents g.T.Sink.faults [] l.fn.self turns l.self

use Rattle.std.proofs.Common.{[], ◌∷◌, ◌++◌}
use Rattle.served_console.proofs.ConsoleLaws.{nothing_done, goes_then, then_ends}
use Rattle.served_console.proofs.console.Console.take_lines.Goals as goal

pub loop-init : goal.loop-init
loop-init g c = ([], nothing_done g.N.Stepper.steps g.N.Stepper.event_of g.N.Stepper.reply_of g.N.Stepper.refuses g.C.Clock.gives g.S.Source.remaining g.S.Source.faults g.T.Sink.contents g.T.Sink.faults c.args.self.now)

pub returns-in-Some-take_line : goal.returns-in-Some-take_line
returns-in-Some-take_line g c = then_ends g.N.Stepper.steps g.N.Stepper.event_of g.N.Stepper.reply_of g.N.Stepper.refuses g.C.Clock.gives g.S.Source.remaining g.S.Source.faults g.T.Sink.contents g.T.Sink.faults [] c.args.self.now c.loop.self c.take_line.new.self c.in-Some-take_line.end c.loop.invariant.0 c.loop.invariant.1 c.in-Some-take_line.ensures

pub loop-preserved : goal.loop-preserved
loop-preserved g c =
    let turn = c.in-None-take_line.ensures in
    (c.loop.invariant.0 ++ turn.0 ∷ [], goes_then g.N.Stepper.steps g.N.Stepper.event_of g.N.Stepper.reply_of g.N.Stepper.refuses g.C.Clock.gives g.S.Source.remaining g.S.Source.faults g.T.Sink.contents g.T.Sink.faults [] c.args.self.now c.loop.self c.take_line.new.self c.loop.invariant.0 (turn.0 ∷ []) c.loop.invariant.1 turn.1)

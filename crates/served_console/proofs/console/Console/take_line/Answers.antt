use Rattle.std.proofs.Common.{refl, sym}
use Rattle.served_console.proofs.ConsoleLaws.{was_down, ends_at_flag, ends_at_input, ends_at_read, takes_line}
use Rattle.served_console.proofs.console.Console.take_line.Goals as goal

pub returns-then-raised : goal.returns-then-raised
returns-then-raised g c = ends_at_flag g.N.Stepper.steps g.N.Stepper.event_of g.N.Stepper.reply_of g.N.Stepper.refuses g.C.Clock.gives g.S.Source.remaining g.S.Source.faults g.T.Sink.contents g.T.Sink.faults c.args.self.now _ (sym c.if-raised.ensures.answer) refl refl refl refl

pub returns-in-Ok-true : goal.returns-in-Ok-true
returns-in-Ok-true g c =
    let down = was_down c.args.self.now.sign.was_up c.raised.new.self.was_up c.if-raised.ensures.answer c.if-raised.ensures.stays in
    takes_line g.N.Stepper.steps g.N.Stepper.event_of g.N.Stepper.reply_of g.N.Stepper.refuses g.C.Clock.gives g.S.Source.remaining g.S.Source.faults g.T.Sink.contents g.T.Sink.faults c.take_turn.result c.args.self.now _ c.take_turn.new.self c.take_turn.ensures refl refl c.next_line.ensures.counted c.in-Ok-true.field-0 c.in-Ok-true.field-0-test c.in-Ok-true.ensures.ok down.0 down.1

pub returns-in-Ok-false : goal.returns-in-Ok-false
returns-in-Ok-false g c =
    let down = was_down c.args.self.now.sign.was_up c.raised.new.self.was_up c.if-raised.ensures.answer c.if-raised.ensures.stays in
    ends_at_input g.N.Stepper.steps g.N.Stepper.event_of g.N.Stepper.reply_of g.N.Stepper.refuses g.C.Clock.gives g.S.Source.remaining g.S.Source.faults g.T.Sink.contents g.T.Sink.faults c.args.self.now _ c.in-Ok-false.field-0 c.in-Ok-false.field-0-test c.in-Ok-false.ensures.ok refl refl c.next_line.ensures.counted down.0

pub returns-in-Err : goal.returns-in-Err
returns-in-Err g c =
    let down = was_down c.args.self.now.sign.was_up c.raised.new.self.was_up c.if-raised.ensures.answer c.if-raised.ensures.stays in
    ends_at_read g.N.Stepper.steps g.N.Stepper.event_of g.N.Stepper.reply_of g.N.Stepper.refuses g.C.Clock.gives g.S.Source.remaining g.S.Source.faults g.T.Sink.contents g.T.Sink.faults c.args.self.now _ c.in-Err.ensures.err refl refl c.next_line.ensures.counted c.in-Err.ensures.failed down.0

use Rattle.std.proofs.Common.{refl, ◌∙◌, sym}
use Rattle.served_console.proofs.ConsoleLaws.{was_down, only_written, opened}
use Rattle.served_console.proofs.console.Console.operate.Goals as goal

pub returns-in-Ok : goal.returns-in-Ok
returns-in-Ok g c =
    let down = was_down c.args.self.now.sign.was_up c.raised.new.self.was_up c.if-raised.ensures.answer c.if-raised.ensures.stays in
    opened g.N.Stepper.steps g.N.Stepper.event_of g.N.Stepper.reply_of g.N.Stepper.refuses g.C.Clock.gives g.S.Source.remaining g.S.Source.faults g.T.Sink.contents g.T.Sink.faults c.args.opening.now c.args.self.now _ c.take_lines.new.self c.take_lines.result
    (only_written g.N.Stepper.steps g.N.Stepper.event_of g.N.Stepper.reply_of g.N.Stepper.refuses g.C.Clock.gives g.S.Source.remaining g.S.Source.faults g.T.Sink.contents g.T.Sink.faults c.args.opening.now c.args.self.now _ c.in-Ok.ensures.ok c.write_all.ensures.counted refl refl refl (down.0 ∙ sym down.1)) c.take_lines.ensures

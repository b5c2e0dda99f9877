use Rattle.std.proofs.Common.{Some, refl}
use Rattle.node_lock.specs.Passes.{view_of, start_of}
use Rattle.node_workers.specs.Repeating.{what_of}
use Rattle.node_workers.proofs.Workings.{repeats_none, repeats_one}
use Rattle.node_workers.proofs.repeating.take_turn.Goals as goal

pub returns-then-not-is_due-clause-repeats : goal.returns-then-not-is_due-clause-repeats
returns-then-not-is_due-clause-repeats g c =
    repeats_none g.N.Stepper.steps g.N.Stepper.event_of g.N.Stepper.reply_of g.N.Stepper.refuses (start_of c.args.site.now.lock.now) (g.C.Clock.gives c.args.site.now.clock.now) (what_of c.args.chore)
    c.args.last.now (view_of c.args.pass.now)

pub returns-clause-repeats : goal.returns-clause-repeats
returns-clause-repeats g c =
    repeats_one g.N.Stepper.steps g.N.Stepper.event_of g.N.Stepper.reply_of g.N.Stepper.refuses (start_of c.args.site.now.lock.now) (g.C.Clock.gives c.args.site.now.clock.now) (what_of c.args.chore)
    c.args.last.now (Some c.now-clock.result) (view_of c.args.pass.now) (view_of c.call_for.new.pass) c.now-clock.result c.call_for.result
    c.now-clock.ensures (c.if-not-is_due.ensures.0 refl) refl c.call_for.ensures.calls

use Rattle.std.proofs.Common.{None, sym, ap, subst, ◌∙◌}
use Rattle.node_lock.specs.Passes.{view_of, start_of}
use Rattle.node_workers.specs.Endings.{well}
use Rattle.node_workers.specs.Repeating.{what_of, failed_as, RepeatsFrom}
use Rattle.node_workers.specs.declared.ended.Ended.{Ended}
use Rattle.node_workers.proofs.Workings.{repeats_none, repeats_then}
use Rattle.node_workers.proofs.repeating.repeat.Goals as goal

pub loop-init : goal.loop-init
loop-init g c = record {
  pass = c.requires;
  repeats =
      repeats_none g.N.Stepper.steps g.N.Stepper.event_of g.N.Stepper.reply_of g.N.Stepper.refuses (start_of c.args.site.now.lock.now) (g.C.Clock.gives c.args.site.now.clock.now) (what_of c.args.chore)
      None (view_of c.args.pass.now);
}

pub returns-then-take_turn-clause-repeats : goal.returns-then-take_turn-clause-repeats
returns-then-take_turn-clause-repeats g c = (
  c.take_turn.new.last,
  repeats_then g.N.Stepper.steps g.N.Stepper.event_of g.N.Stepper.reply_of g.N.Stepper.refuses (start_of c.args.site.now.lock.now) (g.C.Clock.gives c.args.site.now.clock.now) (what_of c.args.chore)
      None c.loop.last c.take_turn.new.last (view_of c.args.pass.now) (view_of c.loop.pass) (view_of c.take_turn.new.pass) c.failed.result c.loop.invariant.repeats
      (subst (λ (e : Ended). RepeatsFrom g.N.Stepper.steps g.N.Stepper.event_of g.N.Stepper.reply_of g.N.Stepper.refuses (start_of c.args.site.now.lock.now) (g.C.Clock.gives c.args.site.now.clock.now) (what_of c.args.chore) c.loop.last (view_of c.loop.pass) c.take_turn.new.last (view_of c.take_turn.new.pass) e)
      (ap failed_as c.if-take_turn.true ∙ sym c.failed.ensures) c.take_turn.ensures.repeats),
)

pub loop-preserved : goal.loop-preserved
loop-preserved g c = record {
  pass = c.take_turn.ensures.lock;
  repeats =
      repeats_then g.N.Stepper.steps g.N.Stepper.event_of g.N.Stepper.reply_of g.N.Stepper.refuses (start_of c.args.site.now.lock.now) (g.C.Clock.gives c.args.site.now.clock.now) (what_of c.args.chore)
      None c.loop.last c.take_turn.new.last (view_of c.args.pass.now) (view_of c.loop.pass) (view_of c.take_turn.new.pass) well c.loop.invariant.repeats
      (subst (λ (e : Ended). RepeatsFrom g.N.Stepper.steps g.N.Stepper.event_of g.N.Stepper.reply_of g.N.Stepper.refuses (start_of c.args.site.now.lock.now) (g.C.Clock.gives c.args.site.now.clock.now) (what_of c.args.chore) c.loop.last (view_of c.loop.pass) c.take_turn.new.last (view_of c.take_turn.new.pass) e)
      (ap failed_as c.if-take_turn.false) c.take_turn.ensures.repeats);
}

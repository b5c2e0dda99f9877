use Rattle.std.proofs.Common.{sym, subst}
use Rattle.node_lock.specs.Passes.{view_of, start_of}
use Rattle.node_workers.specs.Deliveries.{Delivers}
use Rattle.node_workers.specs.declared.ended.Ended.{Ended}
use Rattle.node_workers.proofs.LinkTakes.{takes_nothing}
use Rattle.node_workers.proofs.Workings.{delivers_none, delivers_then}
use Rattle.node_workers.proofs.delivering.deliver_all.Goals as goal

pub loop-init : goal.loop-init
loop-init g c = record {
  pass = c.requires;
  delivers =
      delivers_none g.N.Stepper.steps g.N.Stepper.event_of g.N.Stepper.reply_of g.N.Stepper.refuses (start_of c.args.site.now.lock.now) (g.C.Clock.gives c.args.site.now.clock.now)
      c.args.receivers.now c.args.receivers.now (view_of c.args.pass.now) (takes_nothing c.args.receivers.now);
}

pub returns-in-Err-clause-delivers : goal.returns-in-Err-clause-delivers
returns-in-Err-clause-delivers g c =
    delivers_then g.N.Stepper.steps g.N.Stepper.event_of g.N.Stepper.reply_of g.N.Stepper.refuses (start_of c.args.site.now.lock.now) (g.C.Clock.gives c.args.site.now.clock.now)
    c.args.receivers.now c.loop.receivers c.take_round.new.receivers (view_of c.args.pass.now) (view_of c.loop.pass) (view_of c.take_round.new.pass) _
    c.loop.invariant.delivers c.in-Err.ensures.delivers

pub loop-preserved-in-Ok-true : goal.loop-preserved-in-Ok-true
loop-preserved-in-Ok-true g c = record {
  pass = c.take_round.ensures.lock;
  delivers =
      delivers_then g.N.Stepper.steps g.N.Stepper.event_of g.N.Stepper.reply_of g.N.Stepper.refuses (start_of c.args.site.now.lock.now) (g.C.Clock.gives c.args.site.now.clock.now)
      c.args.receivers.now c.loop.receivers c.take_round.new.receivers (view_of c.args.pass.now) (view_of c.loop.pass) (view_of c.take_round.new.pass) _
      c.loop.invariant.delivers c.in-Ok-true.ensures.delivers;
}

pub returns-then-is_stopping-clause-delivers : goal.returns-then-is_stopping-clause-delivers
returns-then-is_stopping-clause-delivers g c =
    subst (λ (e : Ended). Delivers g.N.Stepper.steps g.N.Stepper.event_of g.N.Stepper.reply_of g.N.Stepper.refuses (start_of c.args.site.now.lock.now) (g.C.Clock.gives c.args.site.now.clock.now) c.args.receivers.now (view_of c.args.pass.now) c.take_round.new.receivers (view_of c.take_round.new.pass) e) (sym c.well.ensures)
    (delivers_then g.N.Stepper.steps g.N.Stepper.event_of g.N.Stepper.reply_of g.N.Stepper.refuses (start_of c.args.site.now.lock.now) (g.C.Clock.gives c.args.site.now.clock.now)
    c.args.receivers.now c.loop.receivers c.take_round.new.receivers (view_of c.args.pass.now) (view_of c.loop.pass) (view_of c.take_round.new.pass) _
    c.loop.invariant.delivers c.in-Ok-false.ensures.delivers)

pub loop-preserved : goal.loop-preserved
loop-preserved g c = record {
  pass = c.take_round.ensures.lock;
  delivers =
      delivers_then g.N.Stepper.steps g.N.Stepper.event_of g.N.Stepper.reply_of g.N.Stepper.refuses (start_of c.args.site.now.lock.now) (g.C.Clock.gives c.args.site.now.clock.now)
      c.args.receivers.now c.loop.receivers c.take_round.new.receivers (view_of c.args.pass.now) (view_of c.loop.pass) (view_of c.take_round.new.pass) _
      c.loop.invariant.delivers c.in-Ok-false.ensures.delivers;
}

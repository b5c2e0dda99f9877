use Rattle.std.proofs.Common.{refl, arith}
use Rattle.node_lock.specs.Passes.{view_of, start_of}
use Rattle.served_jobs.specs.Visits.{IsVisit}
use Rattle.served_jobs.proofs.DoorLaws.{pass_stays, same_pass_then, serves_none, serves_then, serves_failed}
use Rattle.served_jobs.proofs.connections.serve_door.Goals as goal

pub loop-init : goal.loop-init
loop-init g c = record {
  lock = c.requires;
  pass = pass_stays (view_of c.args.pass);
  serves =
      serves_none
      (IsVisit g.N.Stepper.steps g.N.Stepper.event_of g.N.Stepper.reply_of g.N.Stepper.refuses (start_of c.args.site.now.lock.now) (g.C.Clock.gives c.args.site.now.clock.now) c.args.site.now.schema.now g.D.Link.Link.remaining g.D.Link.Link.written g.D.Link.Link.faults)
      g.D.Door.given g.D.Door.returned g.D.Door.faults c.args.door.now c.args.door.now (view_of c.args.pass) refl refl (omega arith);
}

pub returns-then-failed-clause-serves : goal.returns-then-failed-clause-serves
returns-then-failed-clause-serves g c =
    serves_failed
    (IsVisit g.N.Stepper.steps g.N.Stepper.event_of g.N.Stepper.reply_of g.N.Stepper.refuses (start_of c.args.site.now.lock.now) (g.C.Clock.gives c.args.site.now.clock.now) c.args.site.now.schema.now g.D.Link.Link.remaining g.D.Link.Link.written g.D.Link.Link.faults)
    g.D.Door.given g.D.Door.returned g.D.Door.faults c.args.door.now c.loop.door c.take_turn-later.new.door (view_of c.args.pass) (view_of c.loop.pass) (view_of c.take_turn-later.result.0)
    c.take_turn-later.result.1 c.if-failed.true c.loop.invariant.serves c.take_turn-later.ensures.serves

pub loop-preserved : goal.loop-preserved
loop-preserved g c = record {
  lock = c.take_turn-later.ensures.lock;
  pass = same_pass_then (view_of c.args.pass) (view_of c.loop.pass) (view_of c.take_turn-later.result.0) c.loop.invariant.pass c.take_turn-later.ensures.pass;
  serves =
      serves_then
      (IsVisit g.N.Stepper.steps g.N.Stepper.event_of g.N.Stepper.reply_of g.N.Stepper.refuses (start_of c.args.site.now.lock.now) (g.C.Clock.gives c.args.site.now.clock.now) c.args.site.now.schema.now g.D.Link.Link.remaining g.D.Link.Link.written g.D.Link.Link.faults)
      g.D.Door.given g.D.Door.returned g.D.Door.faults c.args.door.now c.loop.door c.take_turn-later.new.door (view_of c.args.pass) (view_of c.loop.pass) (view_of c.take_turn-later.result.0)
      c.loop.invariant.serves c.take_turn-later.ensures.serves.serves;
}

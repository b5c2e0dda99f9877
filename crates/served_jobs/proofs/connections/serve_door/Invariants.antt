use Rattle.node_lock.specs.Passes.{IsPassOf, view_of, start_of}
use Rattle.node_lock.specs.Stepped.{IsSamePass}
use Rattle.served_jobs.specs.Doorways.{ServesDoor}
use Rattle.served_jobs.specs.Visits.{IsVisit}
use Rattle.served_jobs.proofs.connections.serve_door.Given as goal

abbrev pub invariant-loop : goal.invariant-loop
invariant-loop g l = record {
  lock : IsPassOf l.site.lock.now l.pass;
  pass : IsSamePass (view_of l.fn.pass) (view_of l.pass);
  serves :
      ServesDoor (IsVisit g.N.Stepper.steps g.N.Stepper.event_of g.N.Stepper.reply_of g.N.Stepper.refuses (start_of l.site.lock.now) (g.C.Clock.gives l.site.clock.now) l.site.schema.now g.D.Link.Link.remaining g.D.Link.Link.written g.D.Link.Link.faults)
      g.D.Door.given g.D.Door.returned g.D.Door.faults l.fn.door (view_of l.fn.pass) l.door (view_of l.pass);
}

use Rattle.node_lock.specs.Passes.{view_of, start_of}
use Rattle.served_jobs.specs.Visits.{IsVisit, visit}
use Rattle.served_jobs.proofs.DoorLaws.{nobody_came, one_came, door_failed}
use Rattle.served_jobs.proofs.connections.take_turn.Goals as goal

pub returns-in-Ok-Some-clause-serves : goal.returns-in-Ok-Some-clause-serves
returns-in-Ok-Some-clause-serves g c =
    let v = c.serve_link.ensures.visits in
    one_came
    (IsVisit g.N.Stepper.steps g.N.Stepper.event_of g.N.Stepper.reply_of g.N.Stepper.refuses (start_of c.args.site.now.lock.now) (g.C.Clock.gives c.args.site.now.clock.now) c.args.site.now.schema.now g.D.Link.Link.remaining g.D.Link.Link.written g.D.Link.Link.faults)
    g.D.Door.given g.D.Door.returned g.D.Door.faults c.in-Ok-Some.field-0 c.in-Ok-Some.link c.args.door.now c.next.new.self c.serve_link.new.door (view_of c.args.pass) (view_of c.serve_link.result)
    (visit c.in-Ok-Some.link v.0 v.1.calls v.1.raised v.1.end) c.in-Ok-Some.field-0-is c.in-Ok-Some.ensures.given c.in-Ok-Some.ensures.returned c.in-Ok-Some.ensures.counted
    v.1.is_visit v.2 c.serve_link.ensures.given c.serve_link.ensures.faults

pub returns-in-Ok-None-clause-serves : goal.returns-in-Ok-None-clause-serves
returns-in-Ok-None-clause-serves g c =
    nobody_came
    (IsVisit g.N.Stepper.steps g.N.Stepper.event_of g.N.Stepper.reply_of g.N.Stepper.refuses (start_of c.args.site.now.lock.now) (g.C.Clock.gives c.args.site.now.clock.now) c.args.site.now.schema.now g.D.Link.Link.remaining g.D.Link.Link.written g.D.Link.Link.faults)
    g.D.Door.given g.D.Door.returned g.D.Door.faults c.in-Ok-None.field-0 c.args.door.now c.next.new.self (view_of c.args.pass)
    c.in-Ok-None.field-0-is c.in-Ok-None.ensures.given c.in-Ok-None.ensures.returned c.in-Ok-None.ensures.counted

pub returns-in-Err-clause-serves : goal.returns-in-Err-clause-serves
returns-in-Err-clause-serves g c =
    door_failed
    (IsVisit g.N.Stepper.steps g.N.Stepper.event_of g.N.Stepper.reply_of g.N.Stepper.refuses (start_of c.args.site.now.lock.now) (g.C.Clock.gives c.args.site.now.clock.now) c.args.site.now.schema.now g.D.Link.Link.remaining g.D.Link.Link.written g.D.Link.Link.faults)
    g.D.Door.given g.D.Door.returned g.D.Door.faults c.args.door.now c.next.new.self (view_of c.args.pass)
    c.in-Err.ensures.err c.in-Err.ensures.returned c.in-Err.ensures.counted c.in-Err.ensures.failed

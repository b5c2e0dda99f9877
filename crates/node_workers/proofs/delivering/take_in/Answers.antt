use Rattle.std.proofs.Common.{sym, subst}
use Rattle.node_lock.specs.Passes.{view_of, start_of}
use Rattle.node_workers.specs.Deliveries.{Delivers}
use Rattle.node_workers.specs.declared.ended.Ended.{Ended}
use Rattle.node_workers.proofs.Workings.{delivers_none, delivers_one}
use Rattle.node_workers.proofs.delivering.take_in.Goals as goal

pub returns-in-Some-clause-delivers : goal.returns-in-Some-clause-delivers
returns-in-Some-clause-delivers g c =
    subst (λ (e : Ended). Delivers g.N.Stepper.steps g.N.Stepper.event_of g.N.Stepper.reply_of g.N.Stepper.refuses (start_of c.args.site.now.lock.now) (g.C.Clock.gives c.args.site.now.clock.now) c.args.receivers.now (view_of c.args.pass.now) c.take.new.self (view_of c.deliver.new.pass) e) (sym c.go_on.ensures)
    (delivers_one g.N.Stepper.steps g.N.Stepper.event_of g.N.Stepper.reply_of g.N.Stepper.refuses (start_of c.args.site.now.lock.now) (g.C.Clock.gives c.args.site.now.clock.now) c.args.receivers.now c.take.new.self (view_of c.args.pass.now) (view_of c.deliver.new.pass) c.args.place c.in-Some.message c.deliver.result
    c.in-Some.ensures.taken c.requires.place c.deliver.ensures.delivers)

pub returns-in-None-clause-delivers : goal.returns-in-None-clause-delivers
returns-in-None-clause-delivers g c =
    delivers_none g.N.Stepper.steps g.N.Stepper.event_of g.N.Stepper.reply_of g.N.Stepper.refuses (start_of c.args.site.now.lock.now) (g.C.Clock.gives c.args.site.now.clock.now) c.args.receivers.now c.take.new.self (view_of c.args.pass.now) c.in-None.ensures.taken

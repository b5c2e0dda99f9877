use Rattle.std.proofs.Common.{ℕ, ◌<◌, sym, subst, ◌∙◌, map}
use Rattle.std.proofs.lemmas.Result.{err_from_is_err_and}
use Rattle.node_lock.specs.Passes.{view_of, start_of}
use Rattle.node_workers.specs.Deliveries.{taken_in}
use Rattle.node_workers.proofs.LinkTakes.{takes_nothing, takes-length}
use Rattle.node_workers.proofs.Workings.{delivers_none, delivers_then}
use Rattle.node_workers.proofs.delivering.take_round.Goals as goal

pub loop-place-init : goal.loop-place-init
loop-place-init g c = record {
  pass = c.requires.pass;
  places = c.len-place-end.ensures;
  delivers =
      delivers_none g.N.Stepper.steps g.N.Stepper.event_of g.N.Stepper.reply_of g.N.Stepper.refuses (start_of c.args.site.now.lock.now) (g.C.Clock.gives c.args.site.now.clock.now)
      c.args.receivers.now c.args.receivers.now (view_of c.args.pass.now) (takes_nothing c.args.receivers.now);
}

pub take_in-requires-clause-place : goal.take_in-requires-clause-place
take_in-requires-clause-place g c =
    subst (λ (n : ℕ). c.loop-place.place < n)
    (c.loop-place.invariant.places
    ∙ sym (takes-length 0 c.args.receivers.now c.loop-place.receivers (map taken_in c.loop-place.invariant.delivers.deliveries) c.loop-place.invariant.delivers.links))
    c.loop-place-test.true

pub returns-in_err-take_in-clause-delivers : goal.returns-in_err-take_in-clause-delivers
returns-in_err-take_in-clause-delivers g c =
    let p = err_from_is_err_and c.from_residual.result c.from_residual.ensures.1 in
    rw (p.1, p.2)
    (delivers_then g.N.Stepper.steps g.N.Stepper.event_of g.N.Stepper.reply_of g.N.Stepper.refuses (start_of c.args.site.now.lock.now) (g.C.Clock.gives c.args.site.now.clock.now)
    c.args.receivers.now c.loop-place.receivers c.take_in.new.receivers (view_of c.args.pass.now) (view_of c.loop-place.pass) (view_of c.take_in.new.pass) c.in_err-take_in.field-0.0
    c.loop-place.invariant.delivers c.in_err-take_in.ensures.delivers)

pub loop-place-preserved : goal.loop-place-preserved
loop-place-preserved g c = record {
  pass = c.take_in.ensures.lock;
  places = c.loop-place.invariant.places;
  delivers =
      delivers_then g.N.Stepper.steps g.N.Stepper.event_of g.N.Stepper.reply_of g.N.Stepper.refuses (start_of c.args.site.now.lock.now) (g.C.Clock.gives c.args.site.now.clock.now)
      c.args.receivers.now c.loop-place.receivers c.take_in.new.receivers (view_of c.args.pass.now) (view_of c.loop-place.pass) (view_of c.take_in.new.pass) _
      c.loop-place.invariant.delivers c.in_ok-take_in.ensures.delivers;
}

use Rattle.std.proofs.Common.{◌≡◌, ◌∙◌, []}
use Rattle.std.specs.Vec.Iter.{into_iter_items, into_iter_len}
use Rattle.list_replica.proofs.Gathering.{split_more, nothing_left, all_taken}
use Rattle.list_replica.proofs.Leaving.{left_none, left_more, without_from, among_all}
use Rattle.list_replica.proofs.removing.without.Goals as goal

pub loop-arrived-init : goal.loop-arrived-init
loop-arrived-init c = record { split = c.into_iter-arrived-iterator.ensures.into_iter_gives.0 ∙ c.in_ok-arrived-items.ensures; left = left_none c.new-rest.result.stored c.new-rest.ensures.stored }

pub loop-arrived-preserved : goal.loop-arrived-preserved
loop-arrived-preserved c = record {
  split = split_more _ c.loop-arrived.yielded (into_iter_items c.loop-arrived.arrived-iterator) (into_iter_items c.next.new.self) c.in-Some.arrived c.loop-arrived.invariant.split c.in-Some.ensures.steps.0;
  left = left_more c.args.content.now.stored c.loop-arrived.yielded c.loop-arrived.rest.stored c.add.new.rest.stored c.in-Some.arrived (record { ordered = c.encoded_length.ensures.settled.ordered; apart = c.encoded_length.ensures.settled.apart })
      (among_all c.args.held.now c.args.content.now.stored c.loop-arrived.yielded (into_iter_items c.loop-arrived.arrived-iterator) (into_iter_items c.next.new.self) c.in-Some.arrived c.loop-arrived.invariant.split c.in-Some.ensures.steps.0) c.loop-arrived.invariant.left c.in_ok-add.ensures;
}

pub returns : goal.returns
returns c =
    let none : into_iter_items c.loop-arrived.arrived-iterator ≡ [] = nothing_left (into_iter_items c.loop-arrived.arrived-iterator) (into_iter_len c.loop-arrived.arrived-iterator) c.loop-arrived.arrived-iterator.rest.ok.0 c.in-None.ensures.steps.0 in
    without_from c.args.held.now c.args.content.now.stored c.loop-arrived.yielded c.loop-arrived.rest.stored (all_taken _ c.loop-arrived.yielded (into_iter_items c.loop-arrived.arrived-iterator) c.loop-arrived.invariant.split none) c.loop-arrived.invariant.left

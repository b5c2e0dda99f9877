use Rattle.std.proofs.Common.{ap}
use Rattle.partition_content.proofs.ReadLemmas.{copies_start, copies_more, copies_end}
use Rattle.partition_content.proofs.SliceLemmas.{order_start, order_more, order_end}
use Rattle.partition_content.specs.Slots.{helds_in, held_in}
use Rattle.partition_content.proofs.reading.copy_met.Goals as goal

pub loop-slot-init : goal.loop-slot-init
loop-slot-init c = record {
  met = copies_start c.args.onto.now.items (helds_in c.args.walk) (helds_in c.into_iter-slot-iterator.result) c.args.from.now c.args.upto.now (ap helds_in c.into_iter-slot-iterator.ensures.into_iter_gives);
  ordered = order_start c.args.onto.now.items (helds_in c.args.walk) (helds_in c.into_iter-slot-iterator.result) (ap helds_in c.into_iter-slot-iterator.ensures.into_iter_gives);
}

pub loop-slot-preserved : goal.loop-slot-preserved
loop-slot-preserved c = record {
  met = copies_more c.args.onto.now.items c.loop-slot.onto.items c.copy_if_met.new.onto.items (helds_in c.args.walk) (helds_in c.loop-slot.slot-iterator) (helds_in c.next.new.self) c.in-Some.field-0-0.now (held_in c.in-Some.slot.now) c.args.from.now c.args.upto.now
      (ap helds_in c.in-Some.ensures.steps) c.loop-slot.invariant.met c.in_ok-copy_if_met.ensures.met;
  ordered = order_more c.args.onto.now.items c.loop-slot.onto.items c.copy_if_met.new.onto.items (helds_in c.args.walk) (helds_in c.loop-slot.slot-iterator) (helds_in c.next.new.self) c.in-Some.field-0-0.now (held_in c.in-Some.slot.now)
      (ap helds_in c.in-Some.ensures.steps) c.loop-slot.invariant.ordered c.in_ok-copy_if_met.ensures.added;
}

pub returns-clause-met : goal.returns-clause-met
returns-clause-met c = copies_end c.args.onto.now.items c.loop-slot.onto.items (helds_in c.args.walk) (helds_in c.loop-slot.slot-iterator) c.args.from.now c.args.upto.now (ap helds_in c.in-None.ensures.steps.0) c.loop-slot.invariant.met

pub returns-clause-ordered : goal.returns-clause-ordered
returns-clause-ordered c = order_end c.args.onto.now.items c.loop-slot.onto.items (helds_in c.args.walk) (helds_in c.loop-slot.slot-iterator) (ap helds_in c.in-None.ensures.steps.0) c.loop-slot.invariant.ordered

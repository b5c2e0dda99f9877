use Rattle.std.proofs.Common.{◌≡◌, ◌∙◌, ap, subst, List, Contains}
use Rattle.std.specs.List.Sorted.{IsStrictlySortedBy}
use Rattle.partition_content.specs.declared.spots.Spot.{Spot}
use Rattle.partition_content.specs.Spots.{spot_cmp}
use Rattle.partition_content.specs.Reading.{wide_of}
use Rattle.partition_content.proofs.ReachLemmas.{passed_start, among_start, passed_more, passed_over, passed_all, among_less, none_wide}
use Rattle.partition_content.specs.Slots.{helds_in, helds_of, held_in}
use Rattle.partition_content.proofs.HeldLemmas.{helds-keys}
use Rattle.partition_content.proofs.taking.is_outranked_by_wide.Goals as goal

pub loop-slot-init : goal.loop-slot-init
loop-slot-init c =
    let e : helds_in c.into_iter-slot-iterator.result ≡ wide_of (helds_in c.args.slots.now.entries) = ap helds_in c.into_iter-slot-iterator.ensures.into_iter_gives ∙ c.before_rows-slot-items.ensures in
    record { passed = passed_start c.args.x.now (helds_in c.args.slots.now.entries) (helds_in c.into_iter-slot-iterator.result) e; among = among_start (helds_in c.args.slots.now.entries) (helds_in c.into_iter-slot-iterator.result) e }

pub loop-slot-preserved : goal.loop-slot-preserved
loop-slot-preserved c = record {
  passed = passed_more c.args.x.now (wide_of (helds_in c.args.slots.now.entries)) (helds_in c.loop-slot.slot-iterator) (helds_in c.next.new.self) c.in-Some.field-0-0.now (held_in c.in-Some.slot.now) c.is_outranked_in.result (ap helds_in c.in-Some.ensures.steps) c.loop-slot.invariant.passed
      c.is_outranked_in.ensures c.if-is_outranked_in.false;
  among = among_less (helds_in c.args.slots.now.entries) (helds_in c.loop-slot.slot-iterator) (helds_in c.next.new.self) c.in-Some.field-0-0.now (held_in c.in-Some.slot.now) (ap helds_in c.in-Some.ensures.steps) c.loop-slot.invariant.among;
}

pub returns-then-is_outranked_in-clause-told : goal.returns-then-is_outranked_in-clause-told
returns-then-is_outranked_in-clause-told c =
    λ t. passed_over (helds_in c.args.slots.now.entries) (helds_in c.loop-slot.slot-iterator) (helds_in c.next.new.self) c.in-Some.field-0-0.now (held_in c.in-Some.slot.now) c.args.x.now (ap helds_in c.in-Some.ensures.steps) c.loop-slot.invariant.among
    (c.is_outranked_in.ensures.0 c.if-is_outranked_in.true)

pub returns-clause-missed : goal.returns-clause-missed
returns-clause-missed c = λ f. passed_all (helds_in c.args.slots.now.entries) (helds_in c.loop-slot.slot-iterator) c.args.x.now c.requires.filed (ap helds_in c.in-None.ensures.steps.0) c.loop-slot.invariant.passed

pub returns-then-not-begins_wide-clause-missed : goal.returns-then-not-begins_wide-clause-missed
returns-then-not-begins_wide-clause-missed c = λ f. none_wide (helds_of c.args.slots.now) c.args.x.now c.requires.filed
    (λ s h. c.begins_wide.ensures c.if-not-begins_wide.true s (subst (λ (l : List Spot). Contains l s) (helds-keys c.args.slots.now.entries) h))

pub begins_wide-requires : goal.begins_wide-requires
begins_wide-requires c = subst (IsStrictlySortedBy spot_cmp) (helds-keys c.args.slots.now.entries) c.requires.sorted

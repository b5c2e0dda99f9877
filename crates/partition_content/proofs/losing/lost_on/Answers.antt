use Rattle.std.proofs.Common.{arith, ap, List, Option}
use Rattle.std.specs.List.{sum_by}
use Rattle.changes.specs.declared.Held.{Held}
use Rattle.changes.specs.Lengths.{held_length}
use Rattle.partition_content.specs.declared.spots.Spot.{Spot}
use Rattle.partition_content.specs.Slots.{changes_of, helds_in, held_in, IsNewlyOutranked}
use Rattle.partition_content.proofs.ClearLemmas.{lost_start, lost_step, lost_done, sum_front, lost_one}
use Rattle.partition_content.proofs.losing.lost_on.Goals as goal

pub loop-slot-init : goal.loop-slot-init
loop-slot-init c =
    let e = (ap helds_in c.into_iter-slot-iterator.ensures.into_iter_gives) in
    let sum = ap (λ (l : List (Spot × Option Held)). sum_by held_length (changes_of l)) e in
    record { lost = lost_start (IsNewlyOutranked c.args.others.now c.args.x.now) (helds_in c.args.walk) (helds_in c.into_iter-slot-iterator.result) e; most = omega (arith, sum) }

pub lost_with-lost-requires : goal.lost_with-lost-requires
lost_with-lost-requires c =
    let front = sum_front (helds_in c.loop-slot.slot-iterator) (helds_in c.next.new.self) c.in-Some.field-0-0.now (held_in c.in-Some.slot.now) (ap helds_in c.in-Some.ensures.steps) in
    let most = c.loop-slot.invariant.most in
    let fits = c.requires in omega (arith, front, most, fits)

pub loop-slot-preserved : goal.loop-slot-preserved
loop-slot-preserved c =
    let front = sum_front (helds_in c.loop-slot.slot-iterator) (helds_in c.next.new.self) c.in-Some.field-0-0.now (held_in c.in-Some.slot.now) (ap helds_in c.in-Some.ensures.steps) in
    let most = c.loop-slot.invariant.most in
    let one = lost_one (IsNewlyOutranked c.args.others.now c.args.x.now) (held_in c.in-Some.slot.now) c.loop-slot.lost c.lost_with-lost.result c.lost_with-lost.ensures in
    record {
      lost = lost_step (IsNewlyOutranked c.args.others.now c.args.x.now) (helds_in c.args.walk) (helds_in c.loop-slot.slot-iterator) (helds_in c.next.new.self) c.in-Some.field-0-0.now (held_in c.in-Some.slot.now) c.loop-slot.lost c.lost_with-lost.result (ap helds_in c.in-Some.ensures.steps) c.loop-slot.invariant.lost c.lost_with-lost.ensures;
      most = omega (arith, front, most, one);
    }

pub returns : goal.returns
returns c = lost_done (IsNewlyOutranked c.args.others.now c.args.x.now) (helds_in c.args.walk) (helds_in c.loop-slot.slot-iterator) c.loop-slot.lost (ap helds_in c.in-None.ensures.steps.0) c.loop-slot.invariant.lost

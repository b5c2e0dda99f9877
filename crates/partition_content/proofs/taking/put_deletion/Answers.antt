use Rattle.std.proofs.Common.{◌∙◌, ap, sym, subst, arith, inl, [], Some}
use Rattle.partition_content.specs.declared.spots.Spot.{Spot}
use Rattle.partition_content.specs.Spots.{spot_cmp}
use Rattle.partition_content.specs.Slots.{IsNewlyOutranked, change_in, IsReachedAt, helds_in, helds_of, slot_at}
use Rattle.std.proofs.lemmas.Bool.{both_ways}
use Rattle.std.specs.BTreeMap.{is_at}
use Rattle.partition_content.proofs.HeldLemmas.{slot_there, helds-set_value}
use Rattle.partition_content.proofs.ArrivalLemmas.{comes_after}
use Rattle.partition_content.proofs.ReachLemmas.{reached_own}
use Rattle.partition_content.proofs.ContentLemmas.{put_room, is_put, lost_most, not_taken, put_taken, IsPut}
use Rattle.partition_content.proofs.RowLemmas.{key_at}
use Rattle.partition_content.proofs.LossLemmas.{lost_alone}
use Rattle.partition_content.proofs.taking.put_deletion.Goals as goal

pub put_at-requires : goal.put_at-requires
put_at-requires c =
    slot_there (is_at (spot_cmp c.args.own.now.at)) c.clear.new.slots.entries
    (put_room (helds_of c.args.slots.now) (helds_of c.clear.new.slots) c.args.x c.args.own.now.at (key_at c.args.own.now c.args.x.place c.requires.keys) c.requires.slot c.clear.ensures.keys)

pub returns-then-is_reached_at-clause-comes : goal.returns-then-is_reached_at-clause-comes
returns-then-is_reached_at-clause-comes c = λ a h. inl h

pub returns-then-is_reached_at-clause-taken : goal.returns-then-is_reached_at-clause-taken
returns-then-is_reached_at-clause-taken c =
    not_taken (helds_of c.args.slots.now) c.args.x c.args.length c.requires.good c.requires.length
    (reached_own (helds_of c.args.slots.now) c.args.x c.requires.good (subst (λ (s : Spot). IsReachedAt (change_in (slot_at (helds_of c.args.slots.now) s)) c.args.x) (key_at c.args.own.now c.args.x.place c.requires.keys) (c.is_reached_at.ensures.0 c.if-is_reached_at.true)))

pub returns-clause-taken : goal.returns-clause-taken
returns-clause-taken c =
    let lost = c.lost_alone-lost.ensures in
    let p : IsPut (helds_of c.args.slots.now) (helds_of c.clear.new.slots) (helds_of c.put_at.new.slots) c.args.x =
    is_put (helds_of c.args.slots.now) (helds_of c.clear.new.slots) (helds_of c.put_at.new.slots) c.args.x c.args.own.now.at c.is_reached_at.result c.requires.good (key_at c.args.own.now c.args.x.place c.requires.keys) c.requires.slot c.requires.reached c.is_reached_at.ensures c.if-is_reached_at.false
    c.clear.ensures.cleared c.clear.ensures.keys (ap helds_in c.put_at.ensures.entries ∙ helds-set_value (is_at (spot_cmp c.args.own.now.at)) c.clear.new.slots.entries (Some (record { held = c.args.x; arrival = c.args.time }))) in
    let most = lost_most (IsNewlyOutranked [] c.args.x) (helds_in c.args.slots.now.entries) c.lost_alone-lost.result lost in
    let gained = c.encoded_length-gained.ensures in
    let length = c.requires.length in
    let fits = c.requires.fits in
    put_taken (helds_of c.args.slots.now) (helds_of c.clear.new.slots) (helds_of c.put_at.new.slots) c.args.x c.args.length _ c.lost_alone-lost.result p c.requires.length (lost_alone c.args.x (helds_in c.args.slots.now.entries) c.lost_alone-lost.result lost) (omega (arith, most, gained, length, fits))

pub returns-clause-comes : goal.returns-clause-comes
returns-clause-comes c =
    let here = key_at c.args.own.now c.args.x.place c.requires.keys in
    comes_after c.args.time c.args.x (is_at (spot_cmp c.args.own.now.at)) c.args.slots.now.entries c.clear.new.slots.entries c.put_at.new.slots.entries
    (λ r. both_ways c.is_reached_at.result c.if-is_reached_at.false (c.is_reached_at.ensures.1 (subst (λ (s : Spot). IsReachedAt (change_in (slot_at (helds_of c.args.slots.now) s)) c.args.x) (sym here) (c.requires.reached r))))
    c.clear.ensures.left c.put_at.ensures.entries

pub overflow_sub-result : goal.overflow_sub-result
overflow_sub-result c =
    let lost = c.lost_alone-lost.ensures in
    let most = lost_most (IsNewlyOutranked [] c.args.x) (helds_in c.args.slots.now.entries) c.lost_alone-lost.result lost in
    let length = c.requires.length in omega (arith, most, length)

pub clear-requires-clause-at : goal.clear-requires-clause-at
clear-requires-clause-at c = key_at c.args.own.now c.args.x.place c.requires.keys

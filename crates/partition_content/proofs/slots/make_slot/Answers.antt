use Rattle.std.proofs.Common.{inl, inr, ap, ◌∙◌, sym, subst, List, Contains}
use Rattle.std.specs.List.Sorted.{IsStrictlySortedBy}
use Rattle.std.specs.Map.{keys_of}
use Rattle.partition_content.specs.declared.Arrived.{Arrived}
use Rattle.std.proofs.Common.{Option}
use Rattle.partition_content.specs.declared.spots.Spot.{Spot}
use Rattle.partition_content.specs.declared.spots.Spot.TheVariants.{At}
use Rattle.partition_content.specs.Spots.{spot_cmp}
use Rattle.partition_content.specs.Slots.{stored_of, helds_in, AreFiled}
use Rattle.partition_content.proofs.HeldLemmas.{helds-keys, helds-insert_entry}
use Rattle.partition_content.proofs.OrderLemmas.{made, inserted_key, inserted_others, inserted_stored, inserted_filed}
use Rattle.partition_content.proofs.slots.make_slot.Goals as goal

pub returns-in_err-make_at-clause-filed : goal.returns-in_err-make_at-clause-filed
returns-in_err-make_at-clause-filed c = λ h. subst AreFiled (ap helds_in (sym c.in_err-make_at.ensures.kept)) h

pub returns-clause-stored : goal.returns-clause-stored
returns-clause-stored c =
    let old = c.args.slots.now.entries in
    let key = c.in_ok-of_place.field-0 in
    elim (made old c.make_at.new.slots.entries key c.make_at.ensures.was c.in_ok-make_at.ensures.made) [
      | inl (same, there) ↦ ap stored_of same
      | inr (none, is) ↦ ap stored_of is ∙ inserted_stored old key none
    ]

pub returns-clause-there : goal.returns-clause-there
returns-clause-there c =
    let old = c.args.slots.now.entries in
    let key = c.in_ok-of_place.field-0 in
    elim (made old c.make_at.new.slots.entries key c.make_at.ensures.was c.in_ok-make_at.ensures.made) [
      | inl (same, there) ↦ subst (λ (l : List Spot). Contains l (At c.args.place.now)) (sym (ap (λ (l : List (Spot × Option Arrived)). keys_of (helds_in l)) same ∙ helds-keys old)) (subst (Contains (keys_of old)) c.in_ok-of_place.ensures there)
      | inr (none, is) ↦ inserted_key (helds_in old) (helds_in c.make_at.new.slots.entries) key (At c.args.place.now) (ap helds_in is ∙ helds-insert_entry old key) c.in_ok-of_place.ensures
    ]

pub returns-clause-others : goal.returns-clause-others
returns-clause-others c =
    let old = c.args.slots.now.entries in
    let key = c.in_ok-of_place.field-0 in
    elim (made old c.make_at.new.slots.entries key c.make_at.ensures.was c.in_ok-make_at.ensures.made) [
      | inl (same, there) ↦ λ spot h. subst (λ (l : List Spot). Contains l spot) (sym (ap (λ (l : List (Spot × Option Arrived)). keys_of (helds_in l)) same)) h
      | inr (none, is) ↦ λ spot h. inserted_others (helds_in old) (helds_in c.make_at.new.slots.entries) key spot (ap helds_in is ∙ helds-insert_entry old key) h
    ]

pub returns-clause-filed : goal.returns-clause-filed
returns-clause-filed c =
    let old = c.args.slots.now.entries in
    let key = c.in_ok-of_place.field-0 in
    elim (made old c.make_at.new.slots.entries key c.make_at.ensures.was c.in_ok-make_at.ensures.made) [
      | inl (same, there) ↦ λ h. subst AreFiled (ap helds_in (sym same)) h
      | inr (none, is) ↦ inserted_filed (helds_in old) (helds_in c.make_at.new.slots.entries) key (ap helds_in is ∙ helds-insert_entry old key)
    ]

pub returns-clause-sorted : goal.returns-clause-sorted
returns-clause-sorted c = λ h. subst (IsStrictlySortedBy spot_cmp) (sym (helds-keys c.make_at.new.slots.entries)) c.in_ok-make_at.ensures.ordered

-- The tests of what can be written are those of its form.
use Rattle.std.proofs.Common.{◌≡◌, ℕ, ◌↔◌, Bool, true, Option, Some, None, List, [], ◌∷◌, refl}
use Rattle.std.specs.Prelude.{◌&&◌, IsTrue}
use Rattle.std.specs.List.{list_all, AllByRecursion}
use Rattle.std.specs.List.Sorted.{IsStrictlySortedBy}
use Rattle.std.specs.Ordering.{is_lt}
use Rattle.std.specs.declared.cmp.Ordering.{Ordering}
use Rattle.std.specs.declared.cmp.Ordering.TheVariants.{Less, Equal, Greater}
use Rattle.std.proofs.lemmas.Bool.{and_parts, and_from, ltb-true, lt-ltb}
use Rattle.changes.specs.declared.Held.{Held}
use Rattle.changes.specs.declared.Place.{Place}
use Rattle.changes.specs.declared.Place.TheVariants.{Cell, Marker, RowGone, RangeGone, PartGone}
use Rattle.changes.specs.Places.{stored_cmp, AreInOrder}
use Rattle.stored_fields.specs.Spelling.{FitsField}
use Rattle.stored_changes.specs.Spelling.{PlaceFits, CellFits, ValueFits, ChangeFits}
use Rattle.node_steps.specs.Fitting.{is_short, place_fits, is_short_or_none, is_empty, is_none, value_fits, change_fits, are_in_order, changes_fit}
use Rattle.node_steps.specs.Laws.{ChangesAreTested, MutationsAreTested}

-- a test and what it tests
abbrev Tests : Bool → Type 0 → Type 0
Tests b P = IsTrue b ↔ P

both : (a b : Bool) (P Q : Type 0) → Tests a P → Tests b Q → Tests (a && b) (P × Q)
both a b P Q p q = (λ h. let parts = and_parts a b h in (p.0 parts.0, q.0 parts.1), λ h. and_from a b (p.1 h.0) (q.1 h.1))

passed : Tests true (Unit {0})
passed = (λ h. tt, λ h. refl)

short : (bytes : List ℕ) → Tests (is_short bytes) (FitsField bytes)
short bytes = (λ h. ltb-true _ _ h, λ h. lt-ltb _ _ h)

place_tested : (p : Place) → Tests (place_fits p) (PlaceFits p)
place_tested (Cell row column) = short row
place_tested (Marker row) = short row
place_tested (RowGone row) = short row
place_tested (RangeGone from upto) = both (is_short from.at) (is_short upto.at) _ _ (short from.at) (short upto.at)
place_tested PartGone = passed

cell_tested : (v : Option (List ℕ)) → Tests (is_short_or_none v) (CellFits v)
cell_tested None = passed
cell_tested (Some bytes) = short bytes

empty_tested : (v : Option (List ℕ)) → Tests (is_empty v) (v ≡ Some [])
empty_tested None = (λ h. cc, λ h. cc)
empty_tested (Some []) = (λ h. refl, λ h. refl)
empty_tested (Some (b ∷ bytes)) = (λ h. cc, λ h. cc)

none_tested : (v : Option (List ℕ)) → Tests (is_none v) (v ≡ None)
none_tested None = (λ h. refl, λ h. refl)
none_tested (Some bytes) = (λ h. cc, λ h. cc)

value_tested : (p : Place) (v : Option (List ℕ)) → Tests (value_fits p v) (ValueFits p v)
value_tested (Cell row column) v = cell_tested v
value_tested (Marker row) v = empty_tested v
value_tested (RowGone row) v = none_tested v
value_tested (RangeGone from upto) v = none_tested v
value_tested PartGone v = none_tested v

change_tested : (x : Held) → Tests (change_fits x) (ChangeFits x)
change_tested x =
    let t = both (place_fits x.place) (value_fits x.place x.value) _ _ (place_tested x.place) (value_tested x.place x.value) in
    (λ h. record { place = (t.0 h).0; value = (t.0 h).1 }, λ h. t.1 (h.place, h.value))

all_tested : {X : Type 0} (f : X → Bool) (P : X → Type 0) (xs : List X) → ((x : X) → Tests (f x) (P x)) → Tests (list_all f xs) (AllByRecursion P xs)
all_tested f P [] each = passed
all_tested f P (x ∷ xs) each = both (f x) (list_all f xs) _ _ (each x) (all_tested f P xs each)

less_tested : (o : Ordering) → Tests (is_lt o) (o ≡ Less)
less_tested Less = (λ h. refl, λ h. refl)
less_tested Equal = (λ h. cc, λ h. cc)
less_tested Greater = (λ h. cc, λ h. cc)

order_tested : (xs : List Held) → Tests (are_in_order xs) (AreInOrder xs)
unfolding IsStrictlySortedBy
order_tested [] = passed
order_tested (x ∷ xs) = both (list_all (λ y. is_lt (stored_cmp x y)) xs) (are_in_order xs) _ _ (all_tested (λ y. is_lt (stored_cmp x y)) (λ y. stored_cmp x y ≡ Less) xs (λ y. less_tested (stored_cmp x y))) (order_tested xs)

pub changes_tested : ChangesAreTested
changes_tested xs =
    let each = all_tested change_fits ChangeFits xs change_tested in
    let rest = both (list_all change_fits xs) (are_in_order xs) _ _ each (order_tested xs) in (
      λ h. let parts = and_parts _ _ h in let more = rest.0 parts.1 in record { count = ltb-true _ _ parts.0; each = more.0; order = more.1 },
      λ h. and_from _ _ (lt-ltb _ _ h.count) (rest.1 (h.each, h.order)),
    )

pub mutations_tested : MutationsAreTested
mutations_tested m =
    let t = both (is_short m.partition.key) (changes_fit m.changes) _ _ (short m.partition.key) (changes_tested m.changes) in
    (λ h. record { key = (t.0 h).0; changes = (t.0 h).1 }, λ h. t.1 (h.key, h.changes))

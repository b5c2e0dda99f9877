-- A change is put in where nothing that is there is it or outranks it.
use Rattle.std.proofs.Common.{◌≡◌, ℕ, ◌+◌, ◌⊎◌, inl, inr, Bool, true, cond, List, [], ◌∷◌, Option, Some, None, IsSome, Contains, refl, sym, ◌∙◌, ap, subst, arith}
use Rattle.std.specs.Option.{option_to_list}
use Rattle.std.specs.List.{sum_by}
use Rattle.std.specs.List.Sorted.{IsStrictlySortedBy}
use Rattle.std.specs.Map.{lookup, set_value}
use Rattle.std.specs.BTreeMap.{is_at}
use Rattle.std.proofs.lemmas.Bool.{cases_Bool}
use Rattle.std.proofs.lemmas.Cmp.{eq_by_cmp_equiv}
use Rattle.std.proofs.lemmas.List.Sums.{sum_by-cons}
use Rattle.std.proofs.lemmas.Map.Keys.{IsDistinct-from_sorted}
use Rattle.std.proofs.lemmas.Map.Views.{lookup-from_Contains, IsSome-lookup_from_Contains}
use Rattle.changes.specs.declared.Held.{Held}
use Rattle.changes.specs.declared.Place.{Place}
use Rattle.changes.specs.declared.Place.TheVariants.{Cell, Marker, RowGone, RangeGone, PartGone}
use Rattle.changes.specs.Lengths.{held_length}
use Rattle.changes.specs.Order.{Encloses, row_of}
use Rattle.cs_base.proofs.Members.{contains_here, contains_there, contains_cases}
use Rattle.partition_content.specs.declared.spots.Spot.{Spot}
use Rattle.partition_content.specs.declared.spots.Spot.TheVariants.{At}
use Rattle.partition_content.specs.Spots.{spot_cmp}
use Rattle.partition_content.specs.SpotLaws.{spot_total}
use Rattle.partition_content.specs.Slots.{SlotMap, changes_of, change_in, HasSlot, slot_at, spots_in}
use Rattle.partition_content.proofs.SpotLemmas.{spot_found}
use Rattle.partition_content.proofs.SlotLemmas.{sum_changes}

-- ---- look-ups

pub found_at : (p : Place) (es : List (Spot × Option Held)) (v : Option Held) → lookup (is_at (spot_cmp (At p))) es ≡ Some v → Contains es (At p, v)
found_at p [] v h = cc
found_at p (e ∷ es) v h =
    elim (cases_Bool (is_at (spot_cmp (At p)) e.0)) [
      | inl t ↦
          let is : Some e.1 ≡ Some v = sym (ap (λ (b : Bool). cond b (Some e.1) (lookup (is_at (spot_cmp (At p))) es)) t) ∙ h in
          let value : e.1 ≡ v = cc in
          subst (λ (s : Spot). Contains {X = Spot × Option Held} (e ∷ es) (s, v)) (spot_found p e.0 t)
          (subst (λ (w : Option Held). Contains {X = Spot × Option Held} (e ∷ es) (e.0, w)) value (contains_here {X = Spot × Option Held} e es))
      | inr f ↦
          contains_there {X = Spot × Option Held} e es (At p, v) (found_at p es v (sym (ap (λ (b : Bool). cond b (Some e.1) (lookup (is_at (spot_cmp (At p))) es)) f) ∙ h))
    ]

pub held_found : (p : Place) (slots : SlotMap) (y : Held) → change_in (slot_at slots (At p)) ≡ Some y → Contains slots.entries (At p, Some y)
held_found p slots y h = by (slot_at slots (At p)) refl h
  where
    by : (o : Option (Option Held)) → slot_at slots (At p) ≡ o → change_in o ≡ Some y → Contains slots.entries (At p, Some y)
    by None e k = cc
    by (Some v) e k = found_at p slots.entries (Some y) (e ∙ ap (λ (w : Option Held). Some w) k)

pub found_held : (p : Place) (slots : SlotMap) (y : Held) → IsStrictlySortedBy spot_cmp (spots_in slots) → Contains slots.entries (At p, Some y) → change_in (slot_at slots (At p)) ≡ Some y
found_held p slots y sorted h =
    ap change_in (lookup-from_Contains (eq_by_cmp_equiv spot_total) (At p) (Some y) slots.entries (IsDistinct-from_sorted spot_cmp (spots_in slots) sorted) h)

pub slot_found : (p : Place) (slots : SlotMap) → HasSlot slots p → IsSome (slot_at slots (At p))
slot_found p slots h = IsSome-lookup_from_Contains (eq_by_cmp_equiv spot_total) (At p) slots.entries h

-- ---- what may outrank a change

-- a change that outranks another is of its place, is the deletion of its row, or is of no row
pub above_in : (p q : Place) → Encloses p q → (row_of p ≡ None) ⊎ ((r : List ℕ) × (p ≡ RowGone r) × (row_of q ≡ Some r))
above_in (Cell a c) q e = absurd e
above_in (Marker a) q e = absurd e
above_in (RowGone a) (Cell b c) e = inr (a, refl, ap (λ (v : List ℕ). Some v) (sym e))
above_in (RowGone a) (Marker b) e = inr (a, refl, ap (λ (v : List ℕ). Some v) (sym e))
above_in (RowGone a) (RowGone b) e = absurd e
above_in (RowGone a) (RangeGone f u) e = absurd e
above_in (RowGone a) PartGone e = absurd e
above_in (RangeGone f u) q e = inl refl
above_in PartGone q e = inl refl

-- ---- a change put in

pub set_from : (t : Spot → Bool) (es : List (Spot × Option Held)) (w : Option Held) (e : Spot × Option Held) → Contains (set_value t es w) e → Contains es e ⊎ ((e.1 ≡ w) × (t e.0 ≡ true))
set_from t [] w e h = inl h
set_from t (d ∷ es) w e h =
    elim (cases_Bool (t d.0)) [
      | inl y ↦ elim (contains_cases {X = Spot × Option Held} (d.0, w) es e (subst (λ (b : Bool). Contains {X = Spot × Option Held} (cond b ((d.0, w) ∷ es) (d ∷ set_value t es w)) e) y h)) [
        | inl same ↦ inr (sym (ap (λ (p : Spot × Option Held). p.1) same), ap (λ (p : Spot × Option Held). t p.0) (sym same) ∙ y)
        | inr later ↦ inl (contains_there {X = Spot × Option Held} d es e later)
      ]
      | inr n ↦ elim (contains_cases {X = Spot × Option Held} d (set_value t es w) e (subst (λ (b : Bool). Contains {X = Spot × Option Held} (cond b ((d.0, w) ∷ es) (d ∷ set_value t es w)) e) n h)) [
        | inl same ↦ inl (subst (λ (v : Spot × Option Held). Contains {X = Spot × Option Held} (d ∷ es) v) same (contains_here {X = Spot × Option Held} d es))
        | inr later ↦ elim (set_from t es w e later) [ inl old ↦ inl (contains_there {X = Spot × Option Held} d es e old) | inr is ↦ inr is ]
      ]
    ]

pub set_old : (t : Spot → Bool) (es : List (Spot × Option Held)) (w : Option Held) (e : Spot × Option Held) → (t e.0 ≡ true → ⊥) → Contains es e → Contains (set_value t es w) e
set_old t [] w e other h = h
set_old t (d ∷ es) w e other h =
    elim (cases_Bool (t d.0)) [
      | inl y ↦ subst (λ (b : Bool). Contains {X = Spot × Option Held} (cond b ((d.0, w) ∷ es) (d ∷ set_value t es w)) e) (sym y) (elim (contains_cases {X = Spot × Option Held} d es e h) [
        | inl same ↦ absurd (other (ap (λ (p : Spot × Option Held). t p.0) (sym same) ∙ y))
        | inr later ↦ contains_there {X = Spot × Option Held} (d.0, w) es e later
      ])
      | inr n ↦ subst (λ (b : Bool). Contains {X = Spot × Option Held} (cond b ((d.0, w) ∷ es) (d ∷ set_value t es w)) e) (sym n) (elim (contains_cases {X = Spot × Option Held} d es e h) [
        | inl same ↦ subst (λ (v : Spot × Option Held). Contains {X = Spot × Option Held} (d ∷ set_value t es w) v) same (contains_here {X = Spot × Option Held} d (set_value t es w))
        | inr later ↦ contains_there {X = Spot × Option Held} d (set_value t es w) e (set_old t es w e other later)
      ])
    ]

pub set_new : (t : Spot → Bool) (es : List (Spot × Option Held)) (w : Option Held) → IsSome (lookup t es) → (s : Spot) × (t s ≡ true) × Contains (set_value t es w) (s, w)
set_new t [] w some = cc
set_new t (d ∷ es) w some =
    elim (cases_Bool (t d.0)) [
      | inl y ↦ (d.0, y, subst (λ (b : Bool). Contains {X = Spot × Option Held} (cond b ((d.0, w) ∷ es) (d ∷ set_value t es w)) (d.0, w)) (sym y) (contains_here {X = Spot × Option Held} (d.0, w) es))
      | inr n ↦
          let r : (s : Spot) × (t s ≡ true) × Contains (set_value t es w) (s, w) =
          set_new t es w (subst (λ (b : Bool). IsSome (cond b (Some d.1) (lookup t es))) n some) in
          (r.0, r.1, subst (λ (b : Bool). Contains {X = Spot × Option Held} (cond b ((d.0, w) ∷ es) (d ∷ set_value t es w)) (r.0, w)) (sym n) (contains_there {X = Spot × Option Held} d (set_value t es w) (r.0, w) r.2))
    ]

pub set_length : (t : Spot → Bool) (es : List (Spot × Option Held)) (x : Held) → IsSome (lookup t es) → ((s : Spot) (y : Held) → Contains es (s, Some y) → t s ≡ true → ⊥) → sum_by held_length (changes_of (set_value t es (Some x))) ≡ sum_by held_length (changes_of es) + held_length x
set_length t [] x some free = cc
set_length t (d ∷ es) x some free =
    let old = sum_changes d es in
    elim (cases_Bool (t d.0)) [
      | inl y ↦
          let none : d.1 ≡ None = no_change d.1 (λ z is. free d.0 z (subst (λ (v : Option Held). Contains {X = Spot × Option Held} (d ∷ es) (d.0, v)) is (contains_here {X = Spot × Option Held} d es)) y) in
          let new : sum_by held_length (changes_of (set_value t (d ∷ es) (Some x))) ≡ sum_by held_length (changes_of ((d.0, Some x) ∷ es)) =
          ap (λ (b : Bool). sum_by held_length (changes_of (cond b ((d.0, Some x) ∷ es) (d ∷ set_value t es (Some x))))) y in
          let split = sum_changes (d.0, Some x) es in
          let one = sum_by-cons held_length x [] in
          let zero = ap (λ (o : Option Held). sum_by held_length (option_to_list o)) none in
          omega (arith, old, new, split, one, zero)
      | inr n ↦
          let new : sum_by held_length (changes_of (set_value t (d ∷ es) (Some x))) ≡ sum_by held_length (changes_of (d ∷ set_value t es (Some x))) =
          ap (λ (b : Bool). sum_by held_length (changes_of (cond b ((d.0, Some x) ∷ es) (d ∷ set_value t es (Some x))))) n in
          let split = sum_changes d (set_value t es (Some x)) in
          let ih = set_length t es x (subst (λ (b : Bool). IsSome (cond b (Some d.1) (lookup t es))) n some) (λ s z k. free s z (contains_there {X = Spot × Option Held} d es (s, Some z) k)) in
          omega (arith, old, new, split, ih)
    ]
  where
    no_change : (o : Option Held) → ((z : Held) → o ≡ Some z → ⊥) → o ≡ None
    no_change None h = refl
    no_change (Some z) h = absurd (h z refl)

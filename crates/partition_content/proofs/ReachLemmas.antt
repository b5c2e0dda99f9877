-- What reaches a change is found at its place, at the deletion of its row, or before the rows.
use Rattle.std.proofs.Common.{◌≡◌, ◌≢◌, ℕ, ◌⊎◌, ◌↔◌, inl, inr, Bool, true, false, List, [], ◌∷◌, Option, Some, None, IsTrue, Contains, refl, sym, ◌∙◌, ap, subst, not, is_some}
use Rattle.std.specs.declared.cmp.Ordering.{Ordering}
use Rattle.std.specs.declared.cmp.Ordering.TheVariants.{Less, Equal, Greater}
use Rattle.std.proofs.lemmas.Bool.{both_ways}
use Rattle.changes.specs.declared.Held.{Held}
use Rattle.changes.specs.declared.Place.{Place}
use Rattle.changes.specs.declared.Place.TheVariants.{Cell, Marker, RowGone, RangeGone, PartGone}
use Rattle.changes.specs.Contents.{IsReachedBy}
use Rattle.changes.specs.Order.{Outranks, Encloses, rank_cmp, row_of}
use Rattle.changes.proofs.Ranks.{above, rank_exact, rank_total}
use Rattle.std.proofs.lemmas.Cmp.{tied_itself}
use Rattle.partition_content.specs.declared.spots.Spot.{Spot}
use Rattle.partition_content.specs.declared.spots.Spot.TheVariants.{At}
use Rattle.partition_content.specs.Spots.{spot_cmp}
use Rattle.cell_merge.specs.Parts.{IsInnermost}
use Rattle.partition_content.specs.Keys.{span_for}
use Rattle.partition_content.specs.Partition.{AreBare}
use Rattle.partition_content.specs.Slots.{SlotMap, changes_of, change_in, AreFiled, IsReachedAt, IsOutrankedAt, IsOutrankedFrom, IsOutrankedUnder, IsGood, is_wide_spot, slot_at, spots_in}
use Rattle.std.specs.Ordering.{is_le}
use Rattle.std.specs.BTreeMap.Range.{range_contains}
use Rattle.partition_content.specs.Reading.{first_row, wide_of}
use Rattle.std.specs.declared.ops.Bound.TheVariants.{Excluded, Unbounded}
use Rattle.cs_base.proofs.Members.{contains_nil, contains_here, contains_there, contains_cases, contains_map}
use Rattle.partition_content.proofs.OrderLemmas.{from_filter, to_filter}
use Rattle.partition_content.proofs.SpotLemmas.{place_kept, edge_above}
use Rattle.partition_content.proofs.SlotLemmas.{to_changes, at_place}
use Rattle.partition_content.proofs.PutLemmas.{held_found, found_held, above_in}

-- a change of the same place that does not rank below reaches
ranked : (o : Ordering) → o ≢ Less → (o ≡ Equal) ⊎ (o ≡ Greater)
ranked Less h = absurd (h refl)
ranked Equal h = inl refl
ranked Greater h = inr refl

pub own_reaches : (es : List (Spot × Option Held)) (x y : Held) → Contains (changes_of es) y → y.place ≡ x.place → rank_cmp y x ≢ Less → IsReachedBy (changes_of es) x
own_reaches es x y here same rank =
    elim (ranked (rank_cmp y x) rank) [
      | inl e ↦ inl (subst (Contains (changes_of es)) (rank_exact y x same e) here)
      | inr g ↦ inr (y, here, inl (same, g))
    ]

pub reached_own : (slots : SlotMap) (x : Held) → IsGood slots → IsReachedAt (change_in (slot_at slots (At x.place))) x → IsReachedBy (changes_of slots.entries) x
reached_own slots x good h = by (change_in (slot_at slots (At x.place))) refl h
  where
    by : (o : Option Held) → change_in (slot_at slots (At x.place)) ≡ o → IsReachedAt o x → IsReachedBy (changes_of slots.entries) x
    by None e k = absurd k
    by (Some y) e k =
        let here = held_found x.place slots y e in
        own_reaches slots.entries x y (to_changes slots.entries (At x.place) y here) (sym (place_kept x.place y.place (good.filed (At x.place) y here))) k

under_place : (p : Place) (slots : SlotMap) (x : Held) → IsOutrankedAt (change_in (slot_at slots (At p))) x → (y : Held) × Contains slots.entries (At p, Some y) × Outranks y x
under_place p slots x h = by (change_in (slot_at slots (At p))) refl h
  where
    by : (o : Option Held) → change_in (slot_at slots (At p)) ≡ o → IsOutrankedAt o x → (y : Held) × Contains slots.entries (At p, Some y) × Outranks y x
    by None e k = absurd k
    by (Some y) e k = (y, held_found p slots y e, k)

over_reaches : (slots : SlotMap) (x : Held) (p : Place) → (y : Held) × Contains slots.entries (At p, Some y) × Outranks y x → IsReachedBy (changes_of slots.entries) x
over_reaches slots x p (y, here, over) = inr (y, to_changes slots.entries (At p) y here, over)

pub reached_under : (bare : Bool) (slots : SlotMap) (x : Held) (p : Place) → IsOutrankedUnder slots (span_for bare p) x → IsReachedBy (changes_of slots.entries) x
reached_under true slots x (Cell r c) h = absurd h
reached_under true slots x (Marker r) h = absurd h
reached_under false slots x (Cell r c) h = over_reaches slots x (RowGone r) (under_place (RowGone r) slots x h)
reached_under false slots x (Marker r) h = over_reaches slots x (RowGone r) (under_place (RowGone r) slots x h)
reached_under bare slots x (RowGone r) h = absurd h
reached_under bare slots x (RangeGone f u) h = absurd h
reached_under bare slots x PartGone h = absurd h

pub reached_wide : (slots : SlotMap) (x : Held) → IsOutrankedFrom slots.entries x → IsReachedBy (changes_of slots.entries) x
reached_wide slots x (y, here, none, over) = inr (y, here, over)

found_own : (slots : SlotMap) (x y : Held) → IsGood slots → Contains (changes_of slots.entries) y → y.place ≡ x.place → rank_cmp y x ≢ Less → IsReachedAt (change_in (slot_at slots (At x.place))) x
found_own slots x y good here same rank =
    let entry = subst (λ (p : Place). Contains {X = Spot × Option Held} slots.entries (At p, Some y)) same (at_place slots.entries good.filed y here) in
    subst (λ (o : Option Held). IsReachedAt o x) (sym (found_held x.place slots y good.sorted entry)) rank

row_span : (p : Place) (r : List ℕ) → row_of p ≡ Some r → (p ≡ RowGone r → ⊥) → (slots : SlotMap) (x : Held) → IsOutrankedAt (change_in (slot_at slots (At (RowGone r)))) x → IsOutrankedUnder slots (span_for false p) x
row_span (Cell a c) r e other slots x h = let same : r ≡ a = cc in subst (λ (v : List ℕ). IsOutrankedAt (change_in (slot_at slots (At (RowGone v)))) x) same h
row_span (Marker a) r e other slots x h = let same : r ≡ a = cc in subst (λ (v : List ℕ). IsOutrankedAt (change_in (slot_at slots (At (RowGone v)))) x) same h
row_span (RowGone a) r e other slots x h = let same : a ≡ r = cc in absurd (other (ap (λ (v : List ℕ). RowGone v) same))
row_span (RangeGone f u) r e other slots x h = cc
row_span PartGone r e other slots x h = cc

equal_not_less : (x : Held) → rank_cmp x x ≢ Less
equal_not_less x h = let e = sym (tied_itself rank_total x) ∙ h in cc

greater_not_less : (o : Ordering) → o ≡ Greater → o ≢ Less
greater_not_less o g l = let e = sym g ∙ l in cc

pub reached_found : (slots : SlotMap) (x : Held) → IsGood slots → IsReachedBy (changes_of slots.entries) x → IsReachedAt (change_in (slot_at slots (At x.place))) x ⊎ (IsOutrankedUnder slots (span_for false x.place) x ⊎ IsOutrankedFrom slots.entries x)
reached_found slots x good (inl here) = inl (found_own slots x x good here refl (equal_not_less x))
reached_found slots x good (inr (y, here, over)) =
    elim (above y x over) [
      | inl b ↦ inl (found_own slots x y good here b.0 (greater_not_less (rank_cmp y x) b.1))
      | inr i ↦ elim (above_in y.place x.place i.0) [
        | inl none ↦ inr (inr (y, here, none, over))
        | inr (r, gone, row) ↦
            let entry = subst (λ (p : Place). Contains {X = Spot × Option Held} slots.entries (At p, Some y)) gone (at_place slots.entries good.filed y here) in
            let found = subst (λ (o : Option Held). IsOutrankedAt o x) (sym (found_held (RowGone r) slots y good.sorted entry)) over in
            let other : x.place ≡ RowGone r → ⊥ = λ is. subst (λ (p : Place). Encloses (RowGone r) p) is (subst (λ (p : Place). Encloses p x.place) gone i.0) in
            inr (inl (row_span x.place r row other slots x found))
      ]
    ]

-- ---- as the code asks it

-- a cell or a marker encloses nothing
pub innermost_alone : (p q : Place) → IsInnermost p → Encloses p q → ⊥
innermost_alone (Cell r c) q n e = e
innermost_alone (Marker r) q n e = e
innermost_alone (RowGone r) q n e = absurd n
innermost_alone (RangeGone f u) q n e = absurd n
innermost_alone PartGone q n e = absurd n

-- where no deletion of rows is there, a change is reached at its own place alone
pub reached_bare : (slots : SlotMap) (x : Held) → IsGood slots → AreBare (changes_of slots.entries) → IsReachedBy (changes_of slots.entries) x → IsReachedAt (change_in (slot_at slots (At x.place))) x
reached_bare slots x good bare (inl here) = found_own slots x x good here refl (equal_not_less x)
reached_bare slots x good bare (inr (y, here, over)) =
    elim (above y x over) [
      | inl b ↦ found_own slots x y good here b.0 (greater_not_less (rank_cmp y x) b.1)
      | inr i ↦ absurd (innermost_alone y.place x.place (bare y here) i.0)
    ]

-- where no deletion of rows outranks it too
pub reached_else : (slots : SlotMap) (x : Held) (b c : Bool) → IsGood slots → IsTrue b ↔ IsOutrankedUnder slots (span_for false x.place) x → b ≡ false → (c ≡ false → IsOutrankedFrom slots.entries x → ⊥) → c ≡ false → IsReachedBy (changes_of slots.entries) x → IsReachedAt (change_in (slot_at slots (At x.place))) x
reached_else slots x b c good under neither missed none r =
    elim (reached_found slots x good r) [
      | inl h ↦ h
      | inr (inl h) ↦ absurd (both_ways b neither (under.1 h))
      | inr (inr h) ↦ absurd (missed none h)
    ]

-- ---- a walk over what is before the rows

-- nothing of all that the walk has passed outranks x
abbrev pub HasPassed : Held → List (Spot × Option Held) → List (Spot × Option Held) → Type 0
HasPassed x all rest = (e : Spot × Option Held) → Contains all e → Contains rest e ⊎ (IsOutrankedAt e.1 x → ⊥)

pub passed_none : (x : Held) (all : List (Spot × Option Held)) → HasPassed x all all
passed_none x all e h = inl h

pub passed_more : (x : Held) (all it rest : List (Spot × Option Held)) (k : Spot) (v : Option Held) (b : Bool) → it ≡ (k, v) ∷ rest → HasPassed x all it → IsTrue b ↔ IsOutrankedAt v x → b ≡ false → HasPassed x all rest
passed_more x all it rest k v b split so_far told f e h =
    elim (so_far e h) [
      | inl waits ↦ elim (contains_cases {X = Spot × Option Held} (k, v) rest e (subst (λ (l : List (Spot × Option Held)). Contains l e) split waits)) [
        | inl same ↦ inr (λ over. both_ways b f (told.1 (subst (λ (o : Option Held). IsOutrankedAt o x) (sym (ap (λ (p : Spot × Option Held). p.1) same)) over)))
        | inr later ↦ inl later
      ]
      | inr free ↦ inr free
    ]

abbrev pub AreAmong : List (Spot × Option Held) → List (Spot × Option Held) → Type 0
AreAmong rest all = (e : Spot × Option Held) → Contains rest e → Contains all e

pub among_less : (all it rest : List (Spot × Option Held)) (k : Spot) (v : Option Held) → it ≡ (k, v) ∷ rest → AreAmong it all → AreAmong rest all
among_less all it rest k v split among e h =
    among e (subst (λ (l : List (Spot × Option Held)). Contains l e) (sym split) (contains_there {X = Spot × Option Held} (k, v) rest e h))

pub among_wide : (es : List (Spot × Option Held)) → AreAmong (wide_of es) es
among_wide es e h = from_filter (λ d. range_contains spot_cmp Unbounded (Excluded first_row) d.0) es e h

slot_over : (o : Option Held) (x : Held) → IsOutrankedAt o x → (y : Held) × (o ≡ Some y) × Outranks y x
slot_over None x h = absurd h
slot_over (Some y) x h = (y, refl, h)

pub passed_over : (es it rest : List (Spot × Option Held)) (k : Spot) (v : Option Held) (x : Held) → it ≡ (k, v) ∷ rest → AreAmong it es → IsOutrankedAt v x → IsReachedBy (changes_of es) x
passed_over es it rest k v x split among over =
    let s = slot_over v x over in
    let here : Contains es (k, v) = among (k, v) (subst (λ (l : List (Spot × Option Held)). Contains {X = Spot × Option Held} l (k, v)) (sym split) (contains_here {X = Spot × Option Held} (k, v) rest)) in
    inr (s.0, to_changes es k s.0 (subst (λ (o : Option Held). Contains {X = Spot × Option Held} es (k, o)) s.1 here), s.2)

pub before_rows : (p : Place) → row_of p ≡ None → range_contains spot_cmp Unbounded (Excluded first_row) (At p) ≡ true
before_rows p none = ap (λ (o : Ordering). not (is_le o)) (edge_above (record { at = []; after = false }) p none)

pub passed_all : (es it : List (Spot × Option Held)) (x : Held) → AreFiled es → it ≡ [] → HasPassed x (wide_of es) it → IsOutrankedFrom es x → ⊥
passed_all es it x filed none so_far (y, here, wide, over) =
    let entry = at_place es filed y here in
    let inside = to_filter (λ (d : Spot × Option Held). range_contains spot_cmp Unbounded (Excluded first_row) d.0) es (At y.place, Some y) entry (before_rows y.place wide) in
    elim (so_far (At y.place, Some y) inside) [
      | inl waits ↦ contains_nil {X = Spot × Option Held} (At y.place, Some y) (subst (λ (l : List (Spot × Option Held)). Contains l (At y.place, Some y)) none waits)
      | inr free ↦ free over
    ]

pub passed_start : (x : Held) (es it : List (Spot × Option Held)) → it ≡ wide_of es → HasPassed x (wide_of es) it
passed_start x es it e d h = inl (subst (λ (l : List (Spot × Option Held)). Contains l d) (sym e) h)

pub among_start : (es it : List (Spot × Option Held)) → it ≡ wide_of es → AreAmong it es
among_start es it e d h = among_wide es d (subst (λ (l : List (Spot × Option Held)). Contains l d) e h)

pub wide_place : (p : Place) → row_of p ≡ None → is_wide_spot (At p) ≡ true
wide_place p e = ap (λ (o : Option (List ℕ)). not (is_some o)) e

-- where no key is that of a deletion of a range or of the partition, none is there
pub none_wide : (slots : SlotMap) (x : Held) → AreFiled slots.entries → ((s : Spot) → Contains (spots_in slots) s → is_wide_spot s ≡ false) → IsOutrankedFrom slots.entries x → ⊥
none_wide slots x filed none (y, here, wide, over) =
    let entry = at_place slots.entries filed y here in
    both_ways (is_wide_spot (At y.place)) (none (At y.place) (contains_map {X = Spot × Option Held} (λ e. e.0) slots.entries (At y.place, Some y) entry)) (wide_place y.place wide)

-- What a deletion outranks is taken out key by key, and nothing else is.
use Rattle.std.proofs.Common.{◌≡◌, ◌≢◌, filter, ℕ, ◌<◌, ◌⊎◌, ◌++◌, inl, inr, Bool, true, cond, List, [], ◌∷◌, Option, Some, None, IsSome, Contains, Vec, length, get_or, drop, map, ◌+◌, ◌≤◌, refl, sym, ◌∙◌, ap, subst}
use Rattle.std.specs.Prelude.{slice_get, IfSome}
use Rattle.std.specs.BTreeMap.{is_at}
use Rattle.std.specs.BTreeMap.Range.{range_contains, entries_between}
use Rattle.std.specs.List.Sorted.{IsStrictlySortedBy}
use Rattle.std.specs.declared.alloc.Global.{Global}
use Rattle.std.specs.Map.{keys_of, lookup, set_value}
use Rattle.std.specs.declared.cmp.Ordering.{Ordering}
use Rattle.std.specs.declared.cmp.Ordering.TheVariants.{Less}
use Rattle.std.specs.declared.ops.Bound.TheVariants.{Included, Excluded, Unbounded}
use Rattle.std.proofs.lemmas.Bool.{cases_Bool}
use Rattle.std.proofs.lemmas.Cmp.{eq_by_cmp_equiv}
use Rattle.std.proofs.lemmas.List.{map-append, drop_more, drop_all}
use Rattle.std.proofs.lemmas.Map.{keys-set_value}
use Rattle.std.proofs.lemmas.Map.Keys.{IsDistinct-from_sorted}
use Rattle.std.proofs.lemmas.Map.Views.{lookup-from_Contains}
use Rattle.changes.specs.declared.Held.{Held}
use Rattle.changes.specs.declared.Place.{Place}
use Rattle.changes.specs.declared.Place.TheVariants.{RowGone}
use Rattle.changes.specs.Order.{Outranks, Encloses}
use Rattle.changes.proofs.Ranks.{above}
use Rattle.cs_base.proofs.Members.{contains_nil, contains_here, contains_there, contains_cases, contains_map, contains_from_map}
use Rattle.std.proofs.lemmas.List.Elements.{Contains-append_left, Contains-append_right}
use Rattle.partition_content.specs.declared.Arrived.{Arrived}
use Rattle.partition_content.specs.declared.keys.Keys.{Keys}
use Rattle.partition_content.specs.declared.keys.Span.TheVariants.{Alone, Under, Row, Rows}
use Rattle.partition_content.specs.declared.spots.Spot.{Spot}
use Rattle.partition_content.specs.declared.spots.Spot.TheVariants.{At, Edge}
use Rattle.partition_content.specs.Spots.{spot_cmp}
use Rattle.partition_content.specs.SpotLaws.{spot_total}
use Rattle.partition_content.specs.Inside.{IsInside, AreInside, AreNoted}
use Rattle.partition_content.specs.Keys.{AreKeysOf, keys_for}
use Rattle.partition_content.specs.Partition.{place_of, place_of_keys}
use Rattle.partition_content.specs.Reading.{first_row, wide_of}
use Rattle.partition_content.specs.Slots.{stored_in, stored_of, held_in, helds_in, helds_of, SlotTree, spots_in, IsGood, IsCleared, AreCleared, IsClearedFrom, IsClearedAt, AreLeft, AreOutrankedAmong}
use Rattle.partition_content.proofs.HeldLemmas.{helds-found, helds-set_value, slot_there}
use Rattle.partition_content.proofs.ArrivalLemmas.{set_stored, stored_found}
use Rattle.partition_content.proofs.SlotLemmas.{left_in}
use Rattle.partition_content.proofs.OrderLemmas.{to_filter}
use Rattle.partition_content.proofs.ReachLemmas.{before_rows, innermost_alone}
use Rattle.partition_content.proofs.ReadLemmas.{row_passes}
use Rattle.partition_content.proofs.RowLemmas.{in_row, in_row_passes, row_forward, span_row}
use Rattle.partition_content.proofs.ClearLemmas.{untouched}
use Rattle.partition_content.proofs.LossLemmas.{in_range, range_deletion, narrow_keys, none_between}

-- ---- some of what x outranks has gone

abbrev pub ArePartlyCleared : Held → List (Spot × Option Held) → List (Spot × Option Held) → Type 0
ArePartlyCleared x [] left = left ≡ []
ArePartlyCleared x (e ∷ es) left = (slot : Option Held) × (rest : List (Spot × Option Held)) × ((slot ≡ e.1) ⊎ IsCleared x e.1 slot) × ArePartlyCleared x es rest × (left ≡ (e.0, slot) ∷ rest)

part_same : (x : Held) (es : List (Spot × Option Held)) → ArePartlyCleared x es es
part_same x [] = refl
part_same x (e ∷ es) = (e.1, es, inl refl, part_same x es, refl)

part_set : (x : Held) (t : Spot → Bool) (es : List (Spot × Option Held)) (v w : Option Held) → lookup t es ≡ Some v → IsCleared x v w → ArePartlyCleared x es (set_value t es w)
part_set x t [] v w found one = cc
part_set x t (e ∷ es) v w found one =
    elim (cases_Bool (t e.0)) [
      | inl y ↦
          let is : Some e.1 ≡ Some v = sym (ap (λ (b : Bool). cond b (Some e.1) (lookup t es)) y) ∙ found in
          let same : v ≡ e.1 = cc in
          (w, es, inr (subst (λ (o : Option Held). IsCleared x o w) same one), part_same x es, ap (λ (b : Bool). cond b ((e.0, w) ∷ es) (e ∷ set_value t es w)) y)
      | inr n ↦ (
        e.1,
        set_value t es w,
        inl refl,
        part_set x t es v w (sym (ap (λ (b : Bool). cond b (Some e.1) (lookup t es)) n) ∙ found) one,
        ap (λ (b : Bool). cond b ((e.0, w) ∷ es) (e ∷ set_value t es w)) n,
      )
    ]

one_after : (x : Held) (o m n : Option Held) → (m ≡ o) ⊎ IsCleared x o m → IsCleared x m n → IsCleared x o n
one_after x o m n (inl same) h = subst (λ (v : Option Held). IsCleared x v n) same h
one_after x o m n (inr one) h = by o one
  where
    by : (v : Option Held) → IsCleared x v m → IsCleared x v n
    by None none = subst (λ (v : Option Held). IsCleared x v n) none h
    by (Some y) (inl (over, none)) = inl (over, subst (λ (v : Option Held). IsCleared x v n) none h)
    by (Some y) (inr (free, same)) = subst (λ (v : Option Held). IsCleared x v n) same h

pub cleared_after : (x : Held) (es fs gs : List (Spot × Option Held)) → ArePartlyCleared x es fs → AreCleared x fs gs → AreCleared x es gs
cleared_after x [] fs gs e h = subst (λ (l : List (Spot × Option Held)). AreCleared x l gs) e h
cleared_after x (e ∷ es) fs gs (slot, rest, one, more, split) h =
    let k : AreCleared x ((e.0, slot) ∷ rest) gs = subst (λ (l : List (Spot × Option Held)). AreCleared x l gs) split h in
    (k.0, k.1, one_after x e.1 slot k.0 one k.2, cleared_after x es rest k.1 more k.3, k.4)

part_keys : (x : Held) (es fs : List (Spot × Option Held)) → ArePartlyCleared x es fs → keys_of fs ≡ keys_of es
part_keys x [] fs h = ap keys_of h
part_keys x (e ∷ es) fs (slot, rest, one, more, split) = ap keys_of split ∙ ap (λ (l : List Spot). e.0 ∷ l) (part_keys x es rest more)

was_there : (x : Held) (o slot : Option Held) (y : Held) → (slot ≡ o) ⊎ IsCleared x o slot → slot ≡ Some y → o ≡ Some y
was_there x o slot y (inl same) is = sym same ∙ is
was_there x o slot y (inr one) is = (left_in x o slot y one is).0

part_from : (x : Held) (es fs : List (Spot × Option Held)) → ArePartlyCleared x es fs → (s : Spot) (y : Held) → Contains fs (s, Some y) → Contains es (s, Some y)
part_from x [] fs h s y k = subst (λ (l : List (Spot × Option Held)). Contains l (s, Some y)) h k
part_from x (e ∷ es) fs (slot, rest, one, more, split) s y k =
    elim (contains_cases {X = Spot × Option Held} (e.0, slot) rest (s, Some y) (subst (λ (l : List (Spot × Option Held)). Contains l (s, Some y)) split k)) [
      | inl same ↦
          let key : e.0 ≡ s = ap (λ (p : Spot × Option Held). p.0) same in
          subst (λ (q : Spot). Contains {X = Spot × Option Held} (e ∷ es) (q, Some y)) key
          (subst (λ (v : Option Held). Contains {X = Spot × Option Held} (e ∷ es) (e.0, v)) (was_there x e.1 slot y one (ap (λ (p : Spot × Option Held). p.1) same)) (contains_here {X = Spot × Option Held} e es))
      | inr later ↦ contains_there {X = Spot × Option Held} e es (s, Some y) (part_from x es rest more s y later)
    ]

-- ---- one key

abbrev at_spot : Spot → Spot → Bool
at_spot at = is_at (spot_cmp at)

helds_set : (at : Spot) (old new : List (Spot × Option Arrived)) (w : Option Arrived) → new ≡ set_value (is_at (spot_cmp at)) old w → helds_in new ≡ set_value (is_at (spot_cmp at)) (helds_in old) (held_in w)
helds_set at old new w e = ap helds_in e ∙ helds-set_value (is_at (spot_cmp at)) old w

pub cleared_part : (x : Held) (at : Spot) (old new : List (Spot × Option Arrived)) → IsClearedAt x at old new → ArePartlyCleared x (helds_in old) (helds_in new)
cleared_part x at old new h = by (lookup (is_at (spot_cmp at)) old) refl h
  where
    by : (o : Option (Option Arrived)) → lookup (is_at (spot_cmp at)) old ≡ o → IsClearedFrom x at old new o → ArePartlyCleared x (helds_in old) (helds_in new)
    by None found e = subst (λ (l : List (Spot × Option Arrived)). ArePartlyCleared x (helds_in old) (helds_in l)) (sym e) (part_same x (helds_in old))
    by (Some v) found (w, one, side, e) =
        subst (ArePartlyCleared x (helds_in old)) (sym (helds_set at old new w e)) (part_set x (is_at (spot_cmp at)) (helds_in old) (held_in v) (held_in w) (helds-found (is_at (spot_cmp at)) old v found) one)

pub cleared_left : (x : Held) (at : Spot) (old new : List (Spot × Option Arrived)) → IsClearedAt x at old new → AreLeft old new
cleared_left x at old new h a k = by (lookup (is_at (spot_cmp at)) old) refl h
  where
    by : (o : Option (Option Arrived)) → lookup (is_at (spot_cmp at)) old ≡ o → IsClearedFrom x at old new o → Contains (stored_of old) a
    by None found e = subst (λ (l : List (Spot × Option Arrived)). Contains (stored_of l) a) e k
    by (Some v) found (w, one, side, e) =
        elim (set_stored (is_at (spot_cmp at)) old w a (subst (λ (l : List (Spot × Option Arrived)). Contains (stored_of l) a) e k)) [
          | inl there ↦ there
          | inr is ↦ elim side [ inl same ↦ stored_found (is_at (spot_cmp at)) old a (ap stored_in found ∙ sym same ∙ is) | inr none ↦ (let f = sym none ∙ is in cc) ]
        ]

set_looked : (t : Spot → Bool) (es : List (Spot × Option Held)) (v w : Option Held) → lookup t es ≡ Some v → lookup t (set_value t es w) ≡ Some w
set_looked t [] v w found = cc
set_looked t (d ∷ es) v w found =
    elim (cases_Bool (t d.0)) [
      | inl y ↦
          ap (λ (b : Bool). lookup t (cond b ((d.0, w) ∷ es) (d ∷ set_value t es w))) y
          ∙ ap (λ (b : Bool). cond b (Some w) (lookup t es)) y
      | inr n ↦
          ap (λ (b : Bool). lookup t (cond b ((d.0, w) ∷ es) (d ∷ set_value t es w))) n
          ∙ ap (λ (b : Bool). cond b (Some d.1) (lookup t (set_value t es w))) n
          ∙ set_looked t es v w (sym (ap (λ (b : Bool). cond b (Some d.1) (lookup t es)) n) ∙ found)
    ]

found_spot : (s : Spot) (es : List (Spot × Option Held)) (v : Option Held) → IsStrictlySortedBy spot_cmp (keys_of es) → Contains es (s, v) → lookup (is_at (spot_cmp s)) es ≡ Some v
found_spot s es v sorted h = lookup-from_Contains (eq_by_cmp_equiv spot_total) s v es (IsDistinct-from_sorted spot_cmp (keys_of es) sorted) h

-- at the key is nothing any more that x outranks
pub cleared_gone : (x : Held) (at : Spot) (old new : List (Spot × Option Arrived)) → IsStrictlySortedBy spot_cmp (keys_of (helds_in old)) → IsClearedAt x at old new → (y : Held) → Contains (helds_in new) (at, Some y) → Outranks x y → ⊥
cleared_gone x at old new sorted h y here over = by (lookup (is_at (spot_cmp at)) old) refl h
  where
    by : (o : Option (Option Arrived)) → lookup (is_at (spot_cmp at)) old ≡ o → IsClearedFrom x at old new o → ⊥
    by None found e =
        let there = found_spot at (helds_in old) (Some y) sorted (subst (λ (l : List (Spot × Option Arrived)). Contains (helds_in l) (at, Some y)) e here) in
        let some = slot_there (is_at (spot_cmp at)) old (subst IsSome (sym there) refl) in
        let none = subst IsSome found some in cc
    by (Some v) found (w, one, side, e) =
        let is = helds_set at old new w e in
        let same = keys-set_value (is_at (spot_cmp at)) (helds_in old) (held_in w) in
        let looked = set_looked (is_at (spot_cmp at)) (helds_in old) (held_in v) (held_in w) (helds-found (is_at (spot_cmp at)) old v found) in
        let there = found_spot at (set_value (is_at (spot_cmp at)) (helds_in old) (held_in w)) (Some y) (subst (IsStrictlySortedBy spot_cmp) (sym same) sorted)
        (subst (λ (l : List (Spot × Option Held)). Contains l (at, Some y)) is here) in
        let both : Some (held_in w) ≡ Some (Some y) = sym looked ∙ there in
        let value : held_in w ≡ Some y = cc in (left_in x (held_in v) (held_in w) y one value).1 over

-- ---- key after key

abbrev pub ClearsOn : Held → List (Spot × Option Held) → List (Spot × Option Held) → Type 0
ClearsOn x start now = (left : List (Spot × Option Held)) → AreCleared x now left → AreCleared x start left

pub clears_more : (x : Held) (at : Spot) (start : List (Spot × Option Held)) (old new : List (Spot × Option Arrived)) → ClearsOn x start (helds_in old) → IsClearedAt x at old new → ClearsOn x start (helds_in new)
clears_more x at start old new so_far one left h = so_far left (cleared_after x (helds_in old) (helds_in new) left (cleared_part x at old new one) h)

pub cleared_spots : (x : Held) (at : Spot) (old new : SlotTree) → IsClearedAt x at old.entries new.entries → spots_in (helds_of new) ≡ spots_in (helds_of old)
cleared_spots x at old new one = part_keys x (helds_in old.entries) (helds_in new.entries) (cleared_part x at old.entries new.entries one)

-- what is left to clear is at the other keys
pub among_rest : (x : Held) (at : Spot) (keys rest : List Spot) (old new : List (Spot × Option Arrived)) → keys ≡ at ∷ rest → IsStrictlySortedBy spot_cmp (keys_of (helds_in old)) → IsClearedAt x at old new → AreOutrankedAmong x (helds_in old) keys → AreOutrankedAmong x (helds_in new) rest
among_rest x at keys rest old new split sorted one among s y here over =
    elim (contains_cases at rest s (subst (λ (l : List Spot). Contains l s) split (among s y (part_from x (helds_in old) (helds_in new) (cleared_part x at old new one) s y here) over))) [
      | inl same ↦ absurd (cleared_gone x at old new sorted one y (subst (λ (k : Spot). Contains {X = Spot × Option Held} (helds_in new) (k, Some y)) (sym same) here) over)
      | inr later ↦ later
    ]

pub all_cleared : (x : Held) (start now : List (Spot × Option Held)) → ClearsOn x start now → AreOutrankedAmong x now [] → AreCleared x start now
all_cleared x start now so_far none = so_far now (untouched x now (λ s y here over. contains_nil s (none s y here over)))

-- what is left beside the own key is inside
pub among_inside : (x : Held) (at : Spot) (old new : SlotTree) (inside : List Spot) → at ≡ At x.place → IsGood (helds_of old) → IsInside (spots_in (helds_of old)) x.place inside → IsClearedAt x at old.entries new.entries → AreOutrankedAmong x (helds_in new.entries) inside
among_inside x at old new inside is good within one s y here over =
    let was : Contains (helds_in old.entries) (s, Some y) = part_from x (helds_in old.entries) (helds_in new.entries) (cleared_part x at old.entries new.entries one) s y here in
    let key : s ≡ At y.place = good.filed s y was in
    elim (above x y over) [
      | inl b ↦ absurd (cleared_gone x at old.entries new.entries good.sorted one y
          (subst (λ (k : Spot). Contains {X = Spot × Option Held} (helds_in new.entries) (k, Some y)) (key ∙ ap (λ (p : Place). At p) (sym b.0) ∙ sym is) here) over)
      | inr i ↦ subst (Contains inside) (sym key)
          (within y.place (subst (Contains (spots_in (helds_of old))) key (contains_map {X = Spot × Option Held} (λ e. e.0) (helds_in old.entries) (s, Some y) was)) i.0)
    ]

-- ---- the keys that lie in places

key_entry : (es : List (Spot × Option Held)) (s : Spot) → Contains (keys_of es) s → (o : Option Held) × Contains es (s, o)
key_entry es s h =
    let f = contains_from_map {X = Spot × Option Held} (λ e. e.0) es s h in (f.0.1, subst (λ (k : Spot). Contains {X = Spot × Option Held} es (k, f.0.1)) f.2 f.1)

key_passes : (p : Spot → Bool) (es : List (Spot × Option Held)) (s : Spot) → Contains (keys_of es) s → p s ≡ true → Contains (keys_of (filter (λ (d : Spot × Option Held). p d.0) es)) s
key_passes p es s h t =
    let e = key_entry es s h in
    contains_map {X = Spot × Option Held} (λ d. d.0) (filter (λ (d : Spot × Option Held). p d.0) es) (s, e.0) (to_filter (λ (d : Spot × Option Held). p d.0) es (s, e.0) e.1 t)

pub inside_none : (spots inside : List Spot) (own : Keys) (p : Place) → AreKeysOf own p → (own.span ≡ Alone) ⊎ ((k : Spot) × (own.span ≡ Under k)) → IsInside spots p inside
inside_none spots inside own p keys span q h e = absurd (innermost_alone p q (narrow_keys own p keys span) e)

row_keys : (own : Keys) (p : Place) (end : Spot) → AreKeysOf own p → own.span ≡ Row end → (row : List ℕ) × (p ≡ RowGone row) × (own.at ≡ At (RowGone row)) × (end ≡ Edge (record { at = row; after = true }))
row_keys own p end (bare, is) e =
    let r = span_row bare p end (sym (ap (λ (k : Keys). k.span) is) ∙ e) in
    (r.0, r.1, ap (λ (k : Keys). k.at) is ∙ ap (λ (v : Place). At v) r.1, r.2)

pub row_goes_on : (own : Keys) (p : Place) (end : Spot) → AreKeysOf own p → own.span ≡ Row end → spot_cmp own.at end ≡ Less
row_goes_on own p end keys span =
    let r = row_keys own p end keys span in
    subst (λ (k : Spot). spot_cmp k end ≡ Less) (sym r.2) (subst (λ (k : Spot). spot_cmp (At (RowGone r.0)) k ≡ Less) (sym r.3) (row_forward r.0))

pub inside_row : (own : Keys) (p : Place) (end : Spot) (es : List (Spot × Option Held)) (start inside : List Spot) → AreKeysOf own p → own.span ≡ Row end → inside ≡ start ++ keys_of (entries_between spot_cmp (Included own.at) (Excluded end) es) → IsInside (keys_of es) p inside
inside_row own p end es start inside keys span is q h e =
    let r = row_keys own p end keys span in
    subst (λ (l : List Spot). Contains l (At q)) (sym is)
    (Contains-append_right start (keys_of (entries_between spot_cmp (Included own.at) (Excluded end) es)) (At q)
    (key_passes (λ (s : Spot). range_contains spot_cmp (Included own.at) (Excluded end) s) es (At q) h
    (subst (λ (k : Spot). range_contains spot_cmp (Included k) (Excluded end) (At q) ≡ true) (sym r.2)
    (subst (λ (k : Spot). range_contains spot_cmp (Included (At (RowGone r.0))) (Excluded k) (At q) ≡ true) (sym r.3)
    (in_row_passes r.0 q (in_row r.0 q (subst (λ (v : Place). Encloses v q) r.1 e)))))))

pub inside_range : (own : Keys) (p : Place) (from upto : Spot) (es : List (Spot × Option Held)) (start first inside : List Spot) → AreKeysOf own p → own.span ≡ Rows from upto → first ≡ start ++ keys_of (wide_of es)
    → ((s : Spot) → Contains first s ⊎ Contains (keys_of (entries_between spot_cmp (Excluded from) (Excluded upto) es)) s → Contains inside s) → IsInside (keys_of es) p inside
inside_range own p from upto es start first inside keys span is more q h e =
    let r = range_deletion own p from upto keys span in
    elim (in_range r.0 r.1 q (subst (λ (v : Place). Encloses v q) r.2 e)) [
      | inl none ↦ more (At q) (inl (subst (λ (l : List Spot). Contains l (At q)) (sym is)
          (Contains-append_right start (keys_of (wide_of es)) (At q) (key_passes (λ (s : Spot). range_contains spot_cmp Unbounded (Excluded first_row) s) es (At q) h (before_rows q none)))))
      | inr (row, row_is, between) ↦ more (At q) (inr (key_passes (λ (s : Spot). range_contains spot_cmp (Excluded from) (Excluded upto) s) es (At q) h
          (subst (λ (k : Spot). range_contains spot_cmp (Excluded k) (Excluded upto) (At q) ≡ true) (sym r.3)
          (subst (λ (k : Spot). range_contains spot_cmp (Excluded (Edge r.0)) (Excluded k) (At q) ≡ true) (sym r.4) (row_passes r.0 r.1 q row row_is between)))))
    ]

pub inside_whole : (p : Place) (spots start inside : List Spot) → inside ≡ start ++ spots → IsInside spots p inside
inside_whole p spots start inside is q h e = subst (λ (l : List Spot). Contains l (At q)) (sym is) (Contains-append_right start spots (At q) h)

pub added_keys : (start more now : List Spot) → now ≡ start ++ more → (s : Spot) → Contains start s ⊎ Contains more s → Contains now s
added_keys start more now is s h =
    subst (λ (l : List Spot). Contains l s) (sym is) (elim h [ inl k ↦ Contains-append_left start more s k | inr k ↦ Contains-append_right start more s k ])

none_of : (es : List (Spot × Option Held)) → ((d : Spot × Option Held) → Contains es d → ⊥) → (s : Spot) → Contains (keys_of es) s → ⊥
none_of es none s h = let e = key_entry es s h in none (s, e.0) e.1

pub no_keys : (from upto : Spot) (es : List (Spot × Option Held)) (start : List Spot) (o : Ordering) → o ≡ spot_cmp from upto → o ≢ Less → (s : Spot) → Contains start s ⊎ Contains (keys_of (entries_between spot_cmp (Excluded from) (Excluded upto) es)) s → Contains start s
no_keys from upto es start o is other s h =
    elim h [ inl k ↦ k | inr k ↦ absurd (none_of (entries_between spot_cmp (Excluded from) (Excluded upto) es) (none_between from upto es o is other) s k) ]

-- ---- place after place

pub inside_more : (spots : List Spot) (ps : List Place) (lists : List (Vec Spot Global)) (p : Place) (l : Vec Spot Global) → AreInside spots ps lists → IsInside spots p l.items → AreInside spots (ps ++ p ∷ []) (lists ++ l ∷ [])
inside_more spots [] lists p l none one = subst (λ (v : List (Vec Spot Global)). AreInside spots (p ∷ []) (v ++ l ∷ [])) (sym none) (one, refl)
inside_more spots (q ∷ ps) [] p l h one = absurd h
inside_more spots (q ∷ ps) (k ∷ lists) p l (first, rest) one = (first, inside_more spots ps lists p l rest one)

pub inside_step : (spots : List Spot) (front more : List Keys) (own : Keys) (lists now : List (Vec Spot Global)) (l : Vec Spot Global) → more ≡ front ++ own ∷ [] → AreInside spots (map place_of_keys front) lists → IsInside spots (place_of_keys own) l.items → now ≡ lists ++ l ∷ [] → AreInside spots (map place_of_keys more) now
inside_step spots front more own lists now l e so_far one is =
    subst (AreInside spots (map place_of_keys more)) (sym is)
    (subst (λ (ps : List Place). AreInside spots ps (lists ++ l ∷ [])) (sym (ap (map place_of_keys) e ∙ map-append place_of_keys front (own ∷ []))) (inside_more spots (map place_of_keys front) lists (place_of_keys own) l so_far one))

noted_behind : (spots inside : List Spot) (front rest : List Held) (x : Held) (lists : List (Vec Spot Global)) → AreInside spots (map place_of (front ++ x ∷ rest)) lists → IfSome (slice_get lists (length front)) (λ (l : Vec Spot Global). inside ≡ l.items) → IsInside spots x.place inside
noted_behind spots inside [] rest x [] h e = absurd h
noted_behind spots inside [] rest x (k ∷ lists) h e = subst (IsInside spots x.place) (sym e) h.0
noted_behind spots inside (y ∷ front) rest x [] h e = absurd h
noted_behind spots inside (y ∷ front) rest x (k ∷ lists) h e = noted_behind spots inside front rest x lists h.1 e

split_next : (all front it rest : List Held) (x : Held) → front ++ it ≡ all → it ≡ x ∷ rest → front ++ x ∷ rest ≡ all
split_next all front it rest x split next = ap (λ (l : List Held). front ++ l) (sym next) ∙ split

-- what was noted of the next change's place
pub noted_next : (spots now inside : List Spot) (all front it rest : List Held) (x : Held) (lists : List (Vec Spot Global)) (at : ℕ) → AreNoted spots (map place_of all) lists → now ≡ spots → front ++ it ≡ all → it ≡ x ∷ rest → at ≡ length front → IfSome (slice_get lists at) (λ (l : Vec Spot Global). inside ≡ l.items) → IsInside now x.place inside
noted_next spots now inside all front it rest x lists at (inl noted) same split next count e =
    subst (λ (k : List Spot). IsInside k x.place inside) (sym same)
    (noted_behind spots inside front rest x lists (subst (λ (v : List Held). AreInside spots (map place_of v) lists) (sym (split_next all front it rest x split next)) noted)
    (subst (λ (n : ℕ). IfSome (slice_get lists n) (λ (l : Vec Spot Global). inside ≡ l.items)) count e))
noted_next spots now inside all front it rest x lists at (inr narrow) same split next count e =
    λ q h over. absurd (innermost_alone x.place q (narrow x.place (contains_map place_of all x (subst (λ (v : List Held). Contains v x) (split_next all front it rest x split next) (Contains-append_right front (x ∷ rest) x (contains_here x rest))))) over)

-- the keys that memory was taken for are those of their places
pub keys_of_places : (bare : Bool) (ps : List Place) (ks : List Keys) → ks ≡ map (keys_for bare) ps → (own : Keys) → Contains ks own → AreKeysOf own (place_of_keys own)
keys_of_places bare ps ks e own h =
    let f = contains_from_map (keys_for bare) ps own (subst (λ (l : List Keys). Contains l own) e h) in
    (bare, sym f.2 ∙ ap (keys_for bare) (ap place_of_keys f.2))

-- ---- keys one after another

pub next_key : (keys : List Spot) (i : ℕ) (at : Spot) → i < length keys → at ≡ get_or keys i at → drop i keys ≡ at ∷ drop (i + 1) keys
next_key keys i at below is = drop_more keys i at below ∙ ap (λ (k : Spot). k ∷ drop (i + 1) keys) (sym is)

pub no_key : (keys : List Spot) (i : ℕ) → length keys ≤ i → drop i keys ≡ []
no_key keys i past = drop_all i keys past

-- The deletion of a row outranks what stands between its own key and the row's end, and nothing else.
use Rattle.std.proofs.Common.{◌≡◌, ℕ, ◌≤◌, inl, inr, Bool, true, false, cond, not, ◌&&◌, filter, List, [], ◌∷◌, ◌++◌, Option, Some, None, Contains, refl, sym, ◌∙◌, ap, subst, arith}
use Rattle.std.specs.BTreeMap.Range.{range_contains}
use Rattle.std.specs.List.{sum_by}
use Rattle.std.specs.Ordering.{ordering_then, ordering_reverse, is_le}
use Rattle.std.specs.declared.cmp.Ordering.{Ordering}
use Rattle.std.specs.declared.cmp.Ordering.TheVariants.{Less, Greater}
use Rattle.std.specs.declared.ops.Bound.TheVariants.{Included, Excluded}
use Rattle.std.proofs.lemmas.Bool.{cases_Bool, both_ways}
use Rattle.std.proofs.lemmas.Cmp.{nat_cmp_total, tied_itself}
use Rattle.changes.specs.declared.Held.{Held}
use Rattle.changes.specs.declared.Place.{Place}
use Rattle.changes.specs.declared.Place.TheVariants.{Cell, Marker, RowGone, RangeGone, PartGone}
use Rattle.changes.specs.Lengths.{held_length}
use Rattle.changes.specs.Order.{Outranks, Encloses, row_of, signs, row_signs, signs_cmp}
use Rattle.changes.proofs.Ranks.{above}
use Rattle.cs_base.proofs.Members.{contains_nil, contains_here, contains_there, contains_cases}
use Rattle.partition_content.specs.declared.keys.Keys.{Keys}
use Rattle.partition_content.specs.declared.keys.Span.TheVariants.{Row}
use Rattle.partition_content.specs.declared.spots.Spot.{Spot}
use Rattle.partition_content.specs.declared.spots.Spot.TheVariants.{At, Edge}
use Rattle.partition_content.specs.Spots.{spot_cmp}
use Rattle.partition_content.specs.SpotLaws.{spot_total}
use Rattle.partition_content.specs.Keys.{AreKeysOf, span_for, row_end}
use Rattle.partition_content.specs.Slots.{changes_of, AreFiled, AreCleared, IsCountedWith, IsLengthOf}
use Rattle.partition_content.proofs.SpotLemmas.{edge_stands}
use Rattle.partition_content.proofs.SlotLemmas.{IsLostWith, AreLost, sum_changes}
use Rattle.partition_content.proofs.PutLemmas.{above_in}
use Rattle.partition_content.proofs.ClearLemmas.{untouched}

-- x is the deletion of a row, whose keys are from this one on and before the other
abbrev pub IsRowDeletion : Held → Spot → Spot → Type 0
IsRowDeletion x at end = (row : List ℕ) × (x.place ≡ RowGone row) × (at ≡ At (RowGone row)) × (end ≡ Edge (record { at = row; after = true }))

-- ---- a part of the tree

pub passed : (P : Held → Type 0) (o : Option Held) (n : ℕ) → ((y : Held) → o ≡ Some y → P y → ⊥) → IsCountedWith P o n n
passed P None n free = refl
passed P (Some y) n free = inr (free y refl, refl)

-- what a part counts is all that counts, where P is told of nothing else
pub lost_filtered : (P : Held → Type 0) (p : Spot × Option Held → Bool) (es : List (Spot × Option Held)) (n : ℕ) → ((s : Spot) (y : Held) → Contains es (s, Some y) → P y → p (s, Some y) ≡ true) → IsLengthOf P (filter p es) n → IsLengthOf P es n
lost_filtered P p [] n inside h = h
lost_filtered P p (e ∷ es) n inside h =
    elim (cases_Bool (p e)) [
      | inl t ↦
          let k : IsLengthOf P (e ∷ filter p es) n = subst (λ (b : Bool). IsLengthOf P (cond b (e ∷ filter p es) (filter p es)) n) t h in
          (k.0, lost_filtered P p es k.0 (λ s y here. inside s y (contains_there {X = Spot × Option Held} e es (s, Some y) here)) k.1, k.2)
      | inr f ↦
          let k : IsLengthOf P (filter p es) n = subst (λ (b : Bool). IsLengthOf P (cond b (e ∷ filter p es) (filter p es)) n) f h in (
            n,
            lost_filtered P p es n (λ s y here. inside s y (contains_there {X = Spot × Option Held} e es (s, Some y) here)) k,
            passed P e.1 n (λ y is over. both_ways (p e) f (subst (λ (o : Option Held). p (e.0, o) ≡ true) (sym is)
                (inside e.0 y (subst (λ (o : Option Held). Contains {X = Spot × Option Held} (e ∷ es) (e.0, o)) is (contains_here {X = Spot × Option Held} e es)) over))),
          )
    ]

pub sum_filtered : (p : Spot × Option Held → Bool) (es : List (Spot × Option Held)) → sum_by held_length (changes_of (filter p es)) ≤ sum_by held_length (changes_of es)
sum_filtered p [] = omega arith
sum_filtered p (e ∷ es) =
    let split = sum_changes e es in
    let ih = sum_filtered p es in
    elim (cases_Bool (p e)) [
      | inl t ↦
          let is = ap (λ (b : Bool). sum_by held_length (changes_of (cond b (e ∷ filter p es) (filter p es)))) t in
          let more = sum_changes e (filter p es) in omega (arith, split, ih, is, more)
      | inr f ↦ let is = ap (λ (b : Bool). sum_by held_length (changes_of (cond b (e ∷ filter p es) (filter p es)))) f in omega (arith, split, ih, is)
    ]

-- ---- the keys of a row

same_row : (row : List ℕ) (t u : ℕ × ℕ) → signs_cmp (row_signs row ++ t ∷ []) (row_signs row ++ u ∷ []) ≡ signs_cmp (t ∷ []) (u ∷ [])
same_row [] t u = refl
same_row (x ∷ xs) t u =
    ap (λ (o : Ordering). ordering_then o (signs_cmp (row_signs xs ++ t ∷ []) (row_signs xs ++ u ∷ []))) (tied_itself nat_cmp_total x) ∙ same_row xs t u

edge_after : (row : List ℕ) → signs_cmp (signs row 3) (row_signs row) ≡ Greater
edge_after [] = refl
edge_after (x ∷ xs) = ap (λ (o : Ordering). ordering_then o (signs_cmp (signs xs 3) (row_signs xs))) (tied_itself nat_cmp_total x) ∙ edge_after xs

row_above : (row : List ℕ) (p : Place) → row_of p ≡ Some row → spot_cmp (row_end row) (At p) ≡ Greater
row_above row p e = edge_stands (record { at = row; after = true }) p row e ∙ edge_after row

row_below : (row : List ℕ) (p : Place) → row_of p ≡ Some row → is_le (spot_cmp (At (RowGone row)) (At p)) ≡ true
row_below row (Cell r c) e = let same : row ≡ r = cc in subst (λ (v : List ℕ). is_le (spot_cmp (At (RowGone row)) (At (Cell v c))) ≡ true) same (ap is_le (same_row row (0, 0) (2, c)))
row_below row (Marker r) e = let same : row ≡ r = cc in subst (λ (v : List ℕ). is_le (spot_cmp (At (RowGone row)) (At (Marker v))) ≡ true) same (ap is_le (same_row row (0, 0) (1, 0)))
row_below row (RowGone r) e = let same : row ≡ r = cc in subst (λ (v : List ℕ). is_le (spot_cmp (At (RowGone row)) (At (RowGone v))) ≡ true) same (ap is_le (same_row row (0, 0) (0, 0)))
row_below row (RangeGone f u) e = cc
row_below row PartGone e = cc

pub in_row_passes : (row : List ℕ) (p : Place) → row_of p ≡ Some row → range_contains spot_cmp (Included (At (RowGone row))) (Excluded (row_end row)) (At p) ≡ true
in_row_passes row p e =
    ap (λ (b : Bool). b && not (is_le (spot_cmp (row_end row) (At p)))) (row_below row p e) ∙ ap (λ (o : Ordering). not (is_le o)) (row_above row p e)

pub row_forward : (row : List ℕ) → spot_cmp (At (RowGone row)) (row_end row) ≡ Less
row_forward row = spot_total.antisymm (At (RowGone row)) (row_end row) ∙ ap ordering_reverse (row_above row (RowGone row) refl)

pub in_row : (row : List ℕ) (q : Place) → Encloses (RowGone row) q → row_of q ≡ Some row
in_row row q e =
    elim (above_in (RowGone row) q e) [
      | inl none ↦ cc
      | inr (r, same, is) ↦ let row_is : r ≡ row = cc in subst (λ (v : List ℕ). row_of q ≡ Some v) row_is is
    ]

outranked_in_row : (x y : Held) (row : List ℕ) → x.place ≡ RowGone row → Outranks x y → row_of y.place ≡ Some row
outranked_in_row x y row is over =
    elim (above x y over) [
      | inl b ↦ ap row_of (sym b.0 ∙ is)
      | inr i ↦ in_row row y.place (subst (λ (p : Place). Encloses p y.place) is i.0)
    ]

pub row_inside : (x : Held) (at end : Spot) (es : List (Spot × Option Held)) → IsRowDeletion x at end → AreFiled es → (s : Spot) (y : Held) → Contains es (s, Some y) → Outranks x y → range_contains spot_cmp (Included at) (Excluded end) s ≡ true
row_inside x at end es (row, place, at_is, end_is) filed s y here over =
    subst (λ (q : Spot). range_contains spot_cmp (Included at) (Excluded end) q ≡ true) (sym (filed s y here))
    (subst (λ (q : Spot). range_contains spot_cmp (Included q) (Excluded end) (At y.place) ≡ true) (sym at_is)
    (subst (λ (q : Spot). range_contains spot_cmp (Included (At (RowGone row))) (Excluded q) (At y.place) ≡ true) (sym end_is)
    (in_row_passes row y.place (outranked_in_row x y row place over))))

pub row_ahead : (x : Held) (at end : Spot) → IsRowDeletion x at end → spot_cmp at end ≡ Less
row_ahead x at end (row, place, at_is, end_is) =
    subst (λ (q : Spot). spot_cmp q end ≡ Less) (sym at_is) (subst (λ (q : Spot). spot_cmp (At (RowGone row)) q ≡ Less) (sym end_is) (row_forward row))

-- ---- the keys of its deletion

pub span_row : (bare : Bool) (p : Place) (end : Spot) → span_for bare p ≡ Row end → (row : List ℕ) × (p ≡ RowGone row) × (end ≡ row_end row)
span_row true (Cell r c) end e = cc
span_row false (Cell r c) end e = cc
span_row true (Marker r) end e = cc
span_row false (Marker r) end e = cc
span_row bare (RowGone r) end e = (let same : end ≡ row_end r = cc in (r, refl, same))
span_row bare (RangeGone f u) end e = cc
span_row bare PartGone end e = cc

pub row_deletion : (own : Keys) (x : Held) (end : Spot) → AreKeysOf own x.place → own.span ≡ Row end → IsRowDeletion x own.at end
row_deletion own x end (bare, is) e =
    let r = span_row bare x.place end (sym (ap (λ (k : Keys). k.span) is) ∙ e) in
    (r.0, r.1, ap (λ (k : Keys). k.at) is ∙ ap (λ (p : Place). At p) r.1, r.2)

pub key_at : (own : Keys) (p : Place) → AreKeysOf own p → own.at ≡ At p
key_at own p (bare, is) = ap (λ (k : Keys). k.at) is

-- ---- nothing is lost

none_at : (x : Held) (o : Option Held) (m : ℕ) → IsLostWith x o m 0 → (m ≡ 0) × ((y : Held) → o ≡ Some y → Outranks x y → ⊥)
none_at x None m e = (sym e, λ y is over. cc)
none_at x (Some z) m (inl (over, e)) = absurd (omega (arith, e))
none_at x (Some z) m (inr (free, e)) = (sym e, λ y is over. let same : z ≡ y = cc in free (subst (Outranks x) (sym same) over))

stays : (x : Held) (e : Spot × Option Held) (es : List (Spot × Option Held)) → AreLost x (e ∷ es) 0 → ((s : Spot) (y : Held) → Contains es (s, Some y) → Outranks x y → ⊥) → (s : Spot) (y : Held) → Contains (e ∷ es) (s, Some y) → Outranks x y → ⊥
stays x e es (m, fewer, one) rest s y here over =
    elim (contains_cases {X = Spot × Option Held} e es (s, Some y) here) [
      | inl same ↦ (none_at x e.1 m one).1 y (ap (λ (d : Spot × Option Held). d.1) same) over
      | inr later ↦ rest s y later over
    ]

none_lost : (x : Held) (es : List (Spot × Option Held)) → AreLost x es 0 → (s : Spot) (y : Held) → Contains es (s, Some y) → Outranks x y → ⊥
none_lost x [] h = λ s y here over. contains_nil {X = Spot × Option Held} (s, Some y) here
none_lost x (e ∷ es) (m, fewer, one) =
    stays x e es (m, fewer, one) (none_lost x es (subst (AreLost x es) (none_at x e.1 m one).0 fewer))

pub nothing_cleared : (x : Held) (es : List (Spot × Option Held)) (n : ℕ) → AreLost x es n → n ≡ 0 → AreCleared x es es
nothing_cleared x es n h zero = untouched x es (none_lost x es (subst (AreLost x es) zero h))

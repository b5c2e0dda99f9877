-- What the order of places tells of rows and bounds.
use Rattle.std.proofs.Common.{◌≡◌, ◌≢◌, ℕ, ◌⊎◌, ◌↔◌, inl, inr, Bool, true, false, not, Option, Some, None, IsSome, IsTrue, List, refl, sym, ◌∙◌, ap}
use Rattle.std.specs.Prelude.{is_none}
use Rattle.std.specs.Ordering.{nat_cmp, is_lt, is_le, ordering_then}
use Rattle.std.specs.Cmp.Lexicographic.{slice_cmp}
use Rattle.std.specs.declared.cmp.Ordering.{Ordering}
use Rattle.std.specs.declared.cmp.Ordering.TheVariants.{Less, Equal, Greater}
use Rattle.changes.specs.declared.Bound.{Bound}
use Rattle.changes.specs.declared.Place.{Place}
use Rattle.changes.specs.declared.Place.TheVariants.{Cell, Marker, RowGone, RangeGone, PartGone}
use Rattle.changes.specs.Order.{bound_signs, row_signs, row_of, sign_cmp, signs_cmp, NotAbove}
use Rattle.changes.specs.Places.{place_cmp}
use Rattle.changes.specs.Totals.{place_total}
use Rattle.changes.specs.Tests.{step_of}
use Rattle.changes.proofs.Orderings.{less_is}
use Rattle.changes.proofs.Places.{ranges_compare, in_rows}
use Rattle.changes.proofs.Signs.{NotAbove_trans, below_on, below_upto, rows_by_bytes}
use Rattle.cell_merge.specs.Tests.{is_behind_bound, is_before_bound, begins_by, is_before_place, is_before_row}

pub le_tells : (o : Ordering) → is_le o ≡ true → o ≢ Greater
le_tells Less h e = cc
le_tells Equal h e = cc
le_tells Greater h e = cc

pub le_true : (o : Ordering) → o ≢ Greater → is_le o ≡ true
le_true Less h = refl
le_true Equal h = refl
le_true Greater h = absurd (h refl)

-- a test that passes just at `Less`
pub less_test : (b : Bool) (o : Ordering) → (IsTrue b ↔ (o ≡ Less)) → b ≡ is_lt o
less_test true o h = sym (ap is_lt (h.0 refl))
less_test false Less h = h.1 refl
less_test false Equal h = refl
less_test false Greater h = refl

then_not_above : (a b : Ordering) → ordering_then a b ≡ Less → a ≢ Greater
then_not_above Less b h e = cc
then_not_above Equal b h e = cc
then_not_above Greater b h e = cc

pub rows_rise : (p q : Place) (a b : List ℕ) → row_of p ≡ Some a → row_of q ≡ Some b → place_cmp p q ≡ Less → NotAbove (row_signs a) (row_signs b)
rows_rise p q a b e f h over =
    then_not_above (slice_cmp nat_cmp a b) _ (sym (in_rows p q a b e f) ∙ h) (sym (rows_by_bytes a b) ∙ over)

froms_rise : (a b c d : Bound) → place_cmp (RangeGone a b) (RangeGone c d) ≡ Less → NotAbove (bound_signs a) (bound_signs c)
froms_rise a b c d h = then_not_above (signs_cmp (bound_signs a) (bound_signs c)) _ (sym (ranges_compare a b c d) ∙ h)

-- a change of no row stands before those of rows
pub wide_down : (p q : Place) → place_cmp p q ≡ Less → is_none (row_of q) ≡ true → is_none (row_of p) ≡ true
wide_down PartGone q h t = refl
wide_down (RangeGone a b) q h t = refl
wide_down (RowGone r) PartGone h t = cc
wide_down (RowGone r) (RangeGone a b) h t = cc
wide_down (RowGone r) (RowGone s) h t = cc
wide_down (RowGone r) (Marker s) h t = cc
wide_down (RowGone r) (Cell s c) h t = cc
wide_down (Marker r) PartGone h t = cc
wide_down (Marker r) (RangeGone a b) h t = cc
wide_down (Marker r) (RowGone s) h t = cc
wide_down (Marker r) (Marker s) h t = cc
wide_down (Marker r) (Cell s c) h t = cc
wide_down (Cell r d) PartGone h t = cc
wide_down (Cell r d) (RangeGone a b) h t = cc
wide_down (Cell r d) (RowGone s) h t = cc
wide_down (Cell r d) (Marker s) h t = cc
wide_down (Cell r d) (Cell s c) h t = cc

pub before_place_down : (place p q : Place) → place_cmp p q ≡ Less → is_before_place place q ≡ true → is_before_place place p ≡ true
before_place_down place p q h t = ap is_lt (place_total.trans p q place h (less_is (place_cmp q place) t))

-- ---- places in rows, and bounds

pub behind_of : (b : Bound) (p : Place) (row : List ℕ) → row_of p ≡ Some row → is_behind_bound b p ≡ is_lt (signs_cmp (bound_signs b) (row_signs row))
behind_of b PartGone row e = cc
behind_of b (RangeGone from upto) row e = cc
behind_of b (RowGone r) row e = let same : r ≡ row = cc in ap (λ (n : List ℕ). is_lt (signs_cmp (bound_signs b) (row_signs n))) same
behind_of b (Marker r) row e = let same : r ≡ row = cc in ap (λ (n : List ℕ). is_lt (signs_cmp (bound_signs b) (row_signs n))) same
behind_of b (Cell r c) row e = let same : r ≡ row = cc in ap (λ (n : List ℕ). is_lt (signs_cmp (bound_signs b) (row_signs n))) same

pub before_of : (b : Bound) (p : Place) (row : List ℕ) → row_of p ≡ Some row → is_before_bound b p ≡ is_lt (signs_cmp (row_signs row) (bound_signs b))
before_of b PartGone row e = cc
before_of b (RangeGone from upto) row e = cc
before_of b (RowGone r) row e = let same : r ≡ row = cc in ap (λ (n : List ℕ). is_lt (signs_cmp (row_signs n) (bound_signs b))) same
before_of b (Marker r) row e = let same : r ≡ row = cc in ap (λ (n : List ℕ). is_lt (signs_cmp (row_signs n) (bound_signs b))) same
before_of b (Cell r c) row e = let same : r ≡ row = cc in ap (λ (n : List ℕ). is_lt (signs_cmp (row_signs n) (bound_signs b))) same

-- a place is in a row, or in none
pub in_row_or_wide : (p : Place) → ((row : List ℕ) × (row_of p ≡ Some row)) ⊎ (row_of p ≡ None)
in_row_or_wide PartGone = inr refl
in_row_or_wide (RangeGone from upto) = inr refl
in_row_or_wide (RowGone r) = inl (r, refl)
in_row_or_wide (Marker r) = inl (r, refl)
in_row_or_wide (Cell r c) = inl (r, refl)

wide_before : (b : Bound) (p : Place) → row_of p ≡ None → is_before_bound b p ≡ true
wide_before b PartGone e = refl
wide_before b (RangeGone from upto) e = refl
wide_before b (RowGone r) e = cc
wide_before b (Marker r) e = cc
wide_before b (Cell r c) e = cc

wide_behind : (b : Bound) (p : Place) → row_of p ≡ None → is_behind_bound b p ≡ false
wide_behind b PartGone e = refl
wide_behind b (RangeGone from upto) e = refl
wide_behind b (RowGone r) e = cc
wide_behind b (Marker r) e = cc
wide_behind b (Cell r c) e = cc

pub before_bound_down : (b : Bound) (p q : Place) → place_cmp p q ≡ Less → is_before_bound b q ≡ true → is_before_bound b p ≡ true
before_bound_down b p q h t =
    elim (in_row_or_wide p) [
      | inr none ↦ wide_before b p none
      | inl (r, in_p) ↦ elim (in_row_or_wide q) [
        | inr none ↦ (let e = wide_down p q h (ap is_none none) in let f = sym (ap is_none in_p) ∙ e in cc)
        | inl (s, in_q) ↦
            let low = less_is (signs_cmp (row_signs s) (bound_signs b)) (sym (before_of b q s in_q) ∙ t) in
            before_of b p r in_p ∙ ap is_lt (below_on (row_signs r) (row_signs s) (bound_signs b) (rows_rise p q r s in_p in_q h) low)
      ]
    ]

-- what stands behind a bound stands there with all behind it
behind_up : (b : Bound) (p q : Place) → place_cmp p q ≡ Less → is_behind_bound b p ≡ true → is_behind_bound b q ≡ true
behind_up b p q h t =
    elim (in_row_or_wide p) [
      | inr none ↦ (let e = sym (wide_behind b p none) ∙ t in cc)
      | inl (r, in_p) ↦ elim (in_row_or_wide q) [
        | inr none ↦ (let e = wide_down p q h (ap is_none none) in let f = sym (ap is_none in_p) ∙ e in cc)
        | inl (s, in_q) ↦
            let low = less_is (signs_cmp (bound_signs b) (row_signs r)) (sym (behind_of b p r in_p) ∙ t) in
            behind_of b q s in_q ∙ ap is_lt (below_upto (bound_signs b) (row_signs r) (row_signs s) low (rows_rise p q r s in_p in_q h))
      ]
    ]

not_down : (a b : Bool) → (a ≡ true → b ≡ true) → not b ≡ true → not a ≡ true
not_down true true up t = t
not_down true false up t = let e = up refl in cc
not_down false b up t = refl

pub not_behind_down : (b : Bound) (p q : Place) → place_cmp p q ≡ Less → not (is_behind_bound b q) ≡ true → not (is_behind_bound b p) ≡ true
not_behind_down b p q h t = not_down (is_behind_bound b p) (is_behind_bound b q) (behind_up b p q h) t

-- ---- deletions of rows

begins_wide : (p q : Place) → begins_by p q ≡ true → is_none (row_of p) ≡ true
begins_wide PartGone q t = refl
begins_wide (RangeGone a b) q t = refl
begins_wide (RowGone s) q t = cc
begins_wide (Marker s) q t = cc
begins_wide (Cell s c) q t = cc

pub begins_down : (r p q : Place) → place_cmp p q ≡ Less → begins_by q r ≡ true → begins_by p r ≡ true
begins_down r PartGone q h t = refl
begins_down r (RangeGone a b) PartGone h t = cc
begins_down PartGone (RangeGone a b) (RangeGone c d) h t = t
begins_down (RangeGone f u) (RangeGone a b) (RangeGone c d) h t =
    le_true (signs_cmp (bound_signs a) (bound_signs f)) (NotAbove_trans (bound_signs a) (bound_signs c) (bound_signs f) (froms_rise a b c d h) (le_tells (signs_cmp (bound_signs c) (bound_signs f)) t))
begins_down (RowGone r) (RangeGone a b) (RangeGone c d) h t =
    ap is_lt (below_on (bound_signs a) (bound_signs c) (row_signs r) (froms_rise a b c d h) (less_is (signs_cmp (bound_signs c) (row_signs r)) t))
begins_down (Marker r) (RangeGone a b) (RangeGone c d) h t =
    ap is_lt (below_on (bound_signs a) (bound_signs c) (row_signs r) (froms_rise a b c d h) (less_is (signs_cmp (bound_signs c) (row_signs r)) t))
begins_down (Cell r e) (RangeGone a b) (RangeGone c d) h t =
    ap is_lt (below_on (bound_signs a) (bound_signs c) (row_signs r) (froms_rise a b c d h) (less_is (signs_cmp (bound_signs c) (row_signs r)) t))
begins_down r (RangeGone a b) (RowGone s) h t = cc
begins_down r (RangeGone a b) (Marker s) h t = cc
begins_down r (RangeGone a b) (Cell s e) h t = cc
begins_down r (RowGone s) q h t = let e = wide_down (RowGone s) q h (begins_wide q r t) in cc
begins_down r (Marker s) q h t = let e = wide_down (Marker s) q h (begins_wide q r t) in cc
begins_down r (Cell s c) q h t = let e = wide_down (Cell s c) q h (begins_wide q r t) in cc

pub none_is : (o : Option (List ℕ)) → is_none o ≡ true → o ≡ None
none_is None h = refl
none_is (Some r) h = cc

pub some_is : (o : Option (List ℕ)) → is_none o ≡ false → IsSome o
some_is None h = cc
some_is (Some r) h = refl

then_lt : (a b : Ordering) → is_lt b ≡ false → is_lt (ordering_then a b) ≡ is_lt a
then_lt Less b h = refl
then_lt Equal b h = h
then_lt Greater b h = refl

step_not_below : (p : Place) → is_lt (sign_cmp (step_of p) (0, 0)) ≡ false
step_not_below PartGone = refl
step_not_below (RangeGone a b) = refl
step_not_below (RowGone r) = refl
step_not_below (Marker r) = refl
step_not_below (Cell r c) = refl

-- a place stands before a row where its own row does
pub before_row_of : (p : Place) (own row : List ℕ) → row_of p ≡ Some own → is_before_row row p ≡ is_lt (slice_cmp nat_cmp own row)
before_row_of p own row e = ap is_lt (in_rows p (RowGone row) own row e refl) ∙ then_lt (slice_cmp nat_cmp own row) (sign_cmp (step_of p) (0, 0)) (step_not_below p)

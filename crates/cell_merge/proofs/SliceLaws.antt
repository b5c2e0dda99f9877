-- The slice of a content: the deletions of rows that meet the bounds, and the changes of the rows between them.
use Rattle.std.proofs.Common.{◌≡◌, ◌⊎◌, inl, inr, Bool, true, ◌&&◌, IsSome, List, ◌++◌, filter, sym, ap, subst, Contains}
use Rattle.std.specs.Ordering.{is_lt}
use Rattle.std.proofs.lemmas.Bool.{and_parts, and_from}
use Rattle.std.proofs.lemmas.List.Elements.{All-contains, Contains-append_left, Contains-append_right, Contains-append_cases}
use Rattle.std.proofs.lemmas.List.Kept.{IsStrictlySortedBy-filter}
use Rattle.changes.specs.declared.Bound.{Bound}
use Rattle.changes.specs.declared.Held.{Held}
use Rattle.changes.specs.declared.Place.{Place}
use Rattle.changes.specs.declared.Place.TheVariants.{Cell, Marker, RowGone, RangeGone, PartGone}
use Rattle.changes.specs.Order.{row_of, bound_signs, row_signs, signs_cmp}
use Rattle.changes.specs.Places.{AreInOrder, stored_cmp}
use Rattle.changes.specs.Queries.{MeetsBounds, IsSlice}
use Rattle.changes.proofs.Orderings.{less_is}
use Rattle.cell_merge.specs.Tests.{is_behind_bound, is_before_bound}
use Rattle.cell_merge.specs.Parts.{IsParted}
use Rattle.cell_merge.specs.Ranges.{AllInRows, IsInRow}
use Rattle.cell_merge.specs.Settled.{IsSettled}
use Rattle.cell_merge.proofs.InOrder.{sorted_across, sorted_both, sorted_front, sorted_back}
use Rattle.cell_merge.proofs.Parts.{from_parted, kept_or_gone, sorted_parted}
use Rattle.cs_base.proofs.Members.{contains_filter, contains_from_filter}

abbrev pub is_between : Bound → Bound → Held → Bool
is_between from upto x = is_behind_bound from x.place && is_before_bound upto x.place

-- a place in a row stands between the bounds where it meets them
meets_true : (from upto : Bound) (p : Place) → IsSome (row_of p) → MeetsBounds from upto p → (is_behind_bound from p && is_before_bound upto p) ≡ true
meets_true from upto (Cell r c) s m = and_from (is_behind_bound from (Cell r c)) (is_before_bound upto (Cell r c)) (ap is_lt m.0) (ap is_lt m.1)
meets_true from upto (Marker r) s m = and_from (is_behind_bound from (Marker r)) (is_before_bound upto (Marker r)) (ap is_lt m.0) (ap is_lt m.1)
meets_true from upto (RowGone r) s m = and_from (is_behind_bound from (RowGone r)) (is_before_bound upto (RowGone r)) (ap is_lt m.0) (ap is_lt m.1)
meets_true from upto (RangeGone a b) s m = cc
meets_true from upto PartGone s m = cc

pub between_meets : (from upto : Bound) (p : Place) → (is_behind_bound from p && is_before_bound upto p) ≡ true → MeetsBounds from upto p
between_meets from upto (Cell r c) t =
    let parts = and_parts (is_behind_bound from (Cell r c)) (is_before_bound upto (Cell r c)) t in (less_is (signs_cmp (bound_signs from) (row_signs r)) parts.0, less_is (signs_cmp (row_signs r) (bound_signs upto)) parts.1)
between_meets from upto (Marker r) t =
    let parts = and_parts (is_behind_bound from (Marker r)) (is_before_bound upto (Marker r)) t in (less_is (signs_cmp (bound_signs from) (row_signs r)) parts.0, less_is (signs_cmp (row_signs r) (bound_signs upto)) parts.1)
between_meets from upto (RowGone r) t =
    let parts = and_parts (is_behind_bound from (RowGone r)) (is_before_bound upto (RowGone r)) t in (less_is (signs_cmp (bound_signs from) (row_signs r)) parts.0, less_is (signs_cmp (row_signs r) (bound_signs upto)) parts.1)
between_meets from upto (RangeGone a b) t = cc
between_meets from upto PartGone t = tt

abbrev pub AreMeeting : Bound → Bound → List Held → List Held → Type 0
AreMeeting from upto wide some = IsParted (λ x. MeetsBounds from upto x.place) (λ x. MeetsBounds from upto x.place → ⊥) wide some

module _ (from upto : Bound) (content wide rows some : List Held) (whole : wide ++ rows ≡ content) (inside : AllInRows rows) (taken : AreMeeting from upto wide some) where
  of_wide : (x : Held) → Contains some x → Contains wide x × MeetsBounds from upto x.place
  of_wide x k = from_parted (λ y. MeetsBounds from upto y.place) (λ y. MeetsBounds from upto y.place → ⊥) wide some taken x k

  in_content : (x : Held) → Contains wide x ⊎ Contains rows x → Contains content x
  in_content x u = subst (λ (l : List Held). Contains l x) whole (elim u [ inl k ↦ Contains-append_left wide rows x k | inr k ↦ Contains-append_right wide rows x k ])

  from_part : (x : Held) → Contains (some ++ filter (is_between from upto) rows) x → Contains content x × MeetsBounds from upto x.place
  from_part x k = elim (Contains-append_cases some (filter (is_between from upto) rows) x k) [
    | inl c ↦ (let w = of_wide x c in (in_content x (inl w.0), w.1))
    | inr c ↦ (let r = contains_from_filter (is_between from upto) rows x c in (in_content x (inr r.0), between_meets from upto x.place r.1))
  ]

  into_part : (x : Held) → Contains content x × MeetsBounds from upto x.place → Contains (some ++ filter (is_between from upto) rows) x
  into_part x h = elim (Contains-append_cases wide rows x (subst (λ (l : List Held). Contains l x) (sym whole) h.0)) [
    | inl c ↦ Contains-append_left some (filter (is_between from upto) rows) x (elim (kept_or_gone (λ y. MeetsBounds from upto y.place) (λ y. MeetsBounds from upto y.place → ⊥) wide some taken x c) [ inl k ↦ k | inr n ↦ absurd (n h.1) ])
    | inr c ↦ Contains-append_right some (filter (is_between from upto) rows) x (contains_filter (is_between from upto) rows x c (meets_true from upto x.place (All-contains IsInRow rows x inside c) h.1))
  ]

  pub part_slice : (part : List Held) → part ≡ some ++ filter (is_between from upto) rows → IsSlice from upto content part
  part_slice part e = subst (λ (l : List Held). IsSlice from upto content l) (sym e) (λ x. (from_part x, into_part x))

  part_ordered : AreInOrder content → AreInOrder (some ++ filter (is_between from upto) rows)
  part_ordered ordered =
      let both : AreInOrder (wide ++ rows) = subst AreInOrder (sym whole) ordered in
      sorted_both stored_cmp some (filter (is_between from upto) rows)
      (sorted_parted (λ y. MeetsBounds from upto y.place) (λ y. MeetsBounds from upto y.place → ⊥) stored_cmp wide some taken (sorted_front stored_cmp wide rows both))
      (IsStrictlySortedBy-filter stored_cmp (is_between from upto) rows (sorted_back stored_cmp wide rows both))
      (λ x y hx hy. sorted_across stored_cmp wide rows both x y (of_wide x hx).0 (contains_from_filter (is_between from upto) rows y hy).0)

  pub part_settled : (part : List Held) → part ≡ some ++ filter (is_between from upto) rows → IsSettled content → IsSettled part
  part_settled part e h = subst IsSettled (sym e) (record { ordered = part_ordered h.ordered; apart = λ x y hx hy. h.apart x y (from_part x hx).0 (from_part y hy).0 })

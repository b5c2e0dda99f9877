-- The slice of a content is the content of the slice, since what outranks a change of the slice is in the slice.
use Rattle.std.proofs.Common.{ℕ, inl, inr, List, subst, sym}
use Rattle.changes.specs.declared.Bound.{Bound}
use Rattle.changes.specs.declared.Place.{Place}
use Rattle.changes.specs.declared.Place.TheVariants.{Cell, Marker, RowGone, RangeGone, PartGone}
use Rattle.changes.specs.declared.Held.{Held}
use Rattle.changes.specs.Order.{Encloses, IsBetween, NotAbove, bound_signs, row_signs}
use Rattle.changes.specs.Queries.{MeetsBounds}
use Rattle.changes.proofs.Places.{stored_total}
use Rattle.changes.proofs.Ranks.{above}
use Rattle.changes.proofs.Signs.{NotAbove_trans, below_not_above}
use Rattle.changes.proofs.Sorted.{sorted_one}
use Rattle.change_laws.specs.Kept.{BoundsAreMetAbove, SliceIsContent, SliceInOrderIsOne}

row_meets : (from upto a b : Bound) (row : List ℕ) → IsBetween a b row → IsBetween from upto row → NotAbove (bound_signs a) (bound_signs upto) × NotAbove (bound_signs from) (bound_signs b)
row_meets from upto a b row e m = (below_not_above (bound_signs a) (row_signs row) (bound_signs upto) e.0 m.1, below_not_above (bound_signs from) (row_signs row) (bound_signs b) m.0 e.1)

meets_around : (from upto : Bound) (p q : Place) → Encloses p q → MeetsBounds from upto q → MeetsBounds from upto p
meets_around from upto (Cell r c) q e m = absurd e
meets_around from upto (Marker r) q e m = absurd e
meets_around from upto (RowGone r) (Cell row column) e m = subst (IsBetween from upto) (sym e) m
meets_around from upto (RowGone r) (Marker row) e m = subst (IsBetween from upto) (sym e) m
meets_around from upto (RowGone r) (RowGone row) e m = absurd e
meets_around from upto (RowGone r) (RangeGone a b) e m = absurd e
meets_around from upto (RowGone r) PartGone e m = absurd e
meets_around from upto (RangeGone a b) (Cell row column) e m = row_meets from upto a b row e m
meets_around from upto (RangeGone a b) (Marker row) e m = row_meets from upto a b row e m
meets_around from upto (RangeGone a b) (RowGone row) e m = row_meets from upto a b row e m
meets_around from upto (RangeGone a b) (RangeGone c d) e m =
    (NotAbove_trans (bound_signs a) (bound_signs c) (bound_signs upto) e.0 m.0, NotAbove_trans (bound_signs from) (bound_signs d) (bound_signs b) m.1 e.1)
meets_around from upto (RangeGone a b) PartGone e m = absurd e
meets_around from upto PartGone q e m = tt

pub meets_above : BoundsAreMetAbove
meets_above from upto x y over m =
    elim (above x y over) [
      | inl b ↦ subst (MeetsBounds from upto) (sym b.0) m
      | inr i ↦ meets_around from upto x.place y.place i.0 m
    ]

pub slice_is_content : (S : Held → Type 0) → SliceIsContent S
slice_is_content S from upto kept part h slice =
    record {
      within = λ x k. let parts = (slice x).0 k in (h.within x parts.0, parts.1);
      reached = λ x s. elim (h.reached x s.0) [
        | inl here ↦ inl ((slice x).1 (here, s.1))
        | inr (y, here, over) ↦ inr (y, (slice y).1 (here, meets_above from upto y x over s.1), over)
      ];
      apart = λ x y kx ky. h.apart x y ((slice x).0 kx).0 ((slice y).0 ky).0;
    }

pub slice_in_order_is_one : SliceInOrderIsOne
slice_in_order_is_one from upto content part other f s up high =
    sorted_one stored_total part other up high (λ x here. (s x).1 ((f x).0 here)) (λ x here. (f x).1 ((s x).0 here))

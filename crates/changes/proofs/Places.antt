-- The order of places: total, and equal only for the same; and what lies in what.
use Rattle.std.proofs.Common.{◌≡◌, ◌≢◌, ℕ, ◌⊎◌, ◌↔◌, IsTrue, inl, inr, Option, Some, None, List, [], ◌∷◌, ◌++◌, Bool, refl, sym, ◌∙◌, ap, subst}
use Rattle.std.specs.Cmp.{IsTotalOrder}
use Rattle.std.specs.Cmp.Lexicographic.{slice_cmp}
use Rattle.std.specs.Ordering.{nat_cmp, ordering_then, is_eq}
use Rattle.std.specs.declared.cmp.Ordering.{Ordering}
use Rattle.std.specs.declared.cmp.Ordering.TheVariants.{Less, Equal, Greater}
use Rattle.std.proofs.lemmas.Cmp.{on_total, tied_itself}
use Rattle.std.proofs.lemmas.Map.Lookups.{exact_unsigned}
use Rattle.changes.specs.declared.Bound.{Bound}
use Rattle.changes.specs.declared.Held.{Held}
use Rattle.changes.specs.declared.Place.{Place}
use Rattle.changes.specs.declared.Place.TheVariants.{Cell, Marker, RowGone, RangeGone, PartGone}
use Rattle.changes.specs.Order.{row_of, row_signs, bound_signs, sign_cmp, signs_cmp, Encloses, IsBetween, IsDeletionAt, NotAbove}
use Rattle.changes.specs.Places.{place_signs, bound_cmp, place_cmp, stored_cmp}
use Rattle.changes.specs.Tests.{step_of}
use Rattle.changes.specs.Totals.{place_total}
use Rattle.changes.proofs.Orderings.{cases_ordering, then_end, then_equal, bytes_exact, equal_is}
use Rattle.changes.proofs.Signs.{lead_bounds, lead_rows, rows_by_bytes, bound_exact, bound_from_signs, NotAbove_trans, below_on, below_upto, one_from_both}

pub stored_total : IsTotalOrder stored_cmp
stored_total = on_total (λ (x : Held). x.place) place_total

-- ---- place by place

pub ranges_compare : (a b c d : Bound) → place_cmp (RangeGone a b) (RangeGone c d) ≡ ordering_then (bound_cmp a c) (bound_cmp b d)
ranges_compare a b c d = lead_bounds a c (bound_signs b) (bound_signs d)

-- a place in a row, by what stands behind the row
abbrev pub row_place : List ℕ → ℕ × ℕ → List (ℕ × ℕ)
row_place row step = (2, 0) ∷ (row_signs row ++ step ∷ [])

pub steps_compare : (a b : List ℕ) (x y : ℕ × ℕ) → signs_cmp (row_place a x) (row_place b y) ≡ ordering_then (slice_cmp nat_cmp a b) (sign_cmp x y)
steps_compare a b x y =
    lead_rows a b (x ∷ []) (y ∷ [])
    ∙ ap (λ (o : Ordering). ordering_then o (ordering_then (sign_cmp x y) Equal)) (rows_by_bytes a b)
    ∙ ap (ordering_then (slice_cmp nat_cmp a b)) (then_end (sign_cmp x y))

then_of : (a b c d o : Ordering) → a ≡ c → b ≡ d → o ≡ ordering_then a b → o ≡ ordering_then c d
then_of a b c d o p q e = e ∙ ap (λ (z : Ordering). ordering_then z b) p ∙ ap (ordering_then c) q

pub ranges_by_bounds : (p q : Place) (a b c d : Bound) (first next o : Ordering) → p ≡ RangeGone a b → q ≡ RangeGone c d → first ≡ bound_cmp a c → next ≡ bound_cmp b d → o ≡ ordering_then first next → o ≡ place_cmp p q
ranges_by_bounds p q a b c d first next o is_p is_q e f g =
    then_of first next (bound_cmp a c) (bound_cmp b d) o e f g
    ∙ sym (ranges_compare a b c d)
    ∙ ap (λ (v : Place). place_cmp v (RangeGone c d)) (sym is_p)
    ∙ ap (λ (v : Place). place_cmp p v) (sym is_q)

abbrev bytes_of : Option (List ℕ) → List ℕ
bytes_of None = []
bytes_of (Some bytes) = bytes

-- a place in a row is its row and step
in_row : (p : Place) (row : List ℕ) → row_of p ≡ Some row → place_signs p ≡ row_place row (step_of p)
in_row PartGone row e = cc
in_row (RangeGone from upto) row e = cc
in_row (RowGone r) row e = ap (λ (o : Option (List ℕ)). row_place (bytes_of o) (0, 0)) e
in_row (Marker r) row e = ap (λ (o : Option (List ℕ)). row_place (bytes_of o) (1, 0)) e
in_row (Cell r column) row e = ap (λ (o : Option (List ℕ)). row_place (bytes_of o) (2, column)) e

-- places in rows compare by their rows, and then by their steps
pub in_rows : (p q : Place) (a b : List ℕ) → row_of p ≡ Some a → row_of q ≡ Some b → place_cmp p q ≡ ordering_then (slice_cmp nat_cmp a b) (sign_cmp (step_of p) (step_of q))
in_rows p q a b e f =
    ap (λ (l : List (ℕ × ℕ)). signs_cmp l (place_signs q)) (in_row p a e)
    ∙ ap (λ (l : List (ℕ × ℕ)). signs_cmp (row_place a (step_of p)) l) (in_row q b f)
    ∙ steps_compare a b (step_of p) (step_of q)

pub rows_by_steps : (p q : Place) (a b : List ℕ) (x y : ℕ × ℕ) (first next o : Ordering) → row_of p ≡ Some a → row_of q ≡ Some b → x ≡ step_of p → y ≡ step_of q → first ≡ slice_cmp nat_cmp a b → next ≡ sign_cmp x y → o ≡ ordering_then first next → o ≡ place_cmp p q
rows_by_steps p q a b x y first next o is_p is_q step_p step_q e f g =
    then_of first next (slice_cmp nat_cmp a b) (sign_cmp (step_of p) (step_of q)) o e
    (f ∙ ap (λ (v : ℕ × ℕ). sign_cmp v y) step_p ∙ ap (λ (v : ℕ × ℕ). sign_cmp (step_of p) v) step_q) g
    ∙ sym (in_rows p q a b is_p is_q)

row_exact : (a b : List ℕ) (x y : ℕ × ℕ) → signs_cmp (row_place a x) (row_place b y) ≡ Equal → (a ≡ b) × (sign_cmp x y ≡ Equal)
row_exact a b x y e =
    let parts = then_equal _ _ (sym (steps_compare a b x y) ∙ e) in
    (bytes_exact a b parts.0, parts.1)

pub ranges_made : {a b c d : Bound} → a ≡ c → b ≡ d → RangeGone a b ≡ RangeGone c d
ranges_made p q = cc

pub place_exact : (p q : Place) → place_cmp p q ≡ Equal → p ≡ q
place_exact PartGone PartGone e = refl
place_exact PartGone (RangeGone c d) e = cc
place_exact PartGone (RowGone b) e = cc
place_exact PartGone (Marker b) e = cc
place_exact PartGone (Cell b y) e = cc
place_exact (RangeGone a b) PartGone e = cc
place_exact (RangeGone a b) (RangeGone c d) e =
    let parts = then_equal _ _ (sym (ranges_compare a b c d) ∙ e) in
    ranges_made (bound_exact a c parts.0) (bound_exact b d parts.1)
place_exact (RangeGone a b) (RowGone r) e = cc
place_exact (RangeGone a b) (Marker r) e = cc
place_exact (RangeGone a b) (Cell r y) e = cc
place_exact (RowGone a) PartGone e = cc
place_exact (RowGone a) (RangeGone c d) e = cc
place_exact (RowGone a) (RowGone b) e = ap (λ (r : List ℕ). RowGone r) (row_exact a b (0, 0) (0, 0) e).0
place_exact (RowGone a) (Marker b) e = let apart : Less ≡ Equal = (row_exact a b (0, 0) (1, 0) e).1 in cc
place_exact (RowGone a) (Cell b y) e = let apart : Less ≡ Equal = (row_exact a b (0, 0) (2, y) e).1 in cc
place_exact (Marker a) PartGone e = cc
place_exact (Marker a) (RangeGone c d) e = cc
place_exact (Marker a) (RowGone b) e = let apart : Greater ≡ Equal = (row_exact a b (1, 0) (0, 0) e).1 in cc
place_exact (Marker a) (Marker b) e = ap (λ (r : List ℕ). Marker r) (row_exact a b (1, 0) (1, 0) e).0
place_exact (Marker a) (Cell b y) e = let apart : Less ≡ Equal = (row_exact a b (1, 0) (2, y) e).1 in cc
place_exact (Cell a x) PartGone e = cc
place_exact (Cell a x) (RangeGone c d) e = cc
place_exact (Cell a x) (RowGone b) e = let apart : Greater ≡ Equal = (row_exact a b (2, x) (0, 0) e).1 in cc
place_exact (Cell a x) (Marker b) e = let apart : Greater ≡ Equal = (row_exact a b (2, x) (1, 0) e).1 in cc
place_exact (Cell a x) (Cell b y) e =
    let parts = row_exact a b (2, x) (2, y) e in
    ap (λ (r : List ℕ). Cell r x) parts.0 ∙ ap (λ (n : ℕ). Cell b n) (exact_unsigned x y parts.1)

pub place_tied : (p q : Place) → p ≡ q → place_cmp p q ≡ Equal
place_tied p q e = subst (λ (v : Place). place_cmp p v ≡ Equal) e (tied_itself place_total p)

pub same_place_iff : (p q : Place) → IsTrue (is_eq (place_cmp p q)) ↔ (p ≡ q)
same_place_iff p q = (λ t. place_exact p q (equal_is (place_cmp p q) t), λ e. ap is_eq (place_tied p q e))

apart_by : (p q : Place) (o : Ordering) → place_cmp p q ≡ o → o ≢ Equal → p ≢ q
apart_by p q o is other same = other (sym is ∙ place_tied p q same)

-- two places are one, or they differ
pub same_place_or_not : (p q : Place) → (p ≡ q) ⊎ (p ≢ q)
same_place_or_not p q = elim (cases_ordering (place_cmp p q)) [
  | inl less ↦ inr (apart_by p q Less less (λ e. cc))
  | inr (inl equal) ↦ inl (place_exact p q equal)
  | inr (inr greater) ↦ inr (apart_by p q Greater greater (λ e. cc))
]

-- ---- what lies in what

pub Encloses_irrefl : (p : Place) → Encloses p p → ⊥
Encloses_irrefl (Cell r column) e = e
Encloses_irrefl (Marker r) e = e
Encloses_irrefl (RowGone r) e = e
Encloses_irrefl (RangeGone from upto) e = e.2 refl
Encloses_irrefl PartGone e = e

within : (from upto a b : Bound) (row : List ℕ) → NotAbove (bound_signs from) (bound_signs a) → NotAbove (bound_signs b) (bound_signs upto) → IsBetween a b row → IsBetween from upto row
within from upto a b row low high e = (below_on (bound_signs from) (bound_signs a) (row_signs row) low e.0, below_upto (row_signs row) (bound_signs b) (bound_signs upto) e.1 high)

ranges_apart : (a b c d from upto : Bound) → NotAbove (bound_signs from) (bound_signs a) → NotAbove (bound_signs b) (bound_signs upto) → NotAbove (bound_signs a) (bound_signs c) → NotAbove (bound_signs d) (bound_signs b) → RangeGone a b ≢ RangeGone from upto → RangeGone c d ≢ RangeGone from upto
ranges_apart a b c d from upto low high low' high' apart e =
    let c_is : c ≡ from = cc in
    let d_is : d ≡ upto = cc in
    let a_is : a ≡ from = bound_from_signs a from (one_from_both (bound_signs a) (bound_signs from) (subst (λ (v : Bound). NotAbove (bound_signs a) (bound_signs v)) c_is low') low) in
    let b_is : b ≡ upto = bound_from_signs b upto (one_from_both (bound_signs b) (bound_signs upto) high (subst (λ (v : Bound). NotAbove (bound_signs v) (bound_signs b)) d_is high')) in
    apart (ranges_made a_is b_is)

pub Encloses_trans : (p q r : Place) → Encloses p q → Encloses q r → Encloses p r
Encloses_trans (Cell a column) q r e f = absurd e
Encloses_trans (Marker a) q r e f = absurd e
Encloses_trans (RowGone a) (Cell b column) r e f = absurd f
Encloses_trans (RowGone a) (Marker b) r e f = absurd f
Encloses_trans (RowGone a) (RowGone b) r e f = absurd e
Encloses_trans (RowGone a) (RangeGone b c) r e f = absurd e
Encloses_trans (RowGone a) PartGone r e f = absurd e
Encloses_trans (RangeGone from upto) (Cell b column) r e f = absurd f
Encloses_trans (RangeGone from upto) (Marker b) r e f = absurd f
Encloses_trans (RangeGone from upto) (RowGone b) (Cell row column) e f = subst (IsBetween from upto) f e
Encloses_trans (RangeGone from upto) (RowGone b) (Marker row) e f = subst (IsBetween from upto) f e
Encloses_trans (RangeGone from upto) (RowGone b) (RowGone row) e f = absurd f
Encloses_trans (RangeGone from upto) (RowGone b) (RangeGone c d) e f = absurd f
Encloses_trans (RangeGone from upto) (RowGone b) PartGone e f = absurd f
Encloses_trans (RangeGone from upto) (RangeGone a b) (Cell row column) e f = within from upto a b row e.0 e.1 f
Encloses_trans (RangeGone from upto) (RangeGone a b) (Marker row) e f = within from upto a b row e.0 e.1 f
Encloses_trans (RangeGone from upto) (RangeGone a b) (RowGone row) e f = within from upto a b row e.0 e.1 f
Encloses_trans (RangeGone from upto) (RangeGone a b) (RangeGone c d) e f =
    (NotAbove_trans (bound_signs from) (bound_signs a) (bound_signs c) e.0 f.0, NotAbove_trans (bound_signs d) (bound_signs b) (bound_signs upto) f.1 e.1, ranges_apart a b c d from upto e.0 e.1 f.0 f.1 e.2)
Encloses_trans (RangeGone from upto) (RangeGone a b) PartGone e f = absurd f
Encloses_trans (RangeGone from upto) PartGone r e f = absurd e
Encloses_trans PartGone q (Cell row column) e f = tt
Encloses_trans PartGone q (Marker row) e f = tt
Encloses_trans PartGone q (RowGone row) e f = tt
Encloses_trans PartGone q (RangeGone a b) e f = tt
Encloses_trans PartGone (Cell a column) PartGone e f = f
Encloses_trans PartGone (Marker a) PartGone e f = f
Encloses_trans PartGone (RowGone a) PartGone e f = f
Encloses_trans PartGone (RangeGone a b) PartGone e f = f
Encloses_trans PartGone PartGone PartGone e f = f

-- what lies in a place, lies in a deletion
pub Encloses_deletion : (p q : Place) (v : Option (List ℕ)) → Encloses p q → IsDeletionAt p v
Encloses_deletion (Cell r column) q v e = absurd e
Encloses_deletion (Marker r) q v e = absurd e
Encloses_deletion (RowGone r) q v e = tt
Encloses_deletion (RangeGone from upto) q v e = tt
Encloses_deletion PartGone q v e = tt

-- a range that spans another one and is not it
pub range_encloses : (p q : Place) (from upto a b : Bound) (t : Bool) → p ≡ RangeGone from upto → q ≡ RangeGone a b → p ≢ q → (IsTrue t ↔ (NotAbove (bound_signs from) (bound_signs a) × NotAbove (bound_signs b) (bound_signs upto))) → IsTrue t ↔ Encloses p q
range_encloses p q from upto a b t is_p is_q apart iff = (
  λ h.
      let both = iff.0 h in
      let inside : Encloses (RangeGone from upto) (RangeGone a b) = (both.0, both.1, λ e. apart (is_p ∙ sym e ∙ sym is_q)) in
      subst (λ (v : Place). Encloses v q) (sym is_p) (subst (λ (v : Place). Encloses (RangeGone from upto) v) (sym is_q) inside),
  λ e.
      let inside : Encloses (RangeGone from upto) (RangeGone a b) = subst (λ (v : Place). Encloses (RangeGone from upto) v) is_q (subst (λ (v : Place). Encloses v q) is_p e) in
      iff.1 (inside.0, inside.1),
)

pub same_encloses_not : (p q : Place) → p ≡ q → Encloses p q → ⊥
same_encloses_not p q same e = Encloses_irrefl q (subst (λ (v : Place). Encloses v q) same e)

-- Where pages begin, among rows and bounds.
use Rattle.std.proofs.Common.{◌≡◌, ◌≢◌, ℕ, zero, suc, List, [], ◌∷◌, Bool, true, false, refl, ap, arith}
use Rattle.std.specs.Prelude.{◌↔◌}
use Rattle.std.proofs.lemmas.Grind.{common_steps}
use Rattle.std.specs.Ordering.{nat_cmp, ordering_then}
use Rattle.std.specs.declared.cmp.Ordering.{Ordering}
use Rattle.std.specs.declared.cmp.Ordering.TheVariants.{Less, Equal, Greater}
use Rattle.changes.specs.Order.{IsBetween, StandsBelow, NotAbove, bound_signs, row_signs, byte_sign, sign_cmp, signs_cmp}
use Rattle.changes.specs.Places.{bound_cmp}
use Rattle.changes.specs.Totals.{signs_total}
use Rattle.changes.specs.declared.Bound.{Bound}
use Rattle.changes.specs.declared.Query.{Query}
use Rattle.changes.proofs.Orderings.{greater_back}
use Rattle.changes.proofs.Signs.{below_on, below_upto}
use Rattle.session_v4.specs.Paging.{behind_row, before_row, later_by, later_bound, earlier_by, earlier_bound, behind_by}
use Rattle.session_v4.specs.PageLaws.{StandsBehind, PagesBegin}

-- ---- the bound behind a row stands below what the row stands below, and no more

then_same : (o a b : Ordering) → (a ≡ Less → b ≡ Less) → ordering_then o a ≡ Less → ordering_then o b ≡ Less
then_same Less a b f h = h
then_same Equal a b f h = f h
then_same Greater a b f h = h

zero_below : (n : ℕ) → nat_cmp 0 (suc n) ≡ Less
zero_below n = grind (arith, common_steps)

zero_first : (b : ℕ) (o : Ordering) → o ≡ Less → ordering_then (nat_cmp 0 b) o ≡ Less
zero_first zero o h = h
zero_first (suc n) o h = ap (λ (c : Ordering). ordering_then c o) (zero_below n)

behind_ends : (bs : List ℕ) → signs_cmp ((0, 0) ∷ []) (row_signs bs) ≡ Less
behind_ends [] = refl
behind_ends (b ∷ bs) = refl

behind_from_row : (last row : List ℕ) → StandsBelow (row_signs last) (row_signs row) → StandsBelow (bound_signs (behind_row last)) (row_signs row)
behind_from_row [] [] h = cc
behind_from_row [] (b ∷ bs) h = zero_first b _ (behind_ends bs)
behind_from_row (a ∷ as_) [] h = cc
behind_from_row (a ∷ as_) (b ∷ bs) h =
    then_same (sign_cmp (byte_sign a) (byte_sign b)) (signs_cmp (row_signs as_) (row_signs bs)) (signs_cmp (bound_signs (behind_row as_)) (row_signs bs))
    (behind_from_row as_ bs) h

row_from_behind : (last row : List ℕ) → StandsBelow (bound_signs (behind_row last)) (row_signs row) → StandsBelow (row_signs last) (row_signs row)
row_from_behind [] [] h = cc
row_from_behind [] (b ∷ bs) h = refl
row_from_behind (a ∷ as_) [] h = cc
row_from_behind (a ∷ as_) (b ∷ bs) h =
    then_same (sign_cmp (byte_sign a) (byte_sign b)) (signs_cmp (bound_signs (behind_row as_)) (row_signs bs)) (signs_cmp (row_signs as_) (row_signs bs))
    (row_from_behind as_ bs) h

before_from_row : (last row : List ℕ) → StandsBelow (row_signs row) (row_signs last) → StandsBelow (row_signs row) (bound_signs (before_row last))
before_from_row [] [] h = cc
before_from_row [] (b ∷ bs) h = cc
before_from_row (a ∷ as_) [] h = refl
before_from_row (a ∷ as_) (b ∷ bs) h =
    then_same (sign_cmp (byte_sign b) (byte_sign a)) (signs_cmp (row_signs bs) (row_signs as_)) (signs_cmp (row_signs bs) (bound_signs (before_row as_)))
    (before_from_row as_ bs) h

row_from_before : (last row : List ℕ) → StandsBelow (row_signs row) (bound_signs (before_row last)) → StandsBelow (row_signs row) (row_signs last)
row_from_before [] [] h = cc
row_from_before [] (b ∷ bs) h = cc
row_from_before (a ∷ as_) [] h = refl
row_from_before (a ∷ as_) (b ∷ bs) h =
    then_same (sign_cmp (byte_sign b) (byte_sign a)) (signs_cmp (row_signs bs) (bound_signs (before_row as_))) (signs_cmp (row_signs bs) (row_signs as_))
    (row_from_before as_ bs) h

-- ---- the later of two bounds

not_above_less : (a b : List (ℕ × ℕ)) → signs_cmp a b ≡ Less → NotAbove a b
not_above_less a b p q = cc

not_above_equal : (a b : List (ℕ × ℕ)) → signs_cmp a b ≡ Equal → NotAbove a b
not_above_equal a b p q = cc

not_above_back : (a b : List (ℕ × ℕ)) → signs_cmp a b ≢ Less → NotAbove b a
not_above_back a b p q = p (greater_back signs_total b a q)

-- a row stands behind the later of two bounds where it stands behind both
later_from_both : (a b : Bound) (row : List (ℕ × ℕ)) → StandsBelow (bound_signs a) row → StandsBelow (bound_signs b) row
    → (o : Ordering) → StandsBelow (bound_signs (later_by o a b)) row
later_from_both a b row p q Less = q
later_from_both a b row p q Equal = p
later_from_both a b row p q Greater = p

first_from_later : (a b : Bound) (row : List (ℕ × ℕ)) → (o : Ordering) → bound_cmp a b ≡ o → StandsBelow (bound_signs (later_by o a b)) row → StandsBelow (bound_signs a) row
first_from_later a b row Less e p = below_on (bound_signs a) (bound_signs b) row (not_above_less (bound_signs a) (bound_signs b) e) p
first_from_later a b row Equal e p = p
first_from_later a b row Greater e p = p

second_from_later : (a b : Bound) (row : List (ℕ × ℕ)) → (o : Ordering) → bound_cmp a b ≡ o → StandsBelow (bound_signs (later_by o a b)) row → StandsBelow (bound_signs b) row
second_from_later a b row Less e p = p
second_from_later a b row Equal e p = below_on (bound_signs b) (bound_signs a) row (not_above_back (bound_signs a) (bound_signs b) (λ h. cc)) p
second_from_later a b row Greater e p = below_on (bound_signs b) (bound_signs a) row (not_above_back (bound_signs a) (bound_signs b) (λ h. cc)) p

earlier_from_both : (a b : Bound) (row : List (ℕ × ℕ)) → StandsBelow row (bound_signs a) → StandsBelow row (bound_signs b)
    → (o : Ordering) → StandsBelow row (bound_signs (earlier_by o a b))
earlier_from_both a b row p q Less = p
earlier_from_both a b row p q Equal = p
earlier_from_both a b row p q Greater = q

first_from_earlier : (a b : Bound) (row : List (ℕ × ℕ)) → (o : Ordering) → bound_cmp a b ≡ o → StandsBelow row (bound_signs (earlier_by o a b)) → StandsBelow row (bound_signs a)
first_from_earlier a b row Less e p = p
first_from_earlier a b row Equal e p = p
first_from_earlier a b row Greater e p = below_upto row (bound_signs b) (bound_signs a) p (not_above_back (bound_signs a) (bound_signs b) (λ h. cc))

second_from_earlier : (a b : Bound) (row : List (ℕ × ℕ)) → (o : Ordering) → bound_cmp a b ≡ o → StandsBelow row (bound_signs (earlier_by o a b)) → StandsBelow row (bound_signs b)
second_from_earlier a b row Less e p = below_upto row (bound_signs a) (bound_signs b) p (not_above_less (bound_signs a) (bound_signs b) e)
second_from_earlier a b row Equal e p = below_upto row (bound_signs a) (bound_signs b) p (not_above_equal (bound_signs a) (bound_signs b) e)
second_from_earlier a b row Greater e p = p

-- ---- pages

forward : (from upto : Bound) (last row : List ℕ) → IsBetween (later_bound (behind_row last) from) upto row ↔ (IsBetween from upto row × StandsBehind false last row)
forward from upto last row = (
  λ h. ((second_from_later (behind_row last) from (row_signs row) (bound_cmp (behind_row last) from) refl h.0, h.1), row_from_behind last row (first_from_later (behind_row last) from (row_signs row) (bound_cmp (behind_row last) from) refl h.0)),
  λ h. (later_from_both (behind_row last) from (row_signs row) (behind_from_row last row h.1) h.0.0 (bound_cmp (behind_row last) from), h.0.1),
)

backward : (from upto : Bound) (last row : List ℕ) → IsBetween from (earlier_bound (before_row last) upto) row ↔ (IsBetween from upto row × StandsBehind true last row)
backward from upto last row = (
  λ h. ((h.0, second_from_earlier (before_row last) upto (row_signs row) (bound_cmp (before_row last) upto) refl h.1), row_from_before last row (first_from_earlier (before_row last) upto (row_signs row) (bound_cmp (before_row last) upto) refl h.1)),
  λ h. (h.0.0, earlier_from_both (before_row last) upto (row_signs row) (before_from_row last row h.1) h.0.1 (bound_cmp (before_row last) upto)),
)

pub pages_by : (b : Bool) (q : Query) (last row : List ℕ)
    → IsBetween (behind_by b last q).from (behind_by b last q).upto row ↔ (IsBetween q.from q.upto row × StandsBehind b last row)
pages_by false q last row = forward q.from q.upto last row
pages_by true q last row = backward q.from q.upto last row

pub pages_begin : PagesBegin
pages_begin q last row = pages_by q.reversed q last row

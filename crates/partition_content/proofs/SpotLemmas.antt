-- Keys compare alike only where they are one, and a bound stands to a place as it does to its row.
use Rattle.std.proofs.Common.{◌≡◌, ◌≢◌, ℕ, zero, suc, ◌+◌, ◌<◌, min, Bool, true, false, List, [], ◌∷◌, ◌++◌, length, drop, get_or, Option, Some, None, refl, sym, ◌∙◌, ap, subst, arith}
use Rattle.std.specs.Ordering.{MatchOrdering, nat_cmp, ordering_then, ordering_reverse, is_eq}
use Rattle.std.specs.declared.cmp.Ordering.{Ordering}
use Rattle.std.specs.declared.cmp.Ordering.TheVariants.{Less, Equal, Greater}
use Rattle.std.specs.Cmp.{IsTotalOrder}
use Rattle.std.specs.Cmp.Lexicographic.{slice_cmp}
use Rattle.std.proofs.lemmas.Map.Lookups.{exact_unsigned}
use Rattle.std.proofs.lemmas.Cmp.{lists_total, nat_cmp_total, ranked, tied_back, tied_itself}
use Rattle.changes.specs.declared.Bound.{Bound}
use Rattle.changes.specs.declared.Place.{Place}
use Rattle.changes.specs.declared.Place.TheVariants.{Cell, Marker, RowGone, RangeGone, PartGone}
use Rattle.changes.specs.Order.{signs, end_of, row_signs, bound_signs, signs_cmp, row_of, StandsBelow}
use Rattle.changes.specs.Places.{place_signs}
use Rattle.changes.proofs.Places.{place_exact}
use Rattle.changes.proofs.Signs.{bound_exact}
use Rattle.partition_content.specs.declared.spots.Spot.{Spot}
use Rattle.partition_content.specs.declared.spots.Spot.TheVariants.{At, Edge}
use Rattle.partition_content.specs.Spots.{spot_cmp}
use Rattle.partition_content.specs.SpotLaws.{sign_total, spot_total}

-- ---- a bound and a place in a row

-- a row stands to a bound as all that begins with its signs does
edge_row : (at row : List ℕ) (after : Bool) (t : ℕ × ℕ) → signs_cmp (signs at (end_of after)) (row_signs row ++ t ∷ []) ≡ signs_cmp (signs at (end_of after)) (row_signs row)
edge_row [] [] false t = refl
edge_row [] [] true t = refl
edge_row [] (y ∷ ys) false t = refl
edge_row [] (y ∷ ys) true t = refl
edge_row (x ∷ xs) [] false t = refl
edge_row (x ∷ xs) [] true t = refl
edge_row (x ∷ xs) (y ∷ ys) after t = ap (ordering_then (nat_cmp x y)) (edge_row xs ys after t)

then_equal : (a b : Ordering) → ordering_then a b ≡ Equal → b ≡ Equal
then_equal Less b p = cc
then_equal Equal b p = p
then_equal Greater b p = cc

edge_apart : (at row : List ℕ) (after : Bool) → signs_cmp (signs at (end_of after)) (row_signs row) ≢ Equal
edge_apart [] [] false p = cc
edge_apart [] [] true p = cc
edge_apart [] (y ∷ ys) false p = cc
edge_apart [] (y ∷ ys) true p = cc
edge_apart (x ∷ xs) [] after p = cc
edge_apart (x ∷ xs) (y ∷ ys) after p = edge_apart xs ys after (then_equal (nat_cmp x y) (signs_cmp (signs xs (end_of after)) (row_signs ys)) p)

-- before a row the bound is below each place of it, and behind it above
pub edge_stands : (b : Bound) (p : Place) (row : List ℕ) → row_of p ≡ Some row → signs_cmp ((2, 0) ∷ bound_signs b) (place_signs p) ≡ signs_cmp (bound_signs b) (row_signs row)
edge_stands b (Cell r c) row e = let same : r ≡ row = cc in subst (λ (v : List ℕ). signs_cmp ((2, 0) ∷ bound_signs b) (place_signs (Cell r c)) ≡ signs_cmp (bound_signs b) (row_signs v)) same (edge_row b.at r b.after (2, c))
edge_stands b (Marker r) row e = let same : r ≡ row = cc in subst (λ (v : List ℕ). signs_cmp ((2, 0) ∷ bound_signs b) (place_signs (Marker r)) ≡ signs_cmp (bound_signs b) (row_signs v)) same (edge_row b.at r b.after (1, 0))
edge_stands b (RowGone r) row e = let same : r ≡ row = cc in subst (λ (v : List ℕ). signs_cmp ((2, 0) ∷ bound_signs b) (place_signs (RowGone r)) ≡ signs_cmp (bound_signs b) (row_signs v)) same (edge_row b.at r b.after (0, 0))
edge_stands b (RangeGone f u) row e = cc
edge_stands b PartGone row e = cc

pub edge_above : (b : Bound) (p : Place) → row_of p ≡ None → signs_cmp ((2, 0) ∷ bound_signs b) (place_signs p) ≡ Greater
edge_above b (Cell r c) e = cc
edge_above b (Marker r) e = cc
edge_above b (RowGone r) e = cc
edge_above b (RangeGone f u) e = refl
edge_above b PartGone e = refl

pub edge_not_row : (b : Bound) (row : List ℕ) → signs_cmp (bound_signs b) (row_signs row) ≢ Equal
edge_not_row b row = edge_apart b.at row b.after

not_less : (o : Ordering) → o ≢ Equal → (o ≡ Less → ⊥) → o ≡ Greater
not_less Less a b = absurd (b refl)
not_less Equal a b = absurd (a refl)
not_less Greater a b = refl

-- a bound that isn't before a row is behind it
pub edge_behind : (b : Bound) (row : List ℕ) → (StandsBelow (bound_signs b) (row_signs row) → ⊥) → signs_cmp (bound_signs b) (row_signs row) ≡ Greater
edge_behind b row h = not_less (signs_cmp (bound_signs b) (row_signs row)) (edge_not_row b row) h

edge_place_apart : (b : Bound) (p : Place) (o : Option (List ℕ)) → row_of p ≡ o → signs_cmp ((2, 0) ∷ bound_signs b) (place_signs p) ≢ Equal
edge_place_apart b p None e q = let above = sym (edge_above b p e) ∙ q in cc
edge_place_apart b p (Some row) e q = edge_not_row b row (sym (edge_stands b p row e) ∙ q)

pub signs_total : IsTotalOrder signs_cmp
signs_total = lists_total sign_total

pub reversed : (xs ys : List (ℕ × ℕ)) → ordering_reverse (signs_cmp xs ys) ≡ signs_cmp ys xs
reversed xs ys = sym (signs_total.antisymm ys xs)

-- ---- keys that compare alike

pub edge_not_place : (b : Bound) (p : Place) → spot_cmp (At p) (Edge b) ≢ Equal
edge_not_place b p q = edge_place_apart b p (row_of p) refl (tied_back signs_total (place_signs p) ((2, 0) ∷ bound_signs b) q)

-- a key that compares alike with a place's is that place's
pub spot_exact : (p : Place) (s : Spot) → spot_cmp (At p) s ≡ Equal → s ≡ At p
spot_exact p (At q) e = ap (λ (v : Place). At v) (sym (place_exact p q e))
spot_exact p (Edge b) e = absurd (edge_not_place b p e)

edge_exact : (b : Bound) (s : Spot) → spot_cmp (Edge b) s ≡ Equal → s ≡ Edge b
edge_exact b (At p) e = absurd (edge_place_apart b p (row_of p) refl e)
edge_exact b (Edge c) e = ap (λ (v : Bound). Edge v) (sym (bound_exact b c e))

-- keys that compare alike are one
pub key_exact : (k s : Spot) → spot_cmp k s ≡ Equal → s ≡ k
key_exact (At p) s e = spot_exact p s e
key_exact (Edge b) s e = edge_exact b s e

eq_tells : (o : Ordering) → is_eq o ≡ true → o ≡ Equal
eq_tells Less h = cc
eq_tells Equal h = refl
eq_tells Greater h = cc

-- what a look-up for a place passes is its key
pub spot_found : (p : Place) (s : Spot) → is_eq (spot_cmp (At p) s) ≡ true → s ≡ At p
spot_found p s h = spot_exact p s (eq_tells (spot_cmp (At p) s) h)

pub spot_itself : (s : Spot) → is_eq (spot_cmp s s) ≡ true
spot_itself s = ap is_eq (tied_itself spot_total s)

pub place_kept : (p q : Place) → At p ≡ At q → p ≡ q
place_kept p q e = cc

-- ---- bytes compared one by one

-- what is left of both from here on compares as the whole does
abbrev pub Rest : List ℕ → List ℕ → ℕ → Type 0
Rest xs ys i = slice_cmp nat_cmp (drop i xs) (drop i ys) ≡ slice_cmp nat_cmp xs ys

cut : (xs : List ℕ) (i : ℕ) → i < length xs → drop i xs ≡ get_or xs i 0 ∷ drop (suc i) xs
cut [] i h = absurd (omega arith)
cut (x ∷ xs) zero h = refl
cut (x ∷ xs) (suc i) h = cut xs i (omega arith)

cut_both : (xs ys : List ℕ) (i : ℕ) → i < length xs → i < length ys → slice_cmp nat_cmp (drop i xs) (drop i ys) ≡ ordering_then (nat_cmp (get_or xs i 0) (get_or ys i 0)) (slice_cmp nat_cmp (drop (suc i) xs) (drop (suc i) ys))
cut_both xs ys i h k = ap (λ (l : List ℕ). slice_cmp nat_cmp l (drop i ys)) (cut xs i h) ∙ ap (λ (l : List ℕ). slice_cmp nat_cmp (get_or xs i 0 ∷ drop (suc i) xs) l) (cut ys i k)

pub rest_more : (xs ys : List ℕ) (i : ℕ) → i < length xs → i < length ys → get_or xs i 0 ≡ get_or ys i 0 → Rest xs ys i → Rest xs ys (i + 1)
rest_more xs ys i h k same rest =
    let tied : nat_cmp (get_or xs i 0) (get_or ys i 0) ≡ Equal = ap (λ (b : ℕ). nat_cmp (get_or xs i 0) b) (sym same) ∙ tied_itself nat_cmp_total (get_or xs i 0) in
    let next : suc i ≡ i + 1 = omega arith in
    subst (Rest xs ys) next (sym (cut_both xs ys i h k ∙ ap (λ (o : Ordering). ordering_then o (slice_cmp nat_cmp (drop (suc i) xs) (drop (suc i) ys))) tied) ∙ rest)

then_apart : (o more : Ordering) → o ≢ Equal → ordering_then o more ≡ o
then_apart Less more h = refl
then_apart Equal more h = absurd (h refl)
then_apart Greater more h = refl

pub rest_apart : (xs ys : List ℕ) (i : ℕ) (o : Ordering) → i < length xs → i < length ys → get_or xs i 0 ≢ get_or ys i 0 → o ≡ nat_cmp (get_or xs i 0) (get_or ys i 0) → Rest xs ys i → o ≡ slice_cmp nat_cmp xs ys
rest_apart xs ys i o h k apart is rest =
    is ∙ sym (then_apart (nat_cmp (get_or xs i 0) (get_or ys i 0)) (slice_cmp nat_cmp (drop (suc i) xs) (drop (suc i) ys)) (λ t. apart (exact_unsigned (get_or xs i 0) (get_or ys i 0) t)))
    ∙ sym (cut_both xs ys i h k) ∙ rest

-- how lengths rank
abbrev Ranks : Ordering → ℕ → ℕ → Type 0
Ranks o a b = MatchOrdering o (a < b) (a ≡ b) (b < a)

both_less : (o : Ordering) (a b : ℕ) → Ranks o (suc a) (suc b) → Ranks o a b
both_less Less a b h = let l : suc a < suc b = h in omega arith
both_less Equal a b h = let l : suc a ≡ suc b = h in omega arith
both_less Greater a b h = let l : suc b < suc a = h in omega arith

ended : (xs ys : List ℕ) (i : ℕ) (o : Ordering) → i ≡ min (length xs) (length ys) → Ranks o (length xs) (length ys) → o ≡ slice_cmp nat_cmp (drop i xs) (drop i ys)
ended [] [] zero Less e h = let l : 0 < 0 = h in absurd (omega arith)
ended [] [] zero Equal e h = refl
ended [] [] zero Greater e h = let l : 0 < 0 = h in absurd (omega arith)
ended [] (y ∷ ys) zero Less e h = refl
ended [] (y ∷ ys) zero Equal e h = let l : 0 ≡ suc (length ys) = h in absurd (omega arith)
ended [] (y ∷ ys) zero Greater e h = let l : suc (length ys) < 0 = h in absurd (omega arith)
ended (x ∷ xs) [] zero Less e h = let l : suc (length xs) < 0 = h in absurd (omega arith)
ended (x ∷ xs) [] zero Equal e h = let l : suc (length xs) ≡ 0 = h in absurd (omega arith)
ended (x ∷ xs) [] zero Greater e h = refl
ended (x ∷ xs) (y ∷ ys) zero o e h = let m : 0 ≡ min (suc (length xs)) (suc (length ys)) = e in absurd (omega arith)
ended [] ys (suc i) o e h = let m : suc i ≡ min 0 (length ys) = e in absurd (omega arith)
ended (x ∷ xs) [] (suc i) o e h = let m : suc i ≡ min (suc (length xs)) 0 = e in absurd (omega arith)
ended (x ∷ xs) (y ∷ ys) (suc i) o e h =
    let m : suc i ≡ min (suc (length xs)) (suc (length ys)) = e in
    let n : i ≡ min (length xs) (length ys) = omega arith in ended xs ys i o n (both_less o (length xs) (length ys) h)

pub rest_end : (xs ys : List ℕ) (i : ℕ) (o : Ordering) → i ≡ min (length xs) (length ys) → o ≡ nat_cmp (length xs) (length ys) → Rest xs ys i → o ≡ slice_cmp nat_cmp xs ys
rest_end xs ys i o e is rest = ended xs ys i o e (ranked (length xs) (length ys) o is) ∙ rest

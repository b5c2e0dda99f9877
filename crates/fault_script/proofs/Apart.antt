-- What the test for tokens that stand twice tells.
use Rattle.std.proofs.Common.{◌≡◌, ℕ, zero, suc, ◌<◌, ◌≤◌, Bool, true, false, not, refl, sym, ◌∙◌, ap, subst, arith, List, [], ◌∷◌, ◌++◌, length, Result, Ok, Err, take, Some, Contains, get_or, ℤ}
use Rattle.std.specs.Prelude.{slice_get, ◌||◌, ◌↔◌}
use Rattle.std.specs.Ordering.{int_eq}
use Rattle.std.specs.List.{list_any}
use Rattle.std.proofs.lemmas.Bool.{and_parts, and_from, not_from_false, not-true, false_from_ne_true}
use Rattle.std.proofs.lemmas.Bool.Decides.{Decides-int_eq}
use Rattle.std.proofs.lemmas.List.Folds.{list_any_at, list_any-append, Any-from_list_any}
use Rattle.std.proofs.lemmas.List.{append_assoc, append-nil}
use Rattle.std.proofs.lemmas.Cmp.{int_eq_equiv}
use Rattle.std.proofs.Math.Seq.{take-append_seam}
use Rattle.std.proofs.lemmas.Option.{slice_get-get_or, slice_get_within, get_or_from_slice_get}
use Rattle.cs_base.specs.Ring.{AreApart}
use Rattle.token_ring.specs.Refusals.{IsFirstRepeated, IsRefusal}
use Rattle.token_ring.specs.declared.ring.RingError.{RingError}
use Rattle.token_ring.specs.declared.ring.RingError.TheVariants.{Empty, Repeated, TooMany}
use Rattle.fault_script.specs.Lines.{are_apart}

among : (t : ℤ) (ts : List ℤ) (k : ℕ) (s : ℤ) → Some t ≡ Some s → slice_get ts k ≡ Some s → list_any (int_eq t) ts ≡ true
among t ts k s same at_k =
    let token : t ≡ get_or ts k t = cc (same, get_or_from_slice_get ts k s t at_k) in
    list_any_at (int_eq t) ts k t (slice_get_within ts k s at_k) ((Decides-int_eq t (get_or ts k t)).1 token)

-- and those that pass it are apart
pub passing_apart : (tokens : List ℤ) → are_apart tokens ≡ true → AreApart tokens
passing_apart [] passes j k t at_j at_k = cc
passing_apart (t ∷ ts) passes zero zero s at_j at_k = refl
passing_apart (t ∷ ts) passes zero (suc k) s at_j at_k =
    let parts = and_parts (not (list_any (int_eq t) ts)) (are_apart ts) passes in
    let fresh = not-true (list_any (int_eq t) ts) parts.0 in
    let found = among t ts k s at_j at_k in
    cc
passing_apart (t ∷ ts) passes (suc j) zero s at_j at_k =
    let parts = and_parts (not (list_any (int_eq t) ts)) (are_apart ts) passes in
    let fresh = not-true (list_any (int_eq t) ts) parts.0 in
    let found = among t ts j s at_k at_j in
    cc
passing_apart (t ∷ ts) passes (suc j) (suc k) s at_j at_k =
    let parts = and_parts (not (list_any (int_eq t) ts)) (are_apart ts) passes in
    ap suc (passing_apart ts parts.1 j k s at_j at_k)

get_take : (n : ℕ) (xs : List ℤ) (j : ℕ) (t : ℤ) → slice_get (take n xs) j ≡ Some t → (j < n) × (slice_get xs j ≡ Some t)
get_take zero [] j t h = cc
get_take zero (x ∷ xs) j t h = cc
get_take (suc n) [] j t h = cc
get_take (suc n) (x ∷ xs) zero t h = (omega arith, h)
get_take (suc n) (x ∷ xs) (suc j) t h = let r = get_take n xs j t h in (omega arith, r.1)

repeated_fails : (tokens : List ℤ) (t : ℤ) → IsFirstRepeated tokens t → are_apart tokens ≡ true → ⊥
repeated_fails tokens t repeated passes =
    let found = repeated.before in
    let k = found.0 in
    let inside = get_take repeated.index tokens k t (slice_get-get_or (take repeated.index tokens) k t found.1 ∙ ap Some found.2) in
    let low = inside.0 in
    let same = passing_apart tokens passes k repeated.index t inside.1 repeated.there in
    omega arith

-- what is refused as a ring of one to seven tokens doesn't pass it
pub refused_fails : (tokens : List ℤ) (e : RingError) → 1 ≤ length tokens → length tokens ≤ 7 → IsRefusal tokens e → are_apart tokens ≡ false
refused_fails tokens Empty some few refusal = absurd (omega (arith, some, refusal))
refused_fails tokens (Repeated t) some few refusal = false_from_ne_true (are_apart tokens) (repeated_fails tokens t refusal)
refused_fails tokens (TooMany count) some few refusal = absurd (let many = refusal.1 in omega (arith, few, many))

-- ---- a token that occurred before

slice_get_seam : (xs : List ℤ) (x : ℤ) (ys : List ℤ) → slice_get (xs ++ x ∷ ys) (length xs) ≡ Some x
slice_get_seam [] x ys = refl
slice_get_seam (y ∷ xs) x ys = slice_get_seam xs x ys

-- tokens that are apart, and another one
apart_with : (xs : List ℤ) (x : ℤ) → are_apart xs ≡ true → list_any (int_eq x) xs ≡ false → are_apart (xs ++ x ∷ []) ≡ true
apart_with [] x apart fresh = refl
apart_with (y ∷ xs) x apart fresh =
    let parts = and_parts (not (list_any (int_eq y) xs)) (are_apart xs) apart in
    let heads = or_parts (int_eq x y) (list_any (int_eq x) xs) fresh in
    let behind : list_any (int_eq y) (xs ++ x ∷ []) ≡ false =
    list_any-append (int_eq y) xs (x ∷ []) ∙ or_false (list_any (int_eq y) xs) (int_eq y x || false) (not-true (list_any (int_eq y) xs) parts.0) (or_false (int_eq y x) false (int_eq_equiv.symm y x ∙ heads.0) refl) in
    and_from (not (list_any (int_eq y) (xs ++ x ∷ []))) (are_apart (xs ++ x ∷ [])) (not_from_false (list_any (int_eq y) (xs ++ x ∷ [])) behind) (apart_with xs x parts.1 heads.1)
  where
    or_false : (a b : Bool) → a ≡ false → b ≡ false → (a || b) ≡ false
    or_false a b h k = rw (h, k) refl

    or_parts : (a b : Bool) → (a || b) ≡ false → (a ≡ false) × (b ≡ false)
    or_parts true b h = cc
    or_parts false b h = (refl, h)

first_here : (xs : List ℤ) (x : ℤ) (ys : List ℤ) → are_apart xs ≡ true → list_any (int_eq x) xs ≡ true → IsFirstRepeated (xs ++ x ∷ ys) x
first_here xs x ys apart seen =
    let before : take (length xs) (xs ++ x ∷ ys) ≡ xs = take-append_seam xs (x ∷ ys) in
    let any = Any-from_list_any (int_eq x) xs seen in
    let same : x ≡ any.1 = (Decides-int_eq x any.1).0 any.4 in
    record {
      index = length xs;
      there = slice_get_seam xs x ys;
      before = subst (λ (zs : List ℤ). Contains zs x) (sym before) (any.0, any.2, get_or_from_slice_get xs any.0 x x (slice_get-get_or xs any.0 any.1 any.2 ∙ ap Some (any.3 ∙ sym same)));
      apart = subst AreApart (sym before) (passing_apart xs apart);
    }

-- tokens that are not apart, though the first ones are, have one that occurred before
repeated_token : (xs ys : List ℤ) → are_apart xs ≡ true → are_apart (xs ++ ys) ≡ false → (t : ℤ) × IsFirstRepeated (xs ++ ys) t
repeated_token xs [] apart fails = absurd (let whole = ap are_apart (append-nil xs) in cc)
repeated_token xs (y ∷ ys) apart fails =
    let joined : (xs ++ y ∷ []) ++ ys ≡ xs ++ y ∷ ys = append_assoc xs (y ∷ []) ys in
    by_test (list_any (int_eq y) xs) refl (λ fresh. subst (λ (zs : List ℤ). (t : ℤ) × IsFirstRepeated zs t) joined (repeated_token (xs ++ y ∷ []) ys (apart_with xs y apart fresh) (ap are_apart joined ∙ fails)))
  where
    by_test : (b : Bool) → list_any (int_eq y) xs ≡ b → (list_any (int_eq y) xs ≡ false → (t : ℤ) × IsFirstRepeated (xs ++ y ∷ ys) t) → (t : ℤ) × IsFirstRepeated (xs ++ y ∷ ys) t
    by_test true seen later = (y, first_here xs y ys apart seen)
    by_test false fresh later = later fresh

-- what is a ring passes it
pub ring_passes : {R : Type 0} (tokens : List ℤ) (result : Result R RingError) (ring : R) → result ≡ Ok ring → ((e : RingError) → (result ≡ Err e) ↔ IsRefusal tokens e) → are_apart tokens ≡ true
ring_passes tokens result ring is refused = by_test (are_apart tokens) refl
  where
    by_test : (b : Bool) → are_apart tokens ≡ b → b ≡ true
    by_test true h = refl
    by_test false h =
        let found = repeated_token [] tokens refl h in
        let err : result ≡ Err (Repeated found.0) = (refused (Repeated found.0)).1 found.1 in
        cc

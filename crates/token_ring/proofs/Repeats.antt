-- Tokens that occurred before, and what keeps a list of tokens from being a ring.
use Rattle.std.proofs.Common.{◌≡◌, inl, inr, ℕ, zero, suc, ◌+◌, ◌-◌, ◌<◌, ◌≤◌, refl, sym, ap, ◌∙◌, subst, arith, List, [], ◌∷◌, length, take, Some, Result, Ok, Err, Contains, ℤ, FitsSigned, w64, pos, get_or, to_z, of_z, drop, ◌++◌, length-append, length-drop}
use Rattle.std.proofs.Math.Seq.{drop-append_seam, take-append_seam}
use Rattle.std.proofs.lemmas.Int.{to_z-of_z}
use Rattle.std.specs.Prelude.{slice_get, replicate}
use Rattle.std.proofs.lemmas.Bool.{cases_lt}
use Rattle.std.proofs.lemmas.Option.{slice_get-get_or, slice_get_within, get_or_from_slice_get}
use Rattle.cs_base.specs.Ring.{AreApart, AreTokens, IsRing}
use Rattle.token_ring.specs.declared.ring.RingError.{RingError}
use Rattle.token_ring.specs.declared.ring.RingError.TheVariants.{Empty, Repeated, TooMany}
use Rattle.token_ring.specs.Tokens.{HoldsRing}
use Rattle.token_ring.specs.Refusals.{IsFirstRepeated, IsRefusal}

-- ---- elements by their place

pub get_from_contains : {X : Type 0} (xs : List X) (t : X) → Contains xs t → (j : ℕ) × (slice_get xs j ≡ Some t)
get_from_contains xs t (k, within, same) = (k, slice_get-get_or xs k t within ∙ ap Some same)

pub contains_from_get : {X : Type 0} (xs : List X) (j : ℕ) (t : X) → slice_get xs j ≡ Some t → Contains xs t
contains_from_get xs j t h = (j, slice_get_within xs j t h, get_or_from_slice_get xs j t t h)

get_take : (n : ℕ) (xs : List ℤ) (j : ℕ) (t : ℤ) → slice_get (take n xs) j ≡ Some t → (j < n) × (slice_get xs j ≡ Some t)
get_take zero [] j t h = cc
get_take zero (x ∷ xs) j t h = cc
get_take (suc n) [] j t h = cc
get_take (suc n) (x ∷ xs) zero t h = (omega arith, h)
get_take (suc n) (x ∷ xs) (suc j) t h = let r = get_take n xs j t h in (omega arith, r.1)

take_get : (n : ℕ) (xs : List ℤ) (j : ℕ) (t : ℤ) → j < n → slice_get xs j ≡ Some t → slice_get (take n xs) j ≡ Some t
take_get zero xs j t low h = absurd (omega arith)
take_get (suc n) [] j t low h = h
take_get (suc n) (x ∷ xs) zero t low h = h
take_get (suc n) (x ∷ xs) (suc j) t low h = take_get n xs j t (omega arith) h

-- ---- a loop that looks for a token that occurred before

pub apart_none : (xs : List ℤ) → AreApart (take 0 xs)
apart_none xs j k t at_j at_k = absurd (let r = get_take 0 xs j t at_j in omega arith)

pub apart_more : (xs : List ℤ) (i : ℕ) (t : ℤ) → AreApart (take i xs) → slice_get xs i ≡ Some t → (Contains (take i xs) t → ⊥) → AreApart (take (i + 1) xs)
apart_more xs i t apart here fresh j k s at_j at_k =
    let one = get_take (i + 1) xs j s at_j in
    let two = get_take (i + 1) xs k s at_k in
    elim (cases_lt j i) [
      | inl j_low ↦ elim (cases_lt k i) [
        | inl k_low ↦ apart j k s (take_get i xs j s j_low one.1) (take_get i xs k s k_low two.1)
        | inr k_high ↦ absurd (fresh (again j k j_low k_high one.1 two.0 two.1))
      ]
      | inr j_high ↦ elim (cases_lt k i) [
        | inl k_low ↦ absurd (fresh (again k j k_low j_high two.1 one.0 one.1))
        | inr k_high ↦ let j_low = one.0 in let k_low = two.0 in omega arith
      ]
    ]
  where
    again : (j k : ℕ) → j < i → i ≤ k → slice_get xs j ≡ Some s → k < i + 1 → slice_get xs k ≡ Some s → Contains (take i xs) t
    again j k low high at_j below at_k =
        let same : i ≡ k = omega arith in
        let token : Some s ≡ Some t = sym at_k ∙ ap (slice_get xs) (sym same) ∙ here in
        contains_from_get (take i xs) j t (take_get i xs j s low at_j ∙ token)

pub apart_all : (xs : List ℤ) (i : ℕ) → length xs ≤ i → AreApart (take i xs) → AreApart xs
apart_all xs i long apart j k t at_j at_k =
    let j_within = slice_get_within xs j t at_j in
    let k_within = slice_get_within xs k t at_k in
    apart j k t (take_get i xs j t (omega arith) at_j) (take_get i xs k t (omega arith) at_k)

pub tokens_none : (xs : List ℤ) → AreTokens (take 0 xs)
tokens_none xs k t h = absurd (let r = get_take 0 xs k t h in omega arith)

pub tokens_more : (xs : List ℤ) (i : ℕ) → AreTokens (take i xs) → FitsSigned w64 (get_or xs i (pos 0)) → AreTokens (take (i + 1) xs)
tokens_more xs i tokens fits k t h =
    let r = get_take (i + 1) xs k t h in
    elim (cases_lt k i) [
      | inl low ↦ tokens k t (take_get i xs k t low r.1)
      | inr high ↦
          let below = r.0 in
          let same : k ≡ i = omega arith in
          subst (λ (s : ℤ). FitsSigned w64 s) (ap (λ (n : ℕ). get_or xs n (pos 0)) (sym same) ∙ get_or_from_slice_get xs k t (pos 0) r.1) fits
    ]

pub tokens_all : (xs : List ℤ) (i : ℕ) → length xs ≤ i → AreTokens (take i xs) → AreTokens xs
tokens_all xs i long tokens k t h =
    let within = slice_get_within xs k t h in
    tokens k t (take_get i xs k t (omega arith) h)

-- ---- a repeated token

pub not_apart : (xs : List ℤ) (i : ℕ) (t : ℤ) → slice_get xs i ≡ Some t → Contains (take i xs) t → AreApart xs → ⊥
not_apart xs i t here before apart =
    let earlier = get_from_contains (take i xs) t before in
    let place = get_take i xs earlier.0 t earlier.1 in
    let low = place.0 in
    let same = apart earlier.0 i t place.1 here in
    omega arith

-- none is repeated earlier than the first
not_earlier : (xs : List ℤ) (s t : ℤ) (one : IsFirstRepeated xs s) (two : IsFirstRepeated xs t) → one.index < two.index → ⊥
not_earlier xs s t one two h =
    let earlier = get_from_contains (take one.index xs) s one.before in
    let place = get_take one.index xs earlier.0 s earlier.1 in
    let low = place.0 in
    let same = two.apart earlier.0 one.index s (take_get two.index xs earlier.0 s (omega arith) place.1) (take_get two.index xs one.index s h one.there) in
    omega arith

pub first_is_one : (xs : List ℤ) (s t : ℤ) → IsFirstRepeated xs s → IsFirstRepeated xs t → s ≡ t
first_is_one xs s t one two =
    elim (cases_lt one.index two.index) [
      | inl low ↦ absurd (not_earlier xs s t one two low)
      | inr high ↦ elim (cases_lt two.index one.index) [
        | inl low ↦ absurd (not_earlier xs t s two one low)
        | inr same ↦
            let index : one.index ≡ two.index = omega arith in
            let tokens : Some s ≡ Some t = sym one.there ∙ ap (slice_get xs) index ∙ two.there in
            cc
      ]
    ]

-- ---- refusals

no_repeat : (xs : List ℤ) (t : ℤ) → IsFirstRepeated xs t → AreApart xs → ⊥
no_repeat xs t r = not_apart xs r.index t r.there r.before

not_empty : (xs : List ℤ) (t : ℤ) → IsFirstRepeated xs t → length xs ≡ 0 → ⊥
not_empty xs t r none = let within = slice_get_within xs r.index t r.there in omega arith

-- just one refusal holds
pub refusal_is_one : (xs : List ℤ) (d e : RingError) → IsRefusal xs d → IsRefusal xs e → d ≡ e
refusal_is_one xs Empty Empty h k = refl
refusal_is_one xs Empty (Repeated t) h k = absurd (not_empty xs t k h)
refusal_is_one xs Empty (TooMany n) h k = let many = k.1 in absurd (omega arith)
refusal_is_one xs (Repeated t) Empty h k = absurd (not_empty xs t h k)
refusal_is_one xs (Repeated s) (Repeated t) h k = ap Repeated (first_is_one xs s t h k)
refusal_is_one xs (Repeated t) (TooMany n) h k = absurd (no_repeat xs t h k.0)
refusal_is_one xs (TooMany n) Empty h k = let many = h.1 in absurd (omega arith)
refusal_is_one xs (TooMany n) (Repeated t) h k = absurd (no_repeat xs t k h.0)
refusal_is_one xs (TooMany m) (TooMany n) h k = ap TooMany (h.2 ∙ sym k.2)

-- and none of a ring
pub ring_not_refused : (xs : List ℤ) (e : RingError) → IsRing xs → IsRefusal xs e → ⊥
ring_not_refused xs Empty ring h = let some = ring.some in omega arith
ring_not_refused xs (Repeated t) ring h = no_repeat xs t h ring.apart
ring_not_refused xs (TooMany n) ring h = let few = ring.few in let many = h.1 in omega arith

pub refused_exactly : (xs : List ℤ) (d : RingError) → IsRefusal xs d → (e : RingError)
    → (◌≡◌ {A = Result (List ℤ) RingError} (Err d) (Err e) → IsRefusal xs e) × (IsRefusal xs e → ◌≡◌ {A = Result (List ℤ) RingError} (Err d) (Err e))
refused_exactly xs d h e = (
  λ same. let s : d ≡ e = cc in subst (λ (c : RingError). IsRefusal xs c) s h,
  λ k. ap Err (refusal_is_one xs d e h k),
)

pub taken_exactly : (xs ys : List ℤ) → IsRing xs → (e : RingError)
    → (◌≡◌ {A = Result (List ℤ) RingError} (Ok ys) (Err e) → IsRefusal xs e) × (IsRefusal xs e → ◌≡◌ {A = Result (List ℤ) RingError} (Ok ys) (Err e))
taken_exactly xs ys ring e = (λ same. cc, λ k. absurd (ring_not_refused xs e ring k))

-- ---- the element that a loop reads

pub read_here : (xs : List ℤ) (i : ℕ) → i < length xs → FitsSigned w64 (get_or xs i (pos 0)) → slice_get xs i ≡ Some (to_z w64 (of_z w64 (get_or xs i (pos 0))))
read_here xs i within fits = slice_get-get_or xs i (pos 0) within ∙ ap Some (sym (to_z-of_z w64 (get_or xs i (pos 0)) fits))

-- ---- a ring's array

abbrev pub zeros : List ℤ
zeros = pos 0 ∷ pos 0 ∷ pos 0 ∷ pos 0 ∷ pos 0 ∷ pos 0 ∷ pos 0 ∷ []

drop-zeros : (n : ℕ) → n ≤ 7 → drop n zeros ≡ replicate (7 - n) (pos 0)
drop-zeros zero h = refl
drop-zeros (suc zero) h = refl
drop-zeros (suc (suc zero)) h = refl
drop-zeros (suc (suc (suc zero))) h = refl
drop-zeros (suc (suc (suc (suc zero)))) h = refl
drop-zeros (suc (suc (suc (suc (suc zero))))) h = refl
drop-zeros (suc (suc (suc (suc (suc (suc zero)))))) h = refl
drop-zeros (suc (suc (suc (suc (suc (suc (suc zero))))))) h = refl
drop-zeros (suc (suc (suc (suc (suc (suc (suc (suc n)))))))) h = absurd (omega arith)

-- a ring and zeros behind it
pub padded : (xs : List ℤ) → IsRing xs → HoldsRing (xs ++ drop (length xs) zeros) (length xs)
padded xs ring =
    let few = ring.few in
    record {
      long = length-append xs (drop (length xs) zeros) ∙ (let rest : length (drop (length xs) zeros) ≡ 7 - length xs = length-drop (length xs) zeros in omega arith);
      few = few;
      rest = drop-append_seam xs (drop (length xs) zeros) ∙ drop-zeros (length xs) few;
      ring = subst IsRing (sym (take-append_seam xs (drop (length xs) zeros))) ring;
    }

pub ring_of : (xs : List ℤ) → (length xs ≡ 0 → ⊥) → length xs ≤ 7 → AreTokens xs → AreApart xs → IsRing xs
ring_of xs some few tokens apart = record { some = positive (length xs) some; few = few; tokens = tokens; apart = apart }
  where
    positive : (n : ℕ) → (n ≡ 0 → ⊥) → 0 < n
    positive zero h = absurd (h refl)
    positive (suc n) h = omega arith

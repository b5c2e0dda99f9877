-- What `parse` says of the number words.
use Rattle.std.proofs.Common.{◌≡◌, ◌≢◌, inl, inr, refl, ℕ, ◌<◌, ◌^◌, Bool, true, false, not, cond, List, Some, None, Result, length, get_or, drop, sym, subst, arith, eqb, ltb, leb}
use Rattle.std.specs.Prelude.{ℤ, pos, negsuc, FitsSigned, ◌&&◌}
use Rattle.std.specs.Int.{w64}
use Rattle.std.specs.Char.{is_ascii_digit}
use Rattle.std.specs.List.{list_all}
use Rattle.std.specs.Prelude.{Err}
use Rattle.std.proofs.lemmas.Result.{OkIff-at_err}
use Rattle.std.specs.Str.Parse.{digits_value, ParsesUnsigned, ParsesSigned, IsNumeral, without_leading_plus}
use Rattle.std.proofs.lemmas.Bool.{and_parts, cases_lt, cond-false, leb-true, eqb-false, not-true, ltb-true, false_from_ne_true}
use Rattle.std.proofs.lemmas.Str.Parse.{IsNumeralModel, numerals_by_value, parse_plain, not_in_digits, without_leading_plus_none}
use Rattle.std.proofs.Common.{rules}
use Rattle.script_words.specs.Words.{is_number, number_value, number_within, within, is_signed_number, signed_value, is_long}

abbrev pub AreDigits : List ℕ → Type 0
AreDigits ds = list_all is_ascii_digit ds ≡ true

pub digits : IsNumeralModel AreDigits (digits_value 10)
digits = numerals_by_value AreDigits (search rules)

-- digits, and at least one
number_parts : (w : List ℕ) → is_number w ≡ true → (0 < length w) × AreDigits w
number_parts w h =
    let parts = and_parts (not (eqb (length w) 0)) (list_all is_ascii_digit w) h in
    let some : length w ≢ 0 = eqb-false (length w) 0 (not-true (eqb (length w) 0) parts.0) in
    (omega (arith, some), parts.1)

no_plus : (w : List ℕ) → is_number w ≡ true → get_or w 0 0 ≢ 43
no_plus w h =
    let parts = number_parts w h in
    not_in_digits digits w 43 parts.1 (λ r. omega (arith, r)) 0 parts.0

-- a number above the most is none of those
above_most : (least most n : ℕ) → most < n → None ≡ within least most n
above_most least most n above =
    let high : leb n most ≡ false = false_from_ne_true (leb n most) (λ t. let low = leb-true n most t in omega arith) in
    elim (leb least n) as (λ b. None ≡ cond (b && leb n most) (Some n) None) [
      | true ↦ sym (cond-false (leb n most) (Some n) None high)
      | false ↦ refl
    ]

-- where no number of 64 bits was read, the word's is none
pub unread_within : {E : Type 0} (w : List ℕ) (least most : ℕ) (r : Result ℕ E) (e : E) → r ≡ Err e → ParsesUnsigned 64 10 w r → is_number w ≡ true → most < 2 ^ 64 → None ≡ number_within least most w
unread_within w least most r e is parsed h small =
    let parts = number_parts w h in
    let iff = parse_plain digits 64 w r parsed (no_plus w h) in
    elim (cases_lt most (number_value w)) [
      | inl above ↦ above_most least most (number_value w) above
      | inr low ↦ absurd (OkIff-at_err r _ _ e iff is (parts.1, parts.0, omega (arith, low, small)))
    ]

numeral_behind_sign : (w : List ℕ) (b : Bool) → is_number (cond b (drop 1 w) w) ≡ true → IsNumeral 10 (cond b (drop 1 w) (without_leading_plus w))
numeral_behind_sign w true h = let parts = number_parts (drop 1 w) h in (parts.0, digits.to (drop 1 w) parts.1)
numeral_behind_sign w false h =
    let parts = number_parts w h in
    subst (IsNumeral 10) (sym (without_leading_plus_none w (no_plus w h))) (parts.0, digits.to w parts.1)

fits_long : (z : ℤ) → (FitsSigned w64 z → ⊥) → is_long z ≡ false
fits_long (pos n) h = false_from_ne_true (ltb n (2 ^ 63)) (λ t. h (record { sfits = ltb-true n (2 ^ 63) t }))
fits_long (negsuc n) h = false_from_ne_true (ltb n (2 ^ 63)) (λ t. h (record { sfits = ltb-true n (2 ^ 63) t }))

pub unread_long : {E : Type 0} (w : List ℕ) (r : Result ℤ E) (e : E) → r ≡ Err e → ParsesSigned w64 10 w r → is_signed_number w ≡ true → is_long (signed_value w) ≡ false
unread_long w r e is parsed h =
    fits_long (signed_value w) (λ fits. OkIff-at_err r _ _ e parsed is (numeral_behind_sign w (eqb (get_or w 0 0) 45) h, fits))

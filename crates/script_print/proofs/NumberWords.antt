-- The words of numbers and levels, there and back.
use Rattle.std.proofs.Common.{◌≡◌, ℕ, suc, ◌<◌, ◌≤◌, ◌^◌, Bool, true, false, not, List, [], ◌∷◌, Option, Some, None, length, drop, cond, get_or, refl, ◌∙◌, ap, subst, arith, eqb, leb, rules}
use Rattle.std.specs.Prelude.{ℤ, pos, negsuc, neg_ℤ, ◌&&◌, ◌==◌, codes, nat_lt, IfSome}
use Rattle.std.specs.Char.{is_ascii_digit}
use Rattle.std.specs.Fmt.{decimal, signed_decimal}
use Rattle.std.specs.List.{list_all}
use Rattle.std.specs.Str.Parse.{digits_value}
use Rattle.std.proofs.lemmas.Bool.{and_from, and_parts, cond-true, cond-false, eqb-false, ne_eqb, ltb-true, lt-ltb, leb-true, not-true, not_from_false}
use Rattle.std.proofs.lemmas.Str.{IsUtf8-append}
use Rattle.std.proofs.lemmas.Fmt.{digits_decimal, digits_value-decimal, decimal_nonempty}
use Rattle.std.proofs.lemmas.Str.Parse.{IsNumeralModel, numerals_by_value, not_in_digits}
use Rattle.cs_base.specs.declared.level.Level.{Level}
use Rattle.cs_base.specs.declared.level.Level.TheVariants as level
use Rattle.script_words.specs.Words.{is_number, number_value, number_within, within, is_signed_number, signed_value, is_long, level_of}
use Rattle.script_print.specs.Printed.{level_name}
use Rattle.script_print.proofs.Bytes.{lacks, passes_too, is_ascii, ascii_is_utf8}
use Rattle.script_print.proofs.LineWords.{IsWord}

abbrev AreDigits : List ℕ → Type 0
AreDigits word = list_all is_ascii_digit word ≡ true

digits : IsNumeralModel AreDigits (digits_value 10)
digits = numerals_by_value AreDigits (search rules)

-- ---- digits are a word

no_digit : (c : ℕ) → is_ascii_digit c ≡ false → (b : ℕ) → is_ascii_digit b ≡ true → not (b == c) ≡ true
no_digit c other b digit = not_from_false (eqb b c) (ne_eqb b c (λ same. let here = ap is_ascii_digit same in cc))

small_digit : (b : ℕ) → is_ascii_digit b ≡ true → nat_lt b 128 ≡ true
small_digit b digit = let parts = and_parts (leb 48 b) (leb b 57) digit in let high = leb-true b 57 parts.1 in lt-ltb b 128 (omega (arith, high))

digits_are_a_word : (word : List ℕ) → 0 < length word → AreDigits word → IsWord word
digits_are_a_word word some are = record {
  some = some;
  text = ascii_is_utf8 word (passes_too is_ascii_digit (λ b. nat_lt b 128) small_digit word are);
  whole = passes_too is_ascii_digit (λ b. not (b == 32)) (no_digit 32 refl) word are;
  inline = passes_too is_ascii_digit (λ b. not (b == 10)) (no_digit 10 refl) word are;
}

-- ---- numbers

pub decimal_is_word : (n : ℕ) → n < 2 ^ 64 → IsWord (decimal n)
decimal_is_word n small = digits_are_a_word (decimal n) (decimal_nonempty n small) (digits_decimal digits n small)

pub decimal_is_number : (n : ℕ) → n < 2 ^ 64 → is_number (decimal n) ≡ true
decimal_is_number n small =
    let some = decimal_nonempty n small in
    and_from (not (eqb (length (decimal n)) 0)) (list_all is_ascii_digit (decimal n)) (not_from_false (eqb (length (decimal n)) 0) (ne_eqb (length (decimal n)) 0 (λ none. omega (arith, some, none)))) (digits_decimal digits n small)

pub decimal_back : (n : ℕ) → n < 2 ^ 64 → number_value (decimal n) ≡ n
decimal_back n small = digits_value-decimal digits n small

-- a number that is within its bounds
abbrev pub IsWithin : ℕ → ℕ → ℕ → Type 0
IsWithin least most n = within least most n ≡ Some n

pub within_back : (least most n : ℕ) → n < 2 ^ 64 → IsWithin least most n → number_within least most (decimal n) ≡ Some n
within_back least most n small is = ap (within least most) (decimal_back n small) ∙ is

found_within : (least most m n : ℕ) (t : Bool) → (leb least m && leb m most) ≡ t → cond t (Some m) None ≡ Some n → IsWithin least most n × (n ≤ most)
found_within least most m n true is found =
    let same : m ≡ n = subst (λ (o : Option ℕ). IfSome o (λ k. m ≡ k)) found refl in
    let high : m ≤ most = leb-true m most (and_parts (leb least m) (leb m most) is).1 in
    (subst (λ (k : ℕ). IsWithin least most k) same (cond-true (leb least m && leb m most) (Some m) None is), omega (arith, same, high))
found_within least most m n false is found = cc

-- a number that was read is within its bounds
pub within_found : (least most : ℕ) (word : List ℕ) (n : ℕ) → number_within least most word ≡ Some n → IsWithin least most n × (n ≤ most)
within_found least most word n found = let m = number_value word in found_within least most m n (leb least m && leb m most) refl found

-- ---- signed numbers

minus_is_word : (word : List ℕ) → IsWord word → IsWord (45 ∷ word)
minus_is_word word is = record {
  some = omega arith;
  text = IsUtf8-append (45 ∷ []) word (ascii_is_utf8 (45 ∷ []) refl) is.text;
  whole = is.whole;
  inline = is.inline;
}

pub signed_is_word : (z : ℤ) → is_long z ≡ true → IsWord (signed_decimal z)
signed_is_word (pos n) long = let low = ltb-true n (2 ^ 63) long in decimal_is_word n (omega (arith, low))
signed_is_word (negsuc n) long = let low = ltb-true n (2 ^ 63) long in minus_is_word (decimal (suc n)) (decimal_is_word (suc n) (omega (arith, low)))

no_minus : (n : ℕ) → n < 2 ^ 64 → (get_or (decimal n) 0 0 == 45) ≡ false
no_minus n small = ne_eqb (get_or (decimal n) 0 0) 45 (not_in_digits digits (decimal n) 45 (digits_decimal digits n small) (λ r. omega (arith, r)) 0 (decimal_nonempty n small))

no_plus : (n : ℕ) → n < 2 ^ 64 → (get_or (decimal n) 0 0 == 43) ≡ false
no_plus n small = ne_eqb (get_or (decimal n) 0 0) 43 (not_in_digits digits (decimal n) 43 (digits_decimal digits n small) (λ r. omega (arith, r)) 0 (decimal_nonempty n small))

pub signed_is_number : (z : ℤ) → is_long z ≡ true → is_signed_number (signed_decimal z) ≡ true
signed_is_number (pos n) long =
    let low = ltb-true n (2 ^ 63) long in
    let small : n < 2 ^ 64 = omega (arith, low) in
    ap is_number (cond-false (get_or (decimal n) 0 0 == 45) (drop 1 (decimal n)) (decimal n) (no_minus n small)) ∙ decimal_is_number n small
signed_is_number (negsuc n) long = let low = ltb-true n (2 ^ 63) long in decimal_is_number (suc n) (omega (arith, low))

-- the value of a word that has a minus, or a plus, or neither
abbrev value_by : Bool → Bool → List ℕ → ℤ
value_by minus plus word =
    let digits = cond minus (drop 1 word) (drop (cond plus 1 0) word) in
    cond minus (neg_ℤ (pos (digits_value 10 digits))) (pos (digits_value 10 digits))

pub signed_back : (z : ℤ) → is_long z ≡ true → signed_value (signed_decimal z) ≡ z
signed_back (pos n) long =
    let low = ltb-true n (2 ^ 63) long in
    let small : n < 2 ^ 64 = omega (arith, low) in
    ap (λ (m : Bool). value_by m (get_or (decimal n) 0 0 == 43) (decimal n)) (no_minus n small) ∙ ap (λ (p : Bool). value_by false p (decimal n)) (no_plus n small) ∙ ap pos (decimal_back n small)
signed_back (negsuc n) long = let low = ltb-true n (2 ^ 63) long in ap (λ (m : ℕ). neg_ℤ (pos m)) (decimal_back (suc n) (omega (arith, low)))

-- ---- levels

pub level_back : (l : Level) → level_of (level_name l) ≡ Some l
level_back level.One = refl
level_back level.Two = refl
level_back level.Three = refl
level_back level.Quorum = refl
level_back level.All = refl
level_back level.LocalQuorum = refl
level_back level.Serial = refl
level_back level.LocalSerial = refl
level_back level.LocalOne = refl

pub plain_word : (word : List ℕ) → (not (length word == 0) && is_ascii word && lacks 32 word && lacks 10 word) ≡ true → IsWord word
plain_word word h =
    let inline = and_parts (not (length word == 0) && is_ascii word && lacks 32 word) (lacks 10 word) h in
    let whole = and_parts (not (length word == 0) && is_ascii word) (lacks 32 word) inline.0 in
    let ascii = and_parts (not (length word == 0)) (is_ascii word) whole.0 in
    let long = eqb-false (length word) 0 (not-true (eqb (length word) 0) ascii.0) in
    record { some = omega (arith, long); text = ascii_is_utf8 word ascii.1; whole = whole.1; inline = inline.1 }

pub level_is_word : (l : Level) → IsWord (level_name l)
level_is_word level.One = plain_word (codes "ONE") refl
level_is_word level.Two = plain_word (codes "TWO") refl
level_is_word level.Three = plain_word (codes "THREE") refl
level_is_word level.Quorum = plain_word (codes "QUORUM") refl
level_is_word level.All = plain_word (codes "ALL") refl
level_is_word level.LocalQuorum = plain_word (codes "LOCAL_QUORUM") refl
level_is_word level.Serial = plain_word (codes "SERIAL") refl
level_is_word level.LocalSerial = plain_word (codes "LOCAL_SERIAL") refl
level_is_word level.LocalOne = plain_word (codes "LOCAL_ONE") refl

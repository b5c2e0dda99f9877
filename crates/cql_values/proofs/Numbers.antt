-- Whole numbers as literals.
use Rattle.std.proofs.Common.{◌≡◌, ◌<◌, ◌≤◌, ◌^◌, ◌&&◌, ℕ, zero, suc, ℤ, pos, neg_ℤ, Bool, true, false, cond, eqb, nat_lt, List, length, get_or, drop, Option, Some, None, Result, Ok, Err, IsSome, arith, refl, sym, ap, ◌∙◌, subst, IsOkAnd, MatchResult}
use Rattle.std.specs.Prelude.{option_map}
use Rattle.std.specs.Int.{Width}
use Rattle.std.specs.Result.{OkIff}
use Rattle.std.specs.Str.{all_ascii_digits}
use Rattle.std.specs.Str.Parse.{ParsesSigned, digits_value}
use Rattle.std.proofs.lemmas.Bool.{false≢true}
use Rattle.std.proofs.lemmas.Bool.Decides.{nat_tests}
use Rattle.std.proofs.lemmas.Str.Parse.{IsNumeralModel, numerals_by_value, tells_all_ascii_digits, parse_signed_minus, parse_signed_plain, not_in_digits}
use Rattle.std.proofs.lemmas.Nat.{pow_pos}
use Rattle.cql_values.proofs.Words.{by_lt}
use mir.Val.{hbits}
use Rattle.cql_values.specs.Literals.{natural_of, whole_of, within_bits, fits_bits, in_range, result_map, Answers, word}
use Rattle.cql_values.specs.declared.error.LiteralError.{LiteralError}
use Rattle.cql_values.specs.declared.error.LiteralError.TheVariants as errors
use Rattle.cql_values.specs.declared.value.CqlValue.{CqlValue}
use Rattle.cql_values.proofs.Quotes.{by_bool, cond_true, cond_false}

pub own : IsNumeralModel (λ ds. all_ascii_digits ds ≡ true) (digits_value 10)
own = numerals_by_value _ tells_all_ascii_digits

pub record IsNatural (ds : List ℕ) (n : ℕ) : Type 0 where
  pub long : 0 < length ds
  pub digits : all_ascii_digits ds ≡ true
  pub value : digits_value 10 ds ≡ n

pub natural_some : (ds : List ℕ) (n : ℕ) → natural_of ds ≡ Some n → IsNatural ds n
natural_some ds n h = go (nat_lt 0 (length ds)) (all_ascii_digits ds) refl refl h
  where
    go : (a b : Bool) → nat_lt 0 (length ds) ≡ a → all_ascii_digits ds ≡ b → (let o : Option ℕ = cond (a && b) (Some (digits_value 10 ds)) None in o) ≡ Some n → IsNatural ds n
    go true true e f g = record { long = grind (arith, nat_tests); digits = f; value = cc }
    go true false e f g = absurd (cc)
    go false b e f g = absurd (cc)

pub natural_is : (ds : List ℕ) → 0 < length ds → all_ascii_digits ds ≡ true → natural_of ds ≡ Some (digits_value 10 ds)
natural_is ds long digits =
    let some : nat_lt 0 (length ds) ≡ true = grind (arith, nat_tests) in
    ap (λ (a : Bool). cond (a && all_ascii_digits ds) (Some (digits_value 10 ds)) None) some
    ∙ ap (λ (b : Bool). cond b (Some (digits_value 10 ds)) None) digits

pub mapped : {A B : Type 0} (f : A → B) (o : Option A) (y : B) → option_map f o ≡ Some y → (x : A) × (o ≡ Some x) × (f x ≡ y)
mapped f None y h = absurd (cc)
mapped f (Some x) y h = (x, refl, cc)

-- ---- the parser of a type

minus_fits : (h m : ℕ) → m ≤ 2 ^ h → fits_bits h (neg_ℤ (pos m)) ≡ true
minus_fits h zero low = let some = pow_pos h in grind (arith, nat_tests)
minus_fits h (suc m) low = grind (arith, nat_tests)

minus_passes : (h m : ℕ) → 2 ^ h < m → fits_bits h (neg_ℤ (pos m)) ≡ false
minus_passes h zero high = absurd (omega arith)
minus_passes h (suc m) high = grind (arith, nat_tests)

checked : {E : Type 0} (h : ℕ) (n : ℤ) (Q : Type 0) (read : Result ℤ E) → OkIff read Q n → (Q → fits_bits h n ≡ true) → ((Q → ⊥) → fits_bits h n ≡ false)
    → in_range read ≡ within_bits h (Some n)
checked h n Q (Ok x) is fits passes =
    ap Ok is.1 ∙ sym (cond_true (fits_bits h n) (Ok n) (Err errors.OutOfRange) (fits is.0))
checked h n Q (Err e) is fits passes =
    sym (cond_false (fits_bits h n) (Ok n) (Err errors.OutOfRange) (passes is))

parsed_minus : {E : Type 0} (w : Width) (h : ℕ) (ds text : List ℕ) (read : Result ℤ E) → hbits w ≡ h → ParsesSigned w 10 text read
    → get_or text 0 0 ≡ 45 → ds ≡ drop 1 text → (m : ℕ) → natural_of ds ≡ Some m → in_range read ≡ within_bits h (Some (neg_ℤ (pos m)))
parsed_minus w h ds text read wide parses at e m found =
    let n = natural_some ds m found in
    let v : ℕ = digits_value 10 (drop 1 text) in
    let same : v ≡ m = ap (digits_value 10) (sym e) ∙ n.value in
    let P : ℕ → Type 0 = λ k. in_range read ≡ within_bits h (Some (neg_ℤ (pos k))) in
    subst P same
    (checked h (neg_ℤ (pos v)) _ read (parse_signed_minus own w text read parses at)
    (λ q. minus_fits h v (subst (λ (k : ℕ). v ≤ 2 ^ k) wide q.2))
    (λ none. by_lt (2 ^ h) v (λ high. minus_passes h v high)
    (λ low. absurd (none (subst (λ (l : List ℕ). all_ascii_digits l ≡ true) e n.digits, subst (λ (l : List ℕ). 0 < length l) e n.long, subst (λ (k : ℕ). v ≤ 2 ^ k) (sym wide) low)))))

parsed_plain : {E : Type 0} (w : Width) (h : ℕ) (text : List ℕ) (read : Result ℤ E) → hbits w ≡ h → ParsesSigned w 10 text read
    → (m : ℕ) → natural_of text ≡ Some m → in_range read ≡ within_bits h (Some (pos m))
parsed_plain w h text read wide parses m found =
    let n = natural_some text m found in
    let v : ℕ = digits_value 10 text in
    let no_plus = not_in_digits own text 43 n.digits (λ r. omega arith) 0 n.long in
    let no_minus = not_in_digits own text 45 n.digits (λ r. omega arith) 0 n.long in
    let P : ℕ → Type 0 = λ k. in_range read ≡ within_bits h (Some (pos k)) in
    subst P n.value
    (checked h (pos v) _ read (parse_signed_plain own w text read parses no_plus no_minus)
    (λ q. let low : v < 2 ^ h = subst (λ (k : ℕ). v < 2 ^ k) wide q.2 in grind (arith, nat_tests))
    (λ none. by_lt v (2 ^ h) (λ low. absurd (none (n.digits, n.long, subst (λ (k : ℕ). v < 2 ^ k) (sym wide) low)))
    (λ high. grind (arith, nat_tests))))

pub parsed_is : {E : Type 0} (w : Width) (h : ℕ) (text : List ℕ) (read : Result ℤ E) → hbits w ≡ h → ParsesSigned w 10 text read
    → IsSome (whole_of text) → in_range read ≡ within_bits h (whole_of text)
parsed_is w h text read wide parses some =
    by_bool (eqb (get_or text 0 0) 45)
    (λ e.
    let at : get_or text 0 0 ≡ 45 = grind (arith, nat_tests) in
    let is : whole_of text ≡ option_map (λ n. neg_ℤ (pos n)) (natural_of (drop 1 text)) = cond_true (eqb (get_or text 0 0) 45) _ _ e in
    minus (natural_of (drop 1 text)) refl is at)
    (λ e.
    let is : whole_of text ≡ option_map pos (natural_of text) = cond_false (eqb (get_or text 0 0) 45) _ _ e in
    plain (natural_of text) refl is)
  where
    minus : (o : Option ℕ) → natural_of (drop 1 text) ≡ o → whole_of text ≡ option_map (λ n. neg_ℤ (pos n)) (natural_of (drop 1 text)) → get_or text 0 0 ≡ 45
        → in_range read ≡ within_bits h (whole_of text)
    minus None e is at = absurd (false≢true (subst (λ (o : Option ℤ). IsSome o) (is ∙ ap (option_map (λ n. neg_ℤ (pos n))) e) some))
    minus (Some m) e is at =
        parsed_minus w h (drop 1 text) text read wide parses at refl m e ∙ sym (ap (within_bits h) (is ∙ ap (option_map (λ n. neg_ℤ (pos n))) e))

    plain : (o : Option ℕ) → natural_of text ≡ o → whole_of text ≡ option_map pos (natural_of text) → in_range read ≡ within_bits h (whole_of text)
    plain None e is = absurd (false≢true (subst (λ (o : Option ℤ). IsSome o) (is ∙ ap (option_map pos) e) some))
    plain (Some m) e is = parsed_plain w h text read wide parses m e ∙ sym (ap (within_bits h) (is ∙ ap (option_map pos) e))

pub number_is : {E : Type 0} (w : Width) (h : ℕ) (text : List ℕ) (result : Result ℤ LiteralError) → hbits w ≡ h
    → (whole_of text ≡ None → result ≡ Err errors.Malformed)
    → (IsSome (whole_of text) → (read : Result ℤ E) × ParsesSigned w 10 text read × (result ≡ in_range read))
    → result ≡ within_bits h (whole_of text)
number_is w h text result wide none word = go (whole_of text) refl
  where
    go : (o : Option ℤ) → whole_of text ≡ o → result ≡ within_bits h (whole_of text)
    go None e = none e ∙ sym (ap (within_bits h) e)
    go (Some n) e =
        let some : IsSome (whole_of text) = subst (λ (o : Option ℤ). IsSome o) (sym e) refl in
        let r = word some in
        r.2 ∙ parsed_is w h text r.0 wide r.1 some

-- ---- answers

pub answers_same : {A : Type 0} (m answer : Result A LiteralError) → m ≡ answer → Answers m answer
answers_same (Ok x) answer e = sym e
answers_same (Err errors.WrongKind) answer e = sym e
answers_same (Err errors.OutOfRange) answer e = sym e
answers_same (Err errors.Malformed) answer e = sym e
answers_same (Err errors.NoMemory) answer e = tt

pub mapped_is : (make : ℤ → CqlValue) (r : Result ℤ LiteralError) (m : Result CqlValue LiteralError) (answer : Result ℤ LiteralError)
    → MatchResult r (λ x. IsOkAnd m (λ v. v ≡ make x)) (λ e. m ≡ Err e) → r ≡ answer → m ≡ result_map make answer
mapped_is make (Ok x) (Ok v) answer is e = ap Ok is ∙ ap (result_map make) e
mapped_is make (Ok x) (Err d) answer is e = absurd is
mapped_is make (Err d) m answer is e = is ∙ ap (result_map make) e

pub mapped_word : {A : Type 0} (make : A → CqlValue) (r : Result A LiteralError) (m : Result CqlValue LiteralError) (o : Option A)
    → MatchResult r (λ x. IsOkAnd m (λ v. v ≡ make x)) (λ e. m ≡ Err e) → Answers r (word (λ (x : A). x) o) → Answers m (word make o)
mapped_word make (Ok x) (Ok v) None is a = absurd (cc)
mapped_word make (Ok x) (Ok v) (Some y) is a = cc
mapped_word make (Ok x) (Err d) o is a = absurd is
mapped_word {A} make (Err d) m o is a = subst (λ (r : Result CqlValue LiteralError). Answers r (word make o)) (sym is) (go d o a)
  where
    go : (e : LiteralError) (p : Option A) → (let r : Result A LiteralError = Err e in Answers r (word (λ (x : A). x) p)) → (let r : Result CqlValue LiteralError = Err e in Answers r (word make p))
    go errors.NoMemory p b = tt
    go errors.Malformed None b = refl
    go errors.WrongKind None b = absurd (cc)
    go errors.OutOfRange None b = absurd (cc)
    go errors.Malformed (Some x) b = absurd (cc)
    go errors.WrongKind (Some x) b = absurd (cc)
    go errors.OutOfRange (Some x) b = absurd (cc)

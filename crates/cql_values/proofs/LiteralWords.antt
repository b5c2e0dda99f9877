-- The words of literals, and what they are read as.
use Rattle.std.proofs.Common.{◌≡◌, ◌<◌, ◌≤◌, ◌&&◌, ℕ, zero, suc, Bool, true, false, cond, nat_lt, List, [], ◌∷◌, length, get_or, Option, Some, None, Result, Ok, Err, arith, refl, sym, ap, ◌∙◌, subst}
use Rattle.std.specs.Prelude.{option_map}
use Rattle.std.specs.Char.{is_ascii_digit}
use Rattle.std.specs.List.{list_all}
use Rattle.std.specs.Str.{IsUtf8, IsAscii, all_ascii_digits}
use Rattle.std.proofs.lemmas.Bool.Decides.{nat_tests}
use Rattle.uuid.specs.Text.{parsed, parsed_hyphenated}
use Rattle.std.specs.Option.{is_some}
use Rattle.std.specs.Str.Parse.{digits_value}
use Rattle.cql_values.specs.Literals.{natural_of, unquoted, uuid_of, word, ascii_word}
use Rattle.cql_values.specs.declared.error.LiteralError.{LiteralError}
use Rattle.cql_values.specs.declared.error.LiteralError.TheVariants as errors
use Rattle.cql_values.specs.declared.value.CqlValue.{CqlValue}
use Rattle.cql_values.specs.declared.value.CqlValue.TheVariants as values
use Rattle.cql_values.proofs.Quotes.{utf8-unquoted, unquoted-sound}

pub all_ascii_digits-is : (cs : List ℕ) → list_all is_ascii_digit cs ≡ all_ascii_digits cs
all_ascii_digits-is [] = refl
all_ascii_digits-is (c ∷ cs) = ap (λ (b : Bool). is_ascii_digit c && b) (all_ascii_digits-is cs)

parsed_at_36 : (text : List ℕ) → length text ≡ 36 → parsed text ≡ parsed_hyphenated text
parsed_at_36 text len = rw len refl

pub no_uuid : (text : List ℕ) → length text ≡ 36 → ((uuid : List ℕ) × (parsed text ≡ Some uuid) → ⊥) → uuid_of text ≡ None
no_uuid text len none = go (parsed_hyphenated text) refl
  where
    go : (o : Option (List ℕ)) → parsed_hyphenated text ≡ o → uuid_of text ≡ None
    go None e = ap (option_map _) e
    go (Some uuid) e = absurd (none (uuid, parsed_at_36 text len ∙ e))

pub utf8_content : (text content : List ℕ) → IsUtf8 text → unquoted text ≡ Some content → IsUtf8 content
utf8_content text content u found = utf8-unquoted content (subst IsUtf8 (unquoted-sound text content found) u)

pub word_ok : {A B : Type 0} (f : A → B) (o : Option A) (y : B) → word f o ≡ Ok y → (x : A) × (o ≡ Some x) × (f x ≡ y)
word_ok f None y h = absurd (cc)
word_ok f (Some x) y h = (x, refl, cc)

pub all_ascii : (bytes : List ℕ) → IsAscii bytes → list_all (λ c. nat_lt c 128) bytes ≡ true
all_ascii [] ascii = refl
all_ascii (c ∷ cs) ascii =
    let low : c < 128 = ascii 0 in
    let first : nat_lt c 128 ≡ true = grind (arith, nat_tests) in
    ap (λ (b : Bool). b && list_all (λ x. nat_lt x 128) cs) first ∙ all_ascii cs (λ i. ascii (suc i))

pub not_all_ascii : (bytes : List ℕ) (i : ℕ) → 128 ≤ get_or bytes i 0 → list_all (λ c. nat_lt c 128) bytes ≡ false
not_all_ascii [] i high = absurd (omega arith)
not_all_ascii (c ∷ cs) zero high =
    let first : nat_lt c 128 ≡ false = grind (arith, nat_tests) in
    ap (λ (b : Bool). b && list_all (λ x. nat_lt x 128) cs) first
not_all_ascii (c ∷ cs) (suc i) high =
    ap (λ (b : Bool). nat_lt c 128 && b) (not_all_ascii cs i high) ∙ and_false (nat_lt c 128)
  where
    and_false : (b : Bool) → b && false ≡ false
    and_false true = refl
    and_false false = refl

abbrev string_word : List ℕ → Result CqlValue LiteralError
string_word content = cond (list_all (λ c. nat_lt c 128) content) (Ok (values.Ascii content)) (Err errors.Malformed)

pub ascii_read : (o : Option (List ℕ)) (content bytes : List ℕ) → word (λ (c : List ℕ). c) o ≡ Ok content → bytes ≡ content → IsAscii bytes
    → ascii_word o ≡ Ok (values.Ascii content)
ascii_read o content bytes h e ascii =
    let p = word_ok (λ (c : List ℕ). c) o content h in
    ap ascii_word (p.1 ∙ ap Some p.2) ∙ ap (λ (b : Bool). cond b (Ok (values.Ascii content)) (Err errors.Malformed)) (all_ascii content (subst IsAscii e ascii))

pub ascii_refused : (o : Option (List ℕ)) (content bytes : List ℕ) → word (λ (c : List ℕ). c) o ≡ Ok content → bytes ≡ content
    → (i : ℕ) × (128 ≤ get_or bytes i 0) → ascii_word o ≡ Err errors.Malformed
ascii_refused o content bytes h e other =
    let p = word_ok (λ (c : List ℕ). c) o content h in
    let high : 128 ≤ get_or content other.0 0 = subst (λ (l : List ℕ). 128 ≤ get_or l other.0 0) e other.1 in
    ap ascii_word (p.1 ∙ ap Some p.2) ∙ ap (λ (b : Bool). cond b (Ok (values.Ascii content)) (Err errors.Malformed)) (not_all_ascii content other.0 high)

pub natural_test : (digits : List ℕ) (b : Bool) → 0 < length digits → b ≡ list_all is_ascii_digit digits → b ≡ is_some (natural_of digits)
natural_test digits b long e =
    let some : nat_lt 0 (length digits) ≡ true = grind (arith, nat_tests) in
    e ∙ all_ascii_digits-is digits
    ∙ test (all_ascii_digits digits)
    ∙ ap (λ (t : Bool). is_some (cond (t && all_ascii_digits digits) (Some (digits_value 10 digits)) None)) (sym some)
  where
    test : (t : Bool) → t ≡ is_some (cond (true && t) (Some (digits_value 10 digits)) None)
    test true = refl
    test false = refl

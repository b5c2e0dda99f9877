-- What a parser of numbers gives.
use Rattle.std.proofs.Common.{◌≡◌, ◌<◌, ◌^◌, ◌&&◌, ℕ, Bool, true, false, cond, nat_lt, List, length, Option, Some, None, Result, Ok, Err, arith, refl, ap, subst}
use Rattle.std.specs.Result.{OkIff, result_ok}
use Rattle.std.specs.Str.{all_ascii_digits}
use Rattle.std.specs.Str.Parse.{ParsesUnsigned, IsNumeral, digits_value, without_leading_plus}
use Rattle.std.proofs.lemmas.Bool.Decides.{nat_tests}
use Rattle.std.proofs.lemmas.Str.Parse.{IsNumeralModel, numerals_by_value, tells_all_ascii_digits}
use Rattle.cql_values.specs.Literals.{Answers, literal_value, unquoted, word}
use Rattle.cql_values.specs.declared.value.CqlType.TheVariants as types
use Rattle.cql_values.specs.declared.value.CqlValue.{CqlValue}
use Rattle.cql_values.specs.declared.value.CqlValue.TheVariants as values
use Rattle.cql_values.specs.declared.error.LiteralError.{LiteralError}
use Rattle.schema_book.specs.Options.{number_in}

own : IsNumeralModel (λ ds. all_ascii_digits ds ≡ true) (digits_value 10)
own = numerals_by_value _ tells_all_ascii_digits

is_below : (n m : ℕ) → n < m → nat_lt n m ≡ true
is_below n m low = grind (arith, nat_tests)

below : (n m : ℕ) → nat_lt n m ≡ true → n < m
below n m low = grind (arith, nat_tests)

by_tests : {E : Type 0} (ds : List ℕ) (v m : ℕ) (a b d : Bool) → nat_lt 0 (length ds) ≡ a → all_ascii_digits ds ≡ b → nat_lt v m ≡ d
    → (r : Result ℕ E) → OkIff r (IsNumeral 10 ds × (v < m)) v → result_ok r ≡ cond (a && (b && d)) (Some v) None
by_tests ds v m true true true e f g (Ok x) h = ap Some h.1
by_tests ds v m true true false e f g (Ok x) h = let t = is_below v m h.0.1 in absurd (cc)
by_tests ds v m true false d e f g (Ok x) h = let t = own.from ds h.0.0.1 in absurd (cc)
by_tests ds v m false b d e f g (Ok x) h = let t = is_below 0 (length ds) h.0.0.0 in absurd (cc)
by_tests ds v m true true true e f g (Err x) h = absurd (h ((below 0 (length ds) e, own.to ds f), below v m g))
by_tests ds v m true true false e f g (Err x) h = refl
by_tests ds v m true false d e f g (Err x) h = refl
by_tests ds v m false b d e f g (Err x) h = refl

pub parsed_is : {E : Type 0} (text : List ℕ) (r : Result ℕ E) → ParsesUnsigned 64 10 text r → result_ok r ≡ number_in text
parsed_is text r h =
    let ds = without_leading_plus text in
    by_tests ds (digits_value 10 ds) (2 ^ 64) (nat_lt 0 (length ds)) (all_ascii_digits ds) (nat_lt (digits_value 10 ds) (2 ^ 64)) refl refl refl r h

-- what a string holds, where it was read as a text
pub inside_is : (text : List ℕ) (r : Result CqlValue LiteralError) (inside : List ℕ) → Answers r (literal_value types.Text text)
    → r ≡ Ok (values.Text inside) → unquoted text ≡ Some inside
inside_is text r inside h e = go (unquoted text) (subst (λ (answer : Result CqlValue LiteralError). Answers answer (literal_value types.Text text)) e h)
  where
    go : (o : Option (List ℕ)) → word values.Text o ≡ Ok (values.Text inside) → o ≡ Some inside
    go None f = absurd (cc)
    go (Some x) f = cc

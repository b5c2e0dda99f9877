-- What is written is a word, whatever follows it; and where bytes are a word, they are what is written.
use Rattle.std.proofs.Common.{◌≡◌, ℕ, ◌-◌, ◌^◌, ◌<◌, Bool, List, [], ◌∷◌, ◌++◌, length, Option, Some, None, refl, sym, ap, subst, ◌∙◌, append_assoc, arith}
use Rattle.std.specs.Prelude.{pos, negsuc, is_some}
use Rattle.std.specs.Int.{Width, w16, w32, w64, byte_len, cast_unsigned, from_be_bytes, to_be_bytes}
use Rattle.std.specs.List.{flat_map, AllByRecursion}
use Rattle.std.proofs.lemmas.Int.{to_z-of_z, to_z_pos}
use Rattle.std.proofs.lemmas.List.Concat.{flat_map-cons}
use Rattle.std.proofs.lemmas.Nat.{from_be_bytes-to_be_bytes_2, from_be_bytes-to_be_bytes_4, from_be_bytes-to_be_bytes_8}
use Rattle.std.proofs.Math.Facts.{Fits-of_z, to_z-neg}
use Rattle.body_notations.specs.declared.value.Value.{Value}
use Rattle.body_notations.specs.declared.value.Value.TheVariants as values
use Rattle.body_notations.specs.declared.consistency.Consistency.{Consistency}
use Rattle.body_notations.specs.declared.consistency.Consistency.TheVariants as consistencies
use Rattle.cs_base.specs.declared.level.Level.TheVariants as levels
use Rattle.body_notations.specs.Notations.{IsByte, IsNumber, IsShort, IsInt, IsLong, consistency_code, IsConsistency, IsString, IsLongString, IsShortBytes, IsBytes, IsValue, AreWords, IsList, IsPart}
use Rattle.body_notations.specs.Spelling.{short, int, long, count, consistency, string, long_string, short_bytes, bytes as bytes_or_null, value, list, part, Always, FitsShort, FitsInt, BytesFit, ValueFits, ListFits, PartFits, IsShortNumber, IsIntNumber, IsLongNumber, IsStringText, IsLongStringText}

-- ---- words that are written

pub record IsSpelled {A : Type 0} (spelling : A → List ℕ) (N : List ℕ → A → List ℕ → Type 0) (P : A → Type 0) : Type 0 where
  pub first : (x : A) (rest : List ℕ) → P x → N (spelling x ++ rest) x rest

number_spelled : (w : Width) (n : ℕ) (rest : List ℕ) → length (to_be_bytes w n) ≡ byte_len w → from_be_bytes w (to_be_bytes w n) ≡ n → IsNumber w (to_be_bytes w n ++ rest) n rest
number_spelled w n rest len back = record { digits = to_be_bytes w n; parts = refl; count = len; value = sym back }

short_is : (n : ℕ) (rest : List ℕ) → n < 2 ^ 16 → IsShort (short n ++ rest) n rest
short_is n rest lt = number_spelled w16 n rest refl (from_be_bytes-to_be_bytes_2 n lt)

pub short_spelled : IsSpelled short IsShort IsShortNumber
short_spelled = record { first = short_is }

digits_is : (n : ℕ) (rest : List ℕ) → n < 2 ^ 32 → IsNumber w32 (count n ++ rest) n rest
digits_is n rest lt = number_spelled w32 n rest refl (from_be_bytes-to_be_bytes_4 n lt)

pub int_spelled : IsSpelled int IsInt IsIntNumber
int_spelled = record { first = λ n rest fits. (cast_unsigned w32 n, digits_is (cast_unsigned w32 n) rest (Fits-of_z fits).fits, sym (to_z-of_z w32 n fits)) }

pub long_spelled : IsSpelled long IsLong IsLongNumber
long_spelled = record {
  first = λ n rest fits.
      (cast_unsigned w64 n, number_spelled w64 (cast_unsigned w64 n) rest refl (from_be_bytes-to_be_bytes_8 (cast_unsigned w64 n) (Fits-of_z fits).fits), sym (to_z-of_z w64 n fits));
}

pub count_is : (n : ℕ) (rest : List ℕ) → n < 2 ^ 31 → IsInt (count n ++ rest) (pos n) rest
count_is n rest lt = (n, digits_is n rest (omega arith), sym (to_z_pos w32 n lt))

null_is : (rest : List ℕ) → IsInt (count (2 ^ 32 - 1) ++ rest) (negsuc 0) rest
null_is rest = (2 ^ 32 - 1, digits_is (2 ^ 32 - 1) rest (omega arith), sym (to_z-neg w32 0 (omega arith)))

not_set_is : (rest : List ℕ) → IsInt (count (2 ^ 32 - 2) ++ rest) (negsuc 1) rest
not_set_is rest = (2 ^ 32 - 2, digits_is (2 ^ 32 - 2) rest (omega arith), sym (to_z-neg w32 1 (omega arith)))

code_fits : (c : Consistency) → consistency_code c < 2 ^ 16
code_fits consistencies.Any = omega arith
code_fits consistencies.EachQuorum = omega arith
code_fits (consistencies.Level levels.One) = omega arith
code_fits (consistencies.Level levels.Two) = omega arith
code_fits (consistencies.Level levels.Three) = omega arith
code_fits (consistencies.Level levels.Quorum) = omega arith
code_fits (consistencies.Level levels.All) = omega arith
code_fits (consistencies.Level levels.LocalQuorum) = omega arith
code_fits (consistencies.Level levels.Serial) = omega arith
code_fits (consistencies.Level levels.LocalSerial) = omega arith
code_fits (consistencies.Level levels.LocalOne) = omega arith

pub consistency_spelled : IsSpelled consistency IsConsistency Always
consistency_spelled = record { first = λ c rest always. short_is (consistency_code c) rest (code_fits c) }

pub byte_spelled : (b : ℕ) (rest : List ℕ) → IsByte (b ∷ rest) b rest
byte_spelled b rest = refl

pub string_spelled : IsSpelled string IsString IsStringText
string_spelled = record {
  first = λ text rest fits.
      (subst (λ (b : List ℕ). IsShort b (length text) (text ++ rest)) (sym (append_assoc (short (length text)) text rest)) (short_is (length text) (text ++ rest) fits.0), fits.1);
}

counted_is : (content rest : List ℕ) → FitsInt content → IsInt (long_string content ++ rest) (pos (length content)) (content ++ rest)
counted_is content rest fits =
    subst (λ (b : List ℕ). IsInt b (pos (length content)) (content ++ rest)) (sym (append_assoc (count (length content)) content rest)) (count_is (length content) (content ++ rest) fits)

pub long_string_spelled : IsSpelled long_string IsLongString IsLongStringText
long_string_spelled = record { first = λ text rest fits. (counted_is text rest fits.0, fits.1) }

pub short_bytes_spelled : IsSpelled short_bytes IsShortBytes FitsShort
short_bytes_spelled = record {
  first = λ content rest fits.
      subst (λ (b : List ℕ). IsShort b (length content) (content ++ rest)) (sym (append_assoc (short (length content)) content rest)) (short_is (length content) (content ++ rest) fits);
}

bytes_is : (o : Option (List ℕ)) (rest : List ℕ) → BytesFit o → IsBytes (bytes_or_null o ++ rest) o rest
bytes_is None rest fits = (0, null_is rest)
bytes_is (Some content) rest fits = counted_is content rest fits

pub bytes_spelled : IsSpelled bytes_or_null IsBytes BytesFit
bytes_spelled = record { first = bytes_is }

value_is : (v : Value) (rest : List ℕ) → ValueFits v → IsValue (value v ++ rest) v rest
value_is values.Null rest fits = null_is rest
value_is values.NotSet rest fits = not_set_is rest
value_is (values.Given content) rest fits = counted_is content rest fits

pub value_spelled : IsSpelled value IsValue ValueFits
value_spelled = record { first = value_is }

words_are : {A : Type 0} (spelling : A → List ℕ) (N : List ℕ → A → List ℕ → Type 0) (P : A → Type 0) → IsSpelled spelling N P
    → (xs : List A) (rest : List ℕ) → AllByRecursion P xs → AreWords N (flat_map spelling xs ++ rest) xs rest
words_are {A} spelling N P spelled [] rest fits = refl
words_are spelling N P spelled (x ∷ xs) rest fits =
    let regrouped : flat_map spelling (x ∷ xs) ++ rest ≡ spelling x ++ (flat_map spelling xs ++ rest) =
    ap (λ (b : List ℕ). b ++ rest) (flat_map-cons spelling x xs) ∙ append_assoc (spelling x) (flat_map spelling xs) rest in
    (flat_map spelling xs ++ rest, subst (λ (b : List ℕ). N b x (flat_map spelling xs ++ rest)) (sym regrouped) (spelled.first x (flat_map spelling xs ++ rest) fits.0), words_are spelling N P spelled xs rest fits.1)

pub words_spelled : {A : Type 0} (spelling : A → List ℕ) (N : List ℕ → A → List ℕ → Type 0) (P : A → Type 0) → IsSpelled spelling N P → IsSpelled (flat_map spelling) (AreWords N) (AllByRecursion P)
words_spelled {A} spelling N P spelled = record { first = words_are spelling N P spelled }

pub list_spelled : {A : Type 0} (spelling : A → List ℕ) (N : List ℕ → A → List ℕ → Type 0) (P : A → Type 0) → IsSpelled spelling N P → IsSpelled (list spelling) (IsList N) (ListFits P)
list_spelled {A} spelling N P spelled = record {
  first = λ xs rest fits. (
    flat_map spelling xs ++ rest,
    subst (λ (b : List ℕ). IsShort b (length xs) (flat_map spelling xs ++ rest)) (sym (append_assoc (short (length xs)) (flat_map spelling xs) rest)) (short_is (length xs) (flat_map spelling xs ++ rest) fits.0),
    words_are spelling N P spelled xs rest fits.1,
  );
}

pub part_spelled : {A : Type 0} (spelling : A → List ℕ) (N : List ℕ → A → List ℕ → Type 0) (P : A → Type 0) → IsSpelled spelling N P
    → (set : Bool) (o : Option A) (rest : List ℕ) → set ≡ is_some o → PartFits P o → IsPart set N (part spelling o ++ rest) o rest
part_spelled {A} spelling N P spelled set None rest is fits = (is, refl)
part_spelled spelling N P spelled set (Some x) rest is fits = (is, spelled.first x rest fits)

-- two words, one behind the other
pub two_spelled : {A B : Type 0} (s : A → List ℕ) (t : B → List ℕ) (N : List ℕ → A → List ℕ → Type 0) (M : List ℕ → B → List ℕ → Type 0) (P : A → Type 0) (Q : B → Type 0) → IsSpelled s N P → IsSpelled t M Q
    → (x : A) (y : B) (rest : List ℕ) → P x → Q y → (middle : List ℕ) × N ((s x ++ t y) ++ rest) x middle × M middle y rest
two_spelled {A} {B} s t N M P Q first second x y rest p q =
    (t y ++ rest, subst (λ (b : List ℕ). N b x (t y ++ rest)) (sym (append_assoc (s x) (t y) rest)) (first.first x (t y ++ rest) p), second.first y rest q)

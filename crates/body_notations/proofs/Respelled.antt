-- Where bytes are a word, they are what is written for its value.
use Rattle.std.proofs.Common.{◌≡◌, ℕ, ◌+◌, ◌^◌, ◌<◌, Bool, List, [], ◌∷◌, ◌++◌, length, Option, Some, None, sym, ap, subst, ◌∙◌, append_assoc, arith, inl, inr}
use Rattle.std.specs.Prelude.{ℤ, pos, negsuc}
use Rattle.std.specs.Int.{Width, w16, w32, w64, cast_unsigned, from_be_bytes, to_be_bytes}
use Rattle.std.specs.List.{flat_map, AllByRecursion}
use Rattle.std.proofs.lemmas.Bool.{cases_lt}
use Rattle.std.proofs.lemmas.Int.{of_z-to_z}
use Rattle.std.proofs.lemmas.List.{get_or_append_left, get_or-append-add, get_or_past}
use Rattle.std.proofs.lemmas.List.Concat.{flat_map-cons}
use Rattle.std.proofs.lemmas.Nat.{be_bytes_2, be_bytes_4, be_bytes_8}
use Rattle.body_notations.specs.declared.value.Value.{Value}
use Rattle.body_notations.specs.declared.value.Value.TheVariants as values
use Rattle.body_notations.specs.Notations.{AreBytes, IsNumber, IsShort, IsInt, IsLong, consistency_code, IsConsistency, IsString, IsLongString, IsShortBytes, IsBytes, IsValue, AreWords, IsList, IsPart}
use Rattle.body_notations.specs.Spelling.{short, int, long, count, consistency, string, long_string, short_bytes, bytes as bytes_or_null, value, list, part, Always, IsNotNull, PartFits}

pub AreBytes-behind : (front rest : List ℕ) → AreBytes (front ++ rest) → AreBytes rest
AreBytes-behind front rest small i = subst (λ (n : ℕ). n < 256) (get_or-append-add front rest i 0) (small (length front + i))

AreBytes-front : (front rest : List ℕ) → AreBytes (front ++ rest) → AreBytes front
AreBytes-front front rest small i =
    elim (cases_lt i (length front)) [
      | inl lt ↦ subst (λ (n : ℕ). n < 256) (get_or_append_left front rest 0 i lt) (small i)
      | inr le ↦ rw (get_or_past front i 0 le) (omega arith)
    ]

pub AreBytes-rest : (bytes front rest : List ℕ) → AreBytes bytes → bytes ≡ front ++ rest → AreBytes rest
AreBytes-rest bytes front rest small e = AreBytes-behind front rest (subst AreBytes e small)

-- the bytes of a word are those that are written
pub record Respells {A : Type 0} (N : List ℕ → A → List ℕ → Type 0) (spelling : A → List ℕ) (P : A → Type 0) : Type 0 where
  pub back : (bytes : List ℕ) (x : A) (rest : List ℕ) → AreBytes bytes → P x → N bytes x rest → bytes ≡ spelling x ++ rest

digits_back : (w : Width) (bytes : List ℕ) (n : ℕ) (rest : List ℕ) → (word : IsNumber w bytes n rest) → to_be_bytes w n ≡ word.digits → bytes ≡ to_be_bytes w n ++ rest
digits_back w bytes n rest word e = word.parts ∙ ap (λ (d : List ℕ). d ++ rest) (sym e)

digits_small : (w : Width) (bytes : List ℕ) (n : ℕ) (rest : List ℕ) → AreBytes bytes → (word : IsNumber w bytes n rest) → AreBytes word.digits
digits_small w bytes n rest small word = AreBytes-front word.digits rest (subst AreBytes word.parts small)

short_back : (bytes : List ℕ) (n : ℕ) (rest : List ℕ) → AreBytes bytes → IsShort bytes n rest → bytes ≡ short n ++ rest
short_back bytes n rest small word = digits_back w16 bytes n rest word (be_bytes_2 word.digits n word.count (digits_small w16 bytes n rest small word) word.value)

pub short_respells : Respells IsShort short Always
short_respells = record { back = λ bytes n rest small always word. short_back bytes n rest small word }

below_32 : (digits : List ℕ) → AreBytes digits → from_be_bytes w32 digits < 2 ^ 32
below_32 digits small = omega (arith, small 0, small 1, small 2, small 3)

below_64 : (digits : List ℕ) → AreBytes digits → from_be_bytes w64 digits < 2 ^ 64
below_64 digits small = omega (arith, small 0, small 1, small 2, small 3, small 4, small 5, small 6, small 7)

pub int_back : (bytes : List ℕ) (n : ℤ) (rest : List ℕ) → AreBytes bytes → IsInt bytes n rest → bytes ≡ int n ++ rest
int_back bytes n rest small word =
    let digits_are = digits_small w32 bytes word.0 rest small word.1 in
    let low : word.0 < 2 ^ 32 = subst (λ (k : ℕ). k < 2 ^ 32) (sym word.1.value) (below_32 word.1.digits digits_are) in
    let same : cast_unsigned w32 n ≡ word.0 = ap (cast_unsigned w32) word.2 ∙ of_z-to_z w32 word.0 low in
    digits_back w32 bytes word.0 rest word.1 (be_bytes_4 word.1.digits word.0 word.1.count digits_are word.1.value) ∙ ap (λ (k : ℕ). to_be_bytes w32 k ++ rest) (sym same)

pub int_respells : Respells IsInt int Always
int_respells = record { back = λ bytes n rest small always word. int_back bytes n rest small word }

pub long_respells : Respells IsLong long Always
long_respells = record {
  back = λ bytes n rest small always word.
      let digits_are = digits_small w64 bytes word.0 rest small word.1 in
      let low : word.0 < 2 ^ 64 = subst (λ (k : ℕ). k < 2 ^ 64) (sym word.1.value) (below_64 word.1.digits digits_are) in
      let same : cast_unsigned w64 n ≡ word.0 = ap (cast_unsigned w64) word.2 ∙ of_z-to_z w64 word.0 low in
      digits_back w64 bytes word.0 rest word.1 (be_bytes_8 word.1.digits word.0 word.1.count digits_are word.1.value) ∙ ap (λ (k : ℕ). to_be_bytes w64 k ++ rest) (sym same);
}

pub consistency_respells : Respells IsConsistency consistency Always
consistency_respells = record { back = λ bytes c rest small always word. short_back bytes (consistency_code c) rest small word }

pub string_respells : Respells IsString string Always
string_respells = record {
  back = λ bytes text rest small always word.
      short_back bytes (length text) (text ++ rest) small word.0 ∙ sym (append_assoc (short (length text)) text rest);
}

pub counted_back : (bytes content rest : List ℕ) → AreBytes bytes → IsInt bytes (pos (length content)) (content ++ rest) → bytes ≡ long_string content ++ rest
counted_back bytes content rest small word = int_back bytes (pos (length content)) (content ++ rest) small word ∙ sym (append_assoc (count (length content)) content rest)

pub long_string_respells : Respells IsLongString long_string Always
long_string_respells = record { back = λ bytes text rest small always word. counted_back bytes text rest small word.0 }

pub short_bytes_respells : Respells IsShortBytes short_bytes Always
short_bytes_respells = record {
  back = λ bytes content rest small always word.
      short_back bytes (length content) (content ++ rest) small word ∙ sym (append_assoc (short (length content)) content rest);
}

bytes_back : (bytes : List ℕ) (o : Option (List ℕ)) (rest : List ℕ) → AreBytes bytes → IsNotNull o → IsBytes bytes o rest → bytes ≡ bytes_or_null o ++ rest
bytes_back bytes None rest small given word = absurd given
bytes_back bytes (Some content) rest small given word = counted_back bytes content rest small word

pub bytes_respells : Respells IsBytes bytes_or_null IsNotNull
bytes_respells = record { back = bytes_back }

value_back : (bytes : List ℕ) (v : Value) (rest : List ℕ) → AreBytes bytes → IsValue bytes v rest → bytes ≡ value v ++ rest
value_back bytes values.Null rest small word = int_back bytes (negsuc 0) rest small word
value_back bytes values.NotSet rest small word = int_back bytes (negsuc 1) rest small word
value_back bytes (values.Given content) rest small word = counted_back bytes content rest small word

pub value_respells : Respells IsValue value Always
value_respells = record { back = λ bytes v rest small always word. value_back bytes v rest small word }

pub words_back : {A : Type 0} (N : List ℕ → A → List ℕ → Type 0) (spelling : A → List ℕ) (P : A → Type 0) → Respells N spelling P
    → (bytes : List ℕ) (xs : List A) (rest : List ℕ) → AreBytes bytes → AllByRecursion P xs → AreWords N bytes xs rest → bytes ≡ flat_map spelling xs ++ rest
words_back {A} N spelling P respells bytes [] rest small given word = word
words_back N spelling P respells bytes (x ∷ xs) rest small given word =
    let first = respells.back bytes x word.0 small given.0 word.1 in
    let others = words_back N spelling P respells word.0 xs rest (AreBytes-rest bytes (spelling x) word.0 small first) given.1 word.2 in
    first ∙ ap (λ (b : List ℕ). spelling x ++ b) others ∙ sym (append_assoc (spelling x) (flat_map spelling xs) rest) ∙ ap (λ (b : List ℕ). b ++ rest) (sym (flat_map-cons spelling x xs))

pub list_respells : {A : Type 0} (N : List ℕ → A → List ℕ → Type 0) (spelling : A → List ℕ) (P : A → Type 0) → Respells N spelling P → Respells (IsList N) (list spelling) (AllByRecursion P)
list_respells {A} N spelling P respells = record {
  back = λ bytes xs rest small given word.
      let counted = short_back bytes (length xs) word.0 small word.1 in
      let others = words_back N spelling P respells word.0 xs rest (AreBytes-rest bytes (short (length xs)) word.0 small counted) given word.2 in
      counted ∙ ap (λ (b : List ℕ). short (length xs) ++ b) others ∙ sym (append_assoc (short (length xs)) (flat_map spelling xs) rest);
}

pub part_back : {A : Type 0} (N : List ℕ → A → List ℕ → Type 0) (spelling : A → List ℕ) (P : A → Type 0) → Respells N spelling P
    → (set : Bool) (bytes : List ℕ) (o : Option A) (rest : List ℕ) → AreBytes bytes → PartFits P o → IsPart set N bytes o rest → bytes ≡ part spelling o ++ rest
part_back {A} N spelling P respells set bytes None rest small given word = word.1
part_back N spelling P respells set bytes (Some x) rest small given word = respells.back bytes x rest small given word.1

-- two words, one behind the other
pub two_back : {A B : Type 0} (N : List ℕ → A → List ℕ → Type 0) (M : List ℕ → B → List ℕ → Type 0) (s : A → List ℕ) (t : B → List ℕ) (P : A → Type 0) (Q : B → Type 0) → Respells N s P → Respells M t Q
    → (bytes : List ℕ) (x : A) (middle : List ℕ) (y : B) (rest : List ℕ) → AreBytes bytes → P x → Q y → N bytes x middle → M middle y rest → bytes ≡ (s x ++ t y) ++ rest
two_back {A} {B} N M s t P Q first second bytes x middle y rest small p q one two =
    let e = first.back bytes x middle small p one in
    let f = second.back middle y rest (AreBytes-rest bytes (s x) middle small e) q two in
    e ∙ ap (λ (b : List ℕ). s x ++ b) f ∙ sym (append_assoc (s x) (t y) rest)

pub all_always : {A : Type 0} (xs : List A) → AllByRecursion Always xs
all_always {A} [] = tt
all_always (x ∷ xs) = (tt, all_always xs)

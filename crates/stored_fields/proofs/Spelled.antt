-- The spelling of a value is its word, and each word is spelled so.
use Rattle.std.proofs.Common.{◌≡◌, ℕ, ◌+◌, ◌^◌, ◌≤◌, ◌<◌, Bool, true, false, inl, inr, Option, Some, None, List, [], ◌∷◌, ◌++◌, length, get_or, refl, sym, ap, subst, ◌∙◌, append_assoc, arith}
use Rattle.std.specs.Prelude.{ℤ, FitsSigned}
use Rattle.std.specs.Int.{Width, w16, w32, w64, byte_len, cast_unsigned, from_be_bytes, to_be_bytes}
use Rattle.std.specs.List.{flat_map, AllByRecursion}
use mir.Val.{bits}
use Rattle.std.proofs.Math.Facts.{Fits-lt-pow, Fits-of_lt, Fits-of_z, sfits_to_z}
use Rattle.std.proofs.lemmas.Int.{of_z-to_z, to_z-of_z}
use Rattle.std.proofs.lemmas.Bool.{cases_lt}
use Rattle.std.proofs.lemmas.List.{get_or_past, get_or-append-add, length-append}
use Rattle.std.proofs.lemmas.Nat.{be_bytes_2, be_bytes_4, be_bytes_8, from_be_bytes-to_be_bytes_2, from_be_bytes-to_be_bytes_4, from_be_bytes-to_be_bytes_8}
use Rattle.std.proofs.Math.ListN.{get_or-append}
use Rattle.cs_base.specs.declared.ids.ReqId.{ReqId}
use Rattle.stored_fields.specs.Fields.{AreBytes, IsU8, IsNumber, IsU16, IsU32, IsU64, IsI64, IsFlag, IsNode, IsRequest, IsField, IsOptional, AreWords}
use Rattle.stored_fields.specs.Spelling.{u8, u16, u32, u64, i64, flag, request, field, optional, FitsField, RequestInRange}

-- ---- bytes and parts of them

pub behind_are_bytes : (bytes front rest : List ℕ) → bytes ≡ front ++ rest → AreBytes bytes → AreBytes rest
behind_are_bytes bytes front rest e are =
    λ i. subst (λ (n : ℕ). n < 256) (ap (λ (b : List ℕ). get_or b (length front + i) 0) e ∙ get_or-append-add front rest i 0) (are (length front + i))

pub front_are_bytes : (bytes front rest : List ℕ) → bytes ≡ front ++ rest → AreBytes bytes → AreBytes front
front_are_bytes bytes front rest e are = λ i. elim (cases_lt i (length front)) [
  | inl low ↦ subst (λ (n : ℕ). n < 256) (ap (λ (b : List ℕ). get_or b i 0) e ∙ get_or-append front rest 0 i low) (are i)
  | inr past ↦ rw (get_or_past front i 0 past) (omega arith)
]

-- The word of x at the front is spelled so, x is one that has a word, and bytes follow.
pub record IsSpelled {A : Type 0} (spelling : A → List ℕ) (Fits : A → Type 0) (bytes : List ℕ) (x : A) (rest : List ℕ) : Type 0 where
  pub parts : bytes ≡ spelling x ++ rest
  pub fits : Fits x
  pub behind : AreBytes rest

pub record Spells {A : Type 0} (N : List ℕ → A → List ℕ → Type 0) (spelling : A → List ℕ) (Fits : A → Type 0) : Type 0 where
  pub is_word : (x : A) (rest : List ℕ) → Fits x → N (spelling x ++ rest) x rest
  pub is_spelled : (bytes : List ℕ) (x : A) (rest : List ℕ) → AreBytes bytes → N bytes x rest → IsSpelled spelling Fits bytes x rest

-- ---- numbers

abbrev pub IsIn : ℕ → ℕ → Type 0
IsIn limit n = n < limit

u8_spelled : (bytes : List ℕ) (n : ℕ) (rest : List ℕ) → AreBytes bytes → IsU8 bytes n rest → IsSpelled u8 (IsIn 256) bytes n rest
u8_spelled bytes n rest are word = record {
  parts = word;
  fits = subst AreBytes word are 0;
  behind = behind_are_bytes bytes (n ∷ []) rest word are;
}

pub u8_spells : Spells IsU8 u8 (IsIn 256)
u8_spells = record { is_word = λ n rest fits. refl; is_spelled = u8_spelled }

number_spelled : (w : Width)
    → ((digits : List ℕ) (n : ℕ) → length digits ≡ byte_len w → AreBytes digits → n ≡ from_be_bytes w digits → to_be_bytes w n ≡ digits)
    → ((digits : List ℕ) → AreBytes digits → from_be_bytes w digits < 2 ^ bits w)
    → (bytes : List ℕ) (n : ℕ) (rest : List ℕ) → AreBytes bytes → IsNumber w bytes n rest → IsSpelled (to_be_bytes w) (IsIn (2 ^ bits w)) bytes n rest
number_spelled w again bound bytes n rest are word =
    let front = front_are_bytes bytes word.digits rest word.parts are in
    record {
      parts = word.parts ∙ ap (λ (d : List ℕ). d ++ rest) (sym (again word.digits n word.count front word.value));
      fits = subst (λ (m : ℕ). m < 2 ^ bits w) (sym word.value) (bound word.digits front);
      behind = behind_are_bytes bytes word.digits rest word.parts are;
    }

number_word : (w : Width) → ((n : ℕ) → n < 2 ^ bits w → from_be_bytes w (to_be_bytes w n) ≡ n) → ((n : ℕ) → length (to_be_bytes w n) ≡ byte_len w)
    → (n : ℕ) (rest : List ℕ) → n < 2 ^ bits w → IsNumber w (to_be_bytes w n ++ rest) n rest
number_word w again count n rest fits = record { digits = to_be_bytes w n; parts = refl; count = count n; value = sym (again n fits) }

bound_2 : (d : List ℕ) → AreBytes d → from_be_bytes w16 d < 2 ^ 16
bound_2 d are = omega (arith, are 0, are 1)

bound_4 : (d : List ℕ) → AreBytes d → from_be_bytes w32 d < 2 ^ 32
bound_4 d are = omega (arith, are 0, are 1, are 2, are 3)

bound_8 : (d : List ℕ) → AreBytes d → from_be_bytes w64 d < 2 ^ 64
bound_8 d are = omega (arith, are 0, are 1, are 2, are 3, are 4, are 5, are 6, are 7)

pub u16_spells : Spells IsU16 u16 (IsIn (2 ^ 16))
unfolding u16
u16_spells = record { is_word = number_word w16 from_be_bytes-to_be_bytes_2 (λ n. refl); is_spelled = number_spelled w16 be_bytes_2 bound_2 }

pub u32_spells : Spells IsU32 u32 (IsIn (2 ^ 32))
unfolding u32
u32_spells = record { is_word = number_word w32 from_be_bytes-to_be_bytes_4 (λ n. refl); is_spelled = number_spelled w32 be_bytes_4 bound_4 }

pub u64_spells : Spells IsU64 u64 (IsIn (2 ^ 64))
unfolding u64
u64_spells = record { is_word = number_word w64 from_be_bytes-to_be_bytes_8 (λ n. refl); is_spelled = number_spelled w64 be_bytes_8 bound_8 }

i64_word : (n : ℤ) (rest : List ℕ) → FitsSigned w64 n → IsI64 (i64 n ++ rest) n rest
unfolding i64
i64_word n rest fits = (cast_unsigned w64 n, u64_spells.is_word (cast_unsigned w64 n) rest (Fits-lt-pow {w = w64} (Fits-of_z {w = w64} fits)), sym (to_z-of_z w64 n fits))

i64_spelled : (bytes : List ℕ) (n : ℤ) (rest : List ℕ) → AreBytes bytes → IsI64 bytes n rest → IsSpelled i64 (FitsSigned w64) bytes n rest
unfolding i64
i64_spelled bytes n rest are word =
    let p = u64_spells.is_spelled bytes word.0 rest are word.1 in
    record {
      parts = p.parts ∙ ap (λ (m : ℕ). u64 m ++ rest) (sym (ap (cast_unsigned w64) word.2 ∙ of_z-to_z w64 word.0 p.fits));
      fits = subst (FitsSigned w64) (sym word.2) (sfits_to_z {w = w64} (Fits-of_lt {w = w64} p.fits));
      behind = p.behind;
    }

pub i64_spells : Spells IsI64 i64 (FitsSigned w64)
i64_spells = record { is_word = i64_word; is_spelled = i64_spelled }

-- ---- bytes that tell of something

abbrev pub Always : {A : Type 0} → A → Type 0
Always x = Unit {0}

flag_word : (b : Bool) (rest : List ℕ) → IsFlag (flag b ++ rest) b rest
flag_word false rest = refl
flag_word true rest = refl

flag_spelled : (bytes : List ℕ) (b : Bool) (rest : List ℕ) → AreBytes bytes → IsFlag bytes b rest → IsSpelled flag Always bytes b rest
flag_spelled bytes false rest are word = record { parts = word; fits = tt; behind = behind_are_bytes bytes (u8 0) rest word are }
flag_spelled bytes true rest are word = record { parts = word; fits = tt; behind = behind_are_bytes bytes (u8 1) rest word are }

pub flag_spells : Spells IsFlag flag Always
flag_spells = record { is_word = λ b rest fits. flag_word b rest; is_spelled = flag_spelled }

abbrev pub IsNodeNumber : ℕ → Type 0
IsNodeNumber n = n ≤ 6

node_spelled : (bytes : List ℕ) (n : ℕ) (rest : List ℕ) → AreBytes bytes → IsNode bytes n rest → IsSpelled u8 IsNodeNumber bytes n rest
node_spelled bytes n rest are word = record { parts = word.0; fits = word.1; behind = behind_are_bytes bytes (u8 n) rest word.0 are }

pub node_spells : Spells IsNode u8 IsNodeNumber
node_spells = record { is_word = λ n rest fits. (refl, fits); is_spelled = node_spelled }

request_word : (r : ReqId) (rest : List ℕ) → RequestInRange r → IsRequest (request r ++ rest) r rest
request_word r rest fits = (u64 r.time ++ rest, node_spells.is_word r.node (u64 r.time ++ rest) fits.node, u64_spells.is_word r.time rest fits.time)

request_spelled : (bytes : List ℕ) (r : ReqId) (rest : List ℕ) → AreBytes bytes → IsRequest bytes r rest → IsSpelled request RequestInRange bytes r rest
request_spelled bytes r rest are word =
    let node = node_spelled bytes r.node word.0 are word.1 in
    let time = u64_spells.is_spelled word.0 r.time rest node.behind word.2 in
    record {
      parts = node.parts ∙ ap (λ (b : List ℕ). r.node ∷ b) time.parts;
      fits = record { node = node.fits; time = time.fits };
      behind = time.behind;
    }

pub request_spells : Spells IsRequest request RequestInRange
request_spells = record { is_word = request_word; is_spelled = request_spelled }

-- ---- byte fields

field_word : (content rest : List ℕ) → FitsField content → IsField (field content ++ rest) content rest
field_word content rest fits =
    subst (λ (b : List ℕ). IsField b content rest) (sym (append_assoc (u32 (length content)) content rest)) (u32_spells.is_word (length content) (content ++ rest) fits)

field_spelled : (bytes content rest : List ℕ) → AreBytes bytes → IsField bytes content rest → IsSpelled field FitsField bytes content rest
field_spelled bytes content rest are word =
    let p = u32_spells.is_spelled bytes (length content) (content ++ rest) are word in
    record {
      parts = p.parts ∙ sym (append_assoc (u32 (length content)) content rest);
      fits = p.fits;
      behind = behind_are_bytes (content ++ rest) content rest refl p.behind;
    }

pub field_spells : Spells IsField field FitsField
field_spells = record { is_word = field_word; is_spelled = field_spelled }

-- ---- several words

abbrev pub Optionally : {A : Type 0} → (A → Type 0) → Option A → Type 0
Optionally Fits None = Unit {0}
Optionally Fits (Some x) = Fits x

optional_word : {A : Type 0} (N : List ℕ → A → List ℕ → Type 0) (spelling : A → List ℕ) (Fits : A → Type 0) → Spells N spelling Fits
    → (x : Option A) (rest : List ℕ) → Optionally Fits x → IsOptional N (optional spelling x ++ rest) x rest
optional_word N spelling Fits spells None rest fits = refl
optional_word N spelling Fits spells (Some x) rest fits = (spelling x ++ rest, refl, spells.is_word x rest fits)

optional_spelled : {A : Type 0} (N : List ℕ → A → List ℕ → Type 0) (spelling : A → List ℕ) (Fits : A → Type 0) → Spells N spelling Fits
    → (bytes : List ℕ) (x : Option A) (rest : List ℕ) → AreBytes bytes → IsOptional N bytes x rest → IsSpelled (optional spelling) (Optionally Fits) bytes x rest
optional_spelled N spelling Fits spells bytes None rest are word = record { parts = word; fits = tt; behind = behind_are_bytes bytes (u8 0) rest word are }
optional_spelled N spelling Fits spells bytes (Some x) rest are word =
    let p = spells.is_spelled word.0 x rest (behind_are_bytes bytes (u8 1) word.0 word.1 are) word.2 in
    record { parts = word.1 ∙ ap (λ (b : List ℕ). 1 ∷ b) p.parts; fits = p.fits; behind = p.behind }

pub optional_spells : {A : Type 0} (N : List ℕ → A → List ℕ → Type 0) (spelling : A → List ℕ) (Fits : A → Type 0) → Spells N spelling Fits
    → Spells (IsOptional N) (optional spelling) (Optionally Fits)
optional_spells N spelling Fits spells = record { is_word = optional_word N spelling Fits spells; is_spelled = optional_spelled N spelling Fits spells }

pub words_spelled : {A : Type 0} (N : List ℕ → A → List ℕ → Type 0) (spelling : A → List ℕ) (Fits : A → Type 0) → Spells N spelling Fits
    → (bytes : List ℕ) (xs : List A) (rest : List ℕ) → AreBytes bytes → AreWords N bytes xs rest → IsSpelled (flat_map spelling) (AllByRecursion Fits) bytes xs rest
words_spelled N spelling Fits spells bytes [] rest are word = record { parts = word; fits = tt; behind = subst AreBytes word are }
words_spelled N spelling Fits spells bytes (x ∷ xs) rest are word =
    let first = spells.is_spelled bytes x word.0 are word.1 in
    let others = words_spelled N spelling Fits spells word.0 xs rest first.behind word.2 in
    record {
      parts = first.parts ∙ ap (λ (b : List ℕ). spelling x ++ b) others.parts ∙ sym (append_assoc (spelling x) (flat_map spelling xs) rest);
      fits = (first.fits, others.fits);
      behind = others.behind;
    }

pub are_words : {A : Type 0} (N : List ℕ → A → List ℕ → Type 0) (spelling : A → List ℕ) (Fits : A → Type 0) → Spells N spelling Fits
    → (xs : List A) (rest : List ℕ) → AllByRecursion Fits xs → AreWords N (flat_map spelling xs ++ rest) xs rest
are_words N spelling Fits spells [] rest fits = refl
are_words N spelling Fits spells (x ∷ xs) rest fits = (
  flat_map spelling xs ++ rest,
  subst (λ (b : List ℕ). N b x (flat_map spelling xs ++ rest)) (sym (append_assoc (spelling x) (flat_map spelling xs) rest)) (spells.is_word x (flat_map spelling xs ++ rest) fits.0),
  are_words N spelling Fits spells xs rest fits.1,
)

pub words_spell : {A : Type 0} (N : List ℕ → A → List ℕ → Type 0) (spelling : A → List ℕ) (Fits : A → Type 0) → Spells N spelling Fits
    → Spells (AreWords N) (flat_map spelling) (AllByRecursion Fits)
words_spell N spelling Fits spells = record { is_word = are_words N spelling Fits spells; is_spelled = words_spelled N spelling Fits spells }

-- ---- lengths

pub length-u16 : (n : ℕ) → length (u16 n) ≡ 2
unfolding u16
length-u16 n = refl

pub length-u32 : (n : ℕ) → length (u32 n) ≡ 4
unfolding u32
length-u32 n = refl

pub length-u64 : (n : ℕ) → length (u64 n) ≡ 8
unfolding u64
length-u64 n = refl

pub length-i64 : (n : ℤ) → length (i64 n) ≡ 8
unfolding i64
length-i64 n = length-u64 (cast_unsigned w64 n)

pub length-flag : (b : Bool) → length (flag b) ≡ 1
length-flag false = refl
length-flag true = refl

pub length-request : (r : ReqId) → length (request r) ≡ 9
length-request r = omega (arith, length-append (u8 r.node) (u64 r.time), length-u64 r.time)

pub length-field : (content : List ℕ) → length (field content) ≡ 4 + length content
length-field content = omega (arith, length-append (u32 (length content)) content, length-u32 (length content))

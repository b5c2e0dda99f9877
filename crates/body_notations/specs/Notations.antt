-- The notations of native_protocol_v4.spec, section 3. Each says of bytes, a value and a rest that a word of the notation
-- stands at the front of the bytes, that the value is its meaning, and that the rest follows it.
use Rattle.std.specs.Prelude.{◌≡◌, ℕ, ℤ, ◌<◌, slice_index, pos, negsuc, Bool, true, false, List, [], ◌∷◌, ◌++◌, length, Option, Some, None}
use Rattle.std.specs.Int.{Width, w16, w32, w64, byte_len, cast_signed, from_be_bytes}
use Rattle.std.specs.Str.{IsUtf8}
use Rattle.cs_base.specs.Levels.{code_of}
use Rattle.body_notations.specs.declared.value.Value.{Value}
use Rattle.body_notations.specs.declared.value.Value.TheVariants as values
use Rattle.body_notations.specs.declared.consistency.Consistency.{Consistency}
use Rattle.body_notations.specs.declared.consistency.Consistency.TheVariants as consistencies

-- every element is a byte
abbrev pub AreBytes : List ℕ → Type 0
AreBytes bytes = (i : ℕ) → slice_index bytes i < 256

-- ---- numbers

abbrev pub IsByte : List ℕ → ℕ → List ℕ → Type 0
IsByte bytes b rest = bytes ≡ b ∷ rest

-- as many digits of base 256 as the width has bytes, the highest first
pub record IsNumber (w : Width) (bytes : List ℕ) (n : ℕ) (rest : List ℕ) : Type 0 where
  pub digits : List ℕ
  pub parts : bytes ≡ digits ++ rest
  pub count : length digits ≡ byte_len w
  pub value : n ≡ from_be_bytes w digits

-- [short]
abbrev pub IsShort : List ℕ → ℕ → List ℕ → Type 0
IsShort = IsNumber w16

-- in two's complement
abbrev pub IsSigned : Width → List ℕ → ℤ → List ℕ → Type 0
IsSigned w bytes n rest = (digits : ℕ) × IsNumber w bytes digits rest × (n ≡ cast_signed w digits)

-- [int]
abbrev pub IsInt : List ℕ → ℤ → List ℕ → Type 0
IsInt = IsSigned w32

-- [long]
abbrev pub IsLong : List ℕ → ℤ → List ℕ → Type 0
IsLong = IsSigned w64

-- [consistency]
abbrev pub consistency_code : Consistency → ℕ
consistency_code consistencies.Any = 0
consistency_code consistencies.EachQuorum = 7
consistency_code (consistencies.Level level) = code_of level

abbrev pub IsConsistency : List ℕ → Consistency → List ℕ → Type 0
IsConsistency bytes c rest = IsShort bytes (consistency_code c) rest

-- ---- texts and bytes

-- [string]: a [short] and that many bytes of UTF-8
abbrev pub IsString : List ℕ → List ℕ → List ℕ → Type 0
IsString bytes text rest = IsShort bytes (length text) (text ++ rest) × IsUtf8 text

-- [long string]: an [int] and that many bytes of UTF-8
abbrev pub IsLongString : List ℕ → List ℕ → List ℕ → Type 0
IsLongString bytes text rest = IsInt bytes (pos (length text)) (text ++ rest) × IsUtf8 text

-- [short bytes]: a [short] and that many bytes
abbrev pub IsShortBytes : List ℕ → List ℕ → List ℕ → Type 0
IsShortBytes bytes content rest = IsShort bytes (length content) (content ++ rest)

-- [bytes]: an [int] and that many bytes; any number below 0 is null
abbrev pub IsBytes : List ℕ → Option (List ℕ) → List ℕ → Type 0
IsBytes bytes None rest = (n : ℕ) × IsInt bytes (negsuc n) rest
IsBytes bytes (Some content) rest = IsInt bytes (pos (length content)) (content ++ rest)

-- [value]: an [int] and that many bytes; -1 is null, and -2 is not set
abbrev pub IsValue : List ℕ → Value → List ℕ → Type 0
IsValue bytes values.Null rest = IsInt bytes (negsuc 0) rest
IsValue bytes values.NotSet rest = IsInt bytes (negsuc 1) rest
IsValue bytes (values.Given content) rest = IsInt bytes (pos (length content)) (content ++ rest)

-- ---- lists

-- one word of the notation after another, with these values
abbrev pub AreWords : {A : Type 0} → (List ℕ → A → List ℕ → Type 0) → List ℕ → List A → List ℕ → Type 0
AreWords N bytes [] rest = bytes ≡ rest
AreWords N bytes (x ∷ xs) rest = (after : List ℕ) × N bytes x after × AreWords N after xs rest

-- a [short], and that many words of the notation
abbrev pub IsList : {A : Type 0} → (List ℕ → A → List ℕ → Type 0) → List ℕ → List A → List ℕ → Type 0
IsList N bytes xs rest = (after : List ℕ) × IsShort bytes (length xs) after × AreWords N after xs rest

-- a part that stands there exactly where its flag is set
abbrev pub IsPart : {A : Type 0} → Bool → (List ℕ → A → List ℕ → Type 0) → List ℕ → Option A → List ℕ → Type 0
IsPart set N bytes None rest = (set ≡ false) × (bytes ≡ rest)
IsPart set N bytes (Some x) rest = (set ≡ true) × N bytes x rest

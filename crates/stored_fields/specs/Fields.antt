-- The fields of which stored values are made. Each says of bytes, a value and a rest that a word of the field stands at the
-- front of the bytes, that the value is its meaning, and that the rest follows it. Numbers are big-endian.
use Rattle.std.specs.Prelude.{◌≡◌, ℕ, ℤ, ◌<◌, ◌≤◌, Bool, true, false, List, [], ◌∷◌, ◌++◌, length, slice_index, Option, Some, None}
use Rattle.std.specs.Int.{Width, w16, w32, w64, byte_len, cast_signed, from_be_bytes}
use Rattle.cs_base.specs.declared.ids.ReqId.{ReqId}

-- each is a byte
abbrev pub AreBytes : List ℕ → Type 0
AreBytes bytes = (i : ℕ) → slice_index bytes i < 256

-- one byte
abbrev pub IsU8 : List ℕ → ℕ → List ℕ → Type 0
IsU8 bytes n rest = bytes ≡ n ∷ rest

-- as many digits of base 256 as the width has bytes, the highest first
pub record IsNumber (w : Width) (bytes : List ℕ) (n : ℕ) (rest : List ℕ) : Type 0 where
  pub digits : List ℕ
  pub parts : bytes ≡ digits ++ rest
  pub count : length digits ≡ byte_len w
  pub value : n ≡ from_be_bytes w digits

abbrev pub IsU16 : List ℕ → ℕ → List ℕ → Type 0
IsU16 = IsNumber w16

abbrev pub IsU32 : List ℕ → ℕ → List ℕ → Type 0
IsU32 = IsNumber w32

abbrev pub IsU64 : List ℕ → ℕ → List ℕ → Type 0
IsU64 = IsNumber w64

-- in two's complement
abbrev pub IsI64 : List ℕ → ℤ → List ℕ → Type 0
IsI64 bytes n rest = (digits : ℕ) × IsU64 bytes digits rest × (n ≡ cast_signed w64 digits)

-- a byte, 0 for no and 1 for yes
abbrev pub IsFlag : List ℕ → Bool → List ℕ → Type 0
IsFlag bytes false rest = IsU8 bytes 0 rest
IsFlag bytes true rest = IsU8 bytes 1 rest

-- a byte, the node's number: a cluster has seven nodes at most
abbrev pub IsNode : List ℕ → ℕ → List ℕ → Type 0
IsNode bytes node rest = IsU8 bytes node rest × (node ≤ 6)

-- the node that began the request, and its time then
abbrev pub IsRequest : List ℕ → ReqId → List ℕ → Type 0
IsRequest bytes r rest = (behind_node : List ℕ) × IsNode bytes r.node behind_node × IsU64 behind_node r.time rest

-- a byte field: a length in four bytes, and that many bytes
abbrev pub IsField : List ℕ → List ℕ → List ℕ → Type 0
IsField bytes content rest = IsU32 bytes (length content) (content ++ rest)

-- ---- several words

-- a byte 0 where there is none, or a byte 1 and the word
abbrev pub IsOptional : {A : Type 0} → (List ℕ → A → List ℕ → Type 0) → List ℕ → Option A → List ℕ → Type 0
IsOptional N bytes None rest = IsFlag bytes false rest
IsOptional N bytes (Some x) rest = (behind_flag : List ℕ) × IsFlag bytes true behind_flag × N behind_flag x rest

-- one word after another, with these values
abbrev pub AreWords : {A : Type 0} → (List ℕ → A → List ℕ → Type 0) → List ℕ → List A → List ℕ → Type 0
AreWords N bytes [] rest = bytes ≡ rest
AreWords N bytes (x ∷ xs) rest = (after : List ℕ) × N bytes x after × AreWords N after xs rest

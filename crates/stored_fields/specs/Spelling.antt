-- How values are written in the fields.
use Rattle.std.specs.Prelude.{ℕ, ℤ, ◌<◌, ◌^◌, ◌≤◌, Bool, true, false, List, [], ◌∷◌, ◌++◌, length, Option, Some, None}
use Rattle.std.specs.Int.{w16, w32, w64, cast_unsigned, to_be_bytes}
use Rattle.cs_base.specs.declared.ids.ReqId.{ReqId}

abbrev pub u8 : ℕ → List ℕ
u8 n = n ∷ []

unfoldable pub u16 : ℕ → List ℕ
u16 = to_be_bytes w16

unfoldable pub u32 : ℕ → List ℕ
u32 = to_be_bytes w32

unfoldable pub u64 : ℕ → List ℕ
u64 = to_be_bytes w64

unfoldable pub i64 : ℤ → List ℕ
i64 n = u64 (cast_unsigned w64 n)

abbrev pub flag : Bool → List ℕ
flag false = u8 0
flag true = u8 1

abbrev pub request : ReqId → List ℕ
request r = u8 r.node ++ u64 r.time

abbrev pub field : List ℕ → List ℕ
field content = u32 (length content) ++ content

abbrev pub optional : {A : Type 0} → (A → List ℕ) → Option A → List ℕ
optional spelling None = flag false
optional spelling (Some x) = flag true ++ spelling x

-- a length that four bytes can tell
abbrev pub FitsField : List ℕ → Type 0
FitsField content = length content < 2 ^ 32

-- the numbers of a request are what they are in a program
pub record RequestInRange (r : ReqId) : Type 0 where
  pub node : r.node ≤ 6
  pub time : r.time < 2 ^ 64

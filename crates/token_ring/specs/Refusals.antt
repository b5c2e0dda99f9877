-- What keeps a list of tokens from being a ring, and how it is told.
use Rattle.std.specs.Prelude.{◌≡◌, ℕ, ◌<◌, ℤ, List, ◌++◌, length, Some, slice_get, take, Contains, codes}
use Rattle.std.specs.Fmt.{decimal, signed_decimal}
use Rattle.cs_base.specs.Ring.{AreApart}
use Rattle.token_ring.specs.declared.ring.RingError.{RingError}
use Rattle.token_ring.specs.declared.ring.RingError.TheVariants.{Empty, Repeated, TooMany}

-- the token is the first that occurred before
pub record IsFirstRepeated (tokens : List ℤ) (token : ℤ) : Type 0 where
  pub index : ℕ
  pub there : slice_get tokens index ≡ Some token
  pub before : Contains (take index tokens) token
  pub apart : AreApart (take index tokens)

abbrev pub IsRefusal : List ℤ → RingError → Type 0
IsRefusal tokens Empty = length tokens ≡ 0
IsRefusal tokens (Repeated token) = IsFirstRepeated tokens token
IsRefusal tokens (TooMany count) = AreApart tokens × (7 < length tokens) × (count ≡ length tokens)

abbrev pub message_of : RingError → List ℕ
message_of Empty = codes "a ring needs a token"
message_of (Repeated token) = codes "the token " ++ signed_decimal token ++ codes " occurs twice"
message_of (TooMany count) = decimal count ++ codes " tokens, and a ring has at most 7"

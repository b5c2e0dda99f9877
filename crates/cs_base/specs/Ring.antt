-- Where partitions lie: the tokens of the signed 64-bit numbers stand round a circle, and a ring is the tokens of the
-- nodes, by node number.
use Rattle.std.specs.Prelude.{◌≡◌, ℕ, ◌+◌, ◌-◌, ◌*◌, ◌/◌, ◌%◌, ◌^◌, ◌<◌, ◌≤◌, Bool, nat_lt, ◌==◌, if◌then◌else◌, ℤ, ◌-ℤ◌, nat_abs, int_le, FitsSigned, List, count_by, filter, length, Option, Some, None, slice_get, true, false}
use Rattle.std.specs.Int.{w64}
use Rattle.std.specs.List.{range_with_len}
use Rattle.cs_base.specs.declared.range.Range.{Range}

-- how far b is from a, clockwise
abbrev pub clockwise : ℤ → ℤ → ℕ
clockwise a b = if int_le a b then nat_abs (b -ℤ a) else 2 ^ 64 - nat_abs (a -ℤ b)

-- each is a signed 64-bit number
abbrev pub AreTokens : List ℤ → Type 0
AreTokens tokens = (k : ℕ) (t : ℤ) → slice_get tokens k ≡ Some t → FitsSigned w64 t

-- no token stands twice
abbrev pub AreApart : List ℤ → Type 0
AreApart tokens = (j k : ℕ) (t : ℤ) → slice_get tokens j ≡ Some t → slice_get tokens k ≡ Some t → j ≡ k

-- one to seven nodes, each with a token of its own
pub record IsRing (ring : List ℤ) : Type 0 where
  pub some : 0 < length ring
  pub few : length ring ≤ 7
  pub tokens : AreTokens ring
  pub apart : AreApart ring

-- how many nodes' tokens come before this token, clockwise from the other
abbrev pub place_of : List ℤ → ℤ → ℤ → ℕ
place_of ring token t = count_by (λ u. nat_lt (clockwise token u) (clockwise token t)) ring

-- fewer than rf nodes' tokens come before node k's, clockwise from the token
abbrev pub is_replica_at : List ℤ → ℕ → ℤ → Option ℤ → Bool
is_replica_at ring rf token None = false
is_replica_at ring rf token (Some t) = nat_lt (place_of ring token t) rf

-- the replicas of a token at a factor, by rising node number
abbrev pub replicas_at : List ℤ → ℕ → ℤ → List ℕ
replicas_at ring rf token = filter (λ k. is_replica_at ring rf token (slice_get ring k)) (range_with_len 0 (length ring))

-- how many tokens are in the range; one whose ends are equal is the whole ring
abbrev pub width : Range → ℕ
width r = if clockwise r.after r.upto == 0 then 2 ^ 64 else clockwise r.after r.upto

-- whether the token is in the range
abbrev pub in_range : Range → ℤ → Bool
in_range r token = nat_lt (clockwise token r.upto) (width r)

-- the range that node k owns: above the token before its own, up to its own
pub record IsOwnRange (ring : List ℤ) (k : ℕ) (r : Range) : Type 0 where
  pub upto : slice_get ring k ≡ Some r.upto
  pub after : (j : ℕ) × (slice_get ring j ≡ Some r.after)
  pub next : (j : ℕ) (t : ℤ) → slice_get ring j ≡ Some t → (t ≡ r.upto) → (j ≡ k)
  pub alone : (j : ℕ) (t : ℤ) → slice_get ring j ≡ Some t → in_range r t ≡ true → j ≡ k

-- which of the 256 leaves of a range a token falls in: the first is right above the range's lower end
abbrev pub leaf_of : Range → ℤ → ℕ
leaf_of r token = (((clockwise r.after token + 2 ^ 64 - 1) % 2 ^ 64) * 256) / width r

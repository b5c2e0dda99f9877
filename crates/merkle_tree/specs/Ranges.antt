-- Ranges of tokens as a program has them.
use Rattle.std.specs.Prelude.{◌≡◌, true, ℤ, FitsSigned}
use Rattle.std.specs.Int.{w64}
use Rattle.cs_base.specs.declared.range.Range.{Range}
use Rattle.cs_base.specs.Ring.{in_range}

-- the range's ends are signed 64-bit numbers
abbrev pub HasTokens : Range → Type 0
HasTokens r = FitsSigned w64 r.after × FitsSigned w64 r.upto

-- the token is a signed 64-bit number that is in the range
abbrev pub IsWithin : Range → ℤ → Type 0
IsWithin r token = FitsSigned w64 token × (in_range r token ≡ true)

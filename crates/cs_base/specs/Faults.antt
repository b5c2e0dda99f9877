-- Counts of faults of the outside. A count never falls, and stands still at the greatest number of 64 bits.
use Rattle.std.specs.Prelude.{◌≡◌, ℕ, ◌-◌, ◌^◌, ◌<◌, ◌⊎◌}

-- The count rose in a call, or stood at its last value, which counts as risen in each call
abbrev pub HasRisen : ℕ → ℕ → Type 0
HasRisen before now = (before < now) ⊎ (before ≡ 2 ^ 64 - 1)

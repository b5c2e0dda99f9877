-- What a count of faults says of an answer.
use Rattle.std.specs.Prelude.{ℕ, ◌≤◌, Result, IsErr}
use Rattle.cs_base.specs.Faults.{HasRisen}

-- The count doesn't fall, and an error is told only where it rose.
pub record HasCause {T E : Type 0} (before now : ℕ) (result : Result T E) : Type 0 where
  pub later : before ≤ now
  pub failed : IsErr result → HasRisen before now

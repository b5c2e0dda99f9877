-- A sum is no less than its first part.
use Rattle.std.proofs.Common.{ℕ, ◌+◌, ◌≤◌, arith}

pub lends_none : (back lent : ℕ) → back + 0 ≤ back + lent
lends_none back lent = omega arith

-- What is given away and comes back.
use Rattle.std.specs.Prelude.{ℕ, ◌+◌, ◌≤◌, List, length, Option, IfSome}

-- so many at least were given and are not back yet, as far as the counts are told
abbrev pub HasLent : {X : Type 0} → ℕ → Option ℕ → Option (List X) → Type 0
HasLent k given returned = IfSome given (λ n. IfSome returned (λ back. length back + k ≤ n))

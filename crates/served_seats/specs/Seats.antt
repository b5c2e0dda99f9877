-- Passes of one lock, each with one number and one seat.
use Rattle.std.specs.Prelude.{◌≡◌, ◌≢◌, ℕ, ◌+◌, zero, suc, List, [], ◌∷◌, map}
use Rattle.std.specs.List.{AllByRecursion, AllZip}
use Rattle.node_lock.specs.Stepped.{IsSamePass}
use Rattle.node_lock.specs.Views.{PassView}

-- a pass that has seen and made nothing: one number, one seat
abbrev pub fresh : {E : Type 0} → ℕ → PassView E
fresh number = record { number = number; owned = 1; seats = 1; seen = []; mine = [] }

-- what the pass has made stands under its number alone
abbrev pub IsOwn : {E : Type 0} → PassView E → Type 0
IsOwn {E} v = AllByRecursion (λ (x : ℕ × E). x.0 ≡ v.number) v.mine

-- the seats of passes, together
abbrev pub seats_in : {E : Type 0} → List (PassView E) → ℕ
seats_in [] = 0
seats_in (v ∷ vs) = v.seats + seats_in vs

-- no two passes have one number
abbrev pub AreApart : {E : Type 0} → List (PassView E) → Type 0
AreApart [] = Unit {0}
AreApart {E} (v ∷ vs) = AllByRecursion (λ (w : PassView E). w.number ≢ v.number) vs × AreApart vs

-- a pass that owns so many numbers from its own on, with as many seats, and has seen and made nothing
abbrev pub ranging : {E : Type 0} → ℕ → ℕ → PassView E
ranging number count = record { number = number; owned = count; seats = count; seen = []; mine = [] }

-- fresh passes, so many, of the numbers from one on
abbrev pub fresh_from : {E : Type 0} → ℕ → ℕ → List (PassView E)
fresh_from number zero = []
fresh_from number (suc count) = fresh number ∷ fresh_from (suc number) count

-- what the pass has made, in order
abbrev pub made_by : {E : Type 0} → PassView E → List E
made_by {E} v = map (λ (x : ℕ × E). x.1) v.mine

-- Fresh passes that have kept their numbers, what they own and their seats, have all seats of the lock, and no two of them have one number.
abbrev pub SamePassesHaveAllSeats : Type 0 → Type 0
SamePassesHaveAllSeats E =
    (others : ℕ) (vs : List (PassView E)) → AllZip IsSamePass (fresh 0 ∷ fresh_from 1 others) vs → (seats_in vs ≡ others + 1) × AreApart vs

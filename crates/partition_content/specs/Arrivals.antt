-- When the changes of a partition came.
use Rattle.std.specs.Prelude.{◌≡◌, ◌≢◌, ℕ, ◌⊎◌, List, map, Contains}
use Rattle.changes.specs.declared.Held.{Held}
use Rattle.changes.specs.declared.Place.{Place}
use Rattle.partition_content.specs.declared.Arrived.{Arrived}

abbrev pub held_of : Arrived → Held
held_of x = x.held

-- what was stored keeps its arrival, and what else is stored now is a change that was not there and came at this time
abbrev pub ComeAt : ℕ → List Arrived → List Arrived → Type 0
ComeAt time old new = (x : Arrived) → Contains new x → Contains old x ⊎ ((Contains (map held_of old) x.held → ⊥) × (x.arrival ≡ time))

-- nothing is stored at the place
abbrev pub IsVacant : List Arrived → Place → Type 0
IsVacant stored place = (x : Arrived) → Contains stored x → x.held.place ≢ place

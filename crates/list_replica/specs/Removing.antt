-- What is left of what is stored.
use Rattle.std.specs.Prelude.{◌≢◌, ◌≡◌, ◌↔◌, ◌&&◌, not, Bool, List, map, Contains}
use Rattle.std.specs.Ordering.{is_eq}
use Rattle.changes.specs.declared.Held.{Held}
use Rattle.changes.specs.Contents.{Either, IsContent}
use Rattle.changes.specs.Order.{rank_cmp}
use Rattle.changes.specs.Places.{place_cmp}
use Rattle.partition_content.specs.declared.Arrived.{Arrived}
use Rattle.partition_content.specs.Arrivals.{held_of, ComeAt}

abbrev pub is_same_held : Held → Held → Bool
is_same_held x y = is_eq (place_cmp x.place y.place) && is_eq (rank_cmp x y)

abbrev pub is_other : Held → Arrived → Bool
is_other held a = not (is_same_held a.held held)

-- all but what is stored of this change
abbrev pub IsWithout : Held → List Arrived → List Arrived → Type 0
IsWithout held old new = (a : Arrived) → Contains new a ↔ (Contains old a × (a.held ≢ held))

-- a change was put in, at the time at which it came
pub record IsAdded (arrived : Arrived) (old new : List Arrived) : Type 0 where
  pub content : IsContent (map held_of new) (Either (Contains (map held_of old)) (λ x. arrived.held ≡ x))
  pub arrivals : ComeAt arrived.arrival old new

-- Changes that came in the order of their places.
use Rattle.std.specs.Prelude.{◌≡◌, ◌⊎◌, ℕ, List, [], map, Option, Some}
use Rattle.changes.specs.declared.Held.{Held}
use Rattle.changes.specs.Places.{AreInOrder}
use Rattle.partition_content.specs.declared.Arrived.{Arrived}
use Rattle.partition_content.specs.declared.spots.Spot.{Spot}
use Rattle.partition_content.specs.declared.spots.Spot.TheVariants.{At}
use Rattle.partition_content.specs.Arrivals.{held_of}
use Rattle.partition_content.specs.Partition.{Partition, AreBare}

abbrev pub arrived_at : ℕ → Held → Arrived
arrived_at time x = record { held = x; arrival = time }

-- a change at its key
abbrev pub entry_of : Arrived → Spot × Option Arrived
entry_of a = (At a.held.place, Some a)

-- cells and markers in order, beside which nothing is kept, or what is kept alone
pub record IsLoaded (run : List Arrived) (content : Partition) : Type 0 where
  pub ordered : AreInOrder (map held_of run)
  pub bare : AreBare (map held_of run)
  pub alone : (run ≡ []) ⊎ (content.stored ≡ [])

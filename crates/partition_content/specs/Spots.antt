-- The keys of the map that keeps the changes of a partition: places, and between the places of rows the bounds.
use Rattle.std.specs.Prelude.{ℕ, List, ◌∷◌}
use Rattle.std.specs.declared.cmp.Ordering.{Ordering}
use Rattle.changes.specs.Order.{bound_signs, signs_cmp}
use Rattle.changes.specs.Places.{place_signs}
use Rattle.partition_content.specs.declared.spots.Spot.{Spot}
use Rattle.partition_content.specs.declared.spots.Spot.TheVariants.{At, Edge}

abbrev pub spot_signs : Spot → List (ℕ × ℕ)
spot_signs (At place) = place_signs place
spot_signs (Edge bound) = (2, 0) ∷ bound_signs bound

abbrev pub spot_cmp : Spot → Spot → Ordering
spot_cmp a b = signs_cmp (spot_signs a) (spot_signs b)

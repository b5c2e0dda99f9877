-- The parts of what is kept of a partition that are walked over.
use Rattle.std.specs.Prelude.{◌≡◌, ◌⊎◌, ◌++◌, List, [], Option, false}
use Rattle.std.specs.Option.{option_to_list}
use Rattle.std.specs.BTreeMap.Range.{entries_between}
use Rattle.std.specs.declared.ops.Bound.TheVariants.{Excluded, Unbounded}
use Rattle.changes.specs.declared.Bound.{Bound}
use Rattle.changes.specs.declared.Held.{Held}
use Rattle.partition_content.specs.declared.spots.Spot.{Spot}
use Rattle.partition_content.specs.declared.spots.Spot.TheVariants.{Edge}
use Rattle.partition_content.specs.Spots.{spot_cmp}

abbrev pub first_row : Spot
first_row = Edge (record { at = []; after = false })

-- what is before the rows
abbrev pub wide_of : List (Spot × Option Held) → List (Spot × Option Held)
wide_of es = entries_between spot_cmp Unbounded (Excluded first_row) es

-- the rows between two bounds
abbrev pub rows_of : Bound → Bound → List (Spot × Option Held) → List (Spot × Option Held)
rows_of from upto es = entries_between spot_cmp (Excluded (Edge from)) (Excluded (Edge upto)) es

-- nothing is added, or what is in a slot
abbrev pub IsAdded : Option Held → List Held → List Held → Type 0
IsAdded o old new = (new ≡ old) ⊎ (new ≡ old ++ option_to_list o)

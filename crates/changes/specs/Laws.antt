-- The laws of the order of places, of what a mutation makes of changes of one place, and of lengths, stated.
use Rattle.std.specs.Prelude.{◌≡◌, ◌≤◌, ◌+◌, ◌++◌, ◌⊎◌, List, Contains}
use Rattle.std.specs.Cmp.{IsTotalOrder}
use Rattle.std.specs.declared.cmp.Ordering.TheVariants.{Equal}
use Rattle.changes.specs.declared.Held.{Held}
use Rattle.changes.specs.declared.Place.{Place}
use Rattle.changes.specs.Lengths.{changes_length}
use Rattle.changes.specs.Order.{Beats}
use Rattle.changes.specs.Places.{place_cmp, AreInOrder}
use Rattle.changes.specs.Drafts.{one_of_each_place}

-- places compare in a total order, and alike only where they are one
abbrev pub PlacesAreOrdered : Type 0
PlacesAreOrdered = IsTotalOrder place_cmp × ((p q : Place) → place_cmp p q ≡ Equal → p ≡ q)

-- y is kept, or one that beats it
abbrev pub IsKeptOrBeaten : List Held → Held → Type 0
IsKeptOrBeaten kept y = Contains kept y ⊎ ((x : Held) × Contains kept x × Beats x y)

-- kept are changes of the list, one of each place, in the order of places, and each beats the others of its place
pub record AreBestInOrder (kept all : List Held) : Type 0 where
  pub within : (x : Held) → Contains kept x → Contains all x
  pub best : (y : Held) → Contains all y → IsKeptOrBeaten kept y
  pub sorted : AreInOrder kept

abbrev pub BestAreOfEachPlace : Type 0
BestAreOfEachPlace = (all : List Held) → AreBestInOrder (one_of_each_place all) all

-- and no other list has them
abbrev pub BestAreDetermined : Type 0
BestAreDetermined = (kept all : List Held) → AreBestInOrder kept all → kept ≡ one_of_each_place all

-- the length of changes is that of two parts, but that the count stands once
abbrev pub LengthsAddUp : Type 0
LengthsAddUp = (a b : List Held) → changes_length (a ++ b) + 4 ≡ changes_length a + changes_length b

-- what is left of changes is no longer than all of them
abbrev pub PartsAreNoLonger : Type 0
PartsAreNoLonger = (a b c : List Held) → changes_length (a ++ c) ≤ changes_length (a ++ b ++ c)

-- The keys of the tree that lie in a place, found before a deletion of the place comes.
use Rattle.std.specs.Prelude.{◌≡◌, ◌⊎◌, List, [], ◌∷◌, Contains, Vec}
use Rattle.std.specs.declared.alloc.Global.{Global}
use Rattle.changes.specs.declared.Place.{Place}
use Rattle.changes.specs.Order.{Encloses}
use Rattle.cell_merge.specs.Parts.{IsInnermost}
use Rattle.partition_content.specs.declared.spots.Spot.{Spot}
use Rattle.partition_content.specs.declared.spots.Spot.TheVariants.{At}

-- among these keys is the key of each place that lies in another
abbrev pub IsInside : List Spot → Place → List Spot → Type 0
IsInside spots p inside = (q : Place) → Contains spots (At q) → Encloses p q → Contains inside (At q)

-- for each place those that lie in it
abbrev pub AreInside : List Spot → List Place → List (Vec Spot Global) → Type 0
AreInside spots [] lists = lists ≡ []
AreInside spots (p ∷ ps) [] = ⊥
AreInside spots (p ∷ ps) (inside ∷ lists) = IsInside spots p inside.items × AreInside spots ps lists

-- the same, or no other place lies in any of them, so that none has to be noted
abbrev pub AreNoted : List Spot → List Place → List (Vec Spot Global) → Type 0
AreNoted spots places lists = AreInside spots places lists ⊎ ((p : Place) → Contains places p → IsInnermost p)

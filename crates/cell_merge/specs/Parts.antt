-- What is left of a list of changes.
use Rattle.std.specs.Prelude.{◌≡◌, ◌⊎◌, List, [], ◌∷◌, Contains}
use Rattle.changes.specs.declared.Held.{Held}
use Rattle.changes.specs.declared.Place.{Place}
use Rattle.changes.specs.declared.Place.TheVariants.{Cell, Marker, RowGone, RangeGone, PartGone}
use Rattle.changes.specs.Order.{Outranks}

-- each element of the first list is in the second one, in the same order, and has K, or it is not there and has G
abbrev pub IsParted : {X : Type 0} → (X → Type 0) → (X → Type 0) → List X → List X → Type 0
IsParted K G [] ys = ys ≡ []
IsParted {X} K G (x ∷ xs) ys = (rest : List X) × IsParted K G xs rest × ((K x × (ys ≡ x ∷ rest)) ⊎ (G x × (ys ≡ rest)))

-- some change of the list outranks x
abbrev pub IsOutrankedBy : List Held → Held → Type 0
IsOutrankedBy changes x = (y : Held) × Contains changes y × Outranks y x

abbrev pub IsUnrivalled : List Held → Held → Type 0
IsUnrivalled changes x = IsOutrankedBy changes x → ⊥

-- without what one of the others outranks
abbrev pub IsRidOf : List Held → List Held → List Held → Type 0
IsRidOf others xs ys = IsParted (IsUnrivalled others) (IsOutrankedBy others) xs ys

-- without what x outranks
abbrev pub IsLeftBy : Held → List Held → List Held → Type 0
IsLeftBy x kept left = IsParted (λ y. Outranks x y → ⊥) (λ y. Outranks x y) kept left

-- no other place lies in it
abbrev pub IsInnermost : Place → Type 0
IsInnermost (Cell row column) = Unit {0}
IsInnermost (Marker row) = Unit {0}
IsInnermost (RowGone row) = ⊥
IsInnermost (RangeGone from upto) = ⊥
IsInnermost PartGone = ⊥

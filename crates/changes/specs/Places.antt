-- The order in which the changes of a partition are stored: its deletion, then deletions of ranges by their bounds, then
-- row by row the row's deletion, its marker and its cells by column. After Cassandra's storage engine, in which a
-- partition's deletions come first and its rows are in clustering order.
use Rattle.std.specs.Prelude.{ℕ, ◌++◌, List, [], ◌∷◌}
use Rattle.std.specs.List.Sorted.{IsStrictlySortedBy}
use Rattle.std.specs.declared.cmp.Ordering.{Ordering}
use Rattle.changes.specs.declared.Bound.{Bound}
use Rattle.changes.specs.declared.Held.{Held}
use Rattle.changes.specs.declared.Place.{Place}
use Rattle.changes.specs.declared.Place.TheVariants.{Cell, Marker, RowGone, RangeGone, PartGone}
use Rattle.changes.specs.Order.{row_signs, bound_signs, signs_cmp}

abbrev pub bound_cmp : Bound → Bound → Ordering
bound_cmp a b = signs_cmp (bound_signs a) (bound_signs b)

-- a place as signs: what it is, its bounds or its row, and where it stands in the row
abbrev pub place_signs : Place → List (ℕ × ℕ)
place_signs PartGone = (0, 0) ∷ []
place_signs (RangeGone from upto) = (1, 0) ∷ (bound_signs from ++ bound_signs upto)
place_signs (RowGone row) = (2, 0) ∷ (row_signs row ++ (0, 0) ∷ [])
place_signs (Marker row) = (2, 0) ∷ (row_signs row ++ (1, 0) ∷ [])
place_signs (Cell row column) = (2, 0) ∷ (row_signs row ++ (2, column) ∷ [])

abbrev pub place_cmp : Place → Place → Ordering
place_cmp a b = signs_cmp (place_signs a) (place_signs b)

-- changes by their places
abbrev pub stored_cmp : Held → Held → Ordering
stored_cmp x y = place_cmp x.place y.place

-- in the order of places, each place once
abbrev pub AreInOrder : List Held → Type 0
AreInOrder changes = IsStrictlySortedBy stored_cmp changes

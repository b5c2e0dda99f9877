-- What the changes of a row show of it, and what the rows of a walk show up to a limit.
use Rattle.std.specs.Prelude.{◌≡◌, ◌≤◌, ◌⊎◌, ℕ, Bool, true, false, Option, Some, None, List, [], ◌∷◌, ◌++◌, map, length, take, nat_lt, if◌then◌else◌}
use Rattle.std.specs.List.{list_any, filter_map}
use Rattle.std.specs.Option.{option_to_list}
use Rattle.changes.specs.declared.Place.{Place}
use Rattle.changes.specs.declared.Place.TheVariants.{Cell, Marker, RowGone, RangeGone, PartGone}
use Rattle.changes.specs.declared.Held.{Held}
use Rattle.changes.specs.declared.ShownCell.{ShownCell}
use Rattle.changes.specs.declared.ShownRow.{ShownRow}

-- a row with it is shown
abbrev pub is_sign : Place → Option (List ℕ) → Bool
is_sign (Cell row column) None = false
is_sign (Cell row column) (Some value) = true
is_sign (Marker row) value = true
is_sign (RowGone row) value = false
is_sign (RangeGone from upto) value = false
is_sign PartGone value = false

abbrev pub is_sign_of_row : Held → Bool
is_sign_of_row x = is_sign x.place x.value

-- the cell that is shown for it in its row
abbrev pub cell_of : Place → Option (List ℕ) → Option (ℕ × List ℕ)
cell_of (Cell row column) None = None
cell_of (Cell row column) (Some value) = Some (column, value)
cell_of (Marker row) value = None
cell_of (RowGone row) value = None
cell_of (RangeGone from upto) value = None
cell_of PartGone value = None

abbrev pub cell_of_held : Held → Option (ℕ × List ℕ)
cell_of_held x = cell_of x.place x.value

abbrev pub cell_made : ℕ × List ℕ → ShownCell
cell_made c = record { column = c.0; value = c.1 }

-- the cell that a change of a row shows, if it shows one
abbrev pub cell_list : Held → List ShownCell
cell_list x = map cell_made (option_to_list (cell_of_held x))

-- the cells that these changes of a row show
abbrev pub cells_of : List Held → List ShownCell
cells_of changes = map cell_made (filter_map cell_of_held changes)

-- the row as these changes of it show it
abbrev pub row_shown : List ℕ → List Held → ShownRow
row_shown row changes = record { row = row; cells = cells_of changes }

-- the row, if its changes show it
abbrev pub row_if : List ℕ → List Held → List ShownRow
row_if row changes = if list_any is_sign_of_row changes then row_shown row changes ∷ [] else []

-- the rows that are shown
abbrev pub rows_with : List (List ℕ × List Held) → List ShownRow
rows_with [] = []
rows_with (g ∷ groups) = row_if g.0 g.1 ++ rows_with groups

-- the first of all rows, up to the limit, and whether a further one follows
abbrev pub IsPageOf : ℕ → List ShownRow → List ShownRow → Bool → Type 0
IsPageOf limit all rows more = (rows ≡ take limit all) × (more ≡ nat_lt limit (length all))

-- the walk went from the rows before to those after: nowhere, or to a row before which it shows no more than the limit
abbrev pub StopsAt : ℕ → List (List ℕ × List Held) → List (List ℕ × List Held) → Type 0
StopsAt limit before after =
    (before ≡ after) ⊎ ((front : List (List ℕ × List Held)) × (last : List ℕ × List Held) × (before ≡ front ++ last ∷ after) × (length (rows_with front) ≤ limit))

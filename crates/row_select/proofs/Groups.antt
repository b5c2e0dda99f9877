-- What the rows of a walk are to show, said part by part.
use Rattle.std.specs.Prelude.{◌≡◌, ℕ, Some, List, [], ◌∷◌, ◌++◌, map, Contains, ◌↔◌, if◌then◌else◌}
use Rattle.std.specs.List.{filter_map, list_any}
use Rattle.std.specs.List.Sorted.{IsStrictlySortedBy}
use Rattle.std.specs.Map.{keys_of}
use Rattle.std.specs.Ordering.{nat_cmp}
use Rattle.changes.specs.declared.Held.{Held}
use Rattle.changes.specs.Order.{row_of}
use Rattle.changes.specs.Places.{AreInOrder}
use Rattle.changes.specs.declared.ShownCell.{ShownCell}
use Rattle.changes.specs.declared.ShownRow.{ShownRow}
use Rattle.row_select.specs.Rows.{is_sign_of_row, cell_of_held}

-- each row has its own changes, in order
abbrev pub AreRowGroups : List (List ℕ × List Held) → Type 0
AreRowGroups groups = (g : List ℕ × List Held) → Contains groups g → AreInOrder g.1 × ((x : Held) → Contains g.1 x → row_of x.place ≡ Some g.0)

abbrev pub pairs_of : List ShownCell → List (ℕ × List ℕ)
pairs_of cells = map (λ c. (c.column, c.value)) cells

-- the cells that these changes of a row show, by column
pub record AreCellsOf (changes : List Held) (cells : List ShownCell) : Type 0 where
  pub sorted : IsStrictlySortedBy nat_cmp (keys_of (pairs_of cells))
  pub each : (column : ℕ) (value : List ℕ) → Contains {X = ℕ × List ℕ} (pairs_of cells) (column, value) ↔ Contains {X = ℕ × List ℕ} (filter_map cell_of_held changes) (column, value)

-- the row has the cells that its changes show
abbrev pub IsRowOf : List (List ℕ × List Held) → ShownRow → Type 0
IsRowOf groups r = (changes : List Held) × Contains {X = List ℕ × List Held} groups (r.row, changes) × AreCellsOf changes r.cells

-- the row's name, if its changes show it
abbrev pub name_if : List ℕ → List Held → List (List ℕ)
name_if row changes = if list_any is_sign_of_row changes then row ∷ [] else []

-- the names of the rows that are shown
abbrev pub names_with : List (List ℕ × List Held) → List (List ℕ)
names_with [] = []
names_with (g ∷ groups) = name_if g.0 g.1 ++ names_with groups

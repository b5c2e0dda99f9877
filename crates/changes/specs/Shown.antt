-- What is shown of a set of changes: the rows with a marker or a valued cell that nothing in the set outranks.
-- A set of changes of one partition is a predicate. After the CQL reference, SELECT.
use Rattle.std.specs.Prelude.{◌≡◌, ℕ, ◌⊎◌, ◌↔◌, Bool, true, false, Some, List, map, Contains, reverse, length, take, nat_lt}
use Rattle.std.specs.Ordering.{nat_cmp}
use Rattle.std.specs.List.Sorted.{IsStrictlySortedBy}
use Rattle.std.specs.declared.cmp.Ordering.{Ordering}
use Rattle.changes.specs.declared.Place.TheVariants.{Cell, Marker}
use Rattle.changes.specs.declared.Held.{Held}
use Rattle.changes.specs.declared.Query.{Query}
use Rattle.changes.specs.declared.ShownRow.{ShownRow}
use Rattle.changes.specs.declared.ShownCell.{ShownCell}
use Rattle.changes.specs.Order.{IsBetween, Outranks, row_signs, signs_cmp}

-- in the set, and outranked by nothing there
abbrev pub IsTop : (Held → Type 0) → Held → Type 0
IsTop S x = S x × ((y : Held) → S y → Outranks y x → ⊥)

-- the set shows this value in this cell
abbrev pub ShowsCell : (Held → Type 0) → List ℕ → ℕ → List ℕ → Type 0
ShowsCell S row column value = (x : Held) × IsTop S x × (x.place ≡ Cell row column) × (x.value ≡ Some value)

abbrev pub ShowsMarker : (Held → Type 0) → List ℕ → Type 0
ShowsMarker S row = (x : Held) × IsTop S x × (x.place ≡ Marker row)

abbrev pub ShowsRow : (Held → Type 0) → List ℕ → Type 0
ShowsRow S row = ShowsMarker S row ⊎ ((column : ℕ) × (value : List ℕ) × ShowsCell S row column value)

-- rows in clustering order
abbrev pub row_cmp : List ℕ → List ℕ → Ordering
row_cmp a b = signs_cmp (row_signs a) (row_signs b)

abbrev pub rows_of : List ShownRow → List (List ℕ)
rows_of rows = map (λ r. r.row) rows

abbrev pub columns_of : List ShownCell → List ℕ
columns_of cells = map (λ c. c.column) cells

-- the cells are those that the set shows in the row, each column once, by column
pub record AreShownCells (S : Held → Type 0) (row : List ℕ) (cells : List ShownCell) : Type 0 where
  pub sorted : IsStrictlySortedBy nat_cmp (columns_of cells)
  pub each : (column : ℕ) (value : List ℕ) → Contains cells (record { column = column; value = value }) ↔ ShowsCell S row column value

-- every row of the set within the bounds, each once, in clustering order, with every cell that it shows
pub record AreShownRows (S : Held → Type 0) (q : Query) (rows : List ShownRow) : Type 0 where
  pub sorted : IsStrictlySortedBy row_cmp (rows_of rows)
  pub each : (row : List ℕ) → Contains (rows_of rows) row ↔ (ShowsRow S row × IsBetween q.from q.upto row)
  pub cells : (r : ShownRow) → Contains rows r → AreShownCells S r.row r.cells

abbrev pub in_order : Bool → List ShownRow → List ShownRow
in_order false rows = rows
in_order true rows = reverse rows

-- the first rows, up to the limit, and whether a further one follows
abbrev pub IsShown : (Held → Type 0) → Query → List ShownRow → Bool → Type 0
IsShown S q rows more =
    (all : List ShownRow) × AreShownRows S q all × (rows ≡ take q.limit (in_order q.reversed all)) × (more ≡ nat_lt q.limit (length all))

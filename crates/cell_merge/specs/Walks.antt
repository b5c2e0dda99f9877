-- A walk over the rows of a content between two bounds.
use Rattle.std.specs.Prelude.{◌≡◌, ◌≢◌, ◌↔◌, ℕ, Bool, true, false, List, [], ◌∷◌, ◌++◌, Option, Some, None, Contains, map, reverse, if◌then◌else◌}
use Rattle.std.specs.Ordering.{is_eq}
use Rattle.std.specs.List.{AllWithin, HoldsAt}
use Rattle.std.specs.List.Sorted.{IsStrictlySortedBy}
use Rattle.changes.specs.declared.Bound.{Bound}
use Rattle.changes.specs.declared.Held.{Held}
use Rattle.changes.specs.Order.{row_of, IsBetween}
use Rattle.changes.specs.Places.{AreInOrder}
use Rattle.changes.specs.Shown.{row_cmp}
use Rattle.cell_merge.specs.Ranges.{AllInRows}

-- the row of a place that is in one
abbrev pub row_named : Option (List ℕ) → List ℕ
row_named None = []
row_named (Some row) = row

abbrev pub row_at : Held → List ℕ
row_at x = row_named (row_of x.place)

-- a change before rows with their changes: in the first of them, or in a row of its own
abbrev pub with_change : Held → List (List ℕ × List Held) → List (List ℕ × List Held)
with_change x [] = (row_at x, x ∷ []) ∷ []
with_change x (g ∷ groups) = if is_eq (row_cmp (row_at x) g.0) then (g.0, x ∷ g.1) ∷ groups else (row_at x, x ∷ []) ∷ g ∷ groups

-- changes that stand in order, row by row
abbrev pub by_rows : List Held → List (List ℕ × List Held)
by_rows [] = []
by_rows (x ∷ xs) = with_change x (by_rows xs)

abbrev pub in_direction : Bool → List (List ℕ × List Held) → List (List ℕ × List Held)
in_direction false groups = groups
in_direction true groups = reverse groups

-- changes in order, each of a row
pub record AreOfRows (changes : List Held) : Type 0 where
  pub ordered : AreInOrder changes
  pub inside : AllInRows changes

-- the changes from low on up to high are in the row
abbrev pub AllOf : List ℕ → List Held → ℕ → ℕ → Type 0
AllOf row changes low high = AllWithin (λ x. row_of x.place ≡ Some row) changes low high

-- the change at i is not in the row
abbrev pub IsNotOf : List ℕ → List Held → ℕ → Type 0
IsNotOf row changes i = HoldsAt (λ x. row_of x.place ≡ Some row → ⊥) changes i

abbrev pub IsFirstRow : List Held → List ℕ → List Held → List Held → Type 0
IsFirstRow changes row front rest = (by_rows changes ≡ (row, front) ∷ by_rows rest) × AreOfRows rest

abbrev pub IsLastRow : List Held → List ℕ → List Held → List Held → Type 0
IsLastRow changes row back rest = (by_rows changes ≡ by_rows rest ++ (row, back) ∷ []) × AreOfRows rest

abbrev pub IsNextRow : Bool → List Held → List ℕ → List Held → List Held → Type 0
IsNextRow reversed changes row next rest = (in_direction reversed (by_rows changes) ≡ (row, next) ∷ in_direction reversed (by_rows rest)) × AreOfRows rest

abbrev pub names_of : List (List ℕ × List Held) → List (List ℕ)
names_of groups = map (λ g. g.0) groups

-- a row with all its changes
abbrev pub IsGroupOf : List Held → List ℕ × List Held → Type 0
IsGroupOf content g = (x : Held) → Contains g.1 x ↔ (Contains content x × (row_of x.place ≡ Some g.0))

-- the rows between the bounds that the content has changes of, each once, in clustering order, with its changes in order
pub record AreRowsBetween (from upto : Bound) (content : List Held) (groups : List (List ℕ × List Held)) : Type 0 where
  pub sorted : IsStrictlySortedBy row_cmp (names_of groups)
  pub within : (g : List ℕ × List Held) → Contains groups g → IsBetween from upto g.0 × (g.1 ≢ []) × IsGroupOf content g
  pub ordered : (g : List ℕ × List Held) → Contains groups g → AreInOrder g.1
  pub all : (x : Held) (row : List ℕ) → Contains content x → row_of x.place ≡ Some row → IsBetween from upto row → Contains (names_of groups) row

-- the walk goes over these rows, in clustering order or in reverse
abbrev pub IsWalkOver : Bound → Bound → List Held → Bool → List (List ℕ × List Held) → Type 0
IsWalkOver from upto content reversed walk =
    (groups : List (List ℕ × List Held)) × AreRowsBetween from upto content groups × (walk ≡ in_direction reversed groups)

-- An index of deletions of rows, by which those that reach to a place are found.
use Rattle.std.specs.Prelude.{◌≡◌, ℕ, ◌<◌, ◌≤◌, ◌⊎◌, ◌++◌, true, None, IsSome, List, length, slice_index_or}
use Rattle.std.specs.List.{All}
use Rattle.changes.specs.declared.Held.{Held}
use Rattle.changes.specs.declared.Place.{Place}
use Rattle.changes.specs.Order.{row_of}
use Rattle.changes.specs.Places.{AreInOrder}
use Rattle.cell_merge.specs.declared.ranges.Block.{Block}
use Rattle.cell_merge.specs.declared.ranges.RangeIndex.{RangeIndex}
use Rattle.cell_merge.specs.Tests.{reaches_to}

-- a change of no single row: the deletion of a range of rows, or of the partition
abbrev pub IsWide : Held → Type 0
IsWide x = row_of x.place ≡ None

abbrev pub AllWide : List Held → Type 0
AllWide wide = All IsWide wide

abbrev pub IsInRow : Held → Type 0
IsInRow x = IsSome (row_of x.place)

abbrev pub AllInRows : List Held → Type 0
AllInRows rows = All IsInRow rows

-- the first reaches to whatever the second reaches to
abbrev pub ReachesAsFar : Place → Place → Type 0
ReachesAsFar p q = (r : Place) → reaches_to q r ≡ true → reaches_to p r ≡ true

-- the block ends with the change at i, and has one that reaches as far as each of it
pub record IsBlockAt (wide : List Held) (i : ℕ) (b : Block) : Type 0 where
  pub start : b.start ≤ i
  pub furthest : b.furthest ≤ i
  pub reach : (j : ℕ) (d : Held) → b.start ≤ j → j ≤ i → ReachesAsFar (slice_index_or wide b.furthest d).place (slice_index_or wide j d).place

abbrev pub AreBlocks : List Held → ℕ → List Block → Type 0
AreBlocks wide n blocks = (i : ℕ) (b : Block) → i < n → IsBlockAt wide i (slice_index_or blocks i b)

-- there is a block for each of these deletions of rows
pub record IsIndexOf (wide : List Held) (index : RangeIndex) : Type 0 where
  pub count : length index.blocks.items ≡ length wide
  pub blocks : AreBlocks wide (length wide) index.blocks.items

-- from the start of the first on, with the one that reaches further
pub record IsJoined (wide : List Held) (first second both : Block) : Type 0 where
  pub start : both.start ≡ first.start
  pub furthest : (both.furthest ≡ first.furthest) ⊎ (both.furthest ≡ second.furthest)
  pub first_reach : (d : Held) → ReachesAsFar (slice_index_or wide both.furthest d).place (slice_index_or wide first.furthest d).place
  pub second_reach : (d : Held) → ReachesAsFar (slice_index_or wide both.furthest d).place (slice_index_or wide second.furthest d).place

-- changes in order: those of no single row, with an index, and then those in rows
pub record IsRanking (wide rows : List Held) (ranges : RangeIndex) : Type 0 where
  pub ordered : AreInOrder (wide ++ rows)
  pub over : AllWide wide
  pub inside : AllInRows rows
  pub index : IsIndexOf wide ranges

-- changes in order: first others, and then those in rows
pub record AreRivals (wide rows : List Held) : Type 0 where
  pub ordered : AreInOrder (wide ++ rows)
  pub inside : AllInRows rows

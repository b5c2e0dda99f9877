-- The length of changes as they are stored: numbers have 1, 2, 4 or 8 bytes, bytes their length in 4 bytes before them,
-- and a list of changes its count in 4 bytes before it.
use Rattle.std.specs.Prelude.{ℕ, ◌+◌, List, length, Option, Some, None}
use Rattle.std.specs.List.{sum_by}
use Rattle.changes.specs.declared.Bound.{Bound}
use Rattle.changes.specs.declared.Held.{Held}
use Rattle.changes.specs.declared.Mutation.{Mutation}
use Rattle.changes.specs.declared.Partition.{Partition}
use Rattle.changes.specs.declared.Place.{Place}
use Rattle.changes.specs.declared.Place.TheVariants.{Cell, Marker, RowGone, RangeGone, PartGone}

abbrev pub field_length : List ℕ → ℕ
field_length bytes = 4 + length bytes

-- a byte for the side
abbrev pub bound_length : Bound → ℕ
bound_length b = 1 + field_length b.at

-- a byte for the column
abbrev pub place_length : Place → ℕ
place_length (Cell row column) = field_length row + 1
place_length (Marker row) = field_length row
place_length (RowGone row) = field_length row
place_length (RangeGone from upto) = bound_length from + bound_length upto
place_length PartGone = 0

-- a byte that tells whether there is a value
abbrev pub cell_length : Option (List ℕ) → ℕ
cell_length None = 1
cell_length (Some value) = 1 + field_length value

abbrev pub value_length : Place → Option (List ℕ) → ℕ
value_length (Cell row column) value = cell_length value
value_length (Marker row) value = 0
value_length (RowGone row) value = 0
value_length (RangeGone from upto) value = 0
value_length PartGone value = 0

-- a byte for the kind of place; the timestamp, the submission time, and a request's node and time
abbrev pub change_length : Place → Option (List ℕ) → ℕ
change_length place value = 1 + place_length place + value_length place value + (8 + 8 + 1 + 8)

abbrev pub held_length : Held → ℕ
held_length x = change_length x.place x.value

abbrev pub changes_length : List Held → ℕ
changes_length changes = 4 + sum_by held_length changes

-- the table and the token
abbrev pub partition_length : Partition → ℕ
partition_length p = 2 + 8 + field_length p.key

abbrev pub mutation_length : Mutation → ℕ
mutation_length m = partition_length m.partition + changes_length m.changes

-- Changes and mutations at the front of bytes, from left to right: a value and the bytes behind it, or the first fault.
use Rattle.std.specs.Prelude.{ℕ, ◌-◌, ◌==◌, Bool, true, false, List, [], length, Option, Some, None, Result, Ok, Err, slice_get, if◌then◌else◌}
use Rattle.std.specs.Option.{option_map}
use Rattle.std.specs.Ordering.{is_lt}
use Rattle.stored_fields.specs.Reading.{◌>>=◌, Read, u8_at, u16_at, u32_at, u64_at, i64_at, flag_at, request_at, field_at, optional_at, items_at, whole}
use Rattle.stored_fields.specs.declared.fault.Fault.TheVariants.{Tag, Order}
use Rattle.stored_fields.specs.declared.fault.CodecError.{CodecError}
use Rattle.changes.specs.declared.Bound.{Bound}
use Rattle.changes.specs.declared.Held.{Held}
use Rattle.changes.specs.declared.Mutation.{Mutation}
use Rattle.changes.specs.declared.Partition.{Partition}
use Rattle.changes.specs.declared.Place.{Place}
use Rattle.changes.specs.declared.Place.TheVariants.{Cell, Marker, RowGone, RangeGone, PartGone}
use Rattle.changes.specs.Places.{place_cmp}

unfoldable pub bound_at : List ℕ → Read Bound
bound_at bytes = do
  after ← flag_at bytes
  at ← field_at after.1
  Ok (record { at = at.0; after = after.0 }, at.1)

-- ---- places

unfoldable pub cell_at : List ℕ → Read Place
cell_at bytes = do
  row ← field_at bytes
  column ← u8_at row.1
  Ok (Cell row.0 column.0, column.1)

abbrev pub marker_at : List ℕ → Read Place
marker_at bytes = field_at bytes >>= λ row. Ok (Marker row.0, row.1)

abbrev pub row_gone_at : List ℕ → Read Place
row_gone_at bytes = field_at bytes >>= λ row. Ok (RowGone row.0, row.1)

unfoldable pub range_gone_at : List ℕ → Read Place
range_gone_at bytes = do
  from ← bound_at bytes
  upto ← bound_at from.1
  Ok (RangeGone from.0 upto.0, upto.1)

-- behind a tag that stood where so many bytes were left
abbrev pub fields_of : ℕ → ℕ → List ℕ → Read Place
fields_of left tag bytes =
    if tag == 1 then cell_at bytes
    else (if tag == 2 then marker_at bytes
    else (if tag == 3 then row_gone_at bytes
    else (if tag == 4 then range_gone_at bytes
    else (if tag == 5 then Ok (PartGone, bytes)
    else Err (Tag left)))))

unfoldable pub place_at : List ℕ → Read Place
place_at bytes = do
  tag ← u8_at bytes
  fields_of (length bytes) tag.0 tag.1

-- ---- changes

abbrev pub value_at : Place → List ℕ → Read (Option (List ℕ))
value_at (Cell row column) bytes = optional_at field_at bytes
value_at (Marker row) bytes = Ok (Some [], bytes)
value_at (RowGone row) bytes = Ok (None, bytes)
value_at (RangeGone from upto) bytes = Ok (None, bytes)
value_at PartGone bytes = Ok (None, bytes)

abbrev pub stamped_at : Place → Option (List ℕ) → List ℕ → Read Held
stamped_at place value bytes = do
  timestamp ← i64_at bytes
  submitted ← u64_at timestamp.1
  request ← request_at submitted.1
  Ok (record { place = place; value = value; timestamp = timestamp.0; submitted = submitted.0; request = request.0 }, request.1)

unfoldable pub behind_place_at : Place → List ℕ → Read Held
behind_place_at place bytes = do
  value ← value_at place bytes
  stamped_at place value.0 value.1

-- the place stands behind the one before it, if there is one
abbrev pub ascends : Option Place → Place → Bool
ascends None place = true
ascends (Some before) place = is_lt (place_cmp before place)

-- a place that does not is a fault of the change, told before what follows the place is looked at
abbrev pub placed_at : ℕ → Bool → Place → List ℕ → Read Held
placed_at left false place bytes = Err (Order left)
placed_at left true place bytes = behind_place_at place bytes

unfoldable pub change_at : Option Place → List ℕ → Read Held
change_at before bytes = do
  place ← place_at bytes
  placed_at (length bytes) (ascends before place.0) place.0 place.1

abbrev pub place_of : Held → Option Place
place_of x = Some x.place

abbrev pub held_place : Held → Place
held_place x = x.place

abbrev pub last_place : List Held → Option Place
last_place xs = option_map held_place (slice_get xs (length xs - 1))

abbrev pub counted_at : ℕ → List ℕ → Read (List Held)
counted_at count bytes = items_at change_at place_of None count bytes

unfoldable pub changes_at : List ℕ → Read (List Held)
changes_at bytes = do
  count ← u32_at bytes
  counted_at count.0 count.1

-- ---- mutations

unfoldable pub partition_at : List ℕ → Read Partition
partition_at bytes = do
  table ← u16_at bytes
  token ← i64_at table.1
  key ← field_at token.1
  Ok (record { token = token.0; table = table.0; key = key.0 }, key.1)

unfoldable pub mutation_at : List ℕ → Read Mutation
mutation_at bytes = do
  partition ← partition_at bytes
  changes ← changes_at partition.1
  Ok (record { partition = partition.0; changes = changes.0 }, changes.1)

-- ---- the whole

-- the changes of which the bytes are the word, or why they are none
abbrev pub changes_in : List ℕ → Result (List Held) CodecError
changes_in bytes = whole (length bytes) (changes_at bytes)

abbrev pub mutation_in : List ℕ → Result Mutation CodecError
mutation_in bytes = whole (length bytes) (mutation_at bytes)

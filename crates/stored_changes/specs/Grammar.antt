-- The stored form of changes and mutations. Each says of bytes, a value and a rest that a word with that value stands at the
-- front of the bytes, and that the rest follows it.
use Rattle.std.specs.Prelude.{◌≡◌, ℕ, List, [], length, Option, Some, None}
use Rattle.stored_fields.specs.Fields.{IsU8, IsU16, IsU32, IsU64, IsI64, IsFlag, IsRequest, IsField, IsOptional, AreWords}
use Rattle.changes.specs.declared.Bound.{Bound}
use Rattle.changes.specs.declared.Held.{Held}
use Rattle.changes.specs.declared.Mutation.{Mutation}
use Rattle.changes.specs.declared.Partition.{Partition}
use Rattle.changes.specs.declared.Place.{Place}
use Rattle.changes.specs.declared.Place.TheVariants.{Cell, Marker, RowGone, RangeGone, PartGone}
use Rattle.changes.specs.Places.{AreInOrder}

-- whether it stands behind the rows that begin with its bytes, and these
abbrev pub IsBound : List ℕ → Bound → List ℕ → Type 0
IsBound bytes b rest = (behind_side : List ℕ) × IsFlag bytes b.after behind_side × IsField behind_side b.at rest

-- the tag of a change, by its place
abbrev pub tag_of : Place → ℕ
tag_of (Cell row column) = 1
tag_of (Marker row) = 2
tag_of (RowGone row) = 3
tag_of (RangeGone from upto) = 4
tag_of PartGone = 5

-- the fields of a place: its row, and the column of a cell; or two bounds
abbrev pub ArePlaceFields : List ℕ → Place → List ℕ → Type 0
ArePlaceFields bytes (Cell row column) rest = (behind_row : List ℕ) × IsField bytes row behind_row × IsU8 behind_row column rest
ArePlaceFields bytes (Marker row) rest = IsField bytes row rest
ArePlaceFields bytes (RowGone row) rest = IsField bytes row rest
ArePlaceFields bytes (RangeGone from upto) rest = (behind_from : List ℕ) × IsBound bytes from behind_from × IsBound behind_from upto rest
ArePlaceFields bytes PartGone rest = bytes ≡ rest

abbrev pub IsPlace : List ℕ → Place → List ℕ → Type 0
IsPlace bytes p rest = (behind_tag : List ℕ) × IsU8 bytes (tag_of p) behind_tag × ArePlaceFields behind_tag p rest

-- Only a cell has a field for its value, a byte 0 for its deletion. A marker has an empty value, and a deletion has none.
abbrev pub IsValue : Place → List ℕ → Option (List ℕ) → List ℕ → Type 0
IsValue (Cell row column) bytes value rest = IsOptional IsField bytes value rest
IsValue (Marker row) bytes value rest = (value ≡ Some []) × (bytes ≡ rest)
IsValue (RowGone row) bytes value rest = (value ≡ None) × (bytes ≡ rest)
IsValue (RangeGone from upto) bytes value rest = (value ≡ None) × (bytes ≡ rest)
IsValue PartGone bytes value rest = (value ≡ None) × (bytes ≡ rest)

-- the tag and the place, the value, the timestamp, the submission time, and the request
pub record IsChange (bytes : List ℕ) (x : Held) (rest : List ℕ) : Type 0 where
  pub behind_place : List ℕ
  pub behind_value : List ℕ
  pub behind_timestamp : List ℕ
  pub behind_submitted : List ℕ
  pub place : IsPlace bytes x.place behind_place
  pub value : IsValue x.place behind_place x.value behind_value
  pub timestamp : IsI64 behind_value x.timestamp behind_timestamp
  pub submitted : IsU64 behind_timestamp x.submitted behind_submitted
  pub request : IsRequest behind_submitted x.request rest

-- a count in four bytes and so many changes, in the order of their places, each place once
pub record AreChanges (bytes : List ℕ) (xs : List Held) (rest : List ℕ) : Type 0 where
  pub behind_count : List ℕ
  pub count : IsU32 bytes (length xs) behind_count
  pub changes : AreWords IsChange behind_count xs rest
  pub order : AreInOrder xs

-- the table, the token and the key
pub record IsPartition (bytes : List ℕ) (p : Partition) (rest : List ℕ) : Type 0 where
  pub behind_table : List ℕ
  pub behind_token : List ℕ
  pub table : IsU16 bytes p.table behind_table
  pub token : IsI64 behind_table p.token behind_token
  pub key : IsField behind_token p.key rest

pub record IsMutation (bytes : List ℕ) (m : Mutation) (rest : List ℕ) : Type 0 where
  pub behind_partition : List ℕ
  pub partition : IsPartition bytes m.partition behind_partition
  pub changes : AreChanges behind_partition m.changes rest

-- How changes and mutations are written, and which have a word.
use Rattle.std.specs.Prelude.{◌≡◌, ℕ, ◌<◌, ◌^◌, List, [], ◌++◌, length, Option, Some, None, FitsSigned}
use Rattle.std.specs.Int.{w64}
use Rattle.std.specs.List.{flat_map, AllByRecursion}
use Rattle.stored_fields.specs.Spelling.{u8, u16, u32, u64, i64, flag, request, field, optional, FitsField, RequestInRange}
use Rattle.stored_changes.specs.Grammar.{tag_of}
use Rattle.changes.specs.declared.Bound.{Bound}
use Rattle.changes.specs.declared.Held.{Held}
use Rattle.changes.specs.declared.Mutation.{Mutation}
use Rattle.changes.specs.declared.Partition.{Partition}
use Rattle.changes.specs.declared.Place.{Place}
use Rattle.changes.specs.declared.Place.TheVariants.{Cell, Marker, RowGone, RangeGone, PartGone}
use Rattle.changes.specs.Places.{AreInOrder}

abbrev pub bound : Bound → List ℕ
bound b = flag b.after ++ field b.at

abbrev pub place_fields : Place → List ℕ
place_fields (Cell row column) = field row ++ u8 column
place_fields (Marker row) = field row
place_fields (RowGone row) = field row
place_fields (RangeGone from upto) = bound from ++ bound upto
place_fields PartGone = []

abbrev pub place : Place → List ℕ
place p = u8 (tag_of p) ++ place_fields p

abbrev pub value : Place → Option (List ℕ) → List ℕ
value (Cell row column) content = optional field content
value (Marker row) content = []
value (RowGone row) content = []
value (RangeGone from upto) content = []
value PartGone content = []

abbrev pub change : Held → List ℕ
change x = place x.place ++ value x.place x.value ++ i64 x.timestamp ++ u64 x.submitted ++ request x.request

abbrev pub changes : List Held → List ℕ
changes xs = u32 (length xs) ++ flat_map change xs

abbrev pub partition : Partition → List ℕ
partition p = u16 p.table ++ i64 p.token ++ field p.key

abbrev pub mutation : Mutation → List ℕ
mutation m = partition m.partition ++ changes m.changes

-- ---- what has a word: lengths and counts are below 2^32, changes are in order, a marker has an empty value, and a deletion of
-- more than a cell has none

abbrev pub PlaceFits : Place → Type 0
PlaceFits (Cell row column) = FitsField row
PlaceFits (Marker row) = FitsField row
PlaceFits (RowGone row) = FitsField row
PlaceFits (RangeGone from upto) = FitsField from.at × FitsField upto.at
PlaceFits PartGone = Unit {0}

abbrev pub CellFits : Option (List ℕ) → Type 0
CellFits None = Unit {0}
CellFits (Some content) = FitsField content

abbrev pub ValueFits : Place → Option (List ℕ) → Type 0
ValueFits (Cell row column) content = CellFits content
ValueFits (Marker row) content = content ≡ Some []
ValueFits (RowGone row) content = content ≡ None
ValueFits (RangeGone from upto) content = content ≡ None
ValueFits PartGone content = content ≡ None

pub record ChangeFits (x : Held) : Type 0 where
  pub place : PlaceFits x.place
  pub value : ValueFits x.place x.value

pub record ChangesFit (xs : List Held) : Type 0 where
  pub count : length xs < 2 ^ 32
  pub each : AllByRecursion ChangeFits xs
  pub order : AreInOrder xs

pub record MutationFits (m : Mutation) : Type 0 where
  pub key : FitsField m.partition.key
  pub changes : ChangesFit m.changes

-- ---- the numbers are what they are in a program

abbrev pub ColumnInRange : Place → Type 0
ColumnInRange (Cell row column) = column < 256
ColumnInRange (Marker row) = Unit {0}
ColumnInRange (RowGone row) = Unit {0}
ColumnInRange (RangeGone from upto) = Unit {0}
ColumnInRange PartGone = Unit {0}

pub record ChangeInRange (x : Held) : Type 0 where
  pub column : ColumnInRange x.place
  pub timestamp : FitsSigned w64 x.timestamp
  pub submitted : x.submitted < 2 ^ 64
  pub request : RequestInRange x.request

abbrev pub ChangesInRange : List Held → Type 0
ChangesInRange xs = AllByRecursion ChangeInRange xs

pub record PartitionInRange (p : Partition) : Type 0 where
  pub table : p.table < 2 ^ 16
  pub token : FitsSigned w64 p.token

pub record MutationInRange (m : Mutation) : Type 0 where
  pub partition : PartitionInRange m.partition
  pub changes : ChangesInRange m.changes

-- ---- both

abbrev pub ChangesHaveWord : List Held → Type 0
ChangesHaveWord xs = ChangesFit xs × ChangesInRange xs

abbrev pub MutationHasWord : Mutation → Type 0
MutationHasWord m = MutationFits m × MutationInRange m

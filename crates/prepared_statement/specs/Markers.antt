-- What a request is to give for the markers of a statement (native_protocol_v4.spec, section 4.2.5.4).
use Rattle.std.specs.Prelude.{ℕ, ◌+◌, ◌%◌, ◌==◌, Bool, true, false, List, [], ◌∷◌, ◌++◌, Option, Some, None, if◌then◌else◌, fold, flat_map}
use Rattle.cql_statement.specs.declared.term.RelationOperator.{RelationOperator}
use Rattle.cql_statement.specs.declared.term.RelationOperator.TheVariants as relations
use Rattle.key_restrictions.specs.Places.{is_partition}
use Rattle.schema_book.specs.declared.table.ColumnDef.{ColumnDef}
use Rattle.prepared_statement.specs.Faults.{is_marker}
use Rattle.prepared_statement.specs.declared.change.Batch.{Batch}
use Rattle.prepared_statement.specs.declared.change.Change.{Change}
use Rattle.prepared_statement.specs.declared.markers.Marker.{Marker}
use Rattle.prepared_statement.specs.declared.markers.Markers.{Markers}
use Rattle.prepared_statement.specs.declared.prepared.Prepared.{Prepared}
use Rattle.prepared_statement.specs.declared.prepared.Prepared.TheVariants as prepared
use Rattle.prepared_statement.specs.declared.slot.Role.{Role}
use Rattle.prepared_statement.specs.declared.slot.Role.TheVariants as roles
use Rattle.prepared_statement.specs.declared.slot.Slot.{Slot}
use Rattle.prepared_statement.specs.declared.slot.Stands.{Stands}
use Rattle.prepared_statement.specs.declared.slot.Stands.TheVariants.{Own, Mismatched, Marker as MarkerThere}

-- ---- names and types

abbrev pub marker_of : Slot → Marker
marker_of s = record { name = s.name; ty = s.ty }

abbrev pub marker_by : Slot → List Marker
marker_by s = if is_marker s.stands then marker_of s ∷ [] else []

-- the markers among slots, in the order of the text
abbrev pub markers_of : List Slot → List Marker
markers_of slots = flat_map marker_by slots

-- ---- numbers, from 0 on; a text has fewer than 65,536 markers

abbrev pub number_behind : ℕ → Slot → ℕ
number_behind n s = if is_marker s.stands then (n + 1) % 65536 else n

abbrev pub numbers_behind : ℕ → List Slot → ℕ
numbers_behind n slots = fold number_behind n slots

-- ---- the partition key

abbrev pub is_fixing : RelationOperator → Bool
is_fixing relations.Equal = true
is_fixing relations.Less = false
is_fixing relations.LessOrEqual = false
is_fixing relations.Greater = false
is_fixing relations.GreaterOrEqual = false

-- the value is what a column of the key equals
abbrev pub gives : ℕ → Role → Bool
gives place (roles.Key column operator) = if is_fixing operator then column == place else false
gives place _ = false

abbrev pub numbered : ℕ → Stands → Option ℕ
numbered n (Own p) = None
numbered n Mismatched = None
numbered n MarkerThere = Some n

-- the number of the marker that gives a column, where the first of these slots has this number; none where no marker does
abbrev pub key_marker : ℕ → ℕ → List Slot → Option ℕ
key_marker place n [] = None
key_marker place n (s ∷ ss) = if gives place s.role then numbered n s.stands else key_marker place (number_behind n s) ss

abbrev pub with_number : Option ℕ → Option (List ℕ) → Option (List ℕ)
with_number None ns = None
with_number (Some n) None = None
with_number (Some n) (Some ns) = Some (n ∷ ns)

-- of each column of the partition key, in the key's order, if each has one
abbrev pub key_from : ℕ → List Slot → ℕ → List ColumnDef → Option (List ℕ)
key_from first slots place [] = Some []
key_from first slots place (d ∷ ds) =
    if is_partition d.kind then with_number (key_marker place first slots) (key_from first slots (place + 1) ds)
    else key_from first slots (place + 1) ds

abbrev pub numbers_in : Option (List ℕ) → List ℕ
numbers_in None = []
numbers_in (Some ns) = ns

abbrev pub key_of : ℕ → List Slot → List ColumnDef → List ℕ
key_of first slots columns = numbers_in (key_from first slots 0 columns)

-- ---- statements

abbrev pub none_there : Markers
none_there = record { table = None; list = []; key = [] }

abbrev pub markers_at : ℕ → List Slot → List ColumnDef → Markers
markers_at table slots columns = record { table = Some table; list = markers_of slots; key = key_of 0 slots columns }

abbrev pub changes_markers : List Change → List Marker
changes_markers cs = flat_map (λ c. markers_of c.slots) cs

-- a batch is of the table of its first statement, and has its key
abbrev pub batch_markers : List Slot → List Change → Markers
batch_markers front [] = record { table = None; list = markers_of front; key = [] }
batch_markers front (c ∷ cs) = record {
  table = Some c.table;
  list = markers_of front ++ changes_markers (c ∷ cs);
  key = key_of (numbers_behind 0 front) c.slots c.columns;
}

abbrev pub markers_in : Prepared → Markers
markers_in prepared.Create = none_there
markers_in (prepared.Use u) = none_there
markers_in (prepared.Change c) = markers_at c.table c.slots c.columns
markers_in (prepared.Read r) = markers_at r.table r.slots r.columns
markers_in (prepared.Batch x) = batch_markers x.slots x.changes

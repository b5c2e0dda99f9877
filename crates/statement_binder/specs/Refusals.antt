-- Why a statement is refused: each refusal with what it means, in no order. Of those that hold the lowest is told.
use Rattle.std.specs.Prelude.{◌≡◌, ◌⊎◌, ◌≤◌, ℕ, ℤ, ◌||◌, ◌&&◌, not, is_none, is_some, Bool, true, false, List, [], ◌∷◌, ◌++◌, Option, Some, None, if◌then◌else◌, map}
use Rattle.changes.specs.declared.Partition.{Partition}
use Rattle.cql_statement.specs.declared.modification.Batch.{Batch}
use Rattle.cql_statement.specs.declared.modification.Modification.{Modification}
use Rattle.cql_statement.specs.declared.modification.Modification.TheVariants as modifications
use Rattle.cql_statement.specs.declared.schema.ColumnOrder.{ColumnOrder}
use Rattle.cql_statement.specs.declared.select.Select.{Select}
use Rattle.cql_statement.specs.declared.statement.Statement.{Statement}
use Rattle.cql_statement.specs.declared.statement.Statement.TheVariants as statement
use Rattle.key_restrictions.specs.Checks.{misses_slice, is_twice}
use Rattle.key_restrictions.specs.Rows.{partition_of, bounds_of, is_long as is_long_key}
use Rattle.key_restrictions.specs.declared.restriction.Restriction.{Restriction}
use Rattle.key_restrictions.specs.declared.rows.RowBounds.{RowBounds}
use Rattle.schema_book.specs.Books.{Book, keyspace_at}
use Rattle.schema_book.specs.declared.table.ColumnDef.{ColumnDef}
use Rattle.schema_book.specs.declared.table.Table.{Table}
use Rattle.statement_plan.specs.Faults.{number_of}
use Rattle.statement_plan.specs.declared.fault.Fault.{Fault}
use Rattle.statement_plan.specs.declared.fault.Fault.TheVariants as fault
use Rattle.statement_plan.specs.declared.fault.Feature.TheVariants as feature
use Rattle.statement_values.specs.Supply.{has_left}
use Rattle.statement_values.specs.declared.params.Param.{Param}
use Rattle.statement_values.specs.declared.params.Params.{Params}
use Rattle.prepared_statement.specs.Faults.{is_lone, is_marker, mismatches, misses, is_null_key, is_long}
use Rattle.prepared_statement.specs.Names.{table_named}
use Rattle.prepared_statement.specs.Orders.{has_bad_order}
use Rattle.prepared_statement.specs.Prepared.{columns_in, change_in, read_in, outline_of, change_of}
use Rattle.prepared_statement.specs.Slots.{slots_of, select_slots, stamp_slots}
use Rattle.prepared_statement.specs.Structure.{keys_of, table_of_modification, names_unknown, misses_key, fixes_twice, is_timed_condition, deletes_key, filters, tests_key, guard_of, is_conditional, selects_unknown, shown_places}
use Rattle.prepared_statement.specs.declared.change.Change.{Change}
use Rattle.prepared_statement.specs.declared.change.Guard.{Guard}
use Rattle.prepared_statement.specs.declared.change.Read.{Read}
use Rattle.prepared_statement.specs.declared.prepared.Prepared.{Prepared}
use Rattle.prepared_statement.specs.declared.prepared.Prepared.TheVariants as prepared
use Rattle.prepared_statement.specs.declared.slot.Slot.{Slot}
use Rattle.statement_binder.specs.Changes.{reach_of, is_long_reach, is_empty, timestamp_or, drafts_at}
use Rattle.statement_binder.specs.Filled.{given_to, behind, left_after}
use Rattle.statement_binder.specs.Meanings.{IsTooLong}
use Rattle.statement_binder.specs.Plans.{partition_by, is_scattered, pieces_of, behind_all, drafts_of}
use Rattle.statement_binder.specs.Supplies.{Left, whole, each, next_params, next_filled, behind_next, front_params, front_filled, behind_front}
use Rattle.statement_binder.specs.declared.filled.Filled.{Filled}
use Rattle.statement_binder.specs.declared.piece.Piece.{Piece}
use Rattle.statement_binder.specs.declared.reach.Reach.{Reach}

-- ---- refusals that hold

-- a refusal, and whether it holds
pub record Refusal : Type 0 where
  pub fault : Fault
  pub holds : Bool

abbrev pub refused_if : Fault → Bool → Refusal
refused_if f b = record { fault = f; holds = b }

-- one of them is this, and holds
abbrev pub Holds : List Refusal → Fault → Type 0
Holds [] f = ⊥
Holds (r ∷ rs) f = ((r.fault ≡ f) × (r.holds ≡ true)) ⊎ Holds rs f

-- it holds, and none that stands before it; where there is none, none holds
abbrev pub IsLowest : (Fault → Type 0) → Option Fault → Type 0
IsLowest P None = (g : Fault) → P g → ⊥
IsLowest P (Some f) = P f × ((g : Fault) → P g → number_of f ≤ number_of g)

-- ---- values

-- of what stands in a slot
abbrev pub slot_refusals : Slot → Option Param → List Refusal
slot_refusals s given =
    refused_if fault.TypeMismatch (mismatches s given)
    ∷ refused_if fault.ValueCount (misses s given)
    ∷ refused_if fault.NullKey (is_null_key s given)
    ∷ refused_if fault.ValueTooLong (is_long s given)
    ∷ []

-- of all slots, each marker with the value that is next for it
abbrev pub slots_refusals : Params → List Slot → List Refusal
slots_refusals left [] = []
slots_refusals left (s ∷ ss) = slot_refusals s (given_to left s) ++ slots_refusals (behind left s) ss

-- more values than markers
abbrev pub excess_refusals : Params → List Refusal
excess_refusals left = refused_if fault.ValueCount (has_left left) ∷ []

-- a statement with a list of its own is to use it up
abbrev pub own_excess_refusals : Left → List Slot → List Refusal
own_excess_refusals (whole params) slots = []
own_excess_refusals (each []) slots = []
own_excess_refusals (each (params ∷ later)) slots = excess_refusals (left_after params slots)

abbrev pub next_refusals : Left → List Slot → List Refusal
next_refusals left slots = slots_refusals (next_params left) slots ++ own_excess_refusals left slots

-- values that no marker took, or a list that no statement took
abbrev pub rest_refusals : Left → List Refusal
rest_refusals (whole params) = excess_refusals params
rest_refusals (each []) = []
rest_refusals (each (params ∷ later)) = refused_if fault.ValueCount true ∷ []

-- ---- a statement that changes rows

-- it names no table that is there
abbrev pub table_refusals : Option Table → List Refusal
table_refusals t = refused_if fault.UnknownTable (is_none t) ∷ []

abbrev pub structure_refusals : List ColumnDef → Modification → List Slot → List (Restriction (Unit {0})) → List Refusal
structure_refusals columns m slots keys =
    refused_if fault.UnknownColumn (names_unknown columns slots)
    ∷ refused_if fault.KeyMissing (misses_key columns keys m)
    ∷ refused_if fault.KeyTwice (fixes_twice columns keys m slots)
    ∷ refused_if fault.TimestampOnCondition (is_timed_condition m slots)
    ∷ refused_if (fault.NotSupported feature.DeletedKey) (deletes_key columns m slots)
    ∷ refused_if (fault.NotSupported feature.Filtering) (filters slots)
    ∷ refused_if (fault.NotSupported feature.Condition) (tests_key columns slots)
    ∷ []

-- whatever its values are
abbrev pub form_refusals : Option Table → Modification → List Refusal
form_refusals t m =
    table_refusals t ++ structure_refusals (columns_in t) m (slots_of (columns_in t) m) (keys_of (slots_of (columns_in t) m))

-- of the keys of the rows that it changes
abbrev pub size_refusals : Partition → Reach → List Refusal
size_refusals partition at =
    refused_if fault.KeyTooLong (is_long_key partition.key || is_long_reach at) ∷ refused_if fault.EmptyKey (is_empty partition.key) ∷ []

abbrev pub row_refusals : Change → Filled → List Refusal
row_refusals c f = size_refusals (partition_by c f) (reach_of c.action c.columns f.keys)

abbrev pub change_refusals : Option Table → Modification → Left → List Refusal
change_refusals t m left =
    form_refusals t m ++ (next_refusals left (slots_of (columns_in t) m) ++ row_refusals (change_in t m) (next_filled left (slots_of (columns_in t) m)))

abbrev pub alone_refusals : Option Table → Modification → Left → List Refusal
alone_refusals t m left = change_refusals t m left ++ rest_refusals (behind_next left (slots_of (columns_in t) m))

-- ---- SELECT

abbrev pub select_structure_refusals : List ColumnDef → List Slot → List (Restriction (Unit {0})) → List ℕ → List ColumnOrder → List Refusal
select_structure_refusals columns slots keys places os =
    refused_if fault.UnknownColumn (selects_unknown columns slots places os)
    ∷ refused_if fault.KeyMissing (misses_slice columns keys)
    ∷ refused_if fault.KeyTwice (is_twice columns keys)
    ∷ refused_if (fault.NotSupported feature.Filtering) (filters slots)
    ∷ refused_if (fault.NotSupported feature.OrderBy) (has_bad_order columns os)
    ∷ []

abbrev pub select_form_refusals : Option Table → Select → List Refusal
select_form_refusals t s =
    table_refusals t
    ++ select_structure_refusals (columns_in t) (select_slots (columns_in t) s) (keys_of (select_slots (columns_in t) s)) (shown_places (columns_in t) s.selection) s.orders

-- of the keys of the rows that it reads
abbrev pub bounds_refusals : Partition → RowBounds → List Refusal
bounds_refusals partition b =
    refused_if fault.KeyTooLong (is_long_key partition.key || (is_long_key b.from.at || is_long_key b.upto.at))
    ∷ refused_if fault.EmptyKey (is_empty partition.key)
    ∷ []

abbrev pub rows_refusals : Read → Filled → List Refusal
rows_refusals r f = bounds_refusals (partition_of r.table r.columns f.keys) (bounds_of r.columns f.keys)

abbrev pub read_refusals : Option Table → Select → Left → List Refusal
read_refusals t s left =
    (select_form_refusals t s ++ (next_refusals left (select_slots (columns_in t) s) ++ rows_refusals (read_in t s) (next_filled left (select_slots (columns_in t) s))))
    ++ rest_refusals (behind_next left (select_slots (columns_in t) s))

-- ---- BATCH

-- a statement of a batch wants no condition
abbrev pub condition_refusals : Guard → List Refusal
condition_refusals guard = refused_if (fault.NotSupported feature.Condition) (is_conditional guard) ∷ []

abbrev pub entry_refusals : Option Table → Modification → Left → List Refusal
entry_refusals t m left = condition_refusals (guard_of m) ++ change_refusals t m left

-- each statement takes its values from those that are left
abbrev pub entries_refusals : Book → Option (List ℕ) → Left → List Modification → List Refusal
entries_refusals b used left [] = []
entries_refusals b used left (m ∷ ms) =
    entry_refusals (table_named b used (table_of_modification m)) m left
    ++ entries_refusals b used (behind_next left (slots_of (columns_in (table_named b used (table_of_modification m))) m)) ms

-- it has no statement, or statements of several partitions
abbrev pub scatter_refusals : List Piece → List Refusal
scatter_refusals ps = refused_if (fault.NotSupported feature.Batch) (is_scattered ps) ∷ []

-- behind what stands before its statements
abbrev pub entries_batch_refusals : Book → Option (List ℕ) → Left → Option ℤ → List Modification → List Refusal
entries_batch_refusals b used left timestamp ms =
    entries_refusals b used left ms ++ scatter_refusals (pieces_of timestamp left (map (change_of b used) ms))

abbrev pub batch_refusals : Book → Option (List ℕ) → Left → Option ℤ → Batch → List Refusal
batch_refusals b used left timestamp x =
    (slots_refusals (front_params left) (stamp_slots x.stamp) ++ rest_refusals (behind_all (behind_front left (stamp_slots x.stamp)) (map (change_of b used) x.statements)))
    ++ entries_batch_refusals b used (behind_front left (stamp_slots x.stamp)) (timestamp_or (front_filled left (stamp_slots x.stamp)).timestamp timestamp) x.statements

-- ---- all statements

-- one that has no markers
abbrev pub idle_refusals : Left → List Refusal
idle_refusals left = next_refusals left [] ++ rest_refusals (behind_next left [])

abbrev pub modification_refusals : Book → Option (List ℕ) → Left → Modification → List Refusal
modification_refusals b used left m = alone_refusals (table_named b used (table_of_modification m)) m left

abbrev pub refusals_of : Book → Option (List ℕ) → Left → Option ℤ → Statement → List Refusal
refusals_of b used left timestamp (statement.CreateKeyspace c) = idle_refusals left ++ refused_if (fault.NotSupported feature.Create) true ∷ []
refusals_of b used left timestamp (statement.CreateTable c) = idle_refusals left ++ refused_if (fault.NotSupported feature.Create) true ∷ []
refusals_of b used left timestamp (statement.Use u) = refused_if fault.UnknownKeyspace (not (is_some (keyspace_at b u.keyspace))) ∷ [] ++ idle_refusals left
refusals_of b used left timestamp (statement.Insert i) = modification_refusals b used left (modifications.Insert i)
refusals_of b used left timestamp (statement.Update u) = modification_refusals b used left (modifications.Update u)
refusals_of b used left timestamp (statement.Delete d) = modification_refusals b used left (modifications.Delete d)
refusals_of b used left timestamp (statement.Select s) = read_refusals (table_named b used s.table) s left
refusals_of b used left timestamp (statement.Batch x) = batch_refusals b used left timestamp x

-- ---- whatever the values are

-- for a marker of a column a request may give a value
abbrev pub own_slot_refusals : Slot → List Refusal
own_slot_refusals s = if is_marker s.stands && not (is_lone s.role) then [] else slot_refusals s None

abbrev pub own_slots_refusals : List Slot → List Refusal
own_slots_refusals [] = []
own_slots_refusals (s ∷ ss) = own_slot_refusals s ++ own_slots_refusals ss

abbrev pub lasting_change_refusals : Option Table → Modification → List Refusal
lasting_change_refusals t m = form_refusals t m ++ own_slots_refusals (slots_of (columns_in t) m)

abbrev pub lasting_entry_refusals : Option Table → Modification → List Refusal
lasting_entry_refusals t m = condition_refusals (guard_of m) ++ lasting_change_refusals t m

abbrev pub lasting_entries_refusals : Book → Option (List ℕ) → List Modification → List Refusal
lasting_entries_refusals b used [] = []
lasting_entries_refusals b used (m ∷ ms) =
    lasting_entry_refusals (table_named b used (table_of_modification m)) m ++ lasting_entries_refusals b used ms

abbrev pub is_empty_batch : List Modification → Bool
is_empty_batch [] = true
is_empty_batch (m ∷ ms) = false

abbrev pub lasting_batch_refusals : Book → Option (List ℕ) → Batch → List Refusal
lasting_batch_refusals b used x =
    own_slots_refusals (stamp_slots x.stamp)
    ++ (lasting_entries_refusals b used x.statements ++ refused_if (fault.NotSupported feature.Batch) (is_empty_batch x.statements) ∷ [])

-- those that hold for all values alike
abbrev pub lasting_refusals : Book → Option (List ℕ) → Statement → List Refusal
lasting_refusals b used (statement.CreateKeyspace c) = refused_if (fault.NotSupported feature.Create) true ∷ []
lasting_refusals b used (statement.CreateTable c) = refused_if (fault.NotSupported feature.Create) true ∷ []
lasting_refusals b used (statement.Use u) = refused_if fault.UnknownKeyspace (not (is_some (keyspace_at b u.keyspace))) ∷ []
lasting_refusals b used (statement.Insert i) = lasting_change_refusals (table_named b used i.table) (modifications.Insert i)
lasting_refusals b used (statement.Update u) = lasting_change_refusals (table_named b used u.table) (modifications.Update u)
lasting_refusals b used (statement.Delete d) = lasting_change_refusals (table_named b used d.table) (modifications.Delete d)
lasting_refusals b used (statement.Select s) =
    select_form_refusals (table_named b used s.table) s ++ own_slots_refusals (select_slots (columns_in (table_named b used s.table)) s)
lasting_refusals b used (statement.Batch x) = lasting_batch_refusals b used x

-- ---- changes that are too long

-- the changes that stay of those of a statement
abbrev pub timestamp_of : Change → Filled → Option ℤ → Option ℤ
timestamp_of c f timestamp = if is_conditional c.guard then None else timestamp_or f.timestamp timestamp

abbrev pub IsLongChange : Change → Filled → Option ℤ → Type 0
IsLongChange c f timestamp =
    IsTooLong (partition_by c f) (drafts_at c.action (timestamp_of c f timestamp) (reach_of c.action c.columns f.keys) f.cells)

abbrev pub IsLongBatch : List Piece → Type 0
IsLongBatch [] = ⊥
IsLongBatch (p ∷ ps) = IsTooLong p.partition (drafts_of (p ∷ ps))

abbrev pub IsLongFor : Prepared → Left → Option ℤ → Type 0
IsLongFor prepared.Create left timestamp = ⊥
IsLongFor (prepared.Use u) left timestamp = ⊥
IsLongFor (prepared.Change c) left timestamp = IsLongChange c (next_filled left c.slots) timestamp
IsLongFor (prepared.Read r) left timestamp = ⊥
IsLongFor (prepared.Batch x) left timestamp =
    IsLongBatch (pieces_of (timestamp_or (front_filled left x.slots).timestamp timestamp) (behind_front left x.slots) x.changes)

-- the statement is refused for this, whatever else it is refused for
abbrev pub IsRefusedFor : Book → Option (List ℕ) → Left → Option ℤ → Statement → Fault → Type 0
IsRefusedFor b used left timestamp s f =
    Holds (refusals_of b used left timestamp s) f ⊎ ((fault.MutationTooLong ≡ f) × IsLongFor (outline_of b used s) left timestamp)

-- What statements ask for before their values are known.
use Rattle.std.specs.Prelude.{ℕ, ◌||◌, is_some, Bool, List, [], ◌∷◌, Option, Some, None, if◌then◌else◌, fold, map}
use Rattle.cql_statement.specs.declared.modification.Batch.{Batch as BatchStatement}
use Rattle.cql_statement.specs.declared.modification.Modification.{Modification}
use Rattle.cql_statement.specs.declared.modification.Modification.TheVariants as modifications
use Rattle.cql_statement.specs.declared.select.Select.{Select}
use Rattle.cql_statement.specs.declared.statement.Statement.{Statement}
use Rattle.cql_statement.specs.declared.statement.Statement.TheVariants as statement
use Rattle.key_restrictions.specs.declared.restriction.Restriction.{Restriction}
use Rattle.schema_book.specs.Books.{Book, keyspace_at}
use Rattle.schema_book.specs.declared.table.ColumnDef.{ColumnDef}
use Rattle.schema_book.specs.declared.table.Table.{Table}
use Rattle.statement_plan.specs.Faults.{lower}
use Rattle.statement_plan.specs.declared.fault.Fault.{Fault}
use Rattle.statement_plan.specs.declared.fault.Fault.TheVariants as fault
use Rattle.statement_plan.specs.declared.fault.Feature.TheVariants as feature
use Rattle.prepared_statement.specs.Faults.{own_fault}
use Rattle.prepared_statement.specs.Names.{table_named}
use Rattle.prepared_statement.specs.Orders.{reverses}
use Rattle.prepared_statement.specs.Slots.{slots_of, select_slots, stamp_slots}
use Rattle.prepared_statement.specs.Structure.{keys_of, table_of_modification, action_of, guard_of, is_conditional, shown_by, change_fault, shown_places, shown_of, select_fault}
use Rattle.prepared_statement.specs.declared.change.Batch.{Batch}
use Rattle.prepared_statement.specs.declared.change.Change.{Change}
use Rattle.prepared_statement.specs.declared.change.Guard.{Guard}
use Rattle.prepared_statement.specs.declared.change.Read.{Read}
use Rattle.prepared_statement.specs.declared.prepared.Prepared.{Prepared}
use Rattle.prepared_statement.specs.declared.prepared.Prepared.TheVariants as prepared
use Rattle.prepared_statement.specs.declared.prepared.UseKeyspace.{UseKeyspace}
use Rattle.prepared_statement.specs.declared.slot.Slot.{Slot}

-- ---- a table that is not there has no columns

abbrev pub columns_in : Option Table → List ColumnDef
columns_in None = []
columns_in (Some t) = t.columns

abbrev pub number_in : Option Table → ℕ
number_in None = 0
number_in (Some t) = t.number

abbrev pub table_fault : Option Table → Option Fault
table_fault None = Some fault.UnknownTable
table_fault (Some t) = None

-- ---- a statement that changes rows

abbrev pub change_with : ℕ → Option Fault → List ColumnDef → Modification → List Slot → List (Restriction (Unit {0})) → Change
change_with table missing columns m slots keys = record {
  fault = lower missing (change_fault columns m slots keys);
  table = table;
  columns = columns;
  slots = slots;
  action = action_of columns keys m;
  guard = guard_of m;
  shown = shown_by columns slots (guard_of m);
}

abbrev pub change_in : Option Table → Modification → Change
change_in t m =
    change_with (number_in t) (table_fault t) (columns_in t) m (slots_of (columns_in t) m) (keys_of (slots_of (columns_in t) m))

abbrev pub change_of : Book → Option (List ℕ) → Modification → Change
change_of b used m = change_in (table_named b used (table_of_modification m)) m

-- ---- SELECT

abbrev pub read_with : ℕ → Option Fault → List ColumnDef → Select → List Slot → List (Restriction (Unit {0})) → List ℕ → Read
read_with table missing columns s slots keys places = record {
  fault = lower missing (select_fault columns slots keys places s.orders);
  table = table;
  columns = columns;
  slots = slots;
  reversed = reverses columns s.orders;
  shown = shown_of columns places s.selection;
}

abbrev pub read_in : Option Table → Select → Read
read_in t s =
    read_with (number_in t) (table_fault t) (columns_in t) s (select_slots (columns_in t) s) (keys_of (select_slots (columns_in t) s))
    (shown_places (columns_in t) s.selection)

abbrev pub read_of : Book → Option (List ℕ) → Select → Read
read_of b used s = read_in (table_named b used s.table) s

-- ---- BATCH

abbrev pub batch_of : Book → Option (List ℕ) → BatchStatement → Batch
batch_of b used x = record { slots = stamp_slots x.stamp; changes = map (change_of b used) x.statements }

-- ---- statements

abbrev pub use_in : Book → List ℕ → UseKeyspace
use_in b name = record { name = name; is_there = is_some (keyspace_at b name) }

abbrev pub outline_of : Book → Option (List ℕ) → Statement → Prepared
outline_of b used (statement.CreateKeyspace c) = prepared.Create
outline_of b used (statement.CreateTable c) = prepared.Create
outline_of b used (statement.Use u) = prepared.Use (use_in b u.keyspace)
outline_of b used (statement.Insert i) = prepared.Change (change_of b used (modifications.Insert i))
outline_of b used (statement.Update u) = prepared.Change (change_of b used (modifications.Update u))
outline_of b used (statement.Delete d) = prepared.Change (change_of b used (modifications.Delete d))
outline_of b used (statement.Select s) = prepared.Read (read_of b used s)
outline_of b used (statement.Batch x) = prepared.Batch (batch_of b used x)

-- ---- the refusals that hold whatever a request gives

abbrev pub change_refusal : Change → Option Fault
change_refusal c = lower c.fault (own_fault c.slots)

-- a statement whose changes stand with others in a mutation wants no condition
abbrev pub condition_fault : Guard → Option Fault
condition_fault guard = if is_conditional guard then Some (fault.NotSupported feature.Condition) else None

abbrev pub lower_change : Option Fault → Change → Option Fault
lower_change f c = lower f (lower (condition_fault c.guard) (change_refusal c))

abbrev pub empty_fault : List Change → Option Fault
empty_fault [] = Some (fault.NotSupported feature.Batch)
empty_fault (c ∷ cs) = None

abbrev pub batch_refusal : Batch → Option Fault
batch_refusal x = lower (own_fault x.slots) (lower (fold lower_change None x.changes) (empty_fault x.changes))

abbrev pub refusal_of : Prepared → Option Fault
refusal_of prepared.Create = Some (fault.NotSupported feature.Create)
refusal_of (prepared.Use u) = if u.is_there then None else Some fault.UnknownKeyspace
refusal_of (prepared.Change c) = change_refusal c
refusal_of (prepared.Read r) = lower r.fault (own_fault r.slots)
refusal_of (prepared.Batch x) = batch_refusal x

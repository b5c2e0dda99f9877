-- What a statement asks for whatever its values are, and the refusals that need none.
use Rattle.std.specs.Prelude.{ℕ, ◌==◌, ◌||◌, ◌&&◌, not, nat_le, is_some, Bool, true, false, List, [], ◌∷◌, ◌++◌, Option, Some, None, if◌then◌else◌, length, map, fold, flat_map}
use Rattle.std.specs.List.{list_any, range_with_len}
use Rattle.cql_statement.specs.declared.modification.Condition.{Condition}
use Rattle.cql_statement.specs.declared.modification.Condition.TheVariants as conditions
use Rattle.cql_statement.specs.declared.modification.Modification.{Modification}
use Rattle.cql_statement.specs.declared.modification.Modification.TheVariants as modifications
use Rattle.cql_statement.specs.declared.schema.ColumnOrder.{ColumnOrder}
use Rattle.cql_statement.specs.declared.select.Select.{Select}
use Rattle.cql_statement.specs.declared.select.Selection.{Selection}
use Rattle.cql_statement.specs.declared.select.Selection.TheVariants as selections
use Rattle.cql_statement.specs.declared.term.TableName.{TableName}
use Rattle.key_restrictions.specs.Checks.{is_whole, misses_whole, misses_slice, is_twice, names_rows}
use Rattle.key_restrictions.specs.Places.{is_key_at}
use Rattle.key_restrictions.specs.declared.restriction.Restriction.{Restriction}
use Rattle.schema_book.specs.declared.table.ColumnDef.{ColumnDef}
use Rattle.statement_plan.specs.declared.fault.Fault.{Fault}
use Rattle.statement_plan.specs.declared.fault.Fault.TheVariants as fault
use Rattle.statement_plan.specs.declared.fault.Feature.{Feature}
use Rattle.statement_plan.specs.declared.fault.Feature.TheVariants as feature
use Rattle.statement_plan.specs.declared.plan.Columns.{Columns}
use Rattle.statement_plan.specs.declared.plan.Columns.TheVariants.{Listed, Count}
use Rattle.prepared_statement.specs.Names.{place_of, column_number}
use Rattle.prepared_statement.specs.Orders.{has_bad_order}
use Rattle.prepared_statement.specs.declared.change.Action.{Action}
use Rattle.prepared_statement.specs.declared.change.Action.TheVariants as actions
use Rattle.prepared_statement.specs.declared.change.Guard.{Guard}
use Rattle.prepared_statement.specs.declared.change.Guard.TheVariants as guards
use Rattle.prepared_statement.specs.declared.slot.Role.{Role}
use Rattle.prepared_statement.specs.declared.slot.Role.TheVariants as roles
use Rattle.prepared_statement.specs.declared.slot.Slot.{Slot}

-- ---- columns

-- all columns of a table, by number
abbrev pub all_numbers : List ColumnDef → List ℕ
all_numbers columns = map column_number (range_with_len 0 (length columns))

-- there is no column at the place
abbrev pub is_end : List ColumnDef → ℕ → Bool
is_end columns place = nat_le (length columns) place

-- ---- slots by their roles

abbrev pub key_by : Role → List (Restriction (Unit {0}))
key_by (roles.Key place operator) = record { column = place; operator = operator; value = tt } ∷ []
key_by _ = []

-- the relations on the key, without their values
abbrev pub keys_of : List Slot → List (Restriction (Unit {0}))
keys_of slots = flat_map (λ s. key_by s.role) slots

abbrev pub is_unknown : List ColumnDef → Role → Bool
is_unknown columns (roles.Key place operator) = is_end columns place
is_unknown columns (roles.Filter place) = is_end columns place
is_unknown columns (roles.Cell place) = is_end columns place
is_unknown columns (roles.Test place operator) = is_end columns place
is_unknown columns (roles.Unfilled place) = is_end columns place
is_unknown columns _ = false

-- some slot is of a column that the table has not
abbrev pub names_unknown : List ColumnDef → List Slot → Bool
names_unknown columns slots = list_any (λ s. is_unknown columns s.role) slots

abbrev pub sets_key_by : List ColumnDef → Role → Bool
sets_key_by columns (roles.Cell place) = is_key_at columns place
sets_key_by columns _ = false

abbrev pub sets_key : List ColumnDef → List Slot → Bool
sets_key columns slots = list_any (λ s. sets_key_by columns s.role) slots

abbrev pub filters_by : Role → Bool
filters_by (roles.Filter place) = true
filters_by _ = false

abbrev pub filters : List Slot → Bool
filters slots = list_any (λ s. filters_by s.role) slots

abbrev pub tests_key_by : List ColumnDef → Role → Bool
tests_key_by columns (roles.Test place operator) = is_key_at columns place
tests_key_by columns _ = false

abbrev pub tests_key : List ColumnDef → List Slot → Bool
tests_key columns slots = list_any (λ s. tests_key_by columns s.role) slots

abbrev pub is_stamp : Role → Bool
is_stamp roles.Timestamp = true
is_stamp _ = false

abbrev pub has_stamp : List Slot → Bool
has_stamp slots = list_any (λ s. is_stamp s.role) slots

-- ---- what is asked for

abbrev pub table_of_modification : Modification → TableName
table_of_modification (modifications.Insert i) = i.table
table_of_modification (modifications.Update u) = u.table
table_of_modification (modifications.Delete d) = d.table

abbrev pub is_update : Modification → Bool
is_update (modifications.Insert i) = false
is_update (modifications.Update u) = true
is_update (modifications.Delete d) = false

abbrev pub is_none_named : List (List ℕ) → Bool
is_none_named [] = true
is_none_named (name ∷ names) = false

-- a DELETE that names no columns
abbrev pub deletes_rows : Modification → Bool
deletes_rows (modifications.Insert i) = false
deletes_rows (modifications.Update u) = false
deletes_rows (modifications.Delete d) = is_none_named d.columns

-- the row that the whole key names, or rows of a partition, or all of it
abbrev pub deleted : List ColumnDef → List (Restriction (Unit {0})) → Action
deleted columns keys =
    if is_whole columns keys then actions.DeleteRow else if names_rows columns keys then actions.DeleteRows else actions.DeletePartition

abbrev pub action_of : List ColumnDef → List (Restriction (Unit {0})) → Modification → Action
action_of columns keys (modifications.Insert i) = actions.Insert
action_of columns keys (modifications.Update u) = actions.Set
action_of columns keys (modifications.Delete d) = if is_none_named d.columns then deleted columns keys else actions.Set

abbrev pub guard_by : Option Condition → Guard
guard_by None = guards.Always
guard_by (Some conditions.Exists) = guards.Exists
guard_by (Some (conditions.Tests tests)) = guards.Tests

abbrev pub insert_guard : Bool → Guard
insert_guard if_not_exists = if if_not_exists then guards.NotExists else guards.Always

abbrev pub guard_of : Modification → Guard
guard_of (modifications.Insert i) = insert_guard i.if_not_exists
guard_of (modifications.Update u) = guard_by u.condition
guard_of (modifications.Delete d) = guard_by d.condition

abbrev pub is_conditional : Guard → Bool
is_conditional guards.Always = false
is_conditional guards.NotExists = true
is_conditional guards.Exists = true
is_conditional guards.Tests = true

-- ---- what is shown where a condition fails

abbrev pub with_number : List ℕ → ℕ → List ℕ
with_number numbers number = if list_any (λ n. n == number) numbers then numbers else numbers ++ number ∷ []

abbrev pub with_tested : List ℕ → Role → List ℕ
with_tested numbers (roles.Test place operator) = with_number numbers (column_number place)
with_tested numbers _ = numbers

-- the columns that are tested, each once, as they first stand
abbrev pub tested_numbers : List Slot → List ℕ
tested_numbers slots = fold (λ numbers s. with_tested numbers s.role) [] slots

abbrev pub shown_by : List ColumnDef → List Slot → Guard → List ℕ
shown_by columns slots guards.Always = []
shown_by columns slots guards.NotExists = all_numbers columns
shown_by columns slots guards.Exists = all_numbers columns
shown_by columns slots guards.Tests = tested_numbers slots

-- ---- refusals of a statement that changes rows

-- only a DELETE of rows without a condition may leave clustering columns open
abbrev pub misses_key : List ColumnDef → List (Restriction (Unit {0})) → Modification → Bool
misses_key columns keys m =
    if deletes_rows m && not (is_conditional (guard_of m)) then misses_slice columns keys else misses_whole columns keys

-- SET of a key column gives it a second value
abbrev pub fixes_twice : List ColumnDef → List (Restriction (Unit {0})) → Modification → List Slot → Bool
fixes_twice columns keys m slots = is_twice columns keys || is_update m && sets_key columns slots

abbrev pub is_timed_condition : Modification → List Slot → Bool
is_timed_condition m slots = is_conditional (guard_of m) && has_stamp slots

abbrev pub deletes_key : List ColumnDef → Modification → List Slot → Bool
deletes_key columns m slots = not (is_update m) && sets_key columns slots

-- by its place in the text
abbrev pub feature_of : List ColumnDef → Modification → List Slot → Option Feature
feature_of columns m slots =
    if deletes_key columns m slots then Some feature.DeletedKey
    else if filters slots then Some feature.Filtering
    else if tests_key columns slots then Some feature.Condition
    else None

abbrev pub unsupported : Option Feature → Option Fault
unsupported None = None
unsupported (Some f) = Some (fault.NotSupported f)

abbrev pub change_fault : List ColumnDef → Modification → List Slot → List (Restriction (Unit {0})) → Option Fault
change_fault columns m slots keys =
    if names_unknown columns slots then Some fault.UnknownColumn
    else if misses_key columns keys m then Some fault.KeyMissing
    else if fixes_twice columns keys m slots then Some fault.KeyTwice
    else if is_timed_condition m slots then Some fault.TimestampOnCondition
    else unsupported (feature_of columns m slots)

-- ---- SELECT

abbrev pub shown_places : List ColumnDef → Selection → List ℕ
shown_places columns selections.All = []
shown_places columns (selections.Columns names) = map (place_of columns) names
shown_places columns selections.Count = []

abbrev pub shown_of : List ColumnDef → List ℕ → Selection → Columns
shown_of columns places selections.All = Listed (all_numbers columns)
shown_of columns places (selections.Columns names) = Listed (map column_number places)
shown_of columns places selections.Count = Count

abbrev pub orders_unknown : List ColumnDef → List ColumnOrder → Bool
orders_unknown columns os = list_any (λ o. is_end columns (place_of columns o.column)) os

abbrev pub selects_unknown : List ColumnDef → List Slot → List ℕ → List ColumnOrder → Bool
selects_unknown columns slots places os = list_any (is_end columns) places || (names_unknown columns slots || orders_unknown columns os)

abbrev pub select_feature : List ColumnDef → List Slot → List ColumnOrder → Option Feature
select_feature columns slots os =
    if filters slots then Some feature.Filtering else if has_bad_order columns os then Some feature.OrderBy else None

abbrev pub select_fault : List ColumnDef → List Slot → List (Restriction (Unit {0})) → List ℕ → List ColumnOrder → Option Fault
select_fault columns slots keys places os =
    if selects_unknown columns slots places os then Some fault.UnknownColumn
    else if misses_slice columns keys then Some fault.KeyMissing
    else if is_twice columns keys then Some fault.KeyTwice
    else unsupported (select_feature columns slots os)

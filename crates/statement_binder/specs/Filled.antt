-- The slots of a statement with their values: what of them is used, and the lowest refusal.
use Rattle.std.specs.Prelude.{ℕ, ℤ, ◌+◌, nat_lt, Bool, true, false, List, [], ◌∷◌, ◌++◌, Option, Some, None, if◌then◌else◌, fold, insert, option_map}
use Rattle.std.specs.Result.{result_ok}
use Rattle.cql_statement.specs.declared.term.RelationOperator.{RelationOperator}
use Rattle.cql_statement.specs.declared.term.TestOperator.{TestOperator}
use Rattle.cql_statement.specs.declared.term.TestOperator.TheVariants as operators
use Rattle.cql_values.specs.Protocol.{decoded, value_bytes}
use Rattle.cql_values.specs.declared.value.CqlType.{CqlType}
use Rattle.cql_values.specs.declared.value.CqlValue.{CqlValue}
use Rattle.condition_test.specs.Laws.{order_of_type}
use Rattle.statement_plan.specs.Faults.{lower}
use Rattle.statement_plan.specs.declared.fault.Fault.{Fault}
use Rattle.statement_plan.specs.declared.fault.Fault.TheVariants as fault
use Rattle.statement_plan.specs.declared.operation.Compare.{Compare}
use Rattle.statement_plan.specs.declared.operation.Compare.TheVariants as compares
use Rattle.statement_values.specs.Supply.{next_given, left_of}
use Rattle.statement_values.specs.declared.params.Param.{Param}
use Rattle.statement_values.specs.declared.params.Param.TheVariants.{Null, NotSet, Given}
use Rattle.statement_values.specs.declared.params.Params.{Params}
use Rattle.prepared_statement.specs.Faults.{value_at, is_marker, slot_fault, int_in, bigint_in}
use Rattle.prepared_statement.specs.Names.{column_number}
use Rattle.prepared_statement.specs.declared.slot.Role.{Role}
use Rattle.prepared_statement.specs.declared.slot.Role.TheVariants as roles
use Rattle.prepared_statement.specs.declared.slot.Slot.{Slot}
use Rattle.statement_binder.specs.declared.filled.CellValue.{CellValue}
use Rattle.statement_binder.specs.declared.filled.Filled.{Filled}

-- ---- a value

-- the value of the type
abbrev pub value_in : CqlType → Option Param → Option CqlValue
value_in ty None = None
value_in ty (Some Null) = None
value_in ty (Some NotSet) = None
value_in ty (Some (Given bytes)) = result_ok (decoded ty bytes)

-- its bytes as they are stored
abbrev pub stored : CqlType → List ℕ → Option (List ℕ)
stored ty bytes = option_map value_bytes (result_ok (decoded ty bytes))

-- a value or null, where one is set
abbrev pub written : CqlType → Option Param → Option (Option (List ℕ))
written ty None = None
written ty (Some Null) = Some None
written ty (Some NotSet) = None
written ty (Some (Given bytes)) = option_map Some (stored ty bytes)

abbrev pub timestamp_in : Option Param → Option ℤ
timestamp_in None = None
timestamp_in (Some Null) = None
timestamp_in (Some NotSet) = None
timestamp_in (Some (Given bytes)) = bigint_in bytes

abbrev pub limit_in : Option Param → Option ℤ
limit_in None = None
limit_in (Some Null) = None
limit_in (Some NotSet) = None
limit_in (Some (Given bytes)) = int_in bytes

-- ---- by the role of its slot

abbrev pub compare_of : TestOperator → Compare
compare_of operators.Equal = compares.Equal
compare_of operators.NotEqual = compares.NotEqual
compare_of operators.Less = compares.Less
compare_of operators.LessOrEqual = compares.LessOrEqual
compare_of operators.Greater = compares.Greater
compare_of operators.GreaterOrEqual = compares.GreaterOrEqual

abbrev pub with_key : Filled → ℕ → RelationOperator → Option CqlValue → Filled
with_key f place operator None = f
with_key f place operator (Some v) = record f { keys = f.keys ++ record { column = place; operator = operator; value = v } ∷ [] }

-- the place of the first cell of a later column, from this place on
abbrev pub place_from : ℕ → ℕ → List CellValue → ℕ
place_from column place [] = place
place_from column place (c ∷ cs) = if nat_lt column c.column then place else place_from column (place + 1) cs

abbrev pub place_for : List CellValue → ℕ → ℕ
place_for cells column = place_from column 0 cells

-- cells stand by their columns, and those of one column as they come
abbrev pub with_cell : Filled → ℕ → Option (Option (List ℕ)) → Filled
with_cell f place None = f
with_cell f place (Some value) = record f {
  cells = insert f.cells (place_for f.cells (column_number place)) (record { column = column_number place; value = value });
}

abbrev pub with_test : Filled → ℕ → TestOperator → CqlType → Option (Option (List ℕ)) → Filled
with_test f place operator ty None = f
with_test f place operator ty (Some value) = record f {
  tests = f.tests ++ record { column = column_number place; compare = compare_of operator; value = value; order = order_of_type ty } ∷ [];
}

abbrev pub by_role : Filled → Role → CqlType → Option Param → Filled
by_role f (roles.Key place operator) ty p = with_key f place operator (value_in ty p)
by_role f (roles.Filter place) ty p = f
by_role f (roles.Cell place) ty p = with_cell f place (written ty p)
by_role f (roles.Test place operator) ty p = with_test f place operator ty (written ty p)
by_role f roles.Timestamp ty p = record f { timestamp = timestamp_in p }
by_role f roles.Limit ty p = record f { limit = limit_in p }
by_role f (roles.Unfilled place) ty p = f
by_role f roles.Unplaced ty p = f

-- what is refused of a slot says that its value is none of its type
abbrev pub is_mismatch : Fault → Bool
is_mismatch fault.TypeMismatch = true
is_mismatch _ = false

abbrev pub tells_mismatch : Option Fault → Bool
tells_mismatch None = false
tells_mismatch (Some f) = is_mismatch f

-- what is said of the bytes of a value, where it has some
abbrev pub IfGiven : (List ℕ → Type 0) → Option Param → Type 0
IfGiven P None = Unit {0}
IfGiven P (Some Null) = Unit {0}
IfGiven P (Some NotSet) = Unit {0}
IfGiven P (Some (Given bytes)) = P bytes

-- the slot is for a cell or a test, whose bytes are kept
abbrev pub IsWritten : Role → Type 0
IsWritten (roles.Key place operator) = ⊥
IsWritten (roles.Filter place) = ⊥
IsWritten (roles.Cell place) = Unit {0}
IsWritten (roles.Test place operator) = Unit {0}
IsWritten roles.Timestamp = ⊥
IsWritten roles.Limit = ⊥
IsWritten (roles.Unfilled place) = ⊥
IsWritten roles.Unplaced = ⊥

abbrev pub with_fault : Filled → Option Fault → Filled
with_fault f told = record f { fault = lower f.fault told }

-- one slot more, with what a request gives for its marker
abbrev pub with_slot : Filled → Slot → Option Param → Filled
with_slot f s given = by_role (with_fault f (slot_fault s given)) s.role s.ty (value_at s.stands given)

-- ---- all slots, one after another

abbrev pub given_to : Params → Slot → Option Param
given_to left s = if is_marker s.stands then next_given left s.name else None

-- the values for the slots that follow
abbrev pub behind : Params → Slot → Params
behind left s = if is_marker s.stands then left_of left else left

abbrev pub left_after : Params → List Slot → Params
left_after left slots = fold behind left slots

abbrev pub filled_from : Filled → Params → List Slot → Filled
filled_from f left [] = f
filled_from f left (s ∷ ss) = filled_from (with_slot f s (given_to left s)) (behind left s) ss

abbrev pub unfilled : Filled
unfilled = record { fault = None; keys = []; cells = []; tests = []; timestamp = None; limit = None }

abbrev pub filled_of : Params → List Slot → Filled
filled_of left slots = filled_from unfilled left slots

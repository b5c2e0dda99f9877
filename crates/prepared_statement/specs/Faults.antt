-- What is wrong with the value of a slot. Each refusal is said by itself; of several that hold the lowest is told.
use Rattle.std.specs.Prelude.{ℕ, ℤ, pos, negsuc, ◌||◌, ◌&&◌, ◌==◌, not, nat_lt, is_none, is_ok, Bool, true, false, List, Option, Some, None, if◌then◌else◌, length, fold}
use Rattle.std.specs.Int.{w32, w64, cast_signed, from_be_bytes}
use Rattle.cql_values.specs.Protocol.{decoded}
use Rattle.cql_values.specs.declared.value.CqlType.{CqlType}
use Rattle.statement_plan.specs.Faults.{lower}
use Rattle.statement_plan.specs.declared.fault.Fault.{Fault}
use Rattle.statement_plan.specs.declared.fault.Fault.TheVariants as fault
use Rattle.statement_values.specs.declared.params.Param.{Param}
use Rattle.statement_values.specs.declared.params.Param.TheVariants.{Null, NotSet, Given}
use Rattle.prepared_statement.specs.declared.slot.Role.{Role}
use Rattle.prepared_statement.specs.declared.slot.Role.TheVariants as roles
use Rattle.prepared_statement.specs.declared.slot.Slot.{Slot}
use Rattle.prepared_statement.specs.declared.slot.Stands.{Stands}
use Rattle.prepared_statement.specs.declared.slot.Stands.TheVariants.{Own, Mismatched, Marker}

-- ---- the value of a slot

-- what stands there, or what the request gives for its marker
abbrev pub value_at : Stands → Option Param → Option Param
value_at (Own p) given = Some p
value_at Mismatched given = None
value_at Marker given = given

-- the bytes are a value of the type
abbrev pub fits : CqlType → List ℕ → Bool
fits ty bytes = is_ok (decoded ty bytes)

-- the number of these bytes, in two's complement
abbrev pub int_in : List ℕ → Option ℤ
int_in bytes = if length bytes == 4 then Some (cast_signed w32 (from_be_bytes w32 bytes)) else None

abbrev pub bigint_in : List ℕ → Option ℤ
bigint_in bytes = if length bytes == 8 then Some (cast_signed w64 (from_be_bytes w64 bytes)) else None

-- ---- roles

-- a column and a value of an INSERT stand in pairs
abbrev pub is_lone : Role → Bool
is_lone (roles.Unfilled place) = true
is_lone roles.Unplaced = true
is_lone _ = false

abbrev pub is_key_role : Role → Bool
is_key_role (roles.Key place operator) = true
is_key_role _ = false

-- ---- a value that is none of its type

-- a timestamp and a limit are numbers, where they are set
abbrev pub refuses_null : Role → Bool
refuses_null roles.Timestamp = true
refuses_null roles.Limit = true
refuses_null _ = false

-- a condition compares with a value or with null
abbrev pub refuses_unset : Role → Bool
refuses_unset (roles.Test place operator) = true
refuses_unset _ = false

abbrev pub is_positive : ℤ → Bool
is_positive (pos n) = nat_lt 0 n
is_positive (negsuc n) = false

abbrev pub is_count : Option ℤ → Bool
is_count None = false
is_count (Some n) = is_positive n

-- a limit is at least 1
abbrev pub suits : Role → List ℕ → Bool
suits roles.Limit bytes = is_count (int_in bytes)
suits _ bytes = true

abbrev pub is_wrong : Role → CqlType → Option Param → Bool
is_wrong role ty None = false
is_wrong role ty (Some Null) = refuses_null role
is_wrong role ty (Some NotSet) = refuses_unset role
is_wrong role ty (Some (Given bytes)) = not (fits ty bytes && suits role bytes)

abbrev pub is_mismatched : Stands → Bool
is_mismatched (Own p) = false
is_mismatched Mismatched = true
is_mismatched Marker = false

abbrev pub mismatches : Slot → Option Param → Bool
mismatches s given = not (is_lone s.role) && (is_mismatched s.stands || is_wrong s.role s.ty (value_at s.stands given))

-- ---- a value that is missing

abbrev pub is_marker : Stands → Bool
is_marker (Own p) = false
is_marker Mismatched = false
is_marker Marker = true

-- a marker for which the request gives nothing, a column without a value, or a value without a column
abbrev pub misses : Slot → Option Param → Bool
misses s given = is_lone s.role || is_marker s.stands && is_none given

-- ---- a key column without a value

abbrev pub is_absent : Option Param → Bool
is_absent None = false
is_absent (Some Null) = true
is_absent (Some NotSet) = true
is_absent (Some (Given bytes)) = false

abbrev pub is_null_key : Slot → Option Param → Bool
is_null_key s given = is_key_role s.role && is_absent (value_at s.stands given)

-- ---- a long value

-- 1 MiB
abbrev pub most_value_bytes : ℕ
most_value_bytes = 1048576

abbrev pub is_long_param : Option Param → Bool
is_long_param None = false
is_long_param (Some Null) = false
is_long_param (Some NotSet) = false
is_long_param (Some (Given bytes)) = nat_lt most_value_bytes (length bytes)

abbrev pub is_long : Slot → Option Param → Bool
is_long s given = is_long_param (value_at s.stands given)

-- ---- the lowest

abbrev pub slot_fault : Slot → Option Param → Option Fault
slot_fault s given =
    if mismatches s given then Some fault.TypeMismatch
    else if misses s given then Some fault.ValueCount
    else if is_null_key s given then Some fault.NullKey
    else if is_long s given then Some fault.ValueTooLong
    else None

-- what is wrong with a slot whatever a request gives: for its marker it may give a value
abbrev pub own_slot_fault : Slot → Option Fault
own_slot_fault s = if is_marker s.stands && not (is_lone s.role) then None else slot_fault s None

abbrev pub lower_own : Option Fault → Slot → Option Fault
lower_own f s = lower f (own_slot_fault s)

abbrev pub own_fault : List Slot → Option Fault
own_fault slots = fold lower_own None slots

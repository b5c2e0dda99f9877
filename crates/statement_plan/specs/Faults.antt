-- Why statements are refused, and which of several refusals is told.
use Rattle.std.specs.Prelude.{ℕ, List, nat_lt, if◌then◌else◌, codes, Option, Some, None}
use Rattle.statement_plan.specs.declared.fault.Fault.{Fault}
use Rattle.statement_plan.specs.declared.fault.Fault.TheVariants as fault

abbrev pub name_of : Fault → List ℕ
name_of fault.UnknownTable = codes "UnknownTable"
name_of fault.UnknownColumn = codes "UnknownColumn"
name_of fault.KeyMissing = codes "KeyMissing"
name_of fault.KeyTwice = codes "KeyTwice"
name_of fault.TypeMismatch = codes "TypeMismatch"
name_of fault.ValueCount = codes "ValueCount"
name_of fault.NullKey = codes "NullKey"
name_of fault.TimestampOnCondition = codes "TimestampOnCondition"
name_of (fault.NotSupported feature) = codes "NotSupported"
name_of fault.ValueTooLong = codes "ValueTooLong"
name_of fault.KeyTooLong = codes "KeyTooLong"
name_of fault.EmptyKey = codes "EmptyKey"
name_of fault.MutationTooLong = codes "MutationTooLong"
name_of fault.UnknownKeyspace = codes "UnknownKeyspace"

abbrev pub number_of : Fault → ℕ
number_of fault.UnknownTable = 1
number_of fault.UnknownColumn = 2
number_of fault.KeyMissing = 3
number_of fault.KeyTwice = 4
number_of fault.TypeMismatch = 5
number_of fault.ValueCount = 6
number_of fault.NullKey = 7
number_of fault.TimestampOnCondition = 8
number_of (fault.NotSupported feature) = 9
number_of fault.ValueTooLong = 10
number_of fault.KeyTooLong = 11
number_of fault.EmptyKey = 12
number_of fault.MutationTooLong = 13
number_of fault.UnknownKeyspace = 14

-- the one with the lower number, and the first where they are equal
abbrev pub lower_of : Fault → Fault → Fault
lower_of f g = if nat_lt (number_of g) (number_of f) then g else f

abbrev pub lower : Option Fault → Option Fault → Option Fault
lower None g = g
lower (Some f) None = Some f
lower (Some f) (Some g) = Some (lower_of f g)

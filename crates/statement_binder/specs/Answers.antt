-- Answers that memory may want.
use Rattle.std.specs.Prelude.{◌≡◌, Option, Some, None, Result, Ok, Err}
use Rattle.statement_plan.specs.declared.fault.Fault.{Fault}
use Rattle.statement_plan.specs.declared.plan.Plan.{Plan}
use Rattle.statement_binder.specs.declared.error.BindError.{BindError}
use Rattle.statement_binder.specs.declared.error.BindError.TheVariants as error

-- What was answered is this, unless memory ran out
abbrev pub Gives : Result Plan BindError → Result Plan Fault → Type 0
Gives (Ok p) meaning = meaning ≡ Ok p
Gives (Err (error.Refused f)) meaning = meaning ≡ Err f
Gives (Err error.NoMemory) meaning = Unit {0}

-- a refusal, if there is one
abbrev pub checked : Option Fault → Result (Unit {0}) BindError
checked None = Ok tt
checked (Some f) = Err (error.Refused f)

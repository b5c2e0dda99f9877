-- What is so of all answers.
use Rattle.std.specs.Prelude.{ℕ, ℤ, List, Option, Some, None, Result, Ok, Err}
use Rattle.cql_statement.specs.declared.statement.Statement.{Statement}
use Rattle.schema_book.specs.Books.{Book}
use Rattle.statement_plan.specs.declared.fault.Fault.{Fault}
use Rattle.statement_plan.specs.declared.plan.Plan.{Plan}
use Rattle.prepared_statement.specs.Prepared.{outline_of, refusal_of}
use Rattle.statement_binder.specs.Meanings.{Answers}
use Rattle.statement_binder.specs.Plans.{plan_of}
use Rattle.statement_binder.specs.Refusals.{Holds, IsLowest, IsRefusedFor, lasting_refusals, refusals_of}
use Rattle.statement_binder.specs.Supplies.{Left}
use Rattle.statement_binder.specs.declared.error.BindError.{BindError}
use Rattle.statement_binder.specs.declared.error.BindError.TheVariants as error

abbrev pub TellsLowest : (Fault → Type 0) → Result Plan BindError → Type 0
TellsLowest P (Ok p) = IsLowest P None
TellsLowest P (Err (error.Refused f)) = IsLowest P (Some f)
TellsLowest P (Err error.NoMemory) = Unit {0}

-- Where a statement is refused, that refusal holds, and none that stands before it does; where it has a plan none holds.
abbrev pub LowestIsTold : Type 0
LowestIsTold = (b : Book) (used : Option (List ℕ)) (left : Left) (timestamp : Option ℤ) (s : Statement) (answer : Result Plan BindError)
    → Answers answer (plan_of (outline_of b used s) left timestamp) → TellsLowest (IsRefusedFor b used left timestamp s) answer

-- What a statement is refused for before its values are known is the lowest of the refusals that hold for all values alike.
abbrev pub PreparingTellsLowest : Type 0
PreparingTellsLowest = (b : Book) (used : Option (List ℕ)) (s : Statement) → IsLowest (Holds (lasting_refusals b used s)) (refusal_of (outline_of b used s))

-- These refusals hold with all values.
abbrev pub LastingRefusalsHold : Type 0
LastingRefusalsHold = (b : Book) (used : Option (List ℕ)) (left : Left) (timestamp : Option ℤ) (s : Statement) (f : Fault)
    → Holds (lasting_refusals b used s) f → Holds (refusals_of b used left timestamp s) f

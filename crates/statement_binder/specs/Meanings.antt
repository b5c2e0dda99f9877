-- What a statement means for a schema, a keyspace in use, and the values of a request.
use Rattle.std.specs.Prelude.{◌≡◌, ℕ, ℤ, true, false, List, Option, Some, None, Result, Ok, Err}
use Rattle.changes.specs.declared.Draft.{Draft}
use Rattle.changes.specs.declared.Partition.{Partition}
use Rattle.cql_statement.specs.declared.statement.Statement.{Statement}
use Rattle.mutation_drafts.specs.Kept.{IsKept}
use Rattle.mutation_drafts.specs.Counted.{is_long_mutation}
use Rattle.schema_book.specs.Books.{Book}
use Rattle.statement_plan.specs.declared.fault.Fault.{Fault}
use Rattle.statement_plan.specs.declared.fault.Fault.TheVariants as fault
use Rattle.statement_plan.specs.declared.operation.ConditionalOperation.{ConditionalOperation}
use Rattle.statement_plan.specs.declared.plan.Plan.{Plan}
use Rattle.statement_plan.specs.declared.plan.Plan.TheVariants as plan
use Rattle.statement_values.specs.declared.params.Params.{Params}
use Rattle.statement_binder.specs.declared.error.BindError.{BindError}
use Rattle.statement_binder.specs.declared.error.BindError.TheVariants as error
use Rattle.prepared_statement.specs.Prepared.{outline_of, refusal_of}
use Rattle.prepared_statement.specs.declared.prepared.Prepared.{Prepared}
use Rattle.statement_binder.specs.Plans.{plan_of}
use Rattle.statement_binder.specs.Supplies.{whole}

-- The plan of a statement, with all changes that it asks for, or the lowest refusal that holds but for the length of the
-- mutation. The timestamp is the one that the protocol gives
abbrev pub meaning_of : Book → Option (List ℕ) → Params → Option ℤ → Statement → Result Plan Fault
meaning_of b used params timestamp s = plan_of (outline_of b used s) (whole params) timestamp

-- ---- of changes of one place the one that beats stays

-- the changes that stay of these, within the length of a mutation
abbrev pub Settles : Partition → List Draft → List Draft → Type 0
Settles partition kept all = IsKept kept all × (is_long_mutation (record { partition = partition; changes = kept }) ≡ false)

-- what stays is too long
abbrev pub IsTooLong : Partition → List Draft → Type 0
IsTooLong partition all = (kept : List Draft) × IsKept kept all × (is_long_mutation (record { partition = partition; changes = kept }) ≡ true)

-- an operation with these changes in place of its own
abbrev pub with_changes : ConditionalOperation → List Draft → ConditionalOperation
with_changes o drafts = record o { changes = drafts }

-- the plan, of which all changes are those of the other
abbrev pub IsPlanOf : Plan → Plan → Type 0
IsPlanOf p (plan.Write m) = (kept : List Draft) × (p ≡ plan.Write (record { partition = m.partition; changes = kept })) × Settles m.partition kept m.changes
IsPlanOf p (plan.Read query columns) = p ≡ plan.Read query columns
IsPlanOf p (plan.Conditional o) = (kept : List Draft) × (p ≡ plan.Conditional (with_changes o kept)) × Settles o.partition kept o.changes
IsPlanOf p (plan.Use name) = p ≡ plan.Use name

abbrev pub IsLongPlan : Plan → Type 0
IsLongPlan (plan.Write m) = IsTooLong m.partition m.changes
IsLongPlan (plan.Read query columns) = ⊥
IsLongPlan (plan.Conditional o) = IsTooLong o.partition o.changes
IsLongPlan (plan.Use name) = ⊥

-- a refusal is the one that the statement means, or its mutation is too long
abbrev pub IsRefusal : Fault → Result Plan Fault → Type 0
IsRefusal f (Err g) = f ≡ g
IsRefusal f (Ok p) = (f ≡ fault.MutationTooLong) × IsLongPlan p

abbrev pub IsPlan : Plan → Result Plan Fault → Type 0
IsPlan p (Ok q) = IsPlanOf p q
IsPlan p (Err g) = ⊥

-- What was answered is this, unless memory ran out
abbrev pub Answers : Result Plan BindError → Result Plan Fault → Type 0
Answers (Ok p) meaning = IsPlan p meaning
Answers (Err (error.Refused f)) meaning = IsRefusal f meaning
Answers (Err error.NoMemory) meaning = Unit {0}

-- what was prepared is this, where nothing of it is refused whatever its values are, unless memory ran out
abbrev pub IsPreparedAs : Result Prepared BindError → Prepared → Type 0
IsPreparedAs (Ok p) outline = (p ≡ outline) × (refusal_of outline ≡ None)
IsPreparedAs (Err (error.Refused f)) outline = refusal_of outline ≡ Some f
IsPreparedAs (Err error.NoMemory) outline = Unit {0}

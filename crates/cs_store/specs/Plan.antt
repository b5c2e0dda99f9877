-- Faults to come.
use Rattle.std.proofs.Math.Nat.{lt_of_le_of_lt}
use Rattle.std.specs.Prelude.{ℕ, ◌-◌, ◌<◌, ◌≤◌, Bool, true, false, ◌&&◌, ◌||◌, ◌==◌, not, nat_lt, if◌then◌else◌, Option, Some, None, Result, Ok, Err}
use Rattle.cs_base.specs.declared.failed.Failed.{Failed}
use Rattle.cs_store.specs.declared.mem_file.Outcome.{Outcome}
use Rattle.cs_store.specs.declared.plan.Fault.{Fault}
use Rattle.cs_store.specs.declared.plan.Fault.TheVariants.{Fail, Stop}
use Rattle.cs_store.specs.declared.plan.Plan.{Plan}

abbrev pub fails : Fault → Bool
fails Fail = true
fails (Stop outcome) = false

-- the sooner of two: at one call a failure, and else the one that was planned first
abbrev pub sooner : Option Plan → Plan → Plan
sooner None new = new
sooner (Some old) new = if nat_lt new.calls old.calls || ((new.calls == old.calls) && fails new.fault) then new else old

-- no fault comes at the next n calls
abbrev pub IsBehind : ℕ → Option Plan → Type 0
IsBehind n None = Unit {0}
IsBehind n (Some plan) = n < plan.calls

pub behind_fewer : (plan : Option Plan) (m n : ℕ) → n ≤ m → IsBehind m plan → IsBehind n plan
behind_fewer None m n le behind = tt
behind_fewer (Some plan) m n le behind = lt_of_le_of_lt le behind

-- how a call begins: it fails, or goes on, and the node may stop at its end with an outcome
abbrev pub begin_by : Fault → Result (Option Outcome) Failed
begin_by Fail = Err (record {})
begin_by (Stop outcome) = Ok (Some outcome)

abbrev pub begin_of : Bool → Option Plan → Result (Option Outcome) Failed
begin_of true plan = Err (record {})
begin_of false None = Ok None
begin_of false (Some plan) = if nat_lt 1 plan.calls then Ok None else begin_by plan.fault

-- what is still to come after a call
abbrev pub plan_after : Bool → Option Plan → Option Plan
plan_after true plan = plan
plan_after false None = None
plan_after false (Some plan) = if nat_lt 1 plan.calls then Some (record { calls = plan.calls - 1; fault = plan.fault }) else None

-- whether the node is stopped after a call
abbrev pub stopped_after : Bool → Option Plan → Bool
stopped_after true plan = true
stopped_after false None = false
stopped_after false (Some plan) = if nat_lt 1 plan.calls then false else not (fails plan.fault)

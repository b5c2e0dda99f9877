-- Faults that a store was told.
use Rattle.std.specs.Prelude.{ℕ, zero, suc, Bool, true, false, not, ◌&&◌, Option, Some, List, [], ◌∷◌}
use Rattle.std.specs.List.{list_any}
use Rattle.cs_store.specs.declared.mem.MemStore.{MemStore}
use Rattle.cs_store.specs.declared.plan.Fault.TheVariants as store_fault
use Rattle.cs_store.specs.declared.plan.Plan.{Plan}
use Rattle.cs_store.specs.Mem.{spares}
use Rattle.cs_store.specs.Plan.{sooner}
use Rattle.cluster_model.specs.declared.told.Told.{Told}
use Rattle.cluster_model.specs.declared.told.Told.TheVariants.{Fail, Stop}

-- no call of the store fails
abbrev pub NeverFails : MemStore → Type 0
NeverFails s = (n : ℕ) → spares s n

abbrev pub is_fail : Told → Bool
is_fail (Fail j) = true
is_fail (Stop j outcome) = false

abbrev pub has_fail : List Told → Bool
has_fail told = list_any is_fail told

abbrev pub has_stop : List Told → Bool
has_stop told = list_any (λ x. not (is_fail x)) told

-- whether a call failed, of a node that stopped: by what its store was told, and whether the store has stopped it
abbrev pub is_failure : List Told → Bool → Bool
is_failure told stopped = has_fail told && not (has_stop told && stopped)

-- what is still to come at a store once it was told this: at call 0 nothing is
abbrev pub planned : Told → Option Plan → Option Plan
planned (Fail zero) plan = plan
planned (Fail (suc j)) plan = Some (sooner plan (record { calls = suc j; fault = store_fault.Fail }))
planned (Stop zero outcome) plan = plan
planned (Stop (suc j) outcome) plan = Some (sooner plan (record { calls = suc j; fault = store_fault.Stop outcome }))

-- and these, one after another
abbrev pub all_planned : List Told → Option Plan → Option Plan
all_planned [] plan = plan
all_planned (x ∷ xs) plan = all_planned xs (planned x plan)

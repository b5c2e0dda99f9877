-- Calls that keep what a replica kept, one after another.
use Rattle.std.proofs.Common.{ℕ, Option, List, refl, subst, ◌∙◌, arith}
use Rattle.cs_store.specs.Disk.{Disk}
use Rattle.durable_state.specs.State.{Durable, IsSameKept}
use Rattle.replica.specs.Calls.{Looked}
use Rattle.replica.specs.Finding.{AlwaysLeaves, IsSafe}
use Rattle.replica.proofs.Fronts.{leaves_on, leaves_still}
use Rattle.node_core.specs.Moving.{Peeks}

looked_still : {R : Type 0} (st : (ℕ → List ℕ) → Durable → Type 0) (disk : R → Disk) (durable : R → Durable) (r : R) → IsSafe st (durable r) (disk r) → Looked st disk durable r r
looked_still {R} st disk durable r safe = record { same = refl; leaves = leaves_still st (durable r) (disk r) safe }

looked_on : {R : Type 0} (st : (ℕ → List ℕ) → Durable → Type 0) (disk : R → Disk) (durable : R → Durable) (a b c : R) → Looked st disk durable a b → Looked st disk durable b c → Looked st disk durable a c
looked_on {R} st disk durable a b c first next = record {
  same = next.same ∙ first.same;
  leaves = leaves_on st (IsSameKept (durable a)) (disk a) (disk b) (disk c) first.leaves (subst (λ (d : Durable). AlwaysLeaves st (IsSameKept d) (disk b) (disk c)) first.same next.leaves);
}

pub peeks_none : {R : Type 0} (st : (ℕ → List ℕ) → Durable → Type 0) (disk : R → Disk) (durable : R → Durable) (log_end : R → ℕ) (since_flush : R → Option ℕ) (count : R → ℕ) (spares : R → ℕ → Type 0) (honest : Type 0) (r : R) → (honest → IsSafe st (durable r) (disk r)) → Peeks st disk durable log_end since_flush count spares honest r r
peeks_none {R} st disk durable log_end since_flush count spares honest r safe = record { looked = λ is. looked_still st disk durable r (safe is); log = refl; flushed = refl; faults = omega arith; spared = λ all. all }

pub peeks_on : {R : Type 0} (st : (ℕ → List ℕ) → Durable → Type 0) (disk : R → Disk) (durable : R → Durable) (log_end : R → ℕ) (since_flush : R → Option ℕ) (count : R → ℕ) (spares : R → ℕ → Type 0) (honest : Type 0) (a b c : R) → Peeks st disk durable log_end since_flush count spares honest a b → Peeks st disk durable log_end since_flush count spares honest b c
    → Peeks st disk durable log_end since_flush count spares honest a c
peeks_on {R} st disk durable log_end since_flush count spares honest a b c first next = record {
  looked = λ is. looked_on st disk durable a b c (first.looked is) (next.looked is);
  log = next.log ∙ first.log;
  flushed = next.flushed ∙ first.flushed;
  faults = let x = first.faults in let y = next.faults in omega arith;
  spared = λ all. next.spared (first.spared all);
}

-- What stores show of their nodes, before and after calls.
use Rattle.std.specs.Prelude.{◌≡◌, ℕ, Bool, List}

-- by the nodes' numbers: what a read of a file of the node's store gives, how often its calls have failed, the count of faults
-- that its store had when it was taken, and whether it is out
pub record Shown : Type 0 where
  pub holds : ℕ → ℕ → List ℕ
  pub faults : ℕ → ℕ
  pub taken : ℕ → ℕ
  pub is_out : ℕ → Bool

abbrev pub shown : {D : Type 0} → (D → ℕ → ℕ → List ℕ) → (D → ℕ → ℕ) → (D → ℕ → ℕ) → (D → ℕ → Bool) → D → Shown
shown holds faults taken is_out stores = record { holds = holds stores; faults = faults stores; taken = taken stores; is_out = is_out stores }

-- all of node n is as it was
pub record IsSameAt (n : ℕ) (old new : Shown) : Type 0 where
  pub holds : (k : ℕ) → new.holds n k ≡ old.holds n k
  pub faults : new.faults n ≡ old.faults n
  pub taken : new.taken n ≡ old.taken n
  pub is_out : new.is_out n ≡ old.is_out n

-- Stores that are given back.
use Rattle.std.specs.Prelude.{◌≡◌, ℕ, ◌+◌, ◌≤◌, false, List, [], ◌∷◌}
use Rattle.cs_base.specs.Faults.{HasRisen}
use Rattle.served_stores.specs.Shown.{Shown}

-- The store of node n is back, with these files and this count of faults. The node's count rose just where that count rose since
-- the store was taken.
pub record IsBackAt (is_honest : Type 0) (seen : ℕ → List ℕ) (count n : ℕ) (old new : Shown) : Type 0 where
  pub home : new.is_out n ≡ false
  pub holds : is_honest → (k : ℕ) → new.holds n k ≡ seen k
  pub later : old.faults n ≤ new.faults n
  pub rose : HasRisen (old.taken n) count → HasRisen (old.faults n) (new.faults n)
  pub stays : (HasRisen (old.taken n) count → ⊥) → new.faults n ≡ old.faults n

-- the stores of nodes are back, by rising number from n on
abbrev pub AreBackFrom : {R : Type 0} → Type 0 → (R → ℕ → List ℕ) → (R → ℕ) → ℕ → List R → Shown → Shown → Type 0
AreBackFrom is_honest seen_of count_of n [] old new = Unit {0}
AreBackFrom is_honest seen_of count_of n (x ∷ xs) old new = IsBackAt is_honest (seen_of x) (count_of x) n old new × AreBackFrom is_honest seen_of count_of (n + 1) xs old new

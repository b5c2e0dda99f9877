-- Nodes that are loaded from stores.
use Rattle.std.specs.Prelude.{◌≡◌, ℕ, ◌+◌, ◌<◌, ◌≤◌, true, false, List, [], ◌∷◌}
use Rattle.cs_store.specs.Disk.{Disk}
use Rattle.peer_messages.specs.declared.setting.Setting.{Setting}
use Rattle.durable_state.specs.State.{Durable, IsSameKept}
use Rattle.node_steps.specs.Holding.{HoldsFit}
use Rattle.node_steps.specs.State.{loaded}
use Rattle.replica.specs.Finding.{StandFor}
use Rattle.replica.specs.Kept.{IsKeptOf}
use Rattle.node_core.specs.declared.node.Node.{Node}
use Rattle.node_core.specs.Nodes.{Core, state_with}
use Rattle.served_stores.specs.Shown.{Shown, IsSameAt}

-- What a kind of replica says of itself: whether its disk is honest, what files stand for, what it keeps, whether it is whole, and
-- what its disk has and how often it failed.
pub record Keeper (R : Type 0) : Type 1 where
  pub is_honest : Type 0
  pub stands_for : (ℕ → List ℕ) → Durable → Type 0
  pub durable : R → Durable
  pub is_whole : R → Type 0
  pub seen : R → ℕ → List ℕ
  pub faults : R → ℕ

abbrev pub keeper : {R D : Type 0} → Type 0 → ((ℕ → List ℕ) → Durable → Type 0) → (R → Durable) → (R → Type 0) → (R → D) → (D → Disk) → (D → ℕ) → Keeper R
keeper is_honest stands_for durable is_whole store disk faults = record {
  is_honest = is_honest;
  stands_for = stands_for;
  durable = durable;
  is_whole = is_whole;
  seen = λ r. (disk (store r)).seen;
  faults = λ r. faults (store r);
}

-- node n, as it is loaded from what its store held
pub record IsLoaded {R : Type 0} (m : Keeper R) (setting : Setting) (n : ℕ) (held : ℕ → List ℕ) (core : Core) (replica : R) : Type 0 where
  pub me : core.me ≡ n
  pub setting_is : core.setting ≡ setting
  pub runs : core.runs ≡ true
  pub whole : m.is_whole replica
  pub tied : m.is_honest → IsKeptOf (m.durable replica) core.kept
  pub found : m.is_honest → m.stands_for held (m.durable replica)
  pub state : m.is_honest → state_with core (m.durable replica) ≡ loaded (m.durable replica)
  pub fits : m.is_honest → HoldsFit (state_with core (m.durable replica))

-- node n is loaded, its store was home and is out, and the store's count of faults has not fallen since it was taken
pub record IsTaken {R : Type 0} (m : Keeper R) (setting : Setting) (n : ℕ) (old new : Shown) (core : Core) (replica : R) : Type 0 where
  pub loaded : IsLoaded m setting n (old.holds n) core replica
  pub was_home : old.is_out n ≡ false
  pub out : new.is_out n ≡ true
  pub taken : new.taken n ≤ m.faults replica
  pub later : old.faults n ≤ new.faults n

-- the nodes of a list, by rising number from n on
abbrev pub AreTakenFrom : {R D : Type 0} → Keeper R → Setting → ℕ → List (Node R D) → Shown → Shown → Type 0
AreTakenFrom m setting n [] old new = Unit {0}
AreTakenFrom m setting n (x ∷ xs) old new = IsTaken m setting n old new x.core x.replica × AreTakenFrom m setting (n + 1) xs old new

-- node n was loaded, and its store is back and stands for what it stood for
pub record IsReleased {R : Type 0} (m : Keeper R) (n : ℕ) (old new : Shown) : Type 0 where
  pub was_home : old.is_out n ≡ false
  pub later : old.faults n ≤ new.faults n
  pub stands : m.is_honest → (kept : Durable) × m.stands_for (old.holds n) kept × StandFor m.stands_for (IsSameKept kept) (new.holds n)

-- of so many nodes this is the first that is not had: those before it were loaded, and those behind it are as they were
pub record IsFirstLost {R : Type 0} (m : Keeper R) (nodes n : ℕ) (old new : Shown) : Type 0 where
  pub within : n < nodes
  pub before : (k : ℕ) → k < n → IsReleased m k old new
  pub behind : (k : ℕ) → n < k → IsSameAt k old new

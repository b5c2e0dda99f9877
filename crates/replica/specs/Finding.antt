-- What a load may find after a crash. What files stand for is told by a relation between files and what is kept.
use Rattle.std.specs.Prelude.{ℕ, List}
use Rattle.cs_store.specs.Disk.{Disk, IsImage, LeavesAll}
use Rattle.durable_state.specs.State.{Durable, IsSameKept}

-- the files stand for a state of what is kept, and it has this property
pub record StandFor (stands_for : (ℕ → List ℕ) → Durable → Type 0) (One : Durable → Type 0) (files : ℕ → List ℕ) : Type 0 where
  pub kept : Durable
  pub stands : stands_for files kept
  pub one : One kept

-- a crash at any moment from the one disk to the other leaves files that stand for such a state
abbrev pub AlwaysLeaves : ((ℕ → List ℕ) → Durable → Type 0) → (Durable → Type 0) → Disk → Disk → Type 0
AlwaysLeaves stands_for One old new = LeavesAll (StandFor stands_for One) old new

-- a crash now leaves this and nothing else
abbrev pub IsSafe : ((ℕ → List ℕ) → Durable → Type 0) → Durable → Disk → Type 0
IsSafe stands_for d disk = (files : ℕ → List ℕ) → IsImage disk disk.moment files → StandFor stands_for (IsSameKept d) files

-- How changes come to a partition and are held there.
use Rattle.std.specs.Prelude.{◌≡◌, ◌≢◌, ◌↔◌, ◌⊎◌, ℕ, List, Contains}
use Rattle.changes.specs.declared.Change.{Change}
use Rattle.changes.specs.declared.Held.{Held}
use Rattle.changes.specs.declared.Mutation.{Mutation}
use Rattle.changes.specs.declared.Partition.{Partition}
use Rattle.changes.specs.Contents.{Either, IsContent}
use Rattle.durable_state.specs.State.{Stored, change_of, changes_of, Holds}

-- kept is all that is held of the partition
abbrev pub IsHeldOf : List Change → Partition → List Held → Type 0
IsHeldOf content p kept = (x : Held) → Contains kept x ↔ Holds content p x

-- Of the changes that come to a partition and those held there, what none outranks is held. Other partitions stay
pub record TakesIn (content : List Change) (p : Partition) (changes : List Held) (content' : List Change) : Type 0 where
  pub kept : List Held
  pub held : IsHeldOf content' p kept
  pub merged : IsContent kept (Either (Holds content p) (Contains changes))
  pub others : (q : Partition) (x : Held) → q ≢ p → Holds content' q x ↔ Holds content q x

-- What was held keeps its arrival, and what was not held came at this time
abbrev pub ArriveAt : ℕ → List Stored → List Stored → Type 0
ArriveAt time content content' =
    (x : Stored) → Contains content' x → Contains content x ⊎ ((Contains (changes_of content) (change_of x) → ⊥) × (x.arrival ≡ time))

-- one of the mutations is of the partition
abbrev pub IsTouched : List Mutation → Partition → Type 0
IsTouched ms p = (m : Mutation) × Contains ms m × (m.partition ≡ p)

-- one of the mutations has the change of the partition
abbrev pub InOne : List Mutation → Partition → Held → Type 0
InOne ms p x = (m : Mutation) × Contains ms m × (m.partition ≡ p) × Contains m.changes x

-- mutations taken in together: of each partition that they touch the content of all their changes and those held there
pub record TakesAll (content : List Change) (ms : List Mutation) (content' : List Change) : Type 0 where
  pub each : (p : Partition) → IsTouched ms p → (kept : List Held) × IsHeldOf content' p kept × IsContent kept (Either (Holds content p) (InOne ms p))
  pub others : (q : Partition) (x : Held) → (IsTouched ms q → ⊥) → Holds content' q x ↔ Holds content q x

-- each change is held with one arrival
abbrev pub HasOneArrival : List Stored → Type 0
HasOneArrival content = (x y : Stored) → Contains content x → Contains content y → change_of x ≡ change_of y → x ≡ y

-- the change is let go of, and nothing else
pub record LetsGo (content : List Stored) (x : Change) (left : List Stored) : Type 0 where
  pub only : (y : Stored) → Contains left y → Contains content y × (change_of y ≢ x)
  pub others : (y : Stored) → Contains content y → (change_of y ≡ x) ⊎ Contains left y

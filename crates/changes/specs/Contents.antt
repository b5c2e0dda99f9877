-- Contents: what is left of a set of changes when each that another one outranks is left out. A set of changes of one
-- partition is a predicate. After Cassandra's storage engine ("Tombstones", "Compaction"): merging keeps what wins.
use Rattle.std.specs.Prelude.{◌⊎◌, List, Contains}
use Rattle.changes.specs.declared.Held.{Held}
use Rattle.changes.specs.Order.{Outranks}

-- in one of two sets
abbrev pub Either : (Held → Type 0) → (Held → Type 0) → Held → Type 0
Either S T x = S x ⊎ T x

-- no change outranks another
abbrev pub AreApart : List Held → Type 0
AreApart kept = (x y : Held) → Contains kept x → Contains kept y → Outranks x y → ⊥

-- some change of the list is x or outranks it
abbrev pub IsReachedBy : List Held → Held → Type 0
IsReachedBy kept x = Contains kept x ⊎ ((y : Held) × Contains kept y × Outranks y x)

-- kept are the changes of the set that no other one there outranks: each is of the set, each of the set is kept or is
-- outranked by one that is kept, and of those kept none outranks another
pub record IsContent (kept : List Held) (S : Held → Type 0) : Type 0 where
  pub within : (x : Held) → Contains kept x → S x
  pub reached : (x : Held) → S x → IsReachedBy kept x
  pub apart : AreApart kept

-- the content of what either of two has
abbrev pub IsMergeOf : List Held → List Held → List Held → Type 0
IsMergeOf merged a b = IsContent merged (Either (Contains a) (Contains b))

-- both have the same changes
abbrev pub AreSame : List Held → List Held → Type 0
AreSame a b = ((x : Held) → Contains a x → Contains b x) × ((x : Held) → Contains b x → Contains a x)

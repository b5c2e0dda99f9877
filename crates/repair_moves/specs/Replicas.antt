-- What a replica tells a repair. What it holds is a predicate: of a partition, which changes.
use Rattle.std.specs.Prelude.{◌≡◌, ◌≢◌, ℕ, ◌&&◌, nat_lt, Bool, true, List, [], Contains, ◌↔◌, length}
use Rattle.std.specs.List.{list_any, AllByRecursion}
use Rattle.cs_base.specs.declared.range.Range.{Range}
use Rattle.cs_base.specs.Quorums.{is_in}
use Rattle.cs_base.specs.Ring.{in_range, leaf_of}
use Rattle.changes.specs.declared.Held.{Held}
use Rattle.changes.specs.declared.Mutation.{Mutation}
use Rattle.changes.specs.declared.Partition.{Partition}
use Rattle.changes.specs.Places.{AreInOrder}
use Rattle.peer_messages.specs.declared.setting.Setting.{Setting}
use Rattle.stored_changes.specs.Spelling.{MutationHasWord}
use Rattle.merkle_tree.specs.Digests.{AreLeafDigests}
use Rattle.merkle_tree.specs.Laws.{AreByPartition}

abbrev pub Holdings : Type 1
Holdings = Partition → Held → Type 0

-- what a store holds of a table that is not there counts for nothing
abbrev pub is_of_range : Setting → Range → Partition → Bool
is_of_range c range p = nat_lt p.table (length c.tables) && in_range range p.token

abbrev pub is_of_leaves : Setting → Range → List ℕ → Partition → Bool
is_of_leaves c range leaves p = is_of_range c range p && is_in leaves (leaf_of range p.token)

-- partition by partition, all that is held where the test passes: none is empty, and the changes of each are in order. So there
-- is one such list
pub record ArePartsOf (holds : Holdings) (passes : Partition → Bool) (parts : List Mutation) : Type 0 where
  pub by_partition : AreByPartition parts
  pub inside : (m : Mutation) → Contains parts m → passes m.partition ≡ true
  pub some : (m : Mutation) → Contains parts m → m.changes ≢ []
  pub in_order : (m : Mutation) → Contains parts m → AreInOrder m.changes
  pub each : (m : Mutation) → Contains parts m → (x : Held) → Contains m.changes x ↔ holds m.partition x
  pub all : (p : Partition) (x : Held) → holds p x → passes p ≡ true → (m : Mutation) × Contains parts m × (m.partition ≡ p)

-- a digest for each leaf of the range, of all that is held there. Each part can be written, so that its bytes tell it
pub record AreLeavesOf (c : Setting) (holds : Holdings) (range : Range) (leaves : List (List ℕ)) : Type 0 where
  pub parts : List Mutation
  pub held : ArePartsOf holds (is_of_range c range) parts
  pub written : AllByRecursion MutationHasWord parts
  pub digests : AreLeafDigests range parts leaves

-- all that is held in these leaves of the range
abbrev pub AreFetchedOf : Setting → Holdings → Range → List ℕ → List Mutation → Type 0
AreFetchedOf c holds range leaves parts = ArePartsOf holds (is_of_leaves c range leaves) parts

-- whether it has a row of conditional updates in the range, where these are the partitions of which it has one
abbrev pub has_row_in : Setting → Range → List Partition → Bool
has_row_in c range rows = list_any (is_of_range c range) rows

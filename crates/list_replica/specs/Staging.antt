-- The changes of an entry, partition by partition.
use Rattle.std.specs.Prelude.{◌≡◌, ◌≢◌, ◌⊎◌, ℕ, ◌<◌, ◌≤◌, ◌^◌, Option, Some, None, List, [], ◌∷◌, ◌++◌, map, Contains, IsSomeAnd}
use Rattle.std.specs.List.{filter_map}
use Rattle.std.specs.BTreeMap.{BTreeMap, get}
use Rattle.changes.specs.declared.Held.{Held}
use Rattle.changes.specs.declared.Mutation.{Mutation}
use Rattle.changes.specs.declared.Partition.{Partition}
use Rattle.changes.specs.Contents.{IsContent, IsMergeOf}
use Rattle.changes.specs.Lengths.{changes_length}
use Rattle.changes.specs.Order.{partition_cmp}
use Rattle.changes.specs.Places.{AreInOrder}
use Rattle.partition_content.specs.Arrivals.{ComeAt, held_of}
use Rattle.partition_content.specs.Partition.{Partition as Content, changes_in}
use Rattle.row_change.specs.declared.entry.LogItem.{LogItem}
use Rattle.row_change.specs.declared.entry.LogItem.TheVariants.{Data, Paxos, HintAdd, HintGone, Ceiling, Mark, Purge}
use Rattle.durable_state.specs.Taking.{IsTouched, InOne}
use Rattle.list_replica.specs.declared.staging.Staged.{Staged}
use Rattle.list_replica.specs.Stores.{stored_at, IsReadyAt}

abbrev pub Map : Type 0
Map = BTreeMap Partition Content

abbrev pub mutation_of : LogItem → Option Mutation
mutation_of (Data arrival m) = Some m
mutation_of (Paxos p row) = None
mutation_of (HintAdd h) = None
mutation_of (HintGone peer number) = None
mutation_of (Ceiling time) = None
mutation_of (Mark m) = None
mutation_of (Purge x) = None

abbrev pub mutations : List LogItem → List Mutation
mutations items = filter_map mutation_of items

-- the item brings the change to the partition
abbrev pub Brings : LogItem → Partition → Held → Type 0
Brings item p x = (m : Mutation) × (mutation_of item ≡ Some m) × (m.partition ≡ p) × Contains m.changes x

-- the changes of the partition are among what is staged
abbrev pub IsStagedAt : List Staged → Partition → Type 0
IsStagedAt staged p = (s : Staged) × Contains staged s × (s.partition ≡ p)

-- no partition stands twice
abbrev pub AreOnce : List Staged → Type 0
AreOnce [] = Unit {0}
AreOnce (s ∷ ss) = ((t : Staged) → Contains ss t → t.partition ≢ s.partition) × AreOnce ss

-- of each partition that these first items touch, the content of all changes that the items bring to it
pub record Stages (items front : List LogItem) (staged : List Staged) : Type 0 where
  pub once : AreOnce staged
  pub content : (s : Staged) → Contains staged s → IsContent s.changes (InOne (mutations items) s.partition)
  pub within : (s : Staged) → Contains staged s → IsTouched (mutations items) s.partition
  pub all : (p : Partition) → IsTouched (mutations front) p → IsStagedAt staged p

abbrev pub IsStaging : List LogItem → List Staged → Type 0
IsStaging items staged = Stages items items staged

-- the partition's changes are behind the others, or were there
abbrev pub StagesAt : List LogItem → Partition → List Staged → List Staged → Type 0
StagesAt items p old new =
    (IsStagedAt old p × (new ≡ old))
    ⊎ ((IsStagedAt old p → ⊥) × (s : Staged) × (new ≡ old ++ s ∷ []) × (s.partition ≡ p) × IsContent s.changes (InOne (mutations items) p))

-- there is memory for each
abbrev pub AreReady : Map → List Staged → Type 0
AreReady contents staged = (s : Staged) → Contains staged s → IsReadyAt contents s.partition s.changes

-- ---- lengths

abbrev pub held_at : Map → Partition → List Held
held_at contents p = map held_of (stored_at contents p)

-- the content of both has at most 16 MiB as it is stored
abbrev pub IsMergedWithin : List Held → List Held → Type 0
IsMergedWithin held changes = (merged : List Held) → IsMergeOf merged held changes → AreInOrder merged → changes_length merged ≤ 2 ^ 24

-- or it has more
abbrev pub IsMergedPast : List Held → List Held → Type 0
IsMergedPast held changes = (merged : List Held) → IsMergeOf merged held changes → AreInOrder merged → 2 ^ 24 < changes_length merged

-- with these, what is held of the partition has at most 16 MiB
abbrev pub IsWithin : Map → Staged → Type 0
IsWithin contents s = IsMergedWithin (held_at contents s.partition) s.changes

-- the same of a partition that is there
abbrev pub FitsAt : Map → Partition → List Held → Type 0
FitsAt contents p changes = IsSomeAnd (get partition_cmp contents p) (λ content. IsMergedWithin (changes_in content) changes)

-- it is so of each
abbrev pub AllFit : Map → List Staged → Type 0
AllFit contents staged = (s : Staged) → Contains staged s → FitsAt contents s.partition s.changes

-- or it has more
abbrev pub IsPast : Map → Staged → Type 0
IsPast contents s = IsMergedPast (held_at contents s.partition) s.changes

pub record StaysWithin (contents : Map) (staged : List Staged) (p : Partition) : Type 0 where
  pub changes : Staged
  pub there : Contains staged changes
  pub of : changes.partition ≡ p
  pub within : IsWithin contents changes

pub record GrowsPast (contents : Map) (staged : List Staged) (p : Partition) : Type 0 where
  pub changes : Staged
  pub there : Contains staged changes
  pub of : changes.partition ≡ p
  pub past : IsPast contents changes

abbrev pub AllStayWithin : Map → List Staged → List LogItem → Type 0
AllStayWithin contents staged items = (p : Partition) → IsTouched (mutations items) p → StaysWithin contents staged p

-- of the partitions that the items touch, it is the first that grows past 16 MiB
pub record IsFirstPast (contents : Map) (staged : List Staged) (items : List LogItem) (p : Partition) : Type 0 where
  pub front : List LogItem
  pub arrival : ℕ
  pub mutation : Mutation
  pub rest : List LogItem
  pub split : items ≡ front ++ Data arrival mutation ∷ rest
  pub of : mutation.partition ≡ p
  pub past : GrowsPast contents staged p
  pub first : AllStayWithin contents staged front

-- ---- what comes of it

-- the changes came to the partition at this time
pub record Comes (time : ℕ) (old new : Map) (s : Staged) : Type 0 where
  pub merged : IsMergeOf (held_at new s.partition) (held_at old s.partition) s.changes
  pub arrivals : ComeAt time (stored_at old s.partition) (stored_at new s.partition)

-- each came to its partition, and the other partitions are as they were
pub record AllCome (time : ℕ) (old new : Map) (staged : List Staged) : Type 0 where
  pub each : (s : Staged) → Contains staged s → Comes time old new s
  pub others : (q : Partition) → (IsStagedAt staged q → ⊥) → get partition_cmp new q ≡ get partition_cmp old q

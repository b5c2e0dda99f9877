-- What holds of what replicas tell, and of every story of a repair, however often and in whatever order they tell it.
use Rattle.std.specs.Prelude.{◌≡◌, ℕ, ◌<◌, ◌⊎◌, ◌↔◌, true, false, Some, List, [], ◌∷◌, Contains, slice_get}
use Rattle.cs_base.specs.declared.ids.ReqId.{ReqId}
use Rattle.cs_base.specs.declared.range.Range.{Range}
use Rattle.changes.specs.declared.Change.{Change}
use Rattle.changes.specs.declared.Mutation.{Mutation}
use Rattle.peer_messages.specs.declared.setting.Setting.{Setting}
use Rattle.repair_messages.specs.declared.answer.RepairAnswer.TheVariants.{Repaired}
use Rattle.repair_messages.specs.declared.message.RepairMessage.TheVariants as message
use Rattle.repair_moves.specs.declared.repair.Fetched.{Fetched}
use Rattle.repair_moves.specs.declared.repair.Snapshot.{Snapshot}
use Rattle.repair_moves.specs.Merges.{IsMergeOfAll, lacked_by, lacked_count}
use Rattle.repair_moves.specs.Ranges.{range_replicas}
use Rattle.repair_moves.specs.Repairs.{send}
use Rattle.repair_moves.specs.Replicas.{Holdings, AreLeavesOf, is_of_leaves}
use Rattle.repair_moves.specs.Snapshots.{differing_leaves, marks, told_row}
use Rattle.repair_moves.specs.Stories.{Turn, Heard, IsStory, Ever}

-- ---- what replicas tell

-- what a replica holds, as a list of changes
abbrev pub held_in : List Change → Holdings
held_in content = λ p x. Contains content (record { partition = p; held = x })

-- both hold the same in this leaf of the range
abbrev pub AreHeldAlike : Setting → Range → ℕ → List Change → List Change → Type 0
AreHeldAlike c range leaf a b = (x : Change) → is_of_leaves c range (leaf ∷ []) x.partition ≡ true → Contains a x ↔ Contains b x

-- and then they tell the same digest of it
abbrev pub HeldAlikeToldAlike : Type 0
HeldAlikeToldAlike =
    (c : Setting) (range : Range) (leaf : ℕ) (a b : List Change) (mine others : List (List ℕ)) → leaf < 256 → AreHeldAlike c range leaf a b
    → AreLeavesOf c (held_in a) range mine → AreLeavesOf c (held_in b) range others → slice_get mine leaf ≡ slice_get others leaf

-- ---- what was heard and sent

abbrev pub IsSnapshot : Snapshot → Turn → Type 0
IsSnapshot s t = t.what ≡ Heard s.from (message.TreeReply s.leaves s.time s.has_row)

abbrev pub IsFetched : Fetched → Turn → Type 0
IsFetched f t = t.what ≡ Heard f.from (message.FetchReply f.parts)

abbrev pub IsAck : ℕ → Turn → Type 0
IsAck k t = t.what ≡ Heard k message.StreamAck

abbrev pub SendsStream : ℕ → List Mutation → Turn → Type 0
SendsStream k ms t = Contains t.move.sends (send (message.Stream ms) k)

-- ---- what a repair was answered on

-- each of these was told, and one of them by each replica
pub record AreSnapshots (replicas : List ℕ) (ss : List Snapshot) (turns : List Turn) : Type 0 where
  pub each : (s : Snapshot) → Contains ss s → Ever (IsSnapshot s) turns
  pub all : (k : ℕ) → Contains replicas k → (s : Snapshot) × Contains ss s × (s.from ≡ k)

pub record AreFetched (replicas : List ℕ) (fs : List Fetched) (turns : List Turn) : Type 0 where
  pub each : (f : Fetched) → Contains fs f → Ever (IsFetched f) turns
  pub all : (k : ℕ) → Contains replicas k → (f : Fetched) × Contains fs f × (f.from ≡ k)

-- the replica lacks nothing, or was sent what it lacks and has taken it
abbrev pub HasAll : List Mutation → ℕ → List Turn → Type 0
HasAll lacked k turns = (lacked ≡ []) ⊎ (Ever (SendsStream k lacked) turns × Ever (IsAck k) turns)

-- what all told of the leaves that differ was merged, and each replica has the merge
pub record AreMerged (c : Setting) (replicas : List ℕ) (streamed : ℕ) (turns : List Turn) : Type 0 where
  pub fetched : List Fetched
  pub told : AreFetched replicas fetched turns
  pub merge : List Mutation
  pub is_merge : IsMergeOfAll fetched merge
  pub count : streamed ≡ lacked_count c fetched merge replicas
  pub taken : (k : ℕ) → Contains replicas k → HasAll (lacked_by c fetched merge k) k turns

pub record IsGrounded (c : Setting) (range : Range) (t : Turn) (streamed : ℕ) (turns : List Turn) : Type 0 where
  pub snapshots : List Snapshot
  pub told : AreSnapshots (range_replicas c range) snapshots turns
  -- none of them had a row of conditional updates
  pub rowless : (k : ℕ) → Contains (range_replicas c range) k → told_row snapshots k ≡ false
  -- no leaf differs, or the merge of those that do was taken
  pub held : ((differing_leaves snapshots ≡ []) × (streamed ≡ 0)) ⊎ AreMerged c (range_replicas c range) streamed turns
  -- and the marks have the times that the replicas told
  pub marked : t.move.sends ≡ marks range t.time snapshots (range_replicas c range)

-- a repair is answered as such only once every replica has all of the merge
abbrev pub RepairedOnceAllHaveIt : Type 0
RepairedOnceAllHaveIt =
    (c : Setting) (id : ReqId) (range : Range) (t : Turn) (earlier : List Turn) → IsStory c id range (t ∷ earlier)
    → (streamed : ℕ) → t.move.answer ≡ Some (Repaired streamed) → IsGrounded c range t streamed (t ∷ earlier)

-- What was fetched of the replicas, its merge, and who lacks what of it.
use Rattle.std.specs.Prelude.{◌≡◌, ◌≢◌, ℕ, ◌&&◌, ◌==◌, not, Bool, List, [], ◌∷◌, filter, flat_map, length, Contains}
use Rattle.std.specs.List.{list_any}
use Rattle.std.specs.Ordering.{is_eq, ordering_then}
use Rattle.std.specs.Cmp.Lexicographic.{slice_cmp}
use Rattle.std.specs.declared.cmp.Ordering.{Ordering}
use Rattle.cs_base.specs.Quorums.{is_in}
use Rattle.changes.specs.declared.Held.{Held}
use Rattle.changes.specs.declared.Mutation.{Mutation}
use Rattle.changes.specs.declared.Partition.{Partition}
use Rattle.changes.specs.Contents.{IsContent}
use Rattle.changes.specs.Order.{partition_cmp, rank_cmp}
use Rattle.changes.specs.Places.{AreInOrder, stored_cmp}
use Rattle.peer_messages.specs.declared.setting.Setting.{Setting}
use Rattle.peer_messages.specs.Settings.{replicas_of}
use Rattle.merkle_tree.specs.Laws.{AreByPartition}
use Rattle.repair_messages.specs.declared.message.RepairMessage.TheVariants.{Stream}
use Rattle.repair_messages.specs.declared.outcome.RepairSend.{RepairSend}
use Rattle.repair_moves.specs.declared.repair.Fetched.{Fetched}

abbrev pub fetched_from : Fetched → ℕ
fetched_from f = f.from

-- some replica held the change in the partition
abbrev pub WasFetched : List Fetched → Partition → Held → Type 0
WasFetched fs p x = (f : Fetched) × (a : Mutation) × Contains fs f × Contains f.parts a × (a.partition ≡ p) × Contains a.changes x

-- partition by partition, the content of all that was fetched: none is empty, and the changes of each are in order
pub record IsMergeOfAll (fs : List Fetched) (merge : List Mutation) : Type 0 where
  pub by_partition : AreByPartition merge
  pub some : (m : Mutation) → Contains merge m → m.changes ≢ []
  pub in_order : (m : Mutation) → Contains merge m → AreInOrder m.changes
  pub each : (m : Mutation) → Contains merge m → IsContent m.changes (WasFetched fs m.partition)
  pub all : (p : Partition) (x : Held) → WasFetched fs p x → (m : Mutation) × Contains merge m × (m.partition ≡ p)

-- ---- who lacks what

abbrev pub held_cmp : Held → Held → Ordering
held_cmp x y = ordering_then (stored_cmp x y) (rank_cmp x y)

-- the same changes of the same partition, in the same order
abbrev pub is_same_part : Mutation → Mutation → Bool
is_same_part a b = is_eq (partition_cmp a.partition b.partition) && is_eq (slice_cmp held_cmp a.changes b.changes)

-- the node told that it holds just this
abbrev pub has_part : List Fetched → ℕ → Mutation → Bool
has_part fs k m = list_any (λ (f : Fetched). (f.from == k) && list_any (is_same_part m) f.parts) fs

-- the node is to have the merge of this partition, and held something else: it is a replica of the partition's own table
abbrev pub is_lacking : Setting → List Fetched → ℕ → Mutation → Bool
is_lacking c fs k m = is_in (replicas_of c m.partition) k && not (has_part fs k m)

-- all that the node lacks
abbrev pub lacked_by : Setting → List Fetched → List Mutation → ℕ → List Mutation
lacked_by c fs merge k = filter (is_lacking c fs k) merge

-- how many partitions are lacked by at least one of these replicas
abbrev pub lacked_count : Setting → List Fetched → List Mutation → List ℕ → ℕ
lacked_count c fs merge replicas = length (filter (λ m. list_any (λ k. is_lacking c fs k m) replicas) merge)

-- ---- streams

-- a replica that lacks nothing is sent nothing
abbrev pub stream_to : ℕ → List Mutation → List RepairSend
stream_to k [] = []
stream_to k (m ∷ ms) = record { upto = k; message = Stream (m ∷ ms) } ∷ []

-- to each of these replicas, in this order
abbrev pub streams : Setting → List Fetched → List Mutation → List ℕ → List RepairSend
streams c fs merge replicas = flat_map (λ k. stream_to k (lacked_by c fs merge k)) replicas

abbrev pub receiver : RepairSend → ℕ
receiver x = x.upto

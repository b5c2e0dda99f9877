-- The snapshots of a repair: which leaves differ, and who had a row of conditional updates.
use Rattle.std.specs.Prelude.{ℕ, ◌&&◌, ◌==◌, Bool, Option, List, map, filter, flat_map, find}
use Rattle.std.specs.List.{list_any, list_all}
use Rattle.cs_base.specs.declared.range.Range.{Range}
use Rattle.cs_base.specs.Leaves.{leaves_where}
use Rattle.cs_base.specs.Quorums.{is_in}
use Rattle.merkle_tree.specs.Digests.{differ_at}
use Rattle.repair_messages.specs.declared.message.RepairMessage.TheVariants.{SetMark}
use Rattle.repair_messages.specs.declared.outcome.RepairSend.{RepairSend}
use Rattle.repair_moves.specs.declared.repair.Snapshot.{Snapshot}

abbrev pub snapshot_from : Snapshot → ℕ
snapshot_from s = s.from

-- each of the replicas is among those heard of
abbrev pub are_all_heard : List ℕ → List ℕ → Bool
are_all_heard replicas heard = list_all (is_in heard) replicas

-- ---- leaves

-- two of the snapshots have different digests of the leaf
abbrev pub is_differing : List Snapshot → ℕ → Bool
is_differing ss leaf = list_any (λ (a : Snapshot). list_any (λ (b : Snapshot). differ_at a.leaves b.leaves leaf) ss) ss

-- the leaves that are not held alike, by rising number
abbrev pub differing_leaves : List Snapshot → List ℕ
differing_leaves ss = leaves_where (is_differing ss)

-- ---- rows of conditional updates

-- the replica's snapshot told of one
abbrev pub told_row : List Snapshot → ℕ → Bool
told_row ss k = list_any (λ (s : Snapshot). (s.from == k) && s.has_row) ss

-- the least of the replicas whose snapshot did, where they stand by rising number
abbrev pub first_with_row : List Snapshot → List ℕ → Option ℕ
first_with_row ss replicas = find (told_row ss) replicas

-- ---- marks

-- a replica is told the time of its own snapshot, and the coordinator's time
abbrev pub mark_of : Range → ℕ → Snapshot → RepairSend
mark_of range sent s = record { upto = s.from; message = SetMark (record { range = range; snapshot = s.time; sent = sent }) }

abbrev pub marks_for : Range → ℕ → List Snapshot → ℕ → List RepairSend
marks_for range sent ss k = map (mark_of range sent) (filter (λ (s : Snapshot). s.from == k) ss)

-- to each of these replicas, in this order
abbrev pub marks : Range → ℕ → List Snapshot → List ℕ → List RepairSend
marks range sent ss replicas = flat_map (marks_for range sent ss) replicas

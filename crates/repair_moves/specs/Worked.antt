-- The definitions at a few rows.
use Rattle.std.specs.Prelude.{◌≡◌, ℕ, pos, negsuc, Some, None, List, [], ◌∷◌, true, false, map, ◌==◌, if◌then◌else◌}
use Rattle.std.specs.List.{range_with_len}
use Rattle.cs_base.specs.declared.range.Range.{Range}
use Rattle.cs_base.specs.Ring.{leaf_of}
use Rattle.changes.specs.declared.Held.{Held}
use Rattle.changes.specs.declared.Mutation.{Mutation}
use Rattle.changes.specs.declared.Partition.{Partition}
use Rattle.changes.specs.declared.Place.TheVariants.{Cell}
use Rattle.peer_messages.specs.declared.setting.Setting.{Setting}
use Rattle.repair_messages.specs.declared.answer.RepairAnswer.TheVariants.{Repaired, Unavailable, TimedOut, Unmarked}
use Rattle.repair_messages.specs.declared.message.RepairMessage.TheVariants as message
use Rattle.repair_messages.specs.declared.outcome.RepairMove.{RepairMove}
use Rattle.repair_messages.specs.declared.outcome.RepairSend.{RepairSend}
use Rattle.repair_moves.specs.declared.repair.Fetched.{Fetched}
use Rattle.repair_moves.specs.declared.repair.Phase.TheVariants.{Fetching, Streaming}
use Rattle.repair_moves.specs.declared.repair.Repair.{Repair}
use Rattle.repair_moves.specs.declared.repair.Snapshot.{Snapshot}
use Rattle.repair_moves.specs.Merges.{IsMergeOfAll, streams, lacked_count}
use Rattle.repair_moves.specs.Ranges.{range_replicas}
use Rattle.repair_moves.specs.Repairs.{idle, tells, send, sending, send_to, started_repair, refusal_of, reaching, Hears}

-- ---- three nodes, at the tokens -3, 0 and 3

abbrev pub three : Setting
three = record { ring = negsuc 2 ∷ pos 0 ∷ pos 3 ∷ []; tables = record { factor = 3 } ∷ []; expiry = 10800000000 }

-- the range of node 1: the tokens -2 to 0
abbrev pub middle : Range
middle = record { after = negsuc 2; upto = pos 0 }

-- the replicas of a range are those of the table that has the most: with factors 1 and 2, the node that owns it and the next one
abbrev pub Replicas : Type 0
Replicas =
    (range_replicas three middle ≡ 0 ∷ 1 ∷ 2 ∷ [])
    × (range_replicas (record three { tables = record { factor = 1 } ∷ record { factor = 2 } ∷ [] }) middle ≡ 1 ∷ 2 ∷ [])
    × (range_replicas (record three { tables = record { factor = 2 } ∷ record { factor = 1 } ∷ [] }) (record { after = pos 0; upto = pos 3 }) ≡ 0 ∷ 2 ∷ [])

abbrev pub DownAtItsStart : Type 0
DownAtItsStart = (refusal_of three [] middle ≡ None) × (refusal_of three (2 ∷ []) middle ≡ Some (Unavailable 2)) × (refusal_of three (2 ∷ 1 ∷ []) middle ≡ Some (Unavailable 1))

-- at this time of its own the replica told these digests, and no row of conditional updates
abbrev pub told_by : ℕ → ℕ → List (List ℕ) → Snapshot
told_by k time leaves = record { from = k; time = time; leaves = leaves; has_row = false }

-- nodes 0 and 1 have told the same digests
abbrev pub two_have_told : List (List ℕ) → Repair
two_have_told leaves = record (started_repair three middle) { snapshots = told_by 0 20 leaves ∷ told_by 1 30 leaves ∷ [] }

abbrev pub mark_to : ℕ → ℕ → ℕ → RepairSend
mark_to k snapshot sent = send (message.SetMark (record { range = middle; snapshot = snapshot; sent = sent })) k

-- when node 2 tells the same, nothing is fetched: each is sent the mark with its own time, in a step at time 50
abbrev pub NothingDiffers : Type 0
NothingDiffers =
    (leaves : List (List ℕ)) (turn : RepairMove) (r' : Repair) → Hears three 50 2 (message.TreeReply leaves 40 false) (two_have_told leaves) turn r'
    → turn ≡ tells (mark_to 0 20 50 ∷ mark_to 1 30 50 ∷ mark_to 2 40 50 ∷ []) (Repaired 0)

-- and so it is where it has a row of conditional updates, but that no mark is sent
abbrev pub AnotherHasARow : Type 0
AnotherHasARow =
    (leaves : List (List ℕ)) (turn : RepairMove) (r' : Repair) → Hears three 50 2 (message.TreeReply leaves 40 true) (two_have_told leaves) turn r'
    → turn ≡ tells [] (Unmarked 2)

-- a snapshot that comes again, with whatever it tells, and the acknowledgement of a quorum are not the last of all
abbrev pub LastOfAll : Type 0
LastOfAll =
    (leaves other : List (List ℕ)) (turn : RepairMove) (r' : Repair)
    → (Hears three 50 1 (message.TreeReply other 45 true) (two_have_told leaves) turn r' → (turn ≡ idle) × (r' ≡ two_have_told leaves))
    × (Hears three 60 1 message.StreamAck (record (two_have_told leaves) { phase = Streaming 4 (1 ∷ 2 ∷ []) }) turn r' → (turn ≡ idle) × (r'.phase ≡ Streaming 4 (2 ∷ [])))

-- the repair that began at time 1 waits until 10 minutes are over
abbrev pub AtItsDeadline : Type 0
AtItsDeadline =
    (reaching (record { node = 0; time = 1 }) 600000000 ≡ idle) × (reaching (record { node = 0; time = 1 }) 600000001 ≡ tells [] TimedOut)

-- ---- two nodes, at the tokens 0 and 3 * 10^18, each of which has all partitions

abbrev pub two : Setting
two = record { ring = pos 0 ∷ pos 3000000000000000000 ∷ []; tables = record { factor = 2 } ∷ []; expiry = 10800000000 }

-- the range of node 0
abbrev pub wide : Range
wide = record { after = pos 3000000000000000000; upto = pos 0 }

-- the partition of the key 1, and its row 1 with a cell, of which only node 0 has heard
abbrev pub some_partition : Partition
some_partition = record { table = 0; token = negsuc 4069959284402364208; key = 0 ∷ 0 ∷ 0 ∷ 1 ∷ [] }

abbrev pub some_cell : Held
some_cell = record {
  place = Cell (128 ∷ 0 ∷ 0 ∷ 1 ∷ []) 2;
  value = Some (120 ∷ []);
  timestamp = pos 1;
  submitted = 1;
  request = record { node = 0; time = 1 };
}

abbrev pub some_part : Mutation
some_part = record { partition = some_partition; changes = some_cell ∷ [] }

-- a digest for each leaf: all are empty, but for that of leaf 188
abbrev pub digest_at : List ℕ → ℕ → List ℕ
digest_at digest i = if i == 188 then digest else []

abbrev pub digests_with : List ℕ → List (List ℕ)
digests_with digest = map (digest_at digest) (range_with_len 0 256)

abbrev pub told_alone : Repair
told_alone = record (started_repair two wide) { snapshots = told_by 0 2 (digests_with (1 ∷ [])) ∷ [] }

abbrev pub fetched_of : ℕ → List Mutation → Fetched
fetched_of k parts = record { from = k; parts = parts }

-- the partition is in leaf 188, which is asked of both. Node 1 has nothing there and is sent what node 0 has; and when it has
-- taken it, both are marked
abbrev pub OneLacksARow : Type 0
OneLacksARow =
    (leaf_of wide some_partition.token ≡ 188)
    × ((turn : RepairMove) (r' : Repair) → Hears two 5 1 (message.TreeReply (digests_with (2 ∷ [])) 4 false) told_alone turn r'
    → (turn ≡ sending (send_to (message.Fetch wide (188 ∷ [])) (0 ∷ 1 ∷ []))) × (r'.phase ≡ Fetching (188 ∷ []) []))
    × (streams two (fetched_of 0 (some_part ∷ []) ∷ fetched_of 1 [] ∷ []) (some_part ∷ []) (0 ∷ 1 ∷ []) ≡ send (message.Stream (some_part ∷ [])) 1 ∷ [])
    × (lacked_count two (fetched_of 0 (some_part ∷ []) ∷ fetched_of 1 [] ∷ []) (some_part ∷ []) (0 ∷ 1 ∷ []) ≡ 1)

-- ---- both have the cell, and node 1 a newer one

abbrev pub newer_cell : Held
newer_cell = record some_cell { value = Some (121 ∷ []); timestamp = pos 2 }

abbrev pub newer_part : Mutation
newer_part = record { partition = some_partition; changes = newer_cell ∷ [] }

abbrev pub both_fetched : List Fetched
both_fetched = fetched_of 0 (some_part ∷ []) ∷ fetched_of 1 (newer_part ∷ []) ∷ []

-- the merge is what node 1 has. It goes to node 0 alone
abbrev pub NewerIsTheMerge : Type 0
NewerIsTheMerge = IsMergeOfAll both_fetched (newer_part ∷ []) × (streams two both_fetched (newer_part ∷ []) (0 ∷ 1 ∷ []) ≡ send (message.Stream (newer_part ∷ [])) 0 ∷ [])

-- A repair at its coordinator. Each replica of the range tells a digest of each leaf. Where these differ it is asked for what it
-- holds there, and is sent the merge of what all hold if that is something else. Once all that were sent it have taken it,
-- each is sent a mark. What comes of no replica, comes again, or comes at another time of the repair counts for nothing.
use Rattle.std.specs.Prelude.{◌≡◌, ℕ, ◌==◌, ◌&&◌, not, nat_lt, if◌then◌else◌, Bool, Option, Some, None, List, [], ◌∷◌, ◌++◌, map, filter, MatchBool}
use Rattle.cs_base.specs.declared.ids.ReqId.{ReqId}
use Rattle.cs_base.specs.declared.range.Range.{Range}
use Rattle.cs_base.specs.Quorums.{is_in}
use Rattle.changes.specs.declared.Mutation.{Mutation}
use Rattle.peer_messages.specs.declared.setting.Setting.{Setting}
use Rattle.repair_messages.specs.declared.answer.RepairAnswer.{RepairAnswer}
use Rattle.repair_messages.specs.declared.answer.RepairAnswer.TheVariants.{Repaired, Unavailable, TimedOut, Unmarked}
use Rattle.repair_messages.specs.declared.message.RepairMessage.{RepairMessage}
use Rattle.repair_messages.specs.declared.message.RepairMessage.TheVariants as message
use Rattle.repair_messages.specs.declared.outcome.RepairMove.{RepairMove}
use Rattle.repair_messages.specs.declared.outcome.RepairSend.{RepairSend}
use Rattle.repair_moves.specs.declared.repair.Fetched.{Fetched}
use Rattle.repair_moves.specs.declared.repair.Phase.{Phase}
use Rattle.repair_moves.specs.declared.repair.Phase.TheVariants.{Asking, Fetching, Streaming}
use Rattle.repair_moves.specs.declared.repair.Repair.{Repair}
use Rattle.repair_moves.specs.declared.repair.Snapshot.{Snapshot}
use Rattle.repair_moves.specs.Merges.{fetched_from, IsMergeOfAll, lacked_count, streams, receiver}
use Rattle.repair_moves.specs.Ranges.{range_replicas, first_down, deadline_of}
use Rattle.repair_moves.specs.Snapshots.{snapshot_from, are_all_heard, differing_leaves, first_with_row, marks}

-- ---- what a move gives

abbrev pub idle : RepairMove
idle = record { sends = []; answer = None }

abbrev pub sending : List RepairSend → RepairMove
sending sends = record { sends = sends; answer = None }

-- it is told, and the repair is done with
abbrev pub tells : List RepairSend → RepairAnswer → RepairMove
tells sends answer = record { sends = sends; answer = Some answer }

abbrev pub send : RepairMessage → ℕ → RepairSend
send m k = record { upto = k; message = m }

-- one message to each of these nodes
abbrev pub send_to : RepairMessage → List ℕ → List RepairSend
send_to m ks = map (send m) ks

abbrev pub Ignores : Repair → RepairMove → Repair → Type 0
Ignores r turn r' = (turn ≡ idle) × (r' ≡ r)

abbrev pub Becomes : Repair → RepairMove → Repair → Type 0
Becomes next turn r' = (turn ≡ idle) × (r' ≡ next)

-- ---- its beginning

abbrev pub started_repair : Setting → Range → Repair
started_repair c range = record { range = range; replicas = range_replicas c range; snapshots = []; phase = Asking }

-- each replica is asked
abbrev pub start_repair : Setting → Range → RepairMove
start_repair c range = sending (send_to (message.Tree range) (range_replicas c range))

-- why a repair of the range does not begin, where these nodes are marked down
abbrev pub refusal_by : Option ℕ → Option RepairAnswer
refusal_by None = None
refusal_by (Some k) = Some (Unavailable k)

abbrev pub refusal_of : Setting → List ℕ → Range → Option RepairAnswer
refusal_of c down range = refusal_by (first_down down (range_replicas c range))

-- ---- its end

-- the marks go out, unless a snapshot told of a row of conditional updates
abbrev pub closing_by : ℕ → Repair → ℕ → Option ℕ → RepairMove
closing_by time r streamed None = tells (marks r.range time r.snapshots r.replicas) (Repaired streamed)
closing_by time r streamed (Some k) = tells [] (Unmarked k)

abbrev pub closing : ℕ → Repair → ℕ → RepairMove
closing time r streamed = closing_by time r streamed (first_with_row r.snapshots r.replicas)

abbrev pub Closes : ℕ → Repair → ℕ → RepairMove → Repair → Type 0
Closes time r streamed turn r' = (turn ≡ closing time r streamed) × (r' ≡ r)

-- ---- snapshots

abbrev pub with_snapshot : Repair → Snapshot → Repair
with_snapshot r s = record r { snapshots = r.snapshots ++ s ∷ [] }

-- a replica that is not among those heard of yet
abbrev pub counts : Repair → List ℕ → ℕ → Bool
counts r heard k = not (is_in heard k) && is_in r.replicas k

-- what the replicas hold of these leaves is asked of each of them
abbrev pub Fetches : ℕ → Repair → List ℕ → RepairMove → Repair → Type 0
Fetches time r [] turn r' = Closes time r 0 turn r'
Fetches time r (leaf ∷ leaves) turn r' =
    (turn ≡ sending (send_to (message.Fetch r.range (leaf ∷ leaves)) r.replicas)) × (r' ≡ record r { phase = Fetching (leaf ∷ leaves) [] })

abbrev pub TakesSnapshot : ℕ → Repair → RepairMove → Repair → Type 0
TakesSnapshot time r turn r' =
    MatchBool (are_all_heard r.replicas (map snapshot_from r.snapshots)) (Fetches time r (differing_leaves r.snapshots) turn r') (Becomes r turn r')

abbrev pub HearsSnapshot : ℕ → Snapshot → Repair → Phase → RepairMove → Repair → Type 0
HearsSnapshot time s r Asking turn r' = MatchBool (counts r (map snapshot_from r.snapshots) s.from) (TakesSnapshot time (with_snapshot r s) turn r') (Ignores r turn r')
HearsSnapshot time s r (Fetching leaves fs) turn r' = Ignores r turn r'
HearsSnapshot time s r (Streaming streamed waiting) turn r' = Ignores r turn r'

-- ---- what was fetched

-- the replicas to which something is sent have to acknowledge it
abbrev pub Streams : ℕ → Repair → ℕ → List RepairSend → RepairMove → Repair → Type 0
Streams time r streamed [] turn r' = Closes time r streamed turn r'
Streams time r streamed (x ∷ xs) turn r' = (turn ≡ sending (x ∷ xs)) × (r' ≡ record r { phase = Streaming streamed (map receiver (x ∷ xs)) })

-- what was fetched is merged, and goes to each replica that lacks some of it
abbrev pub Merges : Setting → ℕ → Repair → List Fetched → RepairMove → Repair → Type 0
Merges c time r fs turn r' =
    (merge : List Mutation) × IsMergeOfAll fs merge × Streams time r (lacked_count c fs merge r.replicas) (streams c fs merge r.replicas) turn r'

abbrev pub TakesFetched : Setting → ℕ → Repair → List ℕ → List Fetched → RepairMove → Repair → Type 0
TakesFetched c time r leaves fs turn r' =
    MatchBool (are_all_heard r.replicas (map fetched_from fs)) (Merges c time r fs turn r') (Becomes (record r { phase = Fetching leaves fs }) turn r')

abbrev pub HearsFetched : Setting → ℕ → Fetched → Repair → Phase → RepairMove → Repair → Type 0
HearsFetched c time f r Asking turn r' = Ignores r turn r'
HearsFetched c time f r (Fetching leaves fs) turn r' = MatchBool (counts r (map fetched_from fs) f.from) (TakesFetched c time r leaves (fs ++ f ∷ []) turn r') (Ignores r turn r')
HearsFetched c time f r (Streaming streamed waiting) turn r' = Ignores r turn r'

-- ---- acknowledgements

abbrev pub without : ℕ → List ℕ → List ℕ
without k ks = filter (λ j. not (j == k)) ks

-- behind the last of them the repair is done with
abbrev pub TakesAck : ℕ → Repair → ℕ → List ℕ → RepairMove → Repair → Type 0
TakesAck time r streamed [] turn r' = Closes time r streamed turn r'
TakesAck time r streamed (k ∷ ks) turn r' = Becomes (record r { phase = Streaming streamed (k ∷ ks) }) turn r'

abbrev pub HearsAck : ℕ → ℕ → Repair → Phase → RepairMove → Repair → Type 0
HearsAck time from r Asking turn r' = Ignores r turn r'
HearsAck time from r (Fetching leaves fs) turn r' = Ignores r turn r'
HearsAck time from r (Streaming streamed waiting) turn r' = MatchBool (is_in waiting from) (TakesAck time r streamed (without from waiting) turn r') (Ignores r turn r')

-- ---- its moves

-- A message of its request comes to the coordinator, in a step that rose to this time. Those that ask a replica for something
-- make nothing of it
abbrev pub Hears : Setting → ℕ → ℕ → RepairMessage → Repair → RepairMove → Repair → Type 0
Hears c time from (message.Tree range) r turn r' = Ignores r turn r'
Hears c time from (message.TreeReply leaves told has_row) r turn r' =
    HearsSnapshot time (record { from = from; time = told; leaves = leaves; has_row = has_row }) r r.phase turn r'
Hears c time from (message.Fetch range leaves) r turn r' = Ignores r turn r'
Hears c time from (message.FetchReply parts) r turn r' = HearsFetched c time (record { from = from; parts = parts }) r r.phase turn r'
Hears c time from (message.Stream ms) r turn r' = Ignores r turn r'
Hears c time from message.StreamAck r turn r' = HearsAck time from r r.phase turn r'
Hears c time from (message.SetMark mark) r turn r' = Ignores r turn r'

-- time has come to where it is: from its deadline on the repair is told so, and is done with
abbrev pub reaching : ReqId → ℕ → RepairMove
reaching id time = if nat_lt time (deadline_of id) then idle else tells [] TimedOut

abbrev pub Reaches : ReqId → ℕ → Repair → RepairMove → Repair → Type 0
Reaches id time r turn r' = (turn ≡ reaching id time) × (r' ≡ r)

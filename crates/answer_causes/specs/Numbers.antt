-- The numbers that clients are told at a deadline, and who waits on: statements over the story of a run.
use Rattle.std.specs.Prelude.{◌≡◌, ℕ, ◌≤◌, ◌<◌, ◌⊎◌, ◌==◌, ◌||◌, ◌&&◌, not, nat_lt, if◌then◌else◌, Bool, true, false, Option, Some, None, List, [], ◌∷◌, ◌++◌, map, count_by, Contains}
use Rattle.cs_base.specs.declared.ids.ReqId.{ReqId}
use Rattle.cs_base.specs.Requests.{is_request}
use Rattle.cs_base.specs.Quorums.{is_in, heard_of}
use Rattle.changes.specs.declared.Partition.{Partition}
use Rattle.changes.specs.declared.Held.{Held}
use Rattle.changes.specs.declared.Query.{Query}
use Rattle.changes.specs.Contents.{IsContent}
use Rattle.changes.specs.Places.{AreInOrder}
use Rattle.statement_plan.specs.declared.plan.Columns.{Columns}
use Rattle.peer_messages.specs.declared.chronicle.Entry.TheVariants.{Refused}
use Rattle.peer_messages.specs.declared.chronicle.Refusal.TheVariants.{WriteTimeout, ReadTimeout}
use Rattle.peer_messages.specs.declared.event.Ask.{Ask}
use Rattle.peer_messages.specs.declared.event.Event.{Event}
use Rattle.peer_messages.specs.declared.event.Plan.{Plan}
use Rattle.peer_messages.specs.declared.event.Plan.TheVariants as plan
use Rattle.peer_messages.specs.declared.message.Body.{Body}
use Rattle.peer_messages.specs.declared.message.Body.TheVariants.{Write, WriteAck, Read, ReadReply, Mend, MendAck, Hint, HintAck}
use Rattle.peer_messages.specs.declared.outcome.Outputs.{Outputs}
use Rattle.peer_messages.specs.declared.setting.Setting.{Setting}
use Rattle.peer_messages.specs.Settings.{replicas_of, needed, HasFactors}
use Rattle.node_steps.specs.Acts.{Act, Rises, Hears, Asks, Marks, DeadlineComes, HintExpires, Deed, request_at, is_old}
use Rattle.node_steps.specs.State.{Replied}
use Rattle.node_steps.specs.Reads.{is_same, replied_from}
use Rattle.answer_causes.specs.Story.{Happening, Step, Halt, Load, Away, waiting_at}

-- ---- what was asked

-- what was asked last under this id, behind a move of node k in a step that rose to t
abbrev pub asked_then : ReqId → ℕ → ℕ → Act → Option Ask → Option Ask
asked_then id k t (Asks ask) before = if is_request (request_at k t) id then Some ask else before
asked_then id k t (Rises time) before = before
asked_then id k t (Hears m) before = before
asked_then id k t (Marks peer up) before = before
asked_then id k t (DeadlineComes r) before = before
asked_then id k t (HintExpires peer number) before = before

abbrev pub asked_behind : ReqId → List Deed → Option Ask → Option Ask
asked_behind id [] before = before
asked_behind id (d ∷ ds) before = asked_behind id ds (asked_then id d.node d.before.risen d.act before)

-- and at node k since it was last stopped or loaded
abbrev pub asked_at : ℕ → ReqId → List Happening → Option Ask
asked_at k id [] = None
asked_at k id (Step j e deeds o ∷ earlier) = if j == k then asked_behind id deeds (asked_at k id earlier) else asked_at k id earlier
asked_at k id (Halt j ∷ earlier) = if j == k then None else asked_at k id earlier
asked_at k id (Load j ∷ earlier) = if j == k then None else asked_at k id earlier
asked_at k id (Away j refusal ∷ earlier) = asked_at k id earlier

abbrev pub WritesTo : Plan → Partition → Type 0
WritesTo (plan.Write draft) p = draft.partition ≡ p
WritesTo (plan.Read q columns) p = ⊥
WritesTo (plan.Use keyspace) p = ⊥
WritesTo (plan.Invalid fault) p = ⊥

abbrev pub ReadsFrom : Plan → Partition → Type 0
ReadsFrom (plan.Read q columns) p = q.partition ≡ p
ReadsFrom (plan.Write draft) p = ⊥
ReadsFrom (plan.Use keyspace) p = ⊥
ReadsFrom (plan.Invalid fault) p = ⊥

-- ---- who acknowledged a write

abbrev pub is_ack : Body → Bool
is_ack WriteAck = true
is_ack (Write m) = false
is_ack (Read q) = false
is_ack (ReadReply content) = false
is_ack (Mend m) = false
is_ack MendAck = false
is_ack (Hint number m) = false
is_ack (HintAck number) = false

-- Who has acknowledged the write since it was asked, one after another, again and again too. What is too old was not heard
abbrev pub heard_then : Setting → ReqId → ℕ → ℕ → Act → List ℕ → List ℕ
heard_then c id k t (Asks ask) before = if is_request (request_at k t) id then [] else before
heard_then c id k t (Hears m) before = if is_ack m.body && (is_request m.request id && not (is_old c t m.born)) then before ++ m.from ∷ [] else before
heard_then c id k t (Rises time) before = before
heard_then c id k t (Marks peer up) before = before
heard_then c id k t (DeadlineComes r) before = before
heard_then c id k t (HintExpires peer number) before = before

abbrev pub heard_behind : Setting → ReqId → List Deed → List ℕ → List ℕ
heard_behind c id [] before = before
heard_behind c id (d ∷ ds) before = heard_behind c id ds (heard_then c id d.node d.before.risen d.act before)

abbrev pub heard_at : Setting → ℕ → ReqId → List Happening → List ℕ
heard_at c k id [] = []
heard_at c k id (Step j e deeds o ∷ earlier) = if j == k then heard_behind c id deeds (heard_at c k id earlier) else heard_at c k id earlier
heard_at c k id (Halt j ∷ earlier) = if j == k then [] else heard_at c k id earlier
heard_at c k id (Load j ∷ earlier) = if j == k then [] else heard_at c k id earlier
heard_at c k id (Away j refusal ∷ earlier) = heard_at c k id earlier

-- ---- what was told of a read

-- What nodes told of a read since it was asked, as far as it counts: what they replied, one after another, and who acknowledged the
-- merge behind the last of these replies
pub record ReadTold : Type 0 where
  pub replies : List Replied
  pub acks : List ℕ

abbrev pub nothing_told : ReadTold
nothing_told = record { replies = []; acks = [] }

-- how many of the replicas have replied
abbrev pub replied_of : List ℕ → ReadTold → ℕ
replied_of replicas told = heard_of replicas (map replied_from told.replies)

-- Replies count until n of the replicas have replied: then they are merged
abbrev pub with_reply : List ℕ → ℕ → ℕ → List Held → ReadTold → ReadTold
with_reply replicas n from content before =
    if nat_lt (replied_of replicas before) n then record { replies = before.replies ++ record { from = from; content = content } ∷ []; acks = [] }
    else before

abbrev pub read_told_by : List ℕ → ℕ → ℕ → Body → ReadTold → ReadTold
read_told_by replicas n from (ReadReply content) before = with_reply replicas n from content before
read_told_by replicas n from MendAck before = record { replies = before.replies; acks = before.acks ++ from ∷ [] }
read_told_by replicas n from (Write m) before = before
read_told_by replicas n from WriteAck before = before
read_told_by replicas n from (Read q) before = before
read_told_by replicas n from (Mend m) before = before
read_told_by replicas n from (Hint number m) before = before
read_told_by replicas n from (HintAck number) before = before

-- Of a read that waits for n of these replicas. What is too old was not heard
abbrev pub read_told_then : List ℕ → ℕ → Setting → ReqId → ℕ → ℕ → Act → ReadTold → ReadTold
read_told_then replicas n c id k t (Asks ask) before = if is_request (request_at k t) id then nothing_told else before
read_told_then replicas n c id k t (Hears m) before = if is_request m.request id && not (is_old c t m.born) then read_told_by replicas n m.from m.body before else before
read_told_then replicas n c id k t (Rises time) before = before
read_told_then replicas n c id k t (Marks peer up) before = before
read_told_then replicas n c id k t (DeadlineComes r) before = before
read_told_then replicas n c id k t (HintExpires peer number) before = before

abbrev pub read_told_behind : List ℕ → ℕ → Setting → ReqId → List Deed → ReadTold → ReadTold
read_told_behind replicas n c id [] before = before
read_told_behind replicas n c id (d ∷ ds) before = read_told_behind replicas n c id ds (read_told_then replicas n c id d.node d.before.risen d.act before)

abbrev pub read_told_at : List ℕ → ℕ → Setting → ℕ → ReqId → List Happening → ReadTold
read_told_at replicas n c k id [] = nothing_told
read_told_at replicas n c k id (Step j e deeds o ∷ earlier) =
    if j == k then read_told_behind replicas n c id deeds (read_told_at replicas n c k id earlier) else read_told_at replicas n c k id earlier
read_told_at replicas n c k id (Halt j ∷ earlier) = if j == k then nothing_told else read_told_at replicas n c k id earlier
read_told_at replicas n c k id (Load j ∷ earlier) = if j == k then nothing_told else read_told_at replicas n c k id earlier
read_told_at replicas n c k id (Away j refusal ∷ earlier) = read_told_at replicas n c k id earlier

-- ---- who has the merge

-- what the node replied first
abbrev pub first_reply : List Replied → ℕ → Option (List Held)
first_reply [] k = None
first_reply (x ∷ xs) k = if x.from == k then Some x.content else first_reply xs k

-- the change is in the first reply of some replica
abbrev pub IsReplied : List ℕ → List Replied → Held → Type 0
IsReplied replicas replies x = (k : ℕ) × (content : List Held) × Contains replicas k × (first_reply replies k ≡ Some content) × Contains content x

-- the merge of the first replies of the replicas, in the order of places
abbrev pub IsMergeOfReplies : List ℕ → List Replied → List Held → Type 0
IsMergeOfReplies replicas replies merged = IsContent merged (IsReplied replicas replies) × AreInOrder merged

-- a replica that has replied has the merge where it replied just that, or has acknowledged it
abbrev pub has_merge : List Held → Option (List Held) → Bool → Bool
has_merge merged None acked = false
has_merge merged (Some content) acked = is_same content merged || acked

-- how many of the replicas have it
abbrev pub merged_of : List ℕ → List Held → ReadTold → ℕ
merged_of replicas merged told = count_by (λ k. has_merge merged (first_reply told.replies k) (is_in told.acks k)) replicas

-- ---- the numbers

-- a write that was asked so had heard of so many distinct replicas, and waited for so many
pub record WriteHeard (c : Setting) (k : ℕ) (id : ReqId) (hs : List Happening) (received blockfor : ℕ) : Type 0 where
  pub ask : Ask
  pub partition : Partition
  pub was_asked : asked_at k id hs ≡ Some ask
  pub for : WritesTo ask.plan partition
  pub were_heard : received ≡ heard_of (replicas_of c partition) (heard_at c k id hs)
  pub were_needed : blockfor ≡ needed c ask.level partition

-- Of a read they are the replicas that have replied, while these are too few, and then those that have the merge of what was replied
abbrev pub IsReceived : List ℕ → ReadTold → ℕ → ℕ → Type 0
IsReceived replicas told received blockfor =
    ((replied_of replicas told < blockfor) × (received ≡ replied_of replicas told))
    ⊎ ((blockfor ≤ replied_of replicas told) × ((merged : List Held) × IsMergeOfReplies replicas told.replies merged × (received ≡ merged_of replicas merged told)))

-- a read that was asked so was told this, had received so many, and waited for so many
pub record ReadHeard (c : Setting) (k : ℕ) (id : ReqId) (hs : List Happening) (received blockfor : ℕ) : Type 0 where
  pub ask : Ask
  pub query : Query
  pub columns : Columns
  pub told : ReadTold
  pub was_asked : asked_at k id hs ≡ Some ask
  pub for : ask.plan ≡ plan.Read query columns
  pub were_needed : blockfor ≡ needed c ask.level query.partition
  pub was_told : told ≡ read_told_at (replicas_of c query.partition) blockfor c k id hs
  pub were_received : IsReceived (replicas_of c query.partition) told received blockfor

-- A write is told of a write's timeout and a read of a read's, with how many distinct replicas were heard of before the step, or had
-- the merge, and these were too few; and a read whether any replica had replied. And who waits on behind the step has too few yet
pub record TellsNumbers (c : Setting) (k : ℕ) (e : Event) (deeds : List Deed) (o : Outputs) (earlier : List Happening) : Type 0 where
  pub write : (id : ReqId) (received blockfor : ℕ) → Contains o.entries (Refused id (WriteTimeout received blockfor))
      → WriteHeard c k id earlier received blockfor × (HasFactors c → received < blockfor)
  pub read : (id : ReqId) (received blockfor : ℕ) (data_present : Bool) → Contains o.entries (Refused id (ReadTimeout received blockfor data_present))
      → (heard : ReadHeard c k id earlier received blockfor) × (data_present ≡ nat_lt 0 (replied_of (replicas_of c heard.query.partition) heard.told)) × (HasFactors c → received < blockfor)
  pub waits : HasFactors c → (id : ReqId) → Contains (waiting_at k (Step k e deeds o ∷ earlier)) id
      → (received : ℕ) × (blockfor : ℕ) × (received < blockfor)
      × (WriteHeard c k id (Step k e deeds o ∷ earlier) received blockfor ⊎ ReadHeard c k id (Step k e deeds o ∷ earlier) received blockfor)

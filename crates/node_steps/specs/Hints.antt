-- Hints: what is kept for a node that missed a write, until the node has it or it is too old. After Cassandra's documentation,
-- "Hints".
use Rattle.std.specs.Prelude.{ℕ, ◌+◌, ◌-◌, ◌^◌, ◌==◌, ◌&&◌, ◌||◌, not, nat_lt, if◌then◌else◌, Bool, true, false, List, [], ◌∷◌, ◌++◌, map, filter, length, take}
use Rattle.std.specs.List.{list_any}
use Rattle.cs_base.specs.declared.ids.ReqId.{ReqId}
use Rattle.cs_base.specs.Quorums.{is_in}
use Rattle.changes.specs.declared.Mutation.{Mutation}
use Rattle.row_change.specs.declared.entry.Hint as hint
use Rattle.peer_messages.specs.declared.message.Body.TheVariants.{Hint}
use Rattle.peer_messages.specs.declared.outcome.Outbound.{Outbound}
use Rattle.peer_messages.specs.declared.setting.Setting.{Setting}
use Rattle.durable_state.specs.declared.parts.LastNumber.{LastNumber}
use Rattle.durable_state.specs.State.{hints_of, last_of}
use Rattle.durable_state.specs.Keeping.{without_hint, with_last}
use Rattle.node_steps.specs.State.{NodeState, Batch}
use Rattle.node_steps.specs.Effects.{outbound}
use Rattle.node_steps.specs.Fitting.{is_table}

-- ---- what is kept

-- the hints, as they came, and the last number that was given to one of each peer
pub record KeptHints : Type 0 where
  pub hints : List hint.Hint
  pub numbers : List LastNumber

abbrev pub hints_in : NodeState → KeptHints
hints_in s = record { hints = s.hints; numbers = s.numbers }

-- a peer has so many hints at most, and its numbers end
abbrev pub is_full : KeptHints → ℕ → Bool
is_full k peer = not (nat_lt (length (hints_of k.hints peer)) 65536) || not (nat_lt (last_of k.numbers peer) (2 ^ 64 - 1))

-- a hint gets the number behind the last one of its peer
abbrev pub next_hint : ℕ → ℕ → Mutation → KeptHints → hint.Hint
next_hint peer born m k = record { peer = peer; number = last_of k.numbers peer + 1; born = born; mutation = m }

abbrev pub with_hint : hint.Hint → KeptHints → KeptHints
with_hint h k = record { hints = k.hints ++ h ∷ []; numbers = with_last k.numbers h.peer h.number }

-- one hint more; for a full store there is none
abbrev pub push_hint : ℕ → ℕ → Mutation → KeptHints → KeptHints
push_hint peer born m k = if is_full k peer then k else with_hint (next_hint peer born m k) k

abbrev pub pushed_hint : ℕ → ℕ → Mutation → KeptHints → List hint.Hint
pushed_hint peer born m k = if is_full k peer then [] else next_hint peer born m k ∷ []

-- one for each of these peers
abbrev pub push_hints : List ℕ → ℕ → Mutation → KeptHints → KeptHints
push_hints [] born m k = k
push_hints (p ∷ ps) born m k = push_hints ps born m (push_hint p born m k)

abbrev pub pushed_hints : List ℕ → ℕ → Mutation → KeptHints → List hint.Hint
pushed_hints [] born m k = []
pushed_hints (p ∷ ps) born m k = pushed_hint p born m k ++ pushed_hints ps born m (push_hint p born m k)

-- of the peers, those for which there is room
abbrev pub with_room : KeptHints → List ℕ → List ℕ
with_room k peers = filter (λ p. not (is_full k p)) peers

-- a hint of this number was given to the peer, and is kept
abbrev pub is_kept : KeptHints → ℕ → ℕ → Bool
is_kept k peer number = not (nat_lt (last_of k.numbers peer) number) && list_any (λ h. (h.peer == peer) && (h.number == number)) k.hints

-- a hint goes. Its number is not given again
abbrev pub drop_hint : ℕ → ℕ → KeptHints → KeptHints
drop_hint peer number k = if is_kept k peer number then record k { hints = without_hint k.hints peer number } else k

-- ---- what is sent

-- the first 64 hints of a peer. Those of a table that is not there wait for their age
abbrev pub first_hints : Setting → NodeState → ℕ → List hint.Hint
first_hints c s peer = take 64 (filter (λ h. is_table c h.mutation.partition) (hints_of s.hints peer))

abbrev pub number_of : hint.Hint → ℕ
number_of h = h.number

-- the request that left a hint
abbrev pub request_of : ℕ → hint.Hint → ReqId
request_of me h = record { node = me; time = h.born }

abbrev pub send_hint : ℕ → hint.Hint → Outbound
send_hint me h = outbound (request_of me h) (Hint h.number h.mutation) h.peer

abbrev pub sends_hints : Setting → ℕ → NodeState → ℕ → List Outbound
sends_hints c me s peer = map (send_hint me) (first_hints c s peer)

-- the numbers for whose acknowledgement a peer's next hints wait
abbrev pub waiting_of : List Batch → ℕ → List ℕ
waiting_of [] peer = []
waiting_of (b ∷ bs) peer = if b.peer == peer then b.waiting else waiting_of bs peer

abbrev pub with_batch : List Batch → ℕ → List ℕ → List Batch
with_batch bs peer waiting = filter (λ b. not (b.peer == peer)) bs ++ record { peer = peer; waiting = waiting } ∷ []

-- the first 64 are sent
abbrev pub with_sent : Setting → NodeState → ℕ → NodeState
with_sent c s peer = record s { batches = with_batch s.batches peer (map number_of (first_hints c s peer)) }

-- ---- an acknowledgement

abbrev pub is_no_number : List ℕ → Bool
is_no_number [] = true
is_no_number (n ∷ ns) = false

-- what is waited for behind it
abbrev pub waiting_on : NodeState → ℕ → ℕ → List ℕ
waiting_on s peer number = filter (λ n. not (n == number)) (waiting_of s.batches peer)

-- it is the last one that was waited for
abbrev pub is_last : NodeState → ℕ → ℕ → Bool
is_last s peer number = is_in (waiting_of s.batches peer) number && is_no_number (waiting_on s peer number)

abbrev pub with_hints_of : KeptHints → NodeState → NodeState
with_hints_of k s = record s { hints = k.hints; numbers = k.numbers }

-- the hint goes
abbrev pub hint_done : NodeState → ℕ → ℕ → NodeState
hint_done s peer number = record (with_hints_of (drop_hint peer number (hints_in s)) s) { batches = with_batch s.batches peer (waiting_on s peer number) }

-- and behind the last one that was waited for the next ones are sent
abbrev pub hint_acked : Setting → NodeState → ℕ → ℕ → NodeState
hint_acked c s peer number = if is_last s peer number then with_sent c (hint_done s peer number) peer else hint_done s peer number

abbrev pub sends_next : Setting → ℕ → NodeState → ℕ → ℕ → List Outbound
sends_next c me s peer number = if is_last s peer number then sends_hints c me (hint_done s peer number) peer else []

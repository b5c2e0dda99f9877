-- The small moves of a node: each takes one thing, and is told of that node's state alone.
use Rattle.std.specs.Prelude.{◌≡◌, ℕ, Bool, ◌+◌, ◌<◌, ◌==◌, nat_lt, if◌then◌else◌, true, false, Option, Some, None, List, [], ◌∷◌, ◌++◌, MatchBool}
use Rattle.std.specs.BTreeMap.{is_at}
use Rattle.std.specs.Map.{remove_entry}
use Rattle.cs_base.specs.declared.ids.ReqId.{ReqId}
use Rattle.cs_base.specs.Requests.{request_cmp}
use Rattle.changes.specs.declared.Held.{Held}
use Rattle.changes.specs.declared.Partition.{Partition}
use Rattle.peer_messages.specs.declared.event.Ask.{Ask}
use Rattle.peer_messages.specs.declared.message.Body.{Body}
use Rattle.peer_messages.specs.declared.message.Body.TheVariants.{Write, WriteAck, Read, ReadReply, Mend, MendAck, Hint, HintAck}
use Rattle.peer_messages.specs.declared.outcome.Outbound.{Outbound}
use Rattle.peer_messages.specs.declared.outcome.Move.{Move}
use Rattle.peer_messages.specs.declared.setting.Setting.{Setting}
use Rattle.peer_messages.specs.Settings.{marked}
use Rattle.durable_state.specs.State.{changes_of}
use Rattle.durable_state.specs.Taking.{TakesIn, ArriveAt}
use Rattle.node_steps.specs.State.{NodeState, OpenWrite, OpenRead}
use Rattle.node_steps.specs.Effects.{Effects, nothing, effects_of, open_at, AtRequest}
use Rattle.node_steps.specs.Hints.{hints_in, drop_hint, with_hints_of, with_sent, sends_hints, hint_acked, sends_next}
use Rattle.node_steps.specs.Writes.{HearsAck, write_told, unheard}
use Rattle.node_steps.specs.Reads.{HearsReply, HearsMendAck, timeout_of}
use Rattle.node_steps.specs.Fitting.{write_fits}
use Rattle.node_steps.specs.Replicas.{Asker, replies, IsReplyTo}
use Rattle.node_steps.specs.Requests.{refusal_of, leaves_hints, BeginsOrRefuses}

-- a body that comes to a node, its own ones too
pub record Incoming : Type 0 where
  pub from : ℕ
  pub born : ℕ
  pub request : ReqId
  pub body : Body

pub data Act : Type 0 where
  -- node time rises, at the beginning of a step
  Rises : (time : ℕ) → Act
  -- a body comes
  Hears : (incoming : Incoming) → Act
  -- a client asks
  Asks : (ask : Ask) → Act
  -- another node is marked alive, or else dead
  Marks : (peer : ℕ) (up : Bool) → Act
  -- the deadline of a request comes
  DeadlineComes : (request : ReqId) → Act
  -- a hint has come to be too old
  HintExpires : (peer number : ℕ) → Act

-- a request's id: its node, and the time to which the step rose in which it began
abbrev pub request_at : ℕ → ℕ → ReqId
request_at me risen = record { node = me; time = risen }

abbrev pub AtWrite : (OpenWrite → Move → OpenWrite → Type 0) → ReqId → NodeState → Effects → NodeState → Type 0
AtWrite Step id s o s' = (turn : Move) × AtRequest Step id s.writes turn s'.writes × (o ≡ effects_of turn) × (s' ≡ record s { writes = s'.writes })

abbrev pub AtRead : (OpenRead → Move → OpenRead → Type 0) → ReqId → NodeState → Effects → NodeState → Type 0
AtRead Step id s o s' = (turn : Move) × AtRequest Step id s.reads turn s'.reads × (o ≡ effects_of turn) × (s' ≡ record s { reads = s'.reads })

-- changes of a partition are taken in, at the time to which the step rose, and this is replied
abbrev pub TakesChanges : Asker → Partition → List Held → Body → NodeState → Effects → NodeState → Type 0
TakesChanges a p changes reply s o s' =
    TakesIn (changes_of s.content) p changes (changes_of s'.content) × ArriveAt s.risen s.content s'.content
    × (o ≡ replies a reply) × (s' ≡ record s { content = s'.content })

-- By what came to node me. A merge that cannot be written in a log is not taken
abbrev pub HearsBody : Setting → ℕ → Asker → Body → NodeState → Effects → NodeState → Type 0
HearsBody c me a (Write m) s o s' = TakesChanges a m.partition m.changes WriteAck s o s'
HearsBody c me a WriteAck s o s' = AtWrite (HearsAck c a.request a.from) a.request s o s'
HearsBody c me a (Read q) s o s' = (part : List Held) × IsReplyTo (changes_of s.content) q part × (o ≡ replies a (ReadReply part)) × (s' ≡ s)
HearsBody c me a (ReadReply content) s o s' = AtRead (HearsReply c a.request a.from content) a.request s o s'
HearsBody c me a (Mend m) s o s' = MatchBool (write_fits c m) (TakesChanges a m.partition m.changes MendAck s o s') ((o ≡ nothing) × (s' ≡ s))
HearsBody c me a MendAck s o s' = AtRead (HearsMendAck c a.request a.from) a.request s o s'
HearsBody c me a (Hint number m) s o s' = TakesChanges a m.partition m.changes (HintAck number) s o s'
HearsBody c me a (HintAck number) s o s' = (o ≡ record { sends = sends_next c me s a.from number; entries = [] }) × (s' ≡ hint_acked c s a.from number)

-- a time that passes the ceiling raises it a second above itself
abbrev pub ceiling_after : ℕ → ℕ → ℕ
ceiling_after ceiling time = if nat_lt ceiling time then time + 1000000 else ceiling

-- what was born so long ago is not heard
abbrev pub is_old : Setting → ℕ → ℕ → Bool
is_old c time born = nat_lt (born + c.expiry) time

abbrev pub asker_of : Incoming → Asker
asker_of m = record { from = m.from; request = m.request }

-- another node is marked. Where it is marked alive its first hints are sent
abbrev pub mark_state : Setting → NodeState → ℕ → Bool → NodeState
mark_state c s peer true = with_sent c (record s { down = marked s.down peer true }) peer
mark_state c s peer false = record s { down = marked s.down peer false }

abbrev pub mark_sends : Setting → ℕ → NodeState → ℕ → Bool → List Outbound
mark_sends c me s peer true = sends_hints c me s peer
mark_sends c me s peer false = []

-- at its deadline a request is done with, and is told so where it has no answer. A write leaves hints
abbrev pub ends_write : Setting → ReqId → OpenWrite → NodeState → NodeState
ends_write c id w s = record (leaves_hints (unheard c w) id w.mutation s) { writes = remove_entry (is_at (request_cmp id)) s.writes }

abbrev pub ends_read : ReqId → NodeState → NodeState
ends_read id s = record s { reads = remove_entry (is_at (request_cmp id)) s.reads }

abbrev pub EndsRead : Setting → ReqId → Option OpenRead → NodeState → Effects → NodeState → Type 0
EndsRead c id None s o s' = (o ≡ nothing) × (s' ≡ s)
EndsRead c id (Some r) s o s' = (o ≡ effects_of (timeout_of c id r)) × (s' ≡ ends_read id s)

abbrev pub Ends : Setting → ReqId → Option OpenWrite → NodeState → Effects → NodeState → Type 0
Ends c id None s o s' = EndsRead c id (open_at s.reads id) s o s'
Ends c id (Some w) s o s' = (o ≡ record { sends = []; entries = write_told c id w }) × (s' ≡ ends_write c id w s)

-- From s node me may make this move, and give these effects
abbrev pub Does : Setting → ℕ → NodeState → Act → Effects → NodeState → Type 0
Does c me s (Rises time) o s' = (s.time < time) × (o ≡ nothing) × (s' ≡ record s { time = time; risen = time; ceiling = ceiling_after s.ceiling time })
Does c me s (Hears m) o s' = MatchBool (is_old c s.risen m.born) ((o ≡ nothing) × (s' ≡ s)) (HearsBody c me (asker_of m) m.body s o s')
Does c me s (Asks ask) o s' = BeginsOrRefuses c (request_at me s.risen) ask.plan ask.level (refusal_of c s (request_at me s.risen) ask.plan ask.level) s o s'
Does c me s (Marks peer up) o s' = (o ≡ record { sends = mark_sends c me s peer up; entries = [] }) × (s' ≡ mark_state c s peer up)
Does c me s (DeadlineComes id) o s' = Ends c id (open_at s.writes id) s o s'
Does c me s (HintExpires peer number) o s' = (o ≡ nothing) × (s' ≡ with_hints_of (drop_hint peer number (hints_in s)) s)

-- a move that was made, with all that can be known of it
pub record Deed : Type 0 where
  pub node : ℕ
  pub act : Act
  pub before : NodeState
  pub after : NodeState
  pub effects : Effects

-- what a node sends to itself it hears, in the order in which it sends it
abbrev pub own_sends : ℕ → List Outbound → List Act
own_sends me [] = []
own_sends me (x ∷ xs) =
    if x.upto == me then Hears (record { from = me; born = x.born; request = x.request; body = x.body }) ∷ own_sends me xs else own_sends me xs

-- From s, with these matters to take, node me has made these deeds, is at s', and has yet to hear `pending` of its own and
-- to take the matters `left`: each matter is followed by what comes of it at the node itself
pub data Chain (c : Setting) (me : ℕ) (s : NodeState) (matters : List Act) : List Deed → NodeState → List Act → List Act → Type 0 where
  begun : Chain c me s matters [] s [] matters
  own : (deeds : List Deed) (mid s' : NodeState) (a : Act) (pending left : List Act) (o : Effects)
      → Chain c me s matters deeds mid (a ∷ pending) left → Does c me mid a o s'
      → Chain c me s matters (deeds ++ record { node = me; act = a; before = mid; after = s'; effects = o } ∷ []) s' (pending ++ own_sends me o.sends) left
  matter : (deeds : List Deed) (mid s' : NodeState) (a : Act) (left : List Act) (o : Effects)
      → Chain c me s matters deeds mid [] (a ∷ left) → Does c me mid a o s'
      → Chain c me s matters (deeds ++ record { node = me; act = a; before = mid; after = s'; effects = o } ∷ []) s' (own_sends me o.sends) left

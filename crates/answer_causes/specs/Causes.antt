-- Why a client is told what it is told. Each clause speaks of what happened, and not of the states of nodes.
use Rattle.std.specs.Prelude.{◌≡◌, ◌≢◌, ℕ, ◌≤◌, ◌<◌, ◌++◌, true, false, List, [], ◌∷◌, Contains}
use Rattle.cs_base.specs.declared.ids.ReqId.{ReqId}
use Rattle.changes.specs.declared.Held.{Held}
use Rattle.peer_messages.specs.declared.message.Body.{Body}
use Rattle.peer_messages.specs.declared.message.Body.TheVariants.{Write, WriteAck, Read, ReadReply, Mend, MendAck, Hint, HintAck}
use Rattle.peer_messages.specs.declared.message.Message.{Message}
use Rattle.peer_messages.specs.declared.event.What.TheVariants.{Deliver}
use Rattle.peer_messages.specs.declared.setting.Setting.{Setting}
use Rattle.peer_messages.specs.declared.event.Event.{Event}
use Rattle.peer_messages.specs.declared.chronicle.Entry.TheVariants.{Refused}
use Rattle.peer_messages.specs.declared.chronicle.Refusal.{Refusal}
use Rattle.peer_messages.specs.declared.chronicle.Refusal.TheVariants.{Unavailable, WriteTimeout, ReadTimeout, Overloaded, Invalid, Down}
use Rattle.peer_messages.specs.declared.outcome.Outputs.{Outputs}
use Rattle.peer_messages.specs.Moves.{deadline_of}
use Rattle.node_steps.specs.Answering.{IsForReplica, reply_to}
use Rattle.node_steps.specs.Fitting.{message_fits}
use Rattle.node_steps.specs.Acts.{Deed, is_old}
use Rattle.answer_causes.specs.Story.{Happening, Step, Halt, Load, Away, answers_to, asked_in, waiting_at}

-- of every step, behind what happened earlier
abbrev pub EachStep : (ℕ → Event → List Deed → Outputs → List Happening → Type 0) → List Happening → Type 0
EachStep P [] = Unit {0}
EachStep P (Step k e deeds o ∷ earlier) = P k e deeds o earlier × EachStep P earlier
EachStep P (Halt k ∷ earlier) = EachStep P earlier
EachStep P (Load k ∷ earlier) = EachStep P earlier
EachStep P (Away k refusal ∷ earlier) = EachStep P earlier

-- What a step answers is a request that waited for its answer, or that it began itself; and it answers that once. So a
-- request has one answer at most, and one that a stop or a load forgot has none from then on
pub record AnswersOnce (k : ℕ) (e : Event) (deeds : List Deed) (o : Outputs) (earlier : List Happening) : Type 0 where
  pub once : (id : ReqId) → answers_to o.entries id ≤ 1
  pub waits : (id : ReqId) → answers_to o.entries id ≢ 0 → Contains (asked_in o.started ++ waiting_at k earlier) id

-- the refusal tells of a deadline
abbrev pub IsTimeout : Refusal → Type 0
IsTimeout (WriteTimeout received blockfor) = Unit {0}
IsTimeout (ReadTimeout received blockfor data_present) = Unit {0}
IsTimeout (Unavailable required alive) = ⊥
IsTimeout Overloaded = ⊥
IsTimeout (Invalid reason) = ⊥
IsTimeout Down = ⊥

-- A timeout is told exactly at the first step whose time reached the deadline of a request without an answer
pub record TimesOut (k : ℕ) (e : Event) (deeds : List Deed) (o : Outputs) (earlier : List Happening) : Type 0 where
  -- a request that waited is told at a step that reached its deadline
  pub told : (id : ReqId) → Contains (waiting_at k earlier) id → deadline_of id ≤ o.time → (r : Refusal) × IsTimeout r × Contains o.entries (Refused id r)
  -- and no other one is
  pub only : (id : ReqId) (r : Refusal) → IsTimeout r → Contains o.entries (Refused id r) → Contains (waiting_at k earlier) id × (deadline_of id ≤ o.time)
  -- the first such step: what waits on behind a step has a deadline that is still to come
  pub first : (id : ReqId) → Contains (waiting_at k (Step k e deeds o ∷ earlier)) id → o.time < deadline_of id

-- ---- what comes to a replica

-- this answers that
abbrev pub IsReply : Body → Body → Type 0
IsReply (Write m) b = b ≡ WriteAck
IsReply (Read q) b = (part : List Held) × (b ≡ ReadReply part)
IsReply (Mend m) b = b ≡ MendAck
IsReply (Hint number m) b = b ≡ HintAck number
IsReply WriteAck b = ⊥
IsReply (ReadReply content) b = ⊥
IsReply MendAck b = ⊥
IsReply (HintAck number) b = ⊥

-- A write, read, merge or hint that comes to a node and fits is answered in that event, unless it is refused: it came from too far
-- ahead, so that its time was not taken, or it is too old
pub record AnswersAtOnce (c : Setting) (k : ℕ) (e : Event) (deeds : List Deed) (o : Outputs) (earlier : List Happening) : Type 0 where
  pub at_once : (m : Message) → e.what ≡ Deliver m → message_fits c k m ≡ true → m.time < o.time → is_old c o.time m.born ≡ false → IsForReplica m.body → (b : Body) × IsReply m.body b × Contains o.sends (reply_to k o.time m b)

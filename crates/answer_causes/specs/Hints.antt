-- When hints come and go, over the story of a run.
use Rattle.std.specs.Prelude.{◌≡◌, ℕ, ◌⊎◌, ◌≤◌, ◌<◌, ◌+◌, true, List, Contains}
use Rattle.row_change.specs.declared.entry.Hint as hint
use Rattle.peer_messages.specs.declared.event.Event.{Event}
use Rattle.peer_messages.specs.declared.event.What.TheVariants.{Alive}
use Rattle.peer_messages.specs.declared.message.Body.TheVariants.{Hint, HintAck}
use Rattle.peer_messages.specs.declared.message.Message.{Message}
use Rattle.peer_messages.specs.declared.outcome.Outputs.{Outputs}
use Rattle.peer_messages.specs.declared.setting.Setting.{Setting}
use Rattle.durable_state.specs.State.{last_of}
use Rattle.node_steps.specs.Fitting.{mark_fits}
use Rattle.node_steps.specs.Hints.{first_hints}
use Rattle.node_steps.specs.Acts.{Act, Rises, Hears, Asks, Marks, DeadlineComes, HintExpires, Deed}
use Rattle.answer_causes.specs.Story.{Happening}

-- the peer acknowledges its hint of this number
abbrev pub IsHintAck : ℕ → ℕ → Act → Type 0
IsHintAck peer number (Hears m) = (m.from ≡ peer) × (m.body ≡ HintAck number)
IsHintAck peer number (Rises t) = ⊥
IsHintAck peer number (Asks ask) = ⊥
IsHintAck peer number (Marks p up) = ⊥
IsHintAck peer number (DeadlineComes id) = ⊥
IsHintAck peer number (HintExpires p n) = ⊥

pub record HintsLeave (c : Setting) (k : ℕ) (e : Event) (deeds : List Deed) (o : Outputs) (earlier : List Happening) : Type 0 where
  -- by their acknowledgement, or by their age
  pub leave : (d : Deed) (h : hint.Hint) → Contains deeds d → Contains d.before.hints h → Contains d.after.hints h ⊎ (IsHintAck h.peer h.number d.act ⊎ (h.born + c.expiry < o.time))
  -- one that comes has a number that was never given to its peer before
  pub numbers : (d : Deed) (h : hint.Hint) → Contains deeds d → Contains d.after.hints h
      → Contains d.before.hints h ⊎ ((last_of d.before.numbers h.peer < h.number) × (h.number ≤ last_of d.after.numbers h.peer))
  pub rises : (d : Deed) (peer : ℕ) → Contains deeds d → last_of d.before.numbers peer ≤ last_of d.after.numbers peer

-- ---- sending

abbrev pub hint_message : ℕ → ℕ → hint.Hint → Message
hint_message k time h = record { from = k; upto = h.peer; time = time; born = h.born; request = record { node = k; time = h.born }; body = Hint h.number h.mutation }

-- each of these is sent
abbrev pub AreSent : ℕ → List hint.Hint → Outputs → Type 0
AreSent k hints o = (h : hint.Hint) → Contains hints h → Contains o.sends (hint_message k o.time h)

-- the event that marks a node up sends it the first 64 of its hints
pub record SendsHints (c : Setting) (k : ℕ) (e : Event) (deeds : List Deed) (o : Outputs) (earlier : List Happening) : Type 0 where
  pub marked : (peer : ℕ) → e.what ≡ Alive peer true → mark_fits c k peer ≡ true → (d : Deed) × Contains deeds d × (d.act ≡ Marks peer true) × AreSent k (first_hints c d.before peer) o

-- The hints of a peer that were sent together last and are not acknowledged yet, over the story of a run; and that the next ones are
-- sent behind the last one's acknowledgement.
use Rattle.std.specs.Prelude.{◌≡◌, ◌≢◌, ◌⊎◌, ℕ, ◌==◌, ◌&&◌, not, if◌then◌else◌, Bool, true, false, List, [], ◌∷◌, ◌++◌, map, filter, Contains}
use Rattle.cs_base.specs.Quorums.{is_in}
use Rattle.changes.specs.declared.Mutation.{Mutation}
use Rattle.row_change.specs.declared.entry.Hint as hint
use Rattle.peer_messages.specs.declared.event.Event.{Event}
use Rattle.peer_messages.specs.declared.message.Body.{Body}
use Rattle.peer_messages.specs.declared.message.Body.TheVariants.{Write, WriteAck, Read, ReadReply, Mend, MendAck, Hint, HintAck}
use Rattle.peer_messages.specs.declared.message.Message.{Message}
use Rattle.peer_messages.specs.declared.outcome.Outputs.{Outputs}
use Rattle.peer_messages.specs.declared.setting.Setting.{Setting}
use Rattle.node_steps.specs.Hints.{first_hints, number_of, is_no_number}
use Rattle.node_steps.specs.Acts.{Act, Rises, Hears, Asks, Marks, DeadlineComes, HintExpires, Incoming, Deed, is_old}
use Rattle.answer_causes.specs.Story.{Happening, Step, Halt, Load, Away}
use Rattle.answer_causes.specs.Hints.{hint_message, AreSent}

-- behind the acknowledgement of a number
abbrev pub behind_ack : List ℕ → ℕ → List ℕ
behind_ack waiting number = filter (λ n. not (n == number)) waiting

-- it is the last one that is waited for
abbrev pub is_last_of : List ℕ → ℕ → Bool
is_last_of waiting number = is_in waiting number && is_no_number (behind_ack waiting number)

-- what a move makes of the numbers for which a peer's next hints wait, where those would be these
abbrev pub batch_by_body : ℕ → ℕ → Body → List ℕ → List ℕ → List ℕ
batch_by_body peer from (HintAck number) next waiting = if from == peer then (if is_last_of waiting number then next else behind_ack waiting number) else waiting
batch_by_body peer from (Write m) next waiting = waiting
batch_by_body peer from WriteAck next waiting = waiting
batch_by_body peer from (Read q) next waiting = waiting
batch_by_body peer from (ReadReply content) next waiting = waiting
batch_by_body peer from (Mend m) next waiting = waiting
batch_by_body peer from MendAck next waiting = waiting
batch_by_body peer from (Hint number m) next waiting = waiting

abbrev pub batch_by_act : Setting → ℕ → ℕ → Act → List ℕ → List ℕ → List ℕ
batch_by_act c peer risen (Marks p true) next waiting = if p == peer then next else waiting
batch_by_act c peer risen (Marks p false) next waiting = waiting
batch_by_act c peer risen (Hears m) next waiting = if is_old c risen m.born then waiting else batch_by_body peer m.from m.body next waiting
batch_by_act c peer risen (Rises t) next waiting = waiting
batch_by_act c peer risen (Asks ask) next waiting = waiting
batch_by_act c peer risen (DeadlineComes id) next waiting = waiting
batch_by_act c peer risen (HintExpires p number) next waiting = waiting

abbrev pub batch_by : Setting → ℕ → Deed → List ℕ → List ℕ
batch_by c peer d waiting = batch_by_act c peer d.before.risen d.act (map number_of (first_hints c d.after peer)) waiting

-- behind moves
abbrev pub batch_behind : Setting → ℕ → List Deed → List ℕ → List ℕ
batch_behind c peer [] waiting = waiting
batch_behind c peer (d ∷ ds) waiting = batch_behind c peer ds (batch_by c peer d waiting)

-- the numbers for which node k waits before it sends the peer more
abbrev pub batch_at : Setting → ℕ → ℕ → List Happening → List ℕ
batch_at c k peer [] = []
batch_at c k peer (Step j e deeds o ∷ earlier) = if j == k then batch_behind c peer deeds (batch_at c k peer earlier) else batch_at c k peer earlier
batch_at c k peer (Halt j ∷ earlier) = if j == k then [] else batch_at c k peer earlier
batch_at c k peer (Load j ∷ earlier) = if j == k then [] else batch_at c k peer earlier
batch_at c k peer (Away j refusal ∷ earlier) = batch_at c k peer earlier

-- The step that hears the acknowledgement of the last of them sends the next 64
pub record SendsNext (c : Setting) (k : ℕ) (e : Event) (deeds : List Deed) (o : Outputs) (earlier : List Happening) : Type 0 where
  pub next : (front back : List Deed) (d : Deed) (m : Incoming) (number : ℕ) → deeds ≡ front ++ d ∷ back
      → d.act ≡ Hears m → m.body ≡ HintAck number → m.from ≢ k → is_old c d.before.risen m.born ≡ false
      → is_last_of (batch_behind c m.from front (batch_at c k m.from earlier)) number ≡ true
      → AreSent k (first_hints c d.after m.from) o

-- ---- and by nothing else

-- a move of node k behind these of its step lets hints of the peer go: it marks the peer up, or hears the acknowledgement of the last
-- that was waited for
abbrev pub LetsGo : Setting → ℕ → ℕ → List Happening → List Deed → Deed → Type 0
LetsGo c k peer earlier front d =
    (d.act ≡ Marks peer true)
    ⊎ ((m : Incoming) × (number : ℕ) × (d.act ≡ Hears m) × (m.from ≡ peer) × (m.body ≡ HintAck number) × (is_old c d.before.risen m.born ≡ false)
    × (is_last_of (batch_behind c peer front (batch_at c k peer earlier)) number ≡ true))

-- Each hint that goes out is one of the first 64 behind such a move of this step
pub record SendsThen (c : Setting) (k : ℕ) (e : Event) (deeds : List Deed) (o : Outputs) (earlier : List Happening) : Type 0 where
  pub only : (x : Message) (number : ℕ) (m : Mutation) → Contains o.sends x → x.body ≡ Hint number m
      → (front : List Deed) × (back : List Deed) × (d : Deed) × (h : hint.Hint) × (deeds ≡ front ++ d ∷ back) × LetsGo c k x.upto earlier front d
      × Contains (first_hints c d.after x.upto) h × (x ≡ hint_message k o.time h)

-- What whole histories of a locked node say.
use Rattle.std.specs.Prelude.{◌≡◌, ◌≤◌, ◌++◌, ℕ, Bool, true, false, Option, Some, None, Result, Ok, Err, List, [], ◌∷◌, length, filter}
use Rattle.std.specs.List.{AllByRecursion, flat_map}
use Rattle.cs_base.specs.Faults.{HasRisen}
use Rattle.cs_store.specs.Disk.{Disk}
use Rattle.durable_state.specs.State.{Durable}
use Rattle.cs_base.specs.declared.ids.ReqId.{ReqId}
use Rattle.peer_messages.specs.declared.chronicle.Entry.{Entry}
use Rattle.peer_messages.specs.declared.message.Message.{Message}
use Rattle.peer_messages.specs.declared.outcome.Outputs.{Outputs}
use Rattle.client_desk.specs.declared.answer.Answer.{Answer}
use Rattle.node_core.specs.declared.outcome.StepError.{StepError}
use Rattle.node_lock.specs.Histories.{Replays}
use Rattle.wired_node.specs.declared.entry.NodeEntry.{NodeEntry}
use Rattle.wired_node.specs.Answers.{answer_of, collected_by, is_answer, is_answer_to}
use Rattle.wired_node.specs.Making.{MakesIn}
use Rattle.wired_node.specs.Sending.{ArePut}
use Rattle.wired_node.specs.States.{Wiring}

-- the entry's reply does not tell that the node failed
abbrev pub HasGone : ℕ × NodeEntry → Type 0
HasGone x = x.1.reply.value.failed ≡ false

abbrev pub sent_by : ℕ × NodeEntry → List (Message × Bool)
sent_by x = x.1.sent.items

-- the messages of a history's entries, in order, each with whether it was lost
abbrev pub sent_in : List (ℕ × NodeEntry) → List (Message × Bool)
sent_in history = flat_map sent_by history

-- ---- answers

abbrev pub answers_in : Result Outputs StepError → List Entry
answers_in (Ok o) = filter is_answer o.entries
answers_in (Err error) = []

abbrev pub told_by : ℕ × NodeEntry → List Entry
told_by x = answers_in x.1.told.value

-- what a history's entries answer, in order
abbrev pub told_in : List (ℕ × NodeEntry) → List Entry
told_in history = flat_map told_by history

-- the answer that is given of what a step collects is that of this entry
abbrev pub IsGiven : Option ReqId → Option Answer → Option Entry → Type 0
IsGiven collected answer None = answer ≡ None
IsGiven None answer (Some t) = ⊥
IsGiven (Some id) answer (Some t) = (is_answer_to id t ≡ true) × (answer ≡ answer_of t)

abbrev pub listed : Option Entry → List Entry
listed None = []
listed (Some t) = t ∷ []

-- the answers that a history's entries give are those of these, in order
abbrev pub AreGiven : List (ℕ × NodeEntry) → List Entry → Type 0
AreGiven [] given = given ≡ []
AreGiven (x ∷ xs) given =
    (t : Option Entry) × (rest : List Entry) × IsGiven (collected_by x.1.call.event.what) x.1.reply.value.answer t × (given ≡ listed t ++ rest) × AreGiven xs rest

module _ {R : Type 0} (honest : Type 0) (stands_for : (ℕ → List ℕ) → Durable → Type 0) (durable : R → Durable) (log_end : R → ℕ) (since_flush : R → Option ℕ) (disk : R → Disk) (faults : R → ℕ) where
  -- From a state to that to which a history replays, each link took the messages of the history's entries to its node, in order, but
  -- for the lost ones, and stayed the same.
  abbrev pub MessagesArePut : Type 0
  MessagesArePut =
      (start now : Wiring R) (history : List (ℕ × NodeEntry))
      → Replays (MakesIn honest stands_for durable log_end since_flush disk faults) start history now
      → ArePut (sent_in history) start.senders now.senders

  -- From a running node to the state to which a history replays, its store had no fewer faults, and one more where the node runs no
  -- longer; where it runs on, no entry tells that it failed.
  abbrev pub FailuresAreCounted : Type 0
  FailuresAreCounted =
      (start now : Wiring R) (history : List (ℕ × NodeEntry))
      → Replays (MakesIn honest stands_for durable log_end since_flush disk faults) start history now
      → start.core.runs ≡ true
      → (faults start.replica ≤ faults now.replica)
      × (now.core.runs ≡ false → HasRisen (faults start.replica) (faults now.replica))
      × (now.core.runs ≡ true → AllByRecursion HasGone history)

  -- From a state to that to which a history replays, what was kept before and what the history's entries answer is given once or kept,
  -- and nothing else is.
  abbrev pub AnswersAreGivenOnce : Type 0
  AnswersAreGivenOnce =
      (start now : Wiring R) (history : List (ℕ × NodeEntry))
      → Replays (MakesIn honest stands_for durable log_end since_flush disk faults) start history now
      → (given : List Entry) × AreGiven history given
      × ((p : Entry → Bool) → length (filter p (given ++ now.answers)) ≡ length (filter p (start.answers ++ told_in history)))

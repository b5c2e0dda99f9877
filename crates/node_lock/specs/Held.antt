-- What lies in the lock's slot, and what a step of its state does to it.
use Rattle.std.specs.Prelude.{◌≡◌, ℕ, ◌<◌, ◌≤◌, List, [], ◌∷◌, ◌++◌, length, Option, None, Some}
use Rattle.node_lock.specs.Histories.{most_entries, Replays}
use Rattle.node_lock.specs.declared.answers.Receipt.{Receipt}
use Rattle.node_lock.specs.declared.answers.LockRefused.{LockRefused}
use Rattle.node_lock.specs.declared.answers.LockRefused.TheVariants.{Full, Refused}
use Rattle.node_lock.specs.declared.held.Held.{Held}

module _ {S E : Type 0} where
  abbrev pub log_of : Held S E → List (ℕ × E)
  log_of h = h.history

module _ {S E : Type 0} (steps : S → E → S → Type 0) where
  -- a chain of steps from the state that a seat knows
  abbrev pub ReplaysFrom : Option S → List (ℕ × E) → S → Type 0
  ReplaysFrom None log now = Unit {0}
  ReplaysFrom (Some start) log now = Replays steps start log now

  -- the state and its history, as they lie in the slot
  pub record IsHeld (start : Option S) (log : List (ℕ × E)) (h : Held S E) : Type 0 where
    pub same : log_of h ≡ log
    pub replays : ReplaysFrom start log h.state
    pub few : length log ≤ most_entries

module _ {S E Event Reply : Type 0} (steps : S → E → S → Type 0) (event_of : E → Event) (reply_of : E → Reply) where
  -- the held state made a step, whose entry is the last of its history
  pub record Makes (h : Held S E) (number : ℕ) (event : Event) (r : Receipt Reply) (h' : Held S E) : Type 0 where
    pub entry : E
    pub log : log_of h' ≡ log_of h ++ (number, entry) ∷ []
    pub makes : steps h.state entry h'.state
    pub event_is : event_of entry ≡ event
    pub reply_is : reply_of entry ≡ r.reply
    pub place_is : r.place ≡ length (log_of h)
    pub within : r.place < most_entries

module _ {S E Event : Type 0} (refuses : S → Event → Event → Type 0) where
  -- the held history is full, or the state refuses the event
  abbrev pub Stops : Held S E → Event → LockRefused Event → Type 0
  Stops h event (Full back) = (back ≡ event) × (most_entries ≤ length (log_of h))
  Stops h event (Refused back) = (length (log_of h) < most_entries) × refuses h.state event back

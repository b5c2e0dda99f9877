-- What a step does to what its pass stands for.
use Rattle.std.specs.Prelude.{◌≡◌, ℕ, ◌<◌, List, [], ◌∷◌, ◌++◌, length, slice_get, Some}
use Rattle.node_lock.specs.Histories.{most_entries, StartsWith, entries_by, Replays}
use Rattle.node_lock.specs.Views.{PassView}
use Rattle.node_lock.specs.declared.answers.Receipt.{Receipt}
use Rattle.node_lock.specs.declared.answers.LockRefused.{LockRefused}
use Rattle.node_lock.specs.declared.answers.LockRefused.TheVariants.{Full, Refused}

module _ {E : Type 0} where
  pub record IsSamePass (v w : PassView E) : Type 0 where
    pub number : w.number ≡ v.number
    pub owned : w.owned ≡ v.owned
    pub seats : w.seats ≡ v.seats

  -- the pass made no entry, and has seen at least what it had seen
  pub record Finds (v w : PassView E) : Type 0 where
    pub between : List (ℕ × E)
    pub seen : w.seen ≡ v.seen ++ between
    pub mine : w.mine ≡ v.mine
    -- what it has seen has just its own calls under its number
    pub once : entries_by v.number w.seen ≡ entries_by v.number w.mine

module _ {S E Event Reply : Type 0} (steps : S → E → S → Type 0) (event_of : E → Event) (reply_of : E → Reply) where
  -- From the state to which the found history replays, the step made one entry more, under the pass's number. It tells
  -- the event and the reply, and stands at the receipt's place, at the end of what the pass has then seen.
  pub record Steps (start : S) (v : PassView E) (event : Event) (r : Receipt Reply) (w : PassView E) : Type 0 where
    pub entry : E
    pub between : List (ℕ × E)
    pub state : S
    pub next : S
    pub seen : w.seen ≡ (v.seen ++ between) ++ (v.number, entry) ∷ []
    pub mine : w.mine ≡ v.mine ++ (v.number, entry) ∷ []
    pub event_is : event_of entry ≡ event
    pub reply_is : reply_of entry ≡ r.reply
    pub place_is : r.place ≡ length (v.seen ++ between)
    pub within : r.place < most_entries
    pub replays : Replays steps start (v.seen ++ between) state
    pub makes : steps state entry next
    -- what it has seen has just its own calls under its number
    pub once : entries_by v.number w.seen ≡ entries_by v.number w.mine

  -- A receipt's place names the entry of its step, in whatever history begins with what the pass had then seen.
  abbrev pub ReceiptsNameTheirEntries : Type 0
  ReceiptsNameTheirEntries =
      (start : S) (v w : PassView E) (event : Event) (r : Receipt Reply) (history : List (ℕ × E))
      → (s : Steps start v event r w) → StartsWith history w.seen → slice_get history r.place ≡ Some (v.number, s.entry)

module _ {S E Event : Type 0} (steps : S → E → S → Type 0) (refuses : S → Event → Event → Type 0) where
  -- the found history is full, or replays to a state that refuses the event and hands it back so
  abbrev pub Declines : S → Event → LockRefused Event → List (ℕ × E) → Type 0
  Declines start event (Full back) found = (back ≡ event) × (length found ≡ most_entries)
  Declines start event (Refused back) found =
      (length found < most_entries) × ((state : S) × Replays steps start found state × refuses state event back)

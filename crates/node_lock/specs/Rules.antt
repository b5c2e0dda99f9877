-- The rule of the lock's table. Word 0 counts the tickets drawn, word 1 those served, both modulo 2 ^ 64, and word 2 is
-- the length of the published history. The slot holds the state and the history.
use Rattle.std.specs.Prelude.{◌≡◌, ◌≢◌, ℕ, ◌+◌, ◌-◌, ◌%◌, ◌^◌, ◌<◌, ◌≤◌, List, [], ◌∷◌, ◌++◌, length, Option, None, Some}
use mathlib.Core.Option.{some}
use lib.ListN.{get_elem?}
use Rattle.atomic_table.specs.Table.{State, Me, Step}
use Rattle.node_lock.specs.Held.{log_of, IsHeld}
use Rattle.node_lock.specs.Histories.{StartsWith, longer, entries_by}
use Rattle.node_lock.specs.Views.{PassView}
use Rattle.node_lock.specs.declared.held.Held.{Held}
use Rattle.node_lock.specs.declared.view.SeatView.{SeatView}
use Rattle.node_lock.specs.declared.view.Stage.TheVariants.{Resting, Waiting, Holding, Giving}

-- what the elements of a list have, added up
abbrev pub total : {A : Type 0} → (A → ℕ) → List A → ℕ
total f [] = 0
total f (x ∷ xs) = f x + total f xs

abbrev pub Slot : Type 0 → Type 0 → Type 0
Slot S E = Option (Held S E)

-- a seat's view, and the slot that it may have
abbrev pub Mine : Type 0 → Type 0 → Type 0
Mine S E = Me (Slot S E) (SeatView S E)

module _ {S E : Type 0} where
  -- what a contract sees of a seat's view
  abbrev pub shown : SeatView S E → PassView E
  shown v = record { number = v.number; owned = v.owned; seats = v.seats; seen = v.seen; mine = v.mine }

  -- the pass that has all numbers and seats, and has seen nothing
  abbrev pub opener : S → ℕ → SeatView S E
  opener start seats =
      record { start = Some start; number = 0; owned = seats; seats = seats; tickets = 0; stage = Resting; ticket = 0; seen = []; mine = []; pending = []; asked = 0; told = [] }

  -- how the view goes through a turn: with a ticket, with the slot, with the slot given back, with the entry published
  abbrev pub waiting : SeatView S E → ℕ → SeatView S E
  waiting v ticket = record v { tickets = 1; stage = Waiting; ticket = ticket }

  abbrev pub holding : SeatView S E → List (ℕ × E) → SeatView S E
  holding v log = record v { stage = Holding; seen = log }

  abbrev pub giving : SeatView S E → List (ℕ × E) → SeatView S E
  giving v more = record v { stage = Giving; pending = more }

  abbrev pub publishing : SeatView S E → SeatView S E
  publishing v = record v { seen = v.seen ++ v.pending; mine = v.mine ++ v.pending; pending = [] }

  abbrev pub resting : SeatView S E → SeatView S E
  resting v = record v { tickets = 0; stage = Resting }

  -- about to hand over so many numbers and seats
  abbrev pub asking : SeatView S E → ℕ → SeatView S E
  asking v seats = record v { asked = seats }

  -- the last numbers and as many seats go to a new pass, which has seen as much
  abbrev pub left_of : SeatView S E → SeatView S E
  left_of v = record v { owned = v.owned - v.asked; seats = v.seats - v.asked; asked = 0 }

  abbrev pub right_of : SeatView S E → SeatView S E
  right_of v =
      record { start = v.start; number = v.number + (v.owned - v.asked); owned = v.asked; seats = v.asked; tickets = 0; stage = Resting; ticket = 0; seen = v.seen; mine = []; pending = []; asked = 0; told = [] }

  -- the other was joined in, and told what it had seen
  abbrev pub both_of : SeatView S E → SeatView S E → SeatView S E
  both_of v w = record v { seats = v.seats + w.seats; mine = v.mine ++ w.mine; told = w.seen }

  -- what is left of a pass that was joined into another
  abbrev pub spent : SeatView S E
  spent =
      record { start = None; number = 0; owned = 0; seats = 0; tickets = 0; stage = Resting; ticket = 0; seen = []; mine = []; pending = []; asked = 0; told = [] }

  abbrev pub learning : SeatView S E → SeatView S E
  learning v = record v { seen = longer v.seen v.told; told = [] }

module _ {S E : Type 0} (start : S) (log pending : List (ℕ × E)) (out served drawn : ℕ) (taker owner : ℕ → ℕ) where
  -- What the rule says of one seat's view. `out` is 1 while the slot is out, and `pending` what was given back and not
  -- yet published. `taker` says which seat drew a ticket, and `owner` which one a number belongs to.
  pub record Fits (seat : ℕ) (v : SeatView S E) : Type 0 where
    pub begins : 0 < v.seats → v.start ≡ Some start
    pub one_ticket : v.tickets ≤ 1
    pub a_seat_each : v.tickets ≤ v.seats
    pub known : StartsWith log v.seen
    pub told : StartsWith log v.told
    pub queued : 0 < v.tickets → (served ≤ v.ticket) × (v.ticket < drawn) × (taker v.ticket ≡ seat)
    pub waits : 0 < v.tickets → v.stage ≡ Waiting → v.ticket ≡ served → (out ≡ 0) × (pending ≡ [])
    pub holds : 0 < v.tickets → v.stage ≡ Holding → (v.ticket ≡ served) × (out ≡ 1) × (pending ≡ []) × (v.seen ≡ log)
    pub gives : 0 < v.tickets → v.stage ≡ Giving → (v.ticket ≡ served) × (out ≡ 0) × (pending ≡ v.pending) × (v.seen ≡ log)
    pub alone : 0 < v.tickets → v.stage ≡ Giving → (n : ℕ) → n ≢ v.number → entries_by n v.pending ≡ []
    pub owns : (n : ℕ) → v.number ≤ n → n < v.number + v.owned → owner n ≡ seat
    pub unused : (n : ℕ) → v.number < n → n < v.number + v.owned → entries_by n log ≡ []
    pub made : (n : ℕ) → owner n ≡ seat → entries_by n log ≡ entries_by n v.mine
    pub others : (n : ℕ) → owner n ≢ seat → entries_by n v.mine ≡ []
    pub gone : v.seats ≡ 0 → v.mine ≡ []

module _ {S E : Type 0} (steps : S → E → S → Type 0) (start : S) (seats : ℕ) where
  -- the rule: the log is published, and the slot has it with what is pending
  pub record Kept (s : State (Slot S E) (SeatView S E)) : Type 0 where
    pub log : List (ℕ × E)
    pub pending : List (ℕ × E)
    pub out : ℕ
    pub served : ℕ
    pub drawn : ℕ
    pub taker : ℕ → ℕ
    pub owner : ℕ → ℕ
    pub words : s.words ≡ drawn % 2 ^ 64 ∷ served % 2 ^ 64 ∷ length log ∷ []
    pub queue : served + total (λ v. v.tickets) s.views ≡ drawn
    pub all_seats : total (λ v. v.seats) s.views ≡ seats
    pub few_seats : seats < 2 ^ 32
    pub at_rest : served ≡ drawn → (out ≡ 0) × (pending ≡ [])
    pub home : out ≡ 0 → (h : Held S E) × (get_elem? s.homes 0 ≡ some (some (Some h))) × IsHeld steps (Some start) (log ++ pending) h
    pub owned : (n : ℕ) → owner n < length s.views
    pub each : (j : ℕ) (v : SeatView S E) → get_elem? s.views j ≡ some v → Fits start log pending out served drawn taker owner j v

-- what each kind of step tells, of the seat before and after
module _ {S E : Type 0} where
  abbrev pub drawn : Step (Slot S E) → Mine S E → ℕ → Mine S E → Type 0
  drawn st m r n = (t : ℕ) × (t % 2 ^ 64 ≡ r) × (n ≡ (waiting m.0 t, m.1))

  abbrev pub gave : Step (Slot S E) → Mine S E → ℕ → Mine S E → Type 0
  gave st m r n = (h : Held S E) (more : List (ℕ × E)) → m.1 ≡ (0, Some h) ∷ [] → log_of h ≡ m.0.seen ++ more → n ≡ (giving m.0 more, [])

  abbrev pub published : Step (Slot S E) → Mine S E → ℕ → Mine S E → Type 0
  published st m r n = (n ≡ (publishing m.0, m.1)) × (entries_by m.0.number (m.0.seen ++ m.0.pending) ≡ entries_by m.0.number (m.0.mine ++ m.0.pending))

  abbrev pub advanced : Step (Slot S E) → Mine S E → ℕ → Mine S E → Type 0
  advanced st m r n = n ≡ (resting m.0, m.1)

  -- an exchange of a number for itself changes nothing, and tells the rule the number
  abbrev pub asked_for : Step (Slot S E) → Mine S E → ℕ → Mine S E → Type 0
  asked_for st m r n = n ≡ (asking m.0 st.first, m.1)

  abbrev pub learned : Step (Slot S E) → Mine S E → ℕ → Mine S E → Type 0
  learned st m r n = (n ≡ (learning m.0, m.1)) × StartsWith (longer m.0.seen m.0.told) m.0.seen × StartsWith (longer m.0.seen m.0.told) m.0.told

module _ {S E : Type 0} (steps : S → E → S → Type 0) where
  -- the slot came to the seat, whose ticket is served
  pub record Takes (v : SeatView S E) (h : Held S E) : Type 0 where
    pub held : IsHeld steps v.start (log_of h) h
    pub later : StartsWith (log_of h) v.seen
    pub own : entries_by v.number (log_of h) ≡ entries_by v.number v.mine

  abbrev pub looked : Step (Slot S E) → Mine S E → ℕ → Mine S E → Type 0
  looked st m r n =
      (r ≡ m.0.ticket % 2 ^ 64 → (h : Held S E) × (n ≡ (holding m.0 (log_of h), (0, Some h) ∷ m.1)) × Takes m.0 h)
      × (r ≢ m.0.ticket % 2 ^ 64 → n ≡ m)

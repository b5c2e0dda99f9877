-- What doors in memory keep.
use Rattle.std.specs.Prelude.{ℕ, ◌+◌, ◌-◌, ◌^◌, min, Bool, ◌==◌, List, [], ◌∷◌, Option, None}
use Rattle.std.specs.List.{list_any}
use Rattle.cs_io.specs.Links.{MemLinkState}

-- what the calls of a door are to find, and which of them are to fail, by their number from 1 on
pub record MemDoorPlan : Type 0 where
  pub coming : List (Option MemLinkState)
  pub failing : List ℕ

-- a door in memory: what its next calls find, how many of the links that it gave are not back, those that are back, the
-- calls that are to fail, by their number from 1 on, how many calls there were, and how many faults
pub record MemDoorState : Type 0 where
  pub coming : List (Option MemLinkState)
  pub lent : ℕ
  pub returned : List MemLinkState
  pub failing : List ℕ
  pub calls : ℕ
  pub faults : ℕ

-- doors in memory: what the next ones are to find and to fail, how many of the doors that they gave are not back, those
-- that are back, each with its node, the calls that are to fail, by their number from 1 on, how many calls there were, and
-- how many faults
pub record MemDoorsState : Type 0 where
  pub planned : List MemDoorPlan
  pub lent : ℕ
  pub returned : List (ℕ × MemDoorState)
  pub failing : List ℕ
  pub calls : ℕ
  pub faults : ℕ

-- what a call finds first; nobody waits where nothing is left
abbrev pub first_of : {X : Type 0} → List (Option X) → Option X
first_of [] = None
first_of (found ∷ coming) = found

-- the number of the next call
abbrev pub next_call : ℕ → ℕ
next_call calls = min (calls + 1) (2 ^ 64 - 1)

-- the call of this number is listed
abbrev pub is_listed : List ℕ → ℕ → Bool
is_listed failing call = list_any (λ k. k == call) failing

-- the door of a plan, from which nobody came yet
abbrev pub planned_door : MemDoorPlan → MemDoorState
planned_door plan = record { coming = plan.coming; lent = 0; returned = []; failing = plan.failing; calls = 0; faults = 0 }

-- the door that is given first; to one without a plan nobody comes
abbrev pub first_door : List MemDoorPlan → MemDoorState
first_door [] = planned_door (record { coming = []; failing = [] })
first_door (plan ∷ planned) = planned_door plan

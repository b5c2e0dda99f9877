-- What a worker does that makes one call again and again.
use Rattle.std.specs.Prelude.{◌≡◌, ℕ, ◌+◌, ◌≤◌, Bool, Option, Some, None, List, [], ◌∷◌, All}
use Rattle.peer_messages.specs.declared.event.What.{What}
use Rattle.peer_messages.specs.declared.event.What.TheVariants.{Flush, Tick}
use Rattle.node_calls.specs.Calls.{optional_call_of}
use Rattle.node_calls.specs.declared.call.NodeCall.{NodeCall}
use Rattle.node_calls.specs.declared.reply.NodeReply.{NodeReply}
use Rattle.node_lock.specs.Stepped.{IsSamePass}
use Rattle.node_lock.specs.Views.{PassView}
use Rattle.node_workers.specs.Calls.{Outcome, Called, event_at, has_failed}
use Rattle.node_workers.specs.Chains.{Comes, Makes}
use Rattle.node_workers.specs.Endings.{ended_by, AreWell}
use Rattle.node_workers.specs.declared.chore.Chore.{Chore}
use Rattle.node_workers.specs.declared.chore.Chore.TheVariants as chore
use Rattle.node_workers.specs.declared.ended.Ended.{Ended}

abbrev pub what_of : Chore → What
what_of chore.Tick = Tick
what_of chore.Flush = Flush

abbrev pub clock_in : Called → ℕ
clock_in c = c.call.event.clock

-- the call is optional, and asks for this at a time that the clock gives
abbrev pub IsTimely : (ℕ → Type 0) → What → Called → Type 0
IsTimely gives what c = gives (clock_in c) × (c.call ≡ optional_call_of (event_at (clock_in c) what))

-- the clock reads at least 10,000 microseconds more than at the last call, or there was none
abbrev pub IsDue : Option ℕ → ℕ → Type 0
IsDue None clock = Unit {0}
IsDue (Some last) clock = last + 10000 ≤ clock

-- each call was due, where this is the time of the last one before
abbrev pub AreDue : Option ℕ → List Called → Type 0
AreDue last [] = Unit {0}
AreDue last (c ∷ cs) = IsDue last (clock_in c) × AreDue (Some (clock_in c)) cs

abbrev pub last_in : Option ℕ → List Called → Option ℕ
last_in last [] = last
last_in last (c ∷ cs) = last_in (Some (clock_in c)) cs

-- a worker ends where the node failed
abbrev pub failed_as : Bool → Ended
failed_as failed = record { failed = failed; held = None }

abbrev pub end_of : Called → Ended
end_of c = failed_as (has_failed c.outcome)

module _ {S E : Type 0} (steps : S → E → S → Type 0) (event_of : E → NodeCall) (reply_of : E → NodeReply) (refuses : S → NodeCall → NodeCall → Type 0) (start : S) where
  -- this is called for once, where it has something to do
  pub record CallsFor (what : What) (clock : ℕ) (v w : PassView E) (failed : Bool) : Type 0 where
    pub outcome : Outcome
    pub pass : IsSamePass v w
    pub comes : Comes steps event_of reply_of refuses start v (optional_call_of (event_at clock what)) outcome w
    pub failed_is : failed ≡ has_failed outcome

  -- This was called for again and again, each time when it was due, and nothing else was. The last call alone may be such that
  -- the worker ended with it.
  pub record RepeatsFrom (gives : ℕ → Type 0) (what : What) (last : Option ℕ) (v : PassView E) (last' : Option ℕ) (w : PassView E) (ended : Ended) : Type 0 where
    pub calls : List Called
    pub each : All (IsTimely gives what) calls
    pub due : AreDue last calls
    pub last_is : last' ≡ last_in last calls
    pub made : Makes steps event_of reply_of refuses start v calls w
    pub going : AreWell end_of calls
    pub ended_is : ended ≡ ended_by end_of calls

  -- the same, where the first call is due at once
  abbrev pub Repeats : (ℕ → Type 0) → What → PassView E → PassView E → Ended → Type 0
  Repeats gives what v w ended = (last : Option ℕ) × RepeatsFrom gives what None v last w ended

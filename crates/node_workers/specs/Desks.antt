-- A desk as its contracts see it.
use Rattle.std.specs.Prelude.{◌≡◌, ℕ, List, [], ◌∷◌, ◌++◌}
use Rattle.client_desk.specs.Asks.{Asked}
use Rattle.node_calls.specs.declared.call.NodeCall.{NodeCall}
use Rattle.node_calls.specs.declared.reply.NodeReply.{NodeReply}
use Rattle.node_lock.specs.Passes.{IsPassOf, view_of, start_of}
use Rattle.node_lock.specs.Stepped.{IsSamePass}
use Rattle.node_lock.specs.Views.{PassView}
use Rattle.node_lock.specs.declared.lock.NodeLock.{NodeLock}
use Rattle.node_workers.specs.Asking.{asks_of, AreOfDesk}
use Rattle.node_workers.specs.Calls.{Outcome, Called, called, calls_in}
use Rattle.node_workers.specs.Chains.{Comes, Makes}
use Rattle.node_workers.specs.declared.parts.DeskParts.{DeskParts}

module _ {W N C Entry : Type 0} where
  abbrev pub lock_of : DeskParts W N C Entry → NodeLock N NodeCall NodeReply Entry
  lock_of d = d.site.lock.now

  abbrev pub clock_of : DeskParts W N C Entry → C
  clock_of d = d.site.clock.now

  -- what its pass stood for when the desk was made
  abbrev pub since_of : DeskParts W N C Entry → PassView Entry
  since_of d = view_of d.since.value

  -- the calls that it has made since
  abbrev pub calls_of : DeskParts W N C Entry → List Called
  calls_of d = calls_in d.calls.items

  -- what was submitted at it
  abbrev pub asks_at : DeskParts W N C Entry → List Asked
  asks_at d = asks_of (calls_of d)

module _ {W N C Entry : Type 0} (steps : N → Entry → N → Type 0) (event_of : Entry → NodeCall) (reply_of : Entry → NodeReply) (refuses : N → NodeCall → NodeCall → Type 0) (gives : C → ℕ → Type 0) where
  -- its pass is one of the lock, and has made the calls of the desk, and no other
  pub record IsAtLock (d : DeskParts W N C Entry) : Type 0 where
    pub pass : IsPassOf (lock_of d) d.pass
    pub made : Makes steps event_of reply_of refuses (start_of (lock_of d)) (since_of d) (calls_of d) (view_of d.pass)
    pub calls : AreOfDesk (gives (clock_of d)) (calls_of d)

  -- It has made one call more, whose outcome is told so, and is as it was else.
  pub record CallsOnce {R : Type 0} (d : DeskParts W N C Entry) (call_at : ℕ → NodeCall) (told : Outcome → R) (result : R) (d' : DeskParts W N C Entry) : Type 0 where
    pub clock : ℕ
    pub outcome : Outcome
    pub given : gives (clock_of d) clock
    pub calls : calls_of d' ≡ calls_of d ++ called (call_at clock) outcome ∷ []
    pub pass : IsSamePass (view_of d.pass) (view_of d'.pass)
    pub comes : Comes steps event_of reply_of refuses (start_of (lock_of d)) (view_of d.pass) (call_at clock) outcome (view_of d'.pass)
    pub result_is : result ≡ told outcome
    pub site : d'.site ≡ d.site
    pub since : d'.since ≡ d.since

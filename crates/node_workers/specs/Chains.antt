-- What calls do to the pass that makes them.
use Rattle.std.specs.Prelude.{◌≡◌, ℕ, Ok, Err, List, [], ◌∷◌, ◌++◌, map}
use Rattle.std.specs.List.{flat_map}
use Rattle.node_calls.specs.declared.call.NodeCall.{NodeCall}
use Rattle.node_calls.specs.declared.reply.NodeReply.{NodeReply}
use Rattle.node_lock.specs.Histories.{StartsWith}
use Rattle.node_lock.specs.Stepped.{IsSamePass, Finds, Steps, Declines}
use Rattle.node_lock.specs.Views.{PassView}
use Rattle.node_workers.specs.Calls.{Outcome, Called, called}

module _ {S E : Type 0} (steps : S → E → S → Type 0) (event_of : E → NodeCall) (reply_of : E → NodeReply) (refuses : S → NodeCall → NodeCall → Type 0) (start : S) where
  -- a call goes through the lock: it makes a step, or the lock declines it
  abbrev pub Comes : PassView E → NodeCall → Outcome → PassView E → Type 0
  Comes v call (Ok receipt) w = Steps steps event_of reply_of start v call receipt w
  Comes v call (Err refused) w = Finds v w × Declines steps refuses start call refused w.seen

  -- the pass made these calls one after another, and no other
  pub data Makes (v : PassView E) : List Called → PassView E → Type 0 where
    none : Makes v [] v
    more : (calls : List Called) (call : NodeCall) (outcome : Outcome) (w x : PassView E)
        → Makes v calls w → IsSamePass w x → Comes w call outcome x → Makes v (calls ++ called call outcome ∷ []) x

-- ---- the entries that they leave

-- what an entry tells: under which number it stands, its call and its reply
abbrev pub Telling : Type 0
Telling = ℕ × NodeCall × NodeReply

-- a call that was made is told, and one that was declined is not
abbrev pub told_of : ℕ → NodeCall → Outcome → List Telling
told_of number call (Ok receipt) = (number, call, receipt.reply) ∷ []
told_of number call (Err refused) = []

abbrev pub told_by : ℕ → List Called → List Telling
told_by number calls = flat_map (λ c. told_of number c.call c.outcome) calls

module _ {E : Type 0} (event_of : E → NodeCall) (reply_of : E → NodeReply) where
  abbrev pub telling : ℕ × E → Telling
  telling x = (x.0, event_of x.1, reply_of x.1)

  -- The pass is the same one, and has seen at least what it had seen. The entries of the calls that were made stand behind those
  -- that it had, in order and under its number, and tell just these calls and their replies.
  pub record Leaves (v : PassView E) (calls : List Called) (w : PassView E) : Type 0 where
    pub pass : IsSamePass v w
    pub seen : StartsWith w.seen v.seen
    pub entries : List (ℕ × E)
    pub mine : w.mine ≡ v.mine ++ entries
    pub tell : map telling entries ≡ told_by v.number calls

module _ {S E : Type 0} (steps : S → E → S → Type 0) (event_of : E → NodeCall) (reply_of : E → NodeReply) (refuses : S → NodeCall → NodeCall → Type 0) where
  abbrev pub CallsLeaveEntries : Type 0
  CallsLeaveEntries = (start : S) (v w : PassView E) (calls : List Called) → Makes steps event_of reply_of refuses start v calls w → Leaves event_of reply_of v calls w

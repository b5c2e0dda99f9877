-- What a worker does that delivers a node's messages.
use Rattle.std.specs.Prelude.{◌≡◌, ℕ, ◌<◌, Option, Some, None, Ok, Err, List, length, map, All}
use Rattle.peer_messages.specs.declared.event.What.TheVariants.{Deliver}
use Rattle.peer_messages.specs.declared.message.Message.{Message}
use Rattle.node_calls.specs.Calls.{call_of}
use Rattle.node_calls.specs.declared.call.NodeCall.{NodeCall}
use Rattle.node_calls.specs.declared.reply.NodeReply.{NodeReply}
use Rattle.node_links.specs.declared.ends.Receiver.{Receiver}
use Rattle.node_lock.specs.Stepped.{IsSamePass}
use Rattle.node_lock.specs.Views.{PassView}
use Rattle.node_lock.specs.declared.answers.LockRefused.TheVariants as lock
use Rattle.node_workers.specs.Calls.{Outcome, Called, called, event_at, has_failed}
use Rattle.node_workers.specs.Chains.{Comes, Makes}
use Rattle.node_workers.specs.Endings.{ended_by, AreWell}
use Rattle.node_workers.specs.Taking.{Take}
use Rattle.node_workers.specs.declared.ended.Ended.{Ended}

-- a message that was taken from the link at this place, and delivered at this time, with what came of it
pub record Delivery : Type 0 where
  pub place : ℕ
  pub message : Message
  pub clock : ℕ
  pub outcome : Outcome

abbrev pub delivery : ℕ → Message → ℕ → Outcome → Delivery
delivery place message clock outcome = record { place = place; message = message; clock = clock; outcome = outcome }

abbrev pub taken_in : Delivery → ℕ × Message
taken_in d = (d.place, d.message)

abbrev pub call_in : Delivery → Called
call_in d = called (call_of (event_at d.clock (Deliver d.message))) d.outcome

-- the message for which the history had no room is held
abbrev pub held_with : Message → Outcome → Option Message
held_with message (Ok receipt) = None
held_with message (Err (lock.Full call)) = Some message
held_with message (Err (lock.Refused call)) = None

abbrev pub end_with : Message → Outcome → Ended
end_with message outcome = record { failed = has_failed outcome; held = held_with message outcome }

abbrev pub end_in : Delivery → Ended
end_in d = end_with d.message d.outcome

module _ {S E : Type 0} (steps : S → E → S → Type 0) (event_of : E → NodeCall) (reply_of : E → NodeReply) (refuses : S → NodeCall → NodeCall → Type 0) (start : S) (gives : ℕ → Type 0) where
  -- one message is delivered
  pub record DeliversOne (message : Message) (v w : PassView E) (ended : Ended) : Type 0 where
    pub clock : ℕ
    pub outcome : Outcome
    pub given : gives clock
    pub pass : IsSamePass v w
    pub comes : Comes steps event_of reply_of refuses start v (call_of (event_at clock (Deliver message))) outcome w
    pub ended_is : ended ≡ end_with message outcome

  -- The messages that the receivers took are delivered, each by one call and in the order in which they were taken. The last
  -- one alone may be such that the worker ended with it.
  pub record Delivers (rs : List (Receiver Message)) (v : PassView E) (rs' : List (Receiver Message)) (w : PassView E) (ended : Ended) : Type 0 where
    pub deliveries : List Delivery
    pub links : Take rs (map taken_in deliveries) rs'
    pub places : All (λ (d : Delivery). d.place < length rs) deliveries
    pub times : All (λ (d : Delivery). gives d.clock) deliveries
    pub made : Makes steps event_of reply_of refuses start v (map call_in deliveries) w
    pub going : AreWell end_in deliveries
    pub ended_is : ended ≡ ended_by end_in deliveries

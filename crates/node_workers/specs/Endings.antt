-- How workers end.
use Rattle.std.specs.Prelude.{◌≡◌, false, Option, Some, None, Result, Ok, Err, List, [], ◌∷◌, Bool}
use Rattle.peer_messages.specs.declared.event.What.{What}
use Rattle.peer_messages.specs.declared.event.What.TheVariants.{Client, Deliver, Alive, Collect, Flush, Tick}
use Rattle.peer_messages.specs.declared.message.Message.{Message}
use Rattle.node_lock.specs.declared.answers.LockRefused.TheVariants as lock
use Rattle.node_workers.specs.Calls.{Outcome, has_failed}
use Rattle.node_workers.specs.declared.ended.Ended.{Ended}

-- nothing failed, and nothing is held
abbrev pub well : Ended
well = record { failed = false; held = None }

abbrev pub message_in : What → Option Message
message_in (Client ask) = None
message_in (Deliver message) = Some message
message_in (Alive node alive) = None
message_in (Collect request) = None
message_in Flush = None
message_in Tick = None

-- the message of a call for which the history had no room
abbrev pub held_in : Outcome → Option Message
held_in (Ok receipt) = None
held_in (Err (lock.Full call)) = message_in call.event.what
held_in (Err (lock.Refused call)) = None

abbrev pub ended_in : Outcome → Ended
ended_in outcome = record { failed = has_failed outcome; held = held_in outcome }

-- how a worker stands: all is well while it goes on
abbrev pub ended_as : Result Bool Ended → Ended
ended_as (Ok going) = well
ended_as (Err ended) = ended

module _ {A : Type 0} (end_of : A → Ended) where
  -- a worker ends as the last thing that it did
  abbrev pub ended_by : List A → Ended
  ended_by [] = well
  ended_by (x ∷ []) = end_of x
  ended_by (x ∷ y ∷ rest) = ended_by (y ∷ rest)

  -- and goes on only while all is well
  abbrev pub AreWell : List A → Type 0
  AreWell [] = Unit {0}
  AreWell (x ∷ []) = Unit {0}
  AreWell (x ∷ y ∷ rest) = (end_of x ≡ well) × AreWell (y ∷ rest)

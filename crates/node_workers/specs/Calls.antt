-- Calls of a locked node, and what comes of them.
use Rattle.std.specs.Prelude.{ℕ, Bool, true, false, Option, Some, None, Result, Ok, Err, List, if◌then◌else◌, map}
use Rattle.std.specs.declared.snapshot.Snapshot.{Snapshot}
use Rattle.cs_base.specs.declared.ids.ReqId.{ReqId}
use Rattle.peer_messages.specs.declared.chronicle.Refusal.TheVariants.{Overloaded, Invalid, Down}
use Rattle.peer_messages.specs.declared.chronicle.Invalid.TheVariants.{PartitionTooLarge}
use Rattle.peer_messages.specs.declared.event.Event.{Event}
use Rattle.peer_messages.specs.declared.event.What.{What}
use Rattle.client_desk.specs.declared.answer.Answer.{Answer}
use Rattle.client_desk.specs.declared.answer.Answer.TheVariants as answer
use Rattle.node_calls.specs.declared.call.Cause.{Cause}
use Rattle.node_calls.specs.declared.call.Cause.TheVariants as cause
use Rattle.node_calls.specs.declared.call.NodeCall.{NodeCall}
use Rattle.node_calls.specs.declared.reply.NodeReply.{NodeReply}
use Rattle.node_lock.specs.declared.answers.Receipt.{Receipt}
use Rattle.node_lock.specs.declared.answers.LockRefused.{LockRefused}
use Rattle.node_lock.specs.declared.answers.LockRefused.TheVariants as lock

-- the receipt of the step that was made, or why none was
abbrev pub Outcome : Type 0
Outcome = Result (Receipt NodeReply) (LockRefused NodeCall)

-- a call, and what came of it
pub record Called : Type 0 where
  pub call : NodeCall
  pub outcome : Outcome

abbrev pub called : NodeCall → Outcome → Called
called call outcome = record { call = call; outcome = outcome }

abbrev pub called_by : Snapshot NodeCall × Outcome → Called
called_by x = called x.0.value x.1

-- the calls that a ghost list keeps
abbrev pub calls_in : List (Snapshot NodeCall × Outcome) → List Called
calls_in items = map called_by items

abbrev pub event_at : ℕ → What → Event
event_at clock what = record { clock = clock; what = what }

-- ---- the node failed

abbrev pub is_stopped : Option Cause → Bool
is_stopped None = false
is_stopped (Some cause.Nothing) = false
is_stopped (Some cause.NoRoom) = false
is_stopped (Some cause.TooLarge) = false
is_stopped (Some cause.NoMemory) = false
is_stopped (Some cause.Stopped) = true

-- the reply tells that the node's store failed, or the node refused the call since it has stopped
abbrev pub has_failed : Outcome → Bool
has_failed (Ok receipt) = receipt.reply.failed
has_failed (Err (lock.Full call)) = false
has_failed (Err (lock.Refused call)) = is_stopped call.cause

-- ---- what a client is told

-- a call that was refused for want of memory, or for no cause that a client's call has, is told as want of memory
abbrev pub answer_because : Option Cause → Answer
answer_because None = answer.NoMemory
answer_because (Some cause.Nothing) = answer.NoMemory
answer_because (Some cause.NoRoom) = answer.Refused Overloaded
answer_because (Some cause.TooLarge) = answer.Refused (Invalid PartitionTooLarge)
answer_because (Some cause.NoMemory) = answer.NoMemory
answer_because (Some cause.Stopped) = answer.Refused Down

abbrev pub name_in : Option ReqId → Result ReqId Answer
name_in None = Err answer.NoMemory
name_in (Some request) = Ok request

-- the name of a request that was submitted, or its answer
abbrev pub name_by : Outcome → Result ReqId Answer
name_by (Ok receipt) = if receipt.reply.failed then Err (answer.Refused Down) else name_in receipt.reply.started
name_by (Err (lock.Full call)) = Err (answer.Refused Overloaded)
name_by (Err (lock.Refused call)) = Err (answer_because call.cause)

-- a call that found nothing to collect is no answer
abbrev pub found_because : Option Cause → Option Answer
found_because None = Some (answer_because None)
found_because (Some cause.Nothing) = None
found_because (Some cause.NoRoom) = Some (answer_because (Some cause.NoRoom))
found_because (Some cause.TooLarge) = Some (answer_because (Some cause.TooLarge))
found_because (Some cause.NoMemory) = Some (answer_because (Some cause.NoMemory))
found_because (Some cause.Stopped) = Some (answer_because (Some cause.Stopped))

-- the answer that was collected, if there is one by now
abbrev pub answer_by : Outcome → Option Answer
answer_by (Ok receipt) = if receipt.reply.failed then Some (answer.Refused Down) else receipt.reply.answer
answer_by (Err (lock.Full call)) = Some (answer.Refused Overloaded)
answer_by (Err (lock.Refused call)) = found_because call.cause

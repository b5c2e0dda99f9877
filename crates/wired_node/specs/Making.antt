-- Which steps a locked node makes, and which calls it refuses.
use Rattle.std.specs.Prelude.{◌≡◌, ◌≤◌, ℕ, true, false, Option, Some, None, Result, Ok, Err, IsOkAnd, List, [], ◌++◌, filter, map}
use Rattle.std.specs.List.{list_any}
use Rattle.cs_base.specs.Faults.{HasRisen}
use Rattle.cs_store.specs.Disk.{Disk}
use Rattle.durable_state.specs.State.{Durable}
use Rattle.peer_messages.specs.declared.chronicle.Entry.{Entry}
use Rattle.peer_messages.specs.declared.event.Event.{Event}
use Rattle.peer_messages.specs.declared.event.What.{What}
use Rattle.peer_messages.specs.declared.event.What.TheVariants.{Client, Deliver, Alive, Collect, Flush, Tick}
use Rattle.peer_messages.specs.declared.outcome.Outputs.{Outputs}
use Rattle.client_desk.specs.declared.answer.Answer.{Answer}
use Rattle.node_calls.specs.declared.call.Cause.{Cause}
use Rattle.node_calls.specs.declared.call.Cause.TheVariants as cause
use Rattle.node_calls.specs.declared.call.NodeCall.{NodeCall}
use Rattle.node_calls.specs.declared.reply.NodeReply.{NodeReply}
use Rattle.node_calls.specs.Calls.{refused_for}
use Rattle.node_steps.specs.Steps.{risen_time, end_of_time}
use Rattle.node_steps.specs.Stops.{remains}
use Rattle.replica.specs.Lengths.{is_flush_due}
use Rattle.node_core.specs.declared.outcome.Lost.{Lost}
use Rattle.node_core.specs.declared.outcome.StepError.{StepError}
use Rattle.node_core.specs.declared.outcome.StepError.TheVariants.{Failed, NoRoom, TooLarge, NoMemory}
use Rattle.node_core.specs.Nodes.{Core, Steps, WouldKeep, HasRoom, HasNoRoom, IsTooLarge, Halts, IsIdle}
use Rattle.wired_node.specs.declared.entry.NodeEntry.{NodeEntry}
use Rattle.wired_node.specs.Answers.{is_answer, is_answer_to, collected_by, answer_for, left_behind}
use Rattle.wired_node.specs.Sending.{message_in, ArePut, AreLostUnlinked}
use Rattle.wired_node.specs.States.{Wiring, Parts, parts_of}

abbrev pub call_in : NodeEntry → NodeCall
call_in e = e.call

abbrev pub reply_in : NodeEntry → NodeReply
reply_in e = e.reply.value

-- ---- whether there is something to do

-- An event that a call may leave out has nothing to do: nothing is due, no answer to the request is kept, no flush is due
abbrev pub HasNothing : Core → ℕ → Option ℕ → List Entry → ℕ → What → Type 0
HasNothing core log_end since_flush answers clock Tick = IsIdle core clock
HasNothing core log_end since_flush answers clock (Collect id) = list_any (is_answer_to id) answers ≡ false
HasNothing core log_end since_flush answers clock Flush = is_flush_due log_end since_flush ≡ false
HasNothing core log_end since_flush answers clock (Client ask) = ⊥
HasNothing core log_end since_flush answers clock (Deliver m) = ⊥
HasNothing core log_end since_flush answers clock (Alive peer up) = ⊥

abbrev pub IsNothing : Parts → Event → Type 0
IsNothing p event = HasNothing p.core p.log_end p.since_flush p.answers event.clock event.what

-- the node runs, and the call is to be taken
pub record IsTaken (p : Parts) (call : NodeCall) : Type 0 where
  pub runs : p.core.runs ≡ true
  pub matter : call.optional ≡ true → IsNothing p call.event → ⊥

-- ---- a step

-- what is kept of answers, with those of a step
abbrev pub told_with : List Entry → Outputs → List Entry
told_with answers o = answers ++ filter is_answer o.entries

abbrev pub reply_of : Outputs → Option Answer → NodeReply
reply_of o given = record { started = o.started; answer = given; tables = o.tables; failed = false }

-- the node takes the event and gives these outputs
pub record Goes (honest : Type 0) (p : Parts) (e : NodeEntry) (o : Outputs) (p' : Parts) : Type 0 where
  pub taken : IsTaken p e.call
  pub runs : p'.core.runs ≡ true
  pub counted : p.faults ≤ p'.faults
  pub steps : honest → Steps p.core p.durable e.call.event o p'.core p'.durable
  pub within : risen_time p.core.time e.call.event ≤ end_of_time
  pub room : honest → WouldKeep p.core p.durable e.call.event (HasRoom p.log_end p.durable)
  -- its messages are put into their links, in order
  pub sent : map message_in e.sent.items ≡ o.sends
  pub senders : ArePut e.sent.items p.senders p'.senders
  pub unlinked : AreLostUnlinked e.sent.items p.senders
  -- what it answers is kept, but for what is collected
  pub answers : p'.answers ≡ left_behind (collected_by e.call.event.what) (told_with p.answers o)
  pub reply : e.reply.value ≡ reply_of o (answer_for (collected_by e.call.event.what) (told_with p.answers o))

abbrev pub failed_reply : NodeReply
failed_reply = record { started = None; answer = None; tables = None; failed = true }

-- a call of its store fails, and the node stops in the event, with this lost
pub record Stops (honest : Type 0) (stands_for : (ℕ → List ℕ) → Durable → Type 0) (p : Parts) (e : NodeEntry) (l : Lost) (p' : Parts) : Type 0 where
  pub taken : IsTaken p e.call
  pub core : p'.core ≡ record p.core { runs = false }
  pub counted : p.faults ≤ p'.faults
  pub cause : HasRisen p.faults p'.faults
  pub halts : honest → Halts p.core p.durable e.call.event (remains l.started l.entries) stands_for p'.disk
  pub sent : e.sent.items ≡ []
  pub senders : p'.senders ≡ p.senders
  pub answers : p'.answers ≡ p.answers
  pub reply : e.reply.value ≡ failed_reply

abbrev pub MakesBy : (honest : Type 0) → ((ℕ → List ℕ) → Durable → Type 0) → Parts → NodeEntry → Result Outputs StepError → Parts → Type 0
MakesBy honest stands_for p e (Ok o) p' = Goes honest p e o p'
MakesBy honest stands_for p e (Err (Failed l)) p' = Stops honest stands_for p e l p'
MakesBy honest stands_for p e (Err NoRoom) p' = ⊥
MakesBy honest stands_for p e (Err (TooLarge x)) p' = ⊥
MakesBy honest stands_for p e (Err NoMemory) p' = ⊥

-- the step of this entry is made
abbrev pub Makes : (honest : Type 0) → ((ℕ → List ℕ) → Durable → Type 0) → Parts → NodeEntry → Parts → Type 0
Makes honest stands_for p e p' = MakesBy honest stands_for p e e.told.value p'

-- ---- a refusal

abbrev pub IsCause : (honest : Type 0) → Parts → NodeCall → Cause → Type 0
IsCause honest p call cause.Stopped = p.core.runs ≡ false
IsCause honest p call cause.Nothing = (p.core.runs ≡ true) × (call.optional ≡ true) × IsNothing p call.event
IsCause honest p call cause.NoRoom = IsTaken p call × (honest → HasNoRoom p.core p.durable p.log_end call.event)
IsCause honest p call cause.TooLarge = IsTaken p call × (honest → (x : _) × IsTooLarge p.core p.durable call.event x)
IsCause honest p call cause.NoMemory = IsTaken p call

-- the call comes back, with its cause
abbrev pub Refuses : (honest : Type 0) → Parts → NodeCall → NodeCall → Type 0
Refuses honest p call back = (c : Cause) × (back ≡ refused_for c call) × IsCause honest p call c

-- ---- how a call comes to be taken or refused

abbrev pub IsUnlessRefused : (honest : Type 0) → Parts → NodeCall → Option Cause → Type 0
IsUnlessRefused honest p call None = IsTaken p call
IsUnlessRefused honest p call (Some c) = IsCause honest p call c

-- the cause of an error, unless the node has stopped
abbrev pub cause_of : StepError → Option Cause
cause_of (Failed l) = None
cause_of NoRoom = Some cause.NoRoom
cause_of (TooLarge x) = Some cause.TooLarge
cause_of NoMemory = Some cause.NoMemory

-- the entry and the reply of a step in which the node stopped
pub record IsFailure (call : NodeCall) (told : Result Outputs StepError) (r : NodeEntry × NodeReply) : Type 0 where
  pub call_is : r.0.call ≡ call
  pub told_is : r.0.told.value ≡ told
  pub sent : r.0.sent.items ≡ []
  pub told_reply : r.0.reply.value ≡ r.1
  pub reply : r.1 ≡ failed_reply

abbrev pub AfterError : NodeCall → Result Outputs StepError → Option Cause → Result (NodeEntry × NodeReply) NodeCall → Type 0
AfterError call told None result = IsOkAnd result (IsFailure call told)
AfterError call told (Some c) result = result ≡ Err (refused_for c call)

-- ---- of a node that is kept by a replica

module _ {R : Type 0} (honest : Type 0) (stands_for : (ℕ → List ℕ) → Durable → Type 0) (durable : R → Durable) (log_end : R → ℕ) (since_flush : R → Option ℕ) (disk : R → Disk) (faults : R → ℕ) where
  abbrev pub MakesIn : Wiring R → NodeEntry → Wiring R → Type 0
  MakesIn w e w' = Makes honest stands_for (parts_of durable log_end since_flush disk faults w) e (parts_of durable log_end since_flush disk faults w')

  abbrev pub RefusesIn : Wiring R → NodeCall → NodeCall → Type 0
  RefusesIn w call back = Refuses honest (parts_of durable log_end since_flush disk faults w) call back

-- Calls of a locked node.
use Rattle.std.specs.Prelude.{true, false, Option, Some, None}
use Rattle.peer_messages.specs.declared.event.Event.{Event}
use Rattle.node_calls.specs.declared.call.Cause.{Cause}
use Rattle.node_calls.specs.declared.call.NodeCall.{NodeCall}

-- the event is to be taken in any case
abbrev pub call_of : Event → NodeCall
call_of event = record { event = event; optional = false; cause = None }

-- the event is to be taken only where it has something to do
abbrev pub optional_call_of : Event → NodeCall
optional_call_of event = record { event = event; optional = true; cause = None }

-- the call was refused for this cause
abbrev pub refused_for : Cause → NodeCall → NodeCall
refused_for cause call = record call { cause = Some cause }

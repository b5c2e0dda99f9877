-- What the entries of a locked node's history tell of its steps.
use Rattle.std.specs.Prelude.{ℕ, Result, Ok, Err, List, [], ◌∷◌, flat_map}
use Rattle.durable_state.specs.State.{Durable}
use Rattle.peer_messages.specs.declared.event.Event.{Event}
use Rattle.peer_messages.specs.declared.outcome.Outputs.{Outputs}
use Rattle.node_steps.specs.State.{NodeState}
use Rattle.node_core.specs.Nodes.{state_with}
use Rattle.node_core.specs.declared.outcome.StepError.{StepError}
use Rattle.lawful_orders.specs.Histories.{Taken}
use Rattle.wired_node.specs.declared.entry.NodeEntry.{NodeEntry}
use Rattle.wired_node.specs.States.{Wiring}

-- a step that was made, with its event and its outputs. One in which the node stopped gives none
abbrev pub told_as : Event → Result Outputs StepError → List Taken
told_as event (Ok o) = record { event = event; outputs = o } ∷ []
told_as event (Err error) = []

abbrev pub taken_by : ℕ × NodeEntry → List Taken
taken_by x = told_as x.1.call.event x.1.told.value

-- the steps of a history's entries, in order
abbrev pub taken_in : List (ℕ × NodeEntry) → List Taken
taken_in history = flat_map taken_by history

-- the node's state, with what its replica keeps
abbrev pub node_state : {R : Type 0} → (R → Durable) → Wiring R → NodeState
node_state durable w = state_with w.core (durable w.replica)

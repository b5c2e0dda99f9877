-- The events of one node's history, each with the node time to which its step rose.
use Rattle.std.specs.Prelude.{ℕ, List, [], ◌∷◌}
use Rattle.peer_messages.specs.declared.event.Event.{Event}
use Rattle.node_steps.specs.Steps.{looked_at, risen_time}
use Rattle.wired_node.specs.declared.entry.NodeEntry.{NodeEntry}
use Rattle.merged_histories.specs.declared.timed.Timed.{Timed}

abbrev pub event_in : ℕ × NodeEntry → Event
event_in x = x.1.call.event

-- what the node looked at of the event, at the same reading of the clock
abbrev pub seen_event : ℕ → Event → Event
seen_event time e = record e { what = looked_at time e }

abbrev pub timed_event : ℕ → ℕ → Event → Timed
timed_event node time e = record { time = risen_time time e; placed = record { node = node; event = seen_event time e } }

-- the events that a node takes from a time on
abbrev pub timed_from : ℕ → ℕ → List Event → List Timed
timed_from node time [] = []
timed_from node time (e ∷ es) = timed_event node time e ∷ timed_from node (risen_time time e) es

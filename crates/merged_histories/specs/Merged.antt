-- What it is that the histories of nodes are merged.
use Rattle.std.specs.Prelude.{◌≡◌, ℕ, List, length, map}
use Rattle.std.specs.List.{AllByRecursion}
use Rattle.peer_messages.specs.declared.setting.Setting.{Setting}
use Rattle.node_steps.specs.State.{NodeState}
use Rattle.lawful_orders.specs.Histories.{Taken, AllStepThrough}
use Rattle.lawful_orders.specs.Orders.{Placed}
use Rattle.lawful_orders.specs.Merged.{IsMerged}
use Rattle.wired_histories.specs.Told.{taken_in}
use Rattle.merged_histories.specs.declared.histories.NodeHistory.{NodeHistory}
use Rattle.merged_histories.specs.declared.timed.PlacedEvent.{PlacedEvent}

abbrev pub taken_by : NodeHistory → List Taken
taken_by h = taken_in h.entries.now

abbrev pub start_of : NodeHistory → ℕ
start_of h = h.start

abbrev pub time_of : NodeState → ℕ
time_of s = s.time

-- each of its entries is a step that was made
abbrev pub IsWhole : NodeHistory → Type 0
IsWhole h = length (taken_by h) ≡ length h.entries.now

-- the nodes went through these histories, from states with the times at which they start
pub record AreHistories (c : Setting) (states ends : List NodeState) (histories : List NodeHistory) : Type 0 where
  pub steps : AllStepThrough c states (map taken_by histories) ends
  pub times : map time_of states ≡ map start_of histories
  pub whole : AllByRecursion IsWhole histories

abbrev pub event_at : Placed → PlacedEvent
event_at p = record { node = p.node; event = p.taken.event }

-- these are the events of the histories, merged
pub record AreMerged (histories : List (List Taken)) (events : List PlacedEvent) : Type 0 where
  pub order : List Placed
  pub merged : IsMerged histories order
  pub events_are : map event_at order ≡ events

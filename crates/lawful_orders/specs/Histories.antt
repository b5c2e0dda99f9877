-- Histories of nodes: which events a node took, one after another, and what it gave.
use Rattle.std.specs.Prelude.{◌≡◌, ℕ, Some, List, [], ◌∷◌, Contains, flat_map, length, slice_get}
use Rattle.peer_messages.specs.declared.message.Message.{Message}
use Rattle.peer_messages.specs.declared.event.Event.{Event}
use Rattle.peer_messages.specs.declared.event.What.TheVariants.{Deliver}
use Rattle.peer_messages.specs.declared.outcome.Outputs.{Outputs}
use Rattle.peer_messages.specs.declared.setting.Setting.{Setting}
use Rattle.node_steps.specs.State.{NodeState}
use Rattle.node_steps.specs.Acts.{Deed}
use Rattle.node_steps.specs.Steps.{NodeStep}
use Rattle.cluster_runs.specs.World.{Standing, Running}

abbrev pub running : NodeState → Standing
running s = Running s

-- an event that a node took, and the outputs that it gave
pub record Taken : Type 0 where
  pub event : Event
  pub outputs : Outputs

abbrev pub sent_by : Taken → List Message
sent_by t = t.outputs.sends

-- the messages of a history, in order
abbrev pub sent_in : List Taken → List Message
sent_in history = flat_map sent_by history

-- node k goes by these steps, one for each entry, from s to s'
abbrev pub StepsThrough : Setting → ℕ → NodeState → List Taken → NodeState → Type 0
StepsThrough c k s [] s' = s ≡ s'
StepsThrough c k s (t ∷ ts) s' = (deeds : List Deed) × (next : NodeState) × NodeStep c k s t.event deeds t.outputs next × StepsThrough c k next ts s'

-- each node, by number, goes through its history
pub record AllStepThrough (c : Setting) (starts : List NodeState) (histories : List (List Taken)) (ends : List NodeState) : Type 0 where
  pub as_many : length histories ≡ length starts
  pub as_many_ends : length ends ≡ length starts
  pub each : (k : ℕ) (s s' : NodeState) (history : List Taken) → slice_get starts k ≡ Some s → slice_get histories k ≡ Some history → slice_get ends k ≡ Some s' → StepsThrough c k s history s'

-- a message to node k is of an entry of some node's history
pub record IsOfHistories (histories : List (List Taken)) (k : ℕ) (m : Message) : Type 0 where
  pub upto : m.upto ≡ k
  pub sender : ℕ
  pub history : List Taken
  pub at : slice_get histories sender ≡ Some history
  pub sent : Contains (sent_in history) m

-- each message that the histories deliver is
abbrev pub DeliverTheirOwn : List (List Taken) → Type 0
DeliverTheirOwn histories =
    (k : ℕ) (history : List Taken) → slice_get histories k ≡ Some history → (t : Taken) → Contains history t → (m : Message) → t.event.what ≡ Deliver m → IsOfHistories histories k m

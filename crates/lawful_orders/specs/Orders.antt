-- Orders of the entries of nodes' histories: each keeps each node's order. In a lawful one a message comes behind the step that sent it.
use Rattle.std.specs.Prelude.{◌≡◌, ◌<◌, ℕ, ◌==◌, ◌++◌, if◌then◌else◌, Some, List, [], ◌∷◌, Contains, flat_map, length, slice_get}
use Rattle.peer_messages.specs.declared.message.Message.{Message}
use Rattle.peer_messages.specs.declared.setting.Setting.{Setting}
use Rattle.cluster_runs.specs.World.{World}
use Rattle.cluster_runs.specs.Run.{WasSent, ClusterStep, stepped}
use Rattle.lawful_orders.specs.Histories.{Taken}

-- an entry, with the node of whose history it is
pub record Placed : Type 0 where
  pub node : ℕ
  pub taken : Taken

-- the entries of node k in an order
abbrev pub history_in : ℕ → List Placed → List Taken
history_in k [] = []
history_in k (p ∷ ps) = if p.node == k then p.taken ∷ history_in k ps else history_in k ps

-- the order has the entries of these histories, and no others, those of each node as they stand in its history
pub record IsOrderOf (histories : List (List Taken)) (order : List Placed) : Type 0 where
  pub within : (p : Placed) → Contains order p → p.node < length histories
  pub each : (k : ℕ) (history : List Taken) → slice_get histories k ≡ Some history → history_in k order ≡ history

-- ---- lawful orders

abbrev pub sent_at : Placed → List Message
sent_at p = p.taken.outputs.sends

-- the messages of the entries, in order
abbrev pub sent_along : List Placed → List Message
sent_along order = flat_map sent_at order

-- each message that comes was sent before, and to this node
abbrev pub IsLawful : List Message → List Placed → Type 0
IsLawful sent [] = Unit {0}
IsLawful sent (p ∷ ps) = WasSent sent p.node p.taken.event.what × IsLawful (sent ++ p.taken.outputs.sends) ps

-- ---- runs

-- the node takes the event and gives these outputs. What that makes of the cluster, its chronicle too, is fixed
pub record Takes (c : Setting) (w : World) (p : Placed) (w' : World) : Type 0 where
  pub step : ClusterStep c w p.node p.taken.event w'
  pub outputs : step.outputs ≡ p.taken.outputs
  pub world : w' ≡ stepped c w p.node step.deeds p.taken.outputs step.after

-- the cluster goes from w to w' by these steps, one for each entry
abbrev pub RunsThrough : Setting → World → List Placed → World → Type 0
RunsThrough c w [] w' = w ≡ w'
RunsThrough c w (p ∷ ps) w' = (next : World) × Takes c w p next × RunsThrough c next ps w'

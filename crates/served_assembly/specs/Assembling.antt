-- Nodes that are put together with their links and doors.
use Rattle.std.specs.Prelude.{◌≡◌, ℕ, true, List, [], ◌∷◌, length, map, Some, Vec}
use Rattle.std.specs.List.{slice_get}
use Rattle.std.specs.declared.alloc.Global.{Global}
use Rattle.durable_state.specs.State.{Durable}
use Rattle.peer_messages.specs.declared.message.Message.{Message}
use Rattle.node_core.specs.declared.node.Node.{Node}
use Rattle.node_links.specs.declared.ends.Receiver.{Receiver}
use Rattle.replica.specs.Kept.{IsKeptOf}
use Rattle.served_jobs.specs.declared.duty.Duty.{Duty}
use Rattle.served_jobs.specs.declared.duty.Duty.TheVariants as duty
use Rattle.served_links.specs.declared.ends.NodeLinks.{NodeLinks}
use Rattle.served_nodes.specs.declared.node.NodeParts.{NodeParts}
use Rattle.wired_node.specs.States.{Wiring}

-- the node runs, and its replica keeps what it keeps
abbrev pub Runs : {R K : Type 0} → (R → Type 0) → (R → Durable) → (honest : Type 0) → Node R K → Type 0
Runs is_whole durable honest node = (node.core.runs ≡ true) × is_whole node.replica × (honest → IsKeptOf (durable node.replica) node.core.kept)

-- the jobs of a node with these links to it and these doors
abbrev pub duties_of : {D : Type 0} → List (Receiver Message) → List D → List (Duty D)
duties_of receivers doors = duty.Links receivers ∷ duty.Ticks ∷ duty.Merges ∷ map duty.Connections doors

-- a node as it stood by itself, with its links and its jobs
pub record IsAssembled {R K D : Type 0} (node : Node R K) (links : NodeLinks) (doors : Vec D Global) (part : NodeParts (Wiring R) D) : Type 0 where
  pub state : part.state ≡ record { core = node.core; replica = node.replica; senders = links.senders.items; answers = [] }
  pub duties : part.duties.items ≡ duties_of links.receivers doors.items

-- so is each node, place by place
pub record AreAssembled {R K D : Type 0} (nodes : List (Node R K)) (links : List NodeLinks) (doors : List (Vec D Global)) (parts : List (NodeParts (Wiring R) D)) : Type 0 where
  pub count : length parts ≡ length nodes
  pub each : (k : ℕ) (node : Node R K) (a : NodeLinks) (d : Vec D Global) (part : NodeParts (Wiring R) D)
      → slice_get nodes k ≡ Some node → slice_get links k ≡ Some a → slice_get doors k ≡ Some d → slice_get parts k ≡ Some part → IsAssembled node a d part

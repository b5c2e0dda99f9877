-- What served runs leave: a history and a state of each node, and its store.
use Rattle.std.specs.Prelude.{◌≡◌, ◌<◌, ℕ, Some, List, map, slice_get}
use Rattle.cs_store.specs.Images.{formatted_bytes}
use Rattle.durable_state.specs.State.{Durable}
use Rattle.node_steps.specs.State.{NodeState}
use Rattle.cluster_runs.specs.World.{Standing}
use Rattle.lawful_orders.specs.Histories.{Taken}
use Rattle.lawful_orders.specs.Restarts.{IsFound}
use Rattle.wired_node.specs.States.{Wiring}
use Rattle.wired_node.specs.declared.entry.NodeEntry.{NodeEntry}
use Rattle.wired_histories.specs.Told.{node_state, taken_in}
use Rattle.served_nodes.specs.declared.node.NodeLeft.{NodeLeft}

-- the steps of each node, by number, in order
abbrev pub histories_of : {R D : Type 0} → List (NodeLeft (Wiring R) D NodeEntry) → List (List Taken)
histories_of {R} {D} left = map (λ (x : NodeLeft (Wiring R) D NodeEntry). taken_in x.history) left

-- the state of each at the end
abbrev pub states_of : {R D : Type 0} → (R → Durable) → List (NodeLeft (Wiring R) D NodeEntry) → List NodeState
states_of {R} {D} durable left = map (λ (x : NodeLeft (Wiring R) D NodeEntry). node_state durable x.state) left

module _ (stands_for : (ℕ → List ℕ) → Durable → Type 0) where
  -- Nodes left this in their stores: whatever the files of one stand for, it is what the node kept, in whatever order.
  abbrev pub HoldWhatIsLeft : List Standing → (ℕ → ℕ → List ℕ) → Type 0
  HoldWhatIsLeft standing holds = (n : ℕ) (x : Standing) → slice_get standing n ≡ Some x → (d : Durable) → stands_for (holds n) d → IsFound x d

  -- each of these was found in the files of its node
  abbrev pub AreFoundIn : List Durable → (ℕ → ℕ → List ℕ) → Type 0
  AreFoundIn found holds = (n : ℕ) (d : Durable) → slice_get found n ≡ Some d → stands_for (holds n) d

-- the stores of so many nodes are formatted
abbrev pub AreFormatted : ℕ → (ℕ → ℕ → List ℕ) → Type 0
AreFormatted nodes holds = (n : ℕ) → n < nodes → (k : ℕ) → holds n k ≡ formatted_bytes k

-- All nodes of a cluster are stopped and loaded.
use Rattle.std.specs.Prelude.{◌≡◌, ◌⊎◌, ◌+◌, ℕ, Option, Some, List, [], ◌∷◌, map, slice_get}
use Rattle.std.specs.List.{AllZip}
use Rattle.durable_state.specs.State.{Durable, IsSameKept}
use Rattle.node_steps.specs.State.{NodeState, durable_of, loaded}
use Rattle.cluster_runs.specs.World.{World, Standing, Running, Down, Made, left_by}
use Rattle.cluster_runs.specs.Run.{Stop, Load}
use Rattle.lawful_orders.specs.Histories.{running}

-- what the store of a node has, whether the node runs or is down
abbrev pub stored_by : Standing → Durable
stored_by (Running s) = durable_of s
stored_by (Down s made) = left_by s made

-- this is found in its store, in whatever order
abbrev pub IsFound : Standing → Durable → Type 0
IsFound x found = IsSameKept (stored_by x) found

-- and so in the store of each
abbrev pub AreFound : List Standing → List Durable → Type 0
AreFound standing found = AllZip IsFound standing found

-- node k is down
pub record IsDown (w : World) (k : ℕ) : Type 0 where
  pub before : NodeState
  pub made : Option Made
  pub at : slice_get w.standing k ≡ Some (Down before made)

-- node k stops, if it runs
abbrev pub ComesDown : World → ℕ → World → Type 0
ComesDown w k w' = Stop w k w' ⊎ (IsDown w k × (w' ≡ w))

-- node k comes down, and is loaded from this
pub record Restarts (w : World) (k : ℕ) (found : Durable) (w' : World) : Type 0 where
  pub off : World
  pub comes_down : ComesDown w k off
  pub load : Load off k w'
  pub found_is : load.found ≡ found

-- the nodes from number k on are restarted, one after another, each once
abbrev pub RestartFrom : ℕ → World → List Durable → World → Type 0
RestartFrom k w [] w' = w ≡ w'
RestartFrom k w (d ∷ ds) w' = (next : World) × Restarts w k d next × RestartFrom (k + 1) next ds w'

-- all nodes are restarted, and nothing else happens
pub record IsRestarted (w : World) (found : List Durable) (w' : World) : Type 0 where
  pub moves : RestartFrom 0 w found w'
  pub standing : w'.standing ≡ map running (map loaded found)
  pub sent : w'.sent ≡ w.sent
  pub chronicle : w'.chronicle ≡ w.chronicle

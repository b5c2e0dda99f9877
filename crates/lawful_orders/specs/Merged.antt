-- Histories in one order by node time.
use Rattle.std.specs.Prelude.{◌≡◌, ◌<◌, ◌≤◌, ◌⊎◌, List, [], ◌∷◌, Contains, map}
use Rattle.lawful_orders.specs.Ahead.{all_seen}
use Rattle.lawful_orders.specs.Histories.{Taken}
use Rattle.lawful_orders.specs.Orders.{Placed, IsOrderOf}

-- p stands before q by node time, and then by node
abbrev pub IsNoLater : Placed → Placed → Type 0
IsNoLater p q = (p.taken.outputs.time < q.taken.outputs.time) ⊎ ((p.taken.outputs.time ≡ q.taken.outputs.time) × (p.node ≤ q.node))

abbrev pub IsByTime : List Placed → Type 0
IsByTime [] = Unit {0}
IsByTime (p ∷ ps) = ((q : Placed) → Contains ps q → IsNoLater p q) × IsByTime ps

-- the entries of the histories by node time, and then by node. One whose message was ahead stands there as a reading of the clock
pub record IsMerged (histories : List (List Taken)) (order : List Placed) : Type 0 where
  pub is_order : IsOrderOf (map all_seen histories) order
  pub by_time : IsByTime order

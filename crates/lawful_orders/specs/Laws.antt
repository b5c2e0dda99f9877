-- The laws of lawful orders.
use Rattle.std.specs.Prelude.{◌≡◌, ◌↔◌, ◌++◌, ℕ, Some, List, ◌∷◌, Contains, map, slice_get}
use Rattle.durable_state.specs.State.{Durable}
use Rattle.peer_messages.specs.declared.message.Message.{Message}
use Rattle.peer_messages.specs.declared.event.Event.{Event}
use Rattle.peer_messages.specs.declared.outcome.Outputs.{Outputs}
use Rattle.peer_messages.specs.declared.setting.Setting.{Setting}
use Rattle.node_steps.specs.State.{NodeState}
use Rattle.node_steps.specs.Acts.{Deed}
use Rattle.node_steps.specs.Steps.{NodeStep, is_ahead}
use Rattle.cluster_runs.specs.World.{World, Running}
use Rattle.cluster_runs.specs.Run.{RunFrom, WasSent}
use Rattle.lawful_orders.specs.Histories.{Taken, StepsThrough, AllStepThrough, DeliverTheirOwn, running}
use Rattle.lawful_orders.specs.Orders.{Placed, history_in, IsOrderOf, IsLawful, RunsThrough, sent_along}
use Rattle.lawful_orders.specs.Restarts.{AreFound, IsRestarted}
use Rattle.lawful_orders.specs.Ahead.{stays_below, all_seen}
use Rattle.lawful_orders.specs.Merged.{IsMerged}

-- the cluster goes through the order, which a run goes on by, and all nodes run at its end, in these states
pub record ComesTo (c : Setting) (first w : World) (order : List Placed) (ends : List NodeState) : Type 0 where
  pub last : World
  pub through : RunsThrough c w order last
  pub run : RunFrom c first last
  pub standing : last.standing ≡ map running ends
  pub sent : last.sent ≡ w.sent ++ sent_along order

-- where all nodes run, each lawful order of their histories is a run, and each node comes to where its history leads
abbrev pub LawfulOrdersAreRuns : Type 0
LawfulOrdersAreRuns =
    (c : Setting) (first w : World) (starts ends : List NodeState) (histories : List (List Taken)) (order : List Placed)
    → RunFrom c first w → w.standing ≡ map running starts → AllStepThrough c starts histories ends → IsOrderOf histories order → IsLawful w.sent order → ComesTo c first w order ends

-- a run goes on by the steps of an order
abbrev pub OrdersGoOn : Type 0
OrdersGoOn = (c : Setting) (first w w' : World) (order : List Placed) → RunFrom c first w → RunsThrough c w order w' → RunFrom c first w'

-- Such an order is lawful, and each node that ran goes through its entries.
abbrev pub OrdersAreLawful : Type 0
OrdersAreLawful =
    (c : Setting) (w w' : World) (order : List Placed) → RunsThrough c w order w'
    → IsLawful w.sent order × ((k : ℕ) (s : NodeState) → slice_get w.standing k ≡ Some (Running s) → (s' : NodeState) × (slice_get w'.standing k ≡ Some (Running s')) × StepsThrough c k s (history_in k order) s')

-- all nodes may be restarted, from whatever their stores are found to have
abbrev pub RestartsAreRuns : Type 0
RestartsAreRuns = (c : Setting) (first w : World) (found : List Durable) → RunFrom c first w → AreFound w.standing found → (w' : World) × IsRestarted w found w' × RunFrom c first w'

-- an order is lawful just where each message that comes was sent before the order, or by an entry that stands before
abbrev pub LawfulIsSentBefore : Type 0
LawfulIsSentBefore =
    (sent : List Message) (order : List Placed)
    → IsLawful sent order ↔ ((before behind : List Placed) (p : Placed) → order ≡ before ++ p ∷ behind → WasSent (sent ++ sent_along before) p.node p.taken.event.what)

-- and it stays so where more was sent before
abbrev pub LawfulStaysSo : Type 0
LawfulStaysSo = (sent more : List Message) (order : List Placed) → ((m : Message) → Contains sent m → Contains more m) → IsLawful sent order → IsLawful more order

-- ---- by node time

-- histories that nodes went through are merged in some order
abbrev pub HistoriesMerge : Type 0
HistoriesMerge = (c : Setting) (starts ends : List NodeState) (histories : List (List Taken)) → AllStepThrough c starts histories ends → (order : List Placed) × IsMerged histories order

-- and in one only
abbrev pub MergedIsOne : Type 0
MergedIsOne = (histories : List (List Taken)) (a b : List Placed) → IsMerged histories a → IsMerged histories b → a ≡ b

-- merged histories are in a lawful order, whatever was sent before, if each message that they deliver is of one of them
abbrev pub MergedIsLawful : Type 0
MergedIsLawful =
    (c : Setting) (starts ends : List NodeState) (histories : List (List Taken)) (order : List Placed) (sent : List Message)
    → AllStepThrough c starts histories ends → DeliverTheirOwn histories → IsMerged histories order → IsLawful sent order

-- and so they are a run
abbrev pub MergedIsARun : Type 0
MergedIsARun =
    (c : Setting) (first w : World) (starts ends : List NodeState) (histories : List (List Taken)) (order : List Placed)
    → RunFrom c first w → w.standing ≡ map running starts → AllStepThrough c starts histories ends → DeliverTheirOwn histories → IsMerged histories order → ComesTo c first w order ends

-- a message is ahead of a node just where the step does not pass its time
abbrev pub AheadIsNotPassed : Type 0
AheadIsNotPassed = (c : Setting) (k : ℕ) (s s' : NodeState) (e : Event) (deeds : List Deed) (o : Outputs) → NodeStep c k s e deeds o s' → stays_below o.time e.what ≡ is_ahead s.time e e.what

-- where messages that were ahead count as readings of the clock, a node goes through its history all the same
abbrev pub AheadIsATick : Type 0
AheadIsATick = (c : Setting) (k : ℕ) (s s' : NodeState) (history : List Taken) → StepsThrough c k s history s' → StepsThrough c k s (all_seen history) s'

-- Runs of a cluster that go on by what its nodes did while they were served.
use Rattle.std.specs.Prelude.{◌≡◌, ℕ, List, [], map}
use Rattle.durable_state.specs.State.{Durable}
use Rattle.peer_messages.specs.declared.setting.Setting.{Setting}
use Rattle.node_steps.specs.State.{NodeState}
use Rattle.cluster_runs.specs.World.{World}
use Rattle.cluster_runs.specs.Run.{Run}
use Rattle.read_consistency.specs.ReadRight.{ReadRight}
use Rattle.reads_forward.specs.ReadsForward.{ReadsForward}
use Rattle.answer_causes.specs.AnswersRight.{AnswersRight}
use Rattle.lawful_orders.specs.Histories.{Taken, running}
use Rattle.lawful_orders.specs.Orders.{Placed, IsOrderOf, IsLawful, RunsThrough}
use Rattle.lawful_orders.specs.Merged.{IsMerged}
use Rattle.lawful_orders.specs.Restarts.{IsRestarted}
use Rattle.served_theorem.specs.Left.{HoldWhatIsLeft, AreFoundIn}

-- it is a run, and so all holds of it that holds of runs
pub record HoldsOf (c : Setting) (w : World) : Type 0 where
  pub run : Run c w
  pub reads : ReadRight c w.chronicle
  pub forward : ReadsForward c w.chronicle
  pub causes : AnswersRight c w.chronicle

module _ (stands_for : (ℕ → List ℕ) → Durable → Type 0) (c : Setting) where
  -- The cluster goes on by the entries of this order, and its nodes come to these states, which their stores hold.
  pub record GoesOnBy (begun : World) (order : List Placed) (ends : List NodeState) (holds : ℕ → ℕ → List ℕ) : Type 0 where
    pub last : World
    pub through : RunsThrough c begun order last
    pub standing : last.standing ≡ map running ends
    pub true_of : HoldsOf c last
    pub left : HoldWhatIsLeft stands_for last.standing holds

  -- Behind the earlier run all nodes were loaded from what their stores held, and then each went through its history. Whatever order
  -- that came in, the run goes on by it, where each message stands behind the step that sent it. By node time it does, with a message
  -- that came too early as a reading of the clock; and there is such an order.
  pub record IsServedRun (earlier : World) (held : ℕ → ℕ → List ℕ) (histories : List (List Taken)) (ends : List NodeState) (holds : ℕ → ℕ → List ℕ) : Type 0 where
    pub found : List Durable
    pub begun : World
    pub restarted : IsRestarted earlier found begun
    pub in_stores : AreFoundIn stands_for found held
    pub lawful : (order : List Placed) → IsOrderOf histories order → IsLawful earlier.sent order → GoesOnBy begun order ends holds
    pub merged : (order : List Placed) → IsMerged histories order → IsLawful [] order × GoesOnBy begun order ends holds
    pub there : (order : List Placed) × IsMerged histories order

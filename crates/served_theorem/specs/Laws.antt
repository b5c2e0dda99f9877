-- The laws of served runs.
use Rattle.std.specs.Prelude.{◌⊎◌, ℕ, Option, List, length}
use Rattle.cs_base.specs.Faults.{HasRisen}
use Rattle.durable_state.specs.State.{Durable}
use Rattle.peer_messages.specs.declared.setting.Setting.{Setting}
use Rattle.cluster_runs.specs.World.{World, start}
use Rattle.cluster_runs.specs.Run.{Run}
use Rattle.lawful_orders.specs.Histories.{DeliverTheirOwn}
use Rattle.lawful_orders.specs.Orders.{Placed, IsOrderOf, RunsThrough}
use Rattle.lawful_orders.specs.Merged.{IsMerged}
use Rattle.served_stores.specs.Shown.{Shown}
use Rattle.served_run.specs.declared.desk.Desk.{Desk}
use Rattle.served_run.specs.declared.host.Host.{Host}
use Rattle.served_cluster.specs.declared.ending.ServedRun.{ServedRun}
use Rattle.served_cluster.specs.Kinds.{ReplicaKind, DoorKind, StreamKind}
use Rattle.served_cluster.specs.Served.{IsServed}
use Rattle.served_theorem.specs.Left.{histories_of, states_of, HoldWhatIsLeft, AreFormatted}
use Rattle.served_theorem.specs.Runs.{IsServedRun}
use Rattle.served_theorem.specs.Visits.{TellsAll, visits_served}

module _ {R D L C S T : Type 0} (W G K : Type 0) (r : ReplicaKind R) (d : DoorKind D L) (gives : C → ℕ → Type 0) (s : StreamKind S T) where
  -- each message that a node of a served run took was sent by a step of a node of this run
  abbrev pub ServedMessagesWereSent : Type 0
  ServedMessagesWereSent =
      (host : Host W C G) (desk : Desk S T) (before now : ℕ) (c : Setting) (old new : Shown) (result : ServedRun S T) (full : Option ℕ)
      → (served : IsServed K r d gives s host desk (HasRisen before now) c old new result full)
      → DeliverTheirOwn (histories_of served.served.served.left)

  -- Where disks are honest, a served run goes on a run that left what the stores held, and leaves what they hold.
  abbrev pub ServedRunsAreRuns : Type 0
  ServedRunsAreRuns =
      (host : Host W C G) (desk : Desk S T) (before now : ℕ) (c : Setting) (old new : Shown) (result : ServedRun S T) (full : Option ℕ) (earlier : World)
      → (served : IsServed K r d gives s host desk (HasRisen before now) c old new result full)
      → r.is_honest → Run c earlier → HoldWhatIsLeft r.stands_for earlier.standing old.holds
      → IsServedRun r.stands_for c earlier old.holds (histories_of served.served.served.left) (states_of r.durable served.served.served.left) new.holds

  -- Along each order in which the steps of a served run may have come, the chronicle enters what its clients were told.
  abbrev pub ServedAnswersAreEntered : Type 0
  ServedAnswersAreEntered =
      (host : Host W C G) (desk : Desk S T) (before now : ℕ) (c : Setting) (old new : Shown) (result : ServedRun S T) (full : Option ℕ) (begun last : World) (order : List Placed)
      → (served : IsServed K r d gives s host desk (HasRisen before now) c old new result full)
      → IsOrderOf (histories_of served.served.served.left) order ⊎ IsMerged (histories_of served.served.served.left) order
      → RunsThrough c begun order last
      → TellsAll begun last (visits_served r d gives s host desk (HasRisen before now) served.served.served)

-- formatted stores hold what is left of a run in which nothing happened
abbrev pub FormattedStoresAreLeft : ((ℕ → List ℕ) → Durable → Type 0) → Type 0
FormattedStoresAreLeft stands_for = (c : Setting) (holds : ℕ → ℕ → List ℕ) → AreFormatted (length c.ring) holds → Run c (start c) × HoldWhatIsLeft stands_for (start c).standing holds

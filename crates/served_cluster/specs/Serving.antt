-- What the parts of a served run do, beginning with nodes that are loaded.
use Rattle.std.specs.Prelude.{◌≡◌, ℕ, ◌<◌, ◌≤◌, false, Option, Some, None, List, slice_get}
use Rattle.cs_base.specs.Faults.{HasRisen}
use Rattle.node_core.specs.declared.node.Node.{Node}
use Rattle.served_assembly.specs.Assembling.{Runs}
use Rattle.served_run.specs.declared.desk.Desk.{Desk}
use Rattle.served_run.specs.declared.host.Host.{Host}
use Rattle.served_stores.specs.Shown.{Shown, IsSameAt}
use Rattle.served_cluster.specs.declared.ending.ServedEnd.TheVariants as served
use Rattle.served_cluster.specs.declared.ending.ServedRun.{ServedRun}
use Rattle.served_cluster.specs.Ends.{GivesAllBack}
use Rattle.served_cluster.specs.Kinds.{ReplicaKind, StreamKind}
use Rattle.served_cluster.specs.Served.{StreamsAreBack}

-- each of the nodes runs, and its store has counted no fewer faults than when it was taken
abbrev pub AreOut : {R K : Type 0} → ReplicaKind R → List (Node R K) → Shown → Type 0
AreOut {R} {K} r nodes out = (n : ℕ) (node : Node R K) → slice_get nodes n ≡ Some node → Runs r.is_whole r.durable r.is_honest node × (out.taken n ≤ r.faults node.replica)

module _ {R W G C S T : Type 0} (D : Type 0) (r : ReplicaKind R) (gives : C → ℕ → Type 0) (s : StreamKind S T) (host : Host W C G) where
  -- What is said of a run of so many nodes whose stores are out: by what a served one is, what it is that the doors are home, and the
  -- counts of faults of the doors and of the starts.
  pub record Serves (Served : Option ℕ → Type 0) (nodes : ℕ) (DoorsHome : Type 0) (out new : Shown) (doors doors' starts starts' : ℕ) (desk : Desk S T) (result : ServedRun S T) : Type 0 where
    pub store_fault : (n : ℕ) → result.end ≡ served.StoreFault n → HasRisen (out.faults n) (new.faults n)
    pub door_fault : result.end ≡ served.DoorFault → HasRisen doors doors'
    pub no_thread : result.end ≡ served.NoThread → HasRisen starts starts'
    pub undamaged : (n f p : ℕ) → result.end ≡ served.Damaged n f p → ⊥
    pub stores_later : (n : ℕ) → out.faults n ≤ new.faults n
    pub doors_later : doors ≤ doors'
    pub threads_later : starts ≤ starts'
    pub console : StreamsAreBack D r gives s host desk result
    pub closed : result.end ≡ served.Closed → Served None
    pub full : (n : ℕ) → result.end ≡ served.HistoryFull n → Served (Some n)
    pub stores_home : GivesAllBack result.end → (n : ℕ) → n < nodes → new.is_out n ≡ false
    pub doors_home : GivesAllBack result.end → DoorsHome
    pub others : (n : ℕ) → nodes ≤ n → IsSameAt n out new

-- What a served run is, from its stores to its stores.
use Rattle.std.specs.Prelude.{◌≡◌, ◌⊎◌, ℕ, ◌+◌, ◌≤◌, Bool, true, false, not, Option, List, [], ◌∷◌, length, map, nat_le, Vec}
use Rattle.std.specs.List.{AllByRecursion, position}
use Rattle.std.specs.declared.alloc.Global.{Global}
use Rattle.durable_state.specs.State.{IsSameKept}
use Rattle.peer_messages.specs.declared.setting.Setting.{Setting}
use Rattle.replica.specs.Finding.{StandFor}
use Rattle.node_core.specs.declared.node.Node.{Node}
use Rattle.node_lock.specs.Histories.{most_entries}
use Rattle.wired_node.specs.declared.entry.NodeEntry.{NodeEntry}
use Rattle.wired_node.specs.Laws.{HasGone}
use Rattle.wired_node.specs.Making.{MakesIn, RefusesIn, call_in, reply_in}
use Rattle.wired_node.specs.States.{Wiring, IsSince}
use Rattle.served_stores.specs.Loading.{AreTakenFrom}
use Rattle.served_stores.specs.Releasing.{IsBackAt}
use Rattle.served_stores.specs.Shown.{Shown, IsSameAt}
use Rattle.served_doors.specs.Opening.{AreOpen, IsFresh}
use Rattle.served_links.specs.Ends.{EachLink, LeadToOthers}
use Rattle.served_links.specs.Nodes.{ends_of, upto_of, AreFreshEnds, AreSettled}
use Rattle.served_links.specs.declared.ends.NodeLinks.{NodeLinks}
use Rattle.served_console.specs.declared.end.ConsoleEnd.TheVariants as console_end
use Rattle.served_console.specs.declared.job.ConsoleDone.{ConsoleDone}
use Rattle.served_console.specs.declared.job.ConsoleJob.{ConsoleJob}
use Rattle.served_nodes.specs.declared.node.JobLeft.{JobLeft}
use Rattle.served_nodes.specs.declared.node.NodeLeft.{NodeLeft}
use Rattle.served_nodes.specs.declared.node.NodeParts.{NodeParts}
use Rattle.served_assembly.specs.Assembling.{AreAssembled}
use Rattle.served_assembly.specs.Parting.{ends_left}
use Rattle.served_run.specs.Runs.{ConsoleRan, HaveRun}
use Rattle.served_run.specs.declared.desk.Desk.{Desk}
use Rattle.served_run.specs.declared.desk.Ran.{Ran}
use Rattle.served_run.specs.declared.host.Host.{Host}
use Rattle.served_cluster.specs.declared.ending.ServedRun.{ServedRun}
use Rattle.served_cluster.specs.Ends.{IsOfNoConsole, IsToldFirst}
use Rattle.served_cluster.specs.Kinds.{ReplicaKind, DoorKind, StreamKind, keeper_of}

-- ---- what runs left

-- the node runs no more
abbrev pub has_failed : {R D : Type 0} → NodeLeft (Wiring R) D NodeEntry → Bool
has_failed left = not left.state.core.runs

-- the history of its steps has as many entries as it may have
abbrev pub is_full : {N D : Type 0} → NodeLeft N D NodeEntry → Bool
is_full left = nat_le most_entries (length left.history)

-- the job had a thread, and its door did not fail
abbrev pub WentWell : {D : Type 0} → JobLeft D → Type 0
WentWell job = (job.unstarted ≡ false) × (job.door_failed ≡ false)

-- The node runs still, nobody was told that it failed, and each of its jobs went well.
pub record EndsWell {R D : Type 0} (left : NodeLeft (Wiring R) D NodeEntry) : Type 0 where
  pub runs : left.state.core.runs ≡ true
  pub gone : AllByRecursion HasGone left.history
  pub jobs : AllByRecursion WentWell left.jobs.items

module _ {R : Type 0} (r : ReplicaKind R) where
  -- Node n's store is back behind its run. Where the node runs still, it stands for what this kept at the end. The node's count of
  -- faults rose just where that of the store did since it was taken.
  pub record IsHome {D : Type 0} (n : ℕ) (left : NodeLeft (Wiring R) D NodeEntry) (old new : Shown) : Type 0 where
    pub replica : R
    pub since : IsSince r.is_whole r.durable r.log_end r.since_flush r.faults r.is_honest left.state.core left.state.replica replica
    pub back : IsBackAt r.is_honest (r.disk replica).seen (r.faults replica) n old new
    pub stands : left.state.core.runs ≡ true → r.is_honest → StandFor r.stands_for (IsSameKept (r.durable left.state.replica)) (new.holds n)

  -- so are the stores of these nodes, by rising number from n on
  abbrev pub AreHomeFrom : {D : Type 0} → ℕ → List (NodeLeft (Wiring R) D NodeEntry) → Shown → Shown → Type 0
  AreHomeFrom n [] old new = Unit {0}
  AreHomeFrom n (x ∷ xs) old new = IsHome n x old new × AreHomeFrom (n + 1) xs old new

-- ---- the run

module _ {R W G C S T : Type 0} (D : Type 0) (r : ReplicaKind R) (gives : C → ℕ → Type 0) (s : StreamKind S T) (host : Host W C G) where
  -- nobody worked with the console's streams, and no fault of a console is told
  pub record IsUntouched (desk : Desk S T) (result : ServedRun S T) : Type 0 where
    pub source : result.source ≡ desk.source
    pub sink : result.sink ≡ desk.sink
    pub told : IsOfNoConsole result.end

  -- The console did its work with what stood on the desk, its streams are back as it left them, and a fault of it is told before others.
  pub record IsWorkedWith (desk : Desk S T) (result : ServedRun S T) : Type 0 where
    pub ran : Ran (Wiring R) D S T NodeEntry
    pub job : ConsoleJob W (Wiring R) C S T NodeEntry
    pub done : ConsoleDone W (Wiring R) C S T NodeEntry
    pub console : ConsoleRan (MakesIn r.is_honest r.stands_for r.durable r.log_end r.since_flush r.disk r.faults) call_in reply_in (RefusesIn r.is_honest r.stands_for r.durable r.log_end r.since_flush r.disk r.faults) gives
        host s.remaining s.source_faults s.contents s.sink_faults desk ran job done
    pub source : result.source ≡ ran.source
    pub sink : result.sink ≡ ran.sink
    pub told : IsToldFirst ran.end result.end

  abbrev pub StreamsAreBack : Desk S T → ServedRun S T → Type 0
  StreamsAreBack desk result = IsUntouched desk result ⊎ IsWorkedWith desk result

-- The nodes have links from each to each other one, through which nothing went yet, and these doors.
pub record AreWired {R K D : Type 0} (nodes : List (Node R K)) (doors : List (Vec D Global)) (parts : List (NodeParts (Wiring R) D)) : Type 0 where
  pub links : List NodeLinks
  pub lead : LeadToOthers upto_of (length nodes) (map ends_of links)
  pub fresh : EachLink AreFreshEnds (map ends_of links)
  pub assembled : AreAssembled nodes links doors parts

module _ {R K D L W G C S T : Type 0} (r : ReplicaKind R) (d : DoorKind D L) (gives : C → ℕ → Type 0) (s : StreamKind S T) (host : Host W C G) (desk : Desk S T) (counted : Type 0) where
  -- Nodes with these doors ran with their console until it ended well, and so did they. This one is the first whose history is full.
  -- What was taken from a link begins what was put into it, and each store is back.
  pub record HaveServed (nodes : List (Node R K)) (doors : List (Vec D Global)) (out new : Shown) (result : ServedRun S T) (full : Option ℕ) : Type 0 where
    pub parts : List (NodeParts (Wiring R) D)
    pub wired : AreWired nodes doors parts
    pub left : List (NodeLeft (Wiring R) D NodeEntry)
    pub ran : Ran (Wiring R) D S T NodeEntry
    pub have_run : HaveRun (MakesIn r.is_honest r.stands_for r.durable r.log_end r.since_flush r.disk r.faults) call_in reply_in (RefusesIn r.is_honest r.stands_for r.durable r.log_end r.since_flush r.disk r.faults) gives
        d.remaining d.written d.link_faults d.given d.returned d.faults host counted s.remaining s.source_faults s.contents s.sink_faults parts desk left ran
    pub source : result.source ≡ ran.source
    pub sink : result.sink ≡ ran.sink
    pub ended : ran.end ≡ console_end.Ended
    pub well : AllByRecursion EndsWell left
    pub first_full : position is_full left ≡ full
    pub settled : EachLink AreSettled (map ends_left left)
    pub home : AreHomeFrom r 0 left out new

  -- The nodes got sixteen doors each, which had given nothing yet, and served.
  pub record AreServed (nodes : List (Node R K)) (out new : Shown) (result : ServedRun S T) (full : Option ℕ) : Type 0 where
    pub doors : List (Vec D Global)
    pub count : length doors ≡ length nodes
    pub open_doors : AllByRecursion (AreOpen (IsFresh d.given d.returned d.faults) 16) doors
    pub served : HaveServed nodes doors out new result full

module _ {R D L W G C S T : Type 0} (K : Type 0) (r : ReplicaKind R) (d : DoorKind D L) (gives : C → ℕ → Type 0) (s : StreamKind S T) (host : Host W C G) (desk : Desk S T) (counted : Type 0) where
  -- The nodes of the ring were loaded from what their stores held, and served. The stores of other nodes are as they were.
  pub record IsServed (setting : Setting) (old new : Shown) (result : ServedRun S T) (full : Option ℕ) : Type 0 where
    -- the stores while those of the nodes were out
    pub out : Shown
    pub nodes : List (Node R K)
    pub count : length nodes ≡ length setting.ring
    pub loaded : AreTakenFrom (keeper_of r) setting 0 nodes old out
    pub served : AreServed r d gives s host desk counted nodes out new result full
    pub others : (n : ℕ) → length setting.ring ≤ n → IsSameAt n old new

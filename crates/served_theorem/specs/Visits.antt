-- The visits of clients in a served run, and what these were told.
use Rattle.std.specs.Prelude.{◌≡◌, ◌⊎◌, ℕ, suc, true, Option, Some, None, Err, List, [], ◌∷◌, ◌++◌, All, Contains, Vec}
use Rattle.std.proofs.Common.{inl, inr}
use Rattle.std.specs.declared.alloc.Global.{Global}
use Rattle.cs_base.specs.declared.ids.ReqId.{ReqId}
use Rattle.peer_messages.specs.declared.chronicle.Entry.{Entry}
use Rattle.peer_messages.specs.declared.chronicle.Entry.TheVariants as entry
use Rattle.peer_messages.specs.declared.event.Ask.{Ask}
use Rattle.peer_messages.specs.declared.event.What.TheVariants.{Client, Collect}
use Rattle.schema_book.specs.Books.{Book}
use Rattle.client_desk.specs.Asks.{Asked}
use Rattle.client_desk.specs.declared.answer.Answer.{Answer}
use Rattle.node_calls.specs.Calls.{call_of, optional_call_of}
use Rattle.node_calls.specs.declared.call.NodeCall.{NodeCall}
use Rattle.node_calls.specs.declared.reply.NodeReply.{NodeReply}
use Rattle.node_lock.specs.Views.{PassView}
use Rattle.node_lock.specs.declared.answers.LockRefused.{LockRefused}
use Rattle.node_workers.specs.Asking.{asks_of}
use Rattle.node_workers.specs.Calls.{Called, answer_by, called, event_at, name_by}
use Rattle.node_core.specs.declared.node.Node.{Node}
use Rattle.cluster_runs.specs.World.{World}
use Rattle.wired_node.specs.Answers.{answer_of, is_answer_to}
use Rattle.wired_node.specs.Making.{MakesIn, RefusesIn, call_in, reply_in}
use Rattle.item_groups.specs.Zips.{AllZip3}
use Rattle.served_seats.specs.Seats.{fresh}
use Rattle.served_jobs.specs.Visits.{Visit}
use Rattle.served_jobs.specs.declared.duty.Duty.{Duty}
use Rattle.served_jobs.specs.declared.duty.Duty.TheVariants as duty
use Rattle.served_console.specs.declared.node.OperatedNode.{OperatedNode}
use Rattle.served_nodes.specs.Jobs.{DidIfStarted}
use Rattle.served_nodes.specs.Nodes.{JobsRan}
use Rattle.served_nodes.specs.declared.node.JobLeft.{JobLeft}
use Rattle.served_nodes.specs.declared.node.NodeLeft.{NodeLeft}
use Rattle.served_nodes.specs.declared.node.NodeParts.{NodeParts}
use Rattle.served_stores.specs.Shown.{Shown}
use Rattle.served_run.specs.Runs.{NodeRanBy}
use Rattle.served_run.specs.declared.desk.Desk.{Desk}
use Rattle.served_run.specs.declared.host.Host.{Host}
use Rattle.served_cluster.specs.declared.ending.ServedRun.{ServedRun}
use Rattle.served_cluster.specs.Kinds.{ReplicaKind, DoorKind, StreamKind}
use Rattle.served_cluster.specs.Served.{HaveServed}

module _ {N D Entry L : Type 0} (steps : N → Entry → N → Type 0) (event_of : Entry → NodeCall) (reply_of : Entry → NodeReply) (refuses : N → NodeCall → NodeCall → Type 0)
    (gives : ℕ → Type 0) (schema : Book) (remaining written : L → Option (List ℕ)) (link_faults : L → ℕ) (given : D → Option ℕ) (returned : D → Option (List L)) (faults : D → ℕ) (counted : Type 0) (start : N) where
  -- the visits that a job served, one after another
  abbrev pub visits_by : (d : Duty D) (left : JobLeft D) (v w : PassView Entry) → DidIfStarted steps event_of reply_of refuses start gives schema remaining written link_faults given returned faults counted d left v w → List (Visit L)
  visits_by (duty.Links receivers) left v w did = []
  visits_by duty.Ticks left v w did = []
  visits_by duty.Merges left v w did = []
  visits_by (duty.Connections door) left v w (inl did) = did.1.3.serves.visits
  visits_by (duty.Connections door) left v w (inr lost) = []

  -- those of jobs
  abbrev pub visits_in : (number : ℕ) (ds : List (Duty D)) (ls : List (JobLeft D)) (ws : List (PassView Entry)) → JobsRan steps event_of reply_of refuses gives schema remaining written link_faults given returned faults counted start number ds ls ws → List (Visit L)
  visits_in number [] [] [] ran = []
  visits_in number [] [] (w ∷ ws) ran = []
  visits_in number [] (l ∷ ls) ws ran = []
  visits_in number (d ∷ ds) [] ws ran = []
  visits_in number (d ∷ ds) (l ∷ ls) [] ran = []
  visits_in number (d ∷ ds) (l ∷ ls) (w ∷ ws) ran = visits_by d l (fresh number) w ran.0.did ++ visits_in (suc number) ds ls ws ran.1

module _ {W N C G D Entry L S T : Type 0} (steps : N → Entry → N → Type 0) (event_of : Entry → NodeCall) (reply_of : Entry → NodeReply) (refuses : N → NodeCall → NodeCall → Type 0)
    (gives : C → ℕ → Type 0) (remaining written : L → Option (List ℕ)) (link_faults : L → ℕ) (given : D → Option ℕ) (returned : D → Option (List L)) (faults : D → ℕ) (host : Host W C G) (counted : Type 0)
    (source_left : S → Option (List ℕ)) (source_faults : S → ℕ) (contents : T → Option (List ℕ)) (sink_faults : T → ℕ) where
  -- those of all nodes
  abbrev pub visits_of : (nodes : List (NodeParts N D)) (os : List (OperatedNode W N C Entry)) (lefts : List (NodeLeft N D Entry))
      → AllZip3 (NodeRanBy steps event_of reply_of refuses gives remaining written link_faults given returned faults host counted source_left source_faults contents sink_faults) nodes os lefts → List (Visit L)
  visits_of [] [] [] all = []
  visits_of [] [] (l ∷ lefts) all = []
  visits_of [] (o ∷ os) lefts all = []
  visits_of (n ∷ nodes) [] lefts all = []
  visits_of (n ∷ nodes) (o ∷ os) [] all = []
  visits_of (n ∷ nodes) (o ∷ os) (l ∷ lefts) all =
      visits_in steps event_of reply_of refuses (gives host.clock.now) host.schema.now remaining written link_faults given returned faults counted n.state 1 n.duties.items l.jobs.items all.0.ends all.0.jobs
      ++ visits_of nodes os lefts all.1

-- the visits of a served run
module _ {R K D L W G C S T : Type 0} (r : ReplicaKind R) (d : DoorKind D L) (gives : C → ℕ → Type 0) (s : StreamKind S T) (host : Host W C G) (desk : Desk S T) (counted : Type 0) where
  abbrev pub visits_served : {nodes : List (Node R K)} {doors : List (Vec D Global)} {out new : Shown} {result : ServedRun S T} {full : Option ℕ} → HaveServed r d gives s host desk counted nodes doors out new result full → List (Visit L)
  visits_served h =
      visits_of (MakesIn r.is_honest r.stands_for r.durable r.log_end r.since_flush r.disk r.faults) call_in reply_in (RefusesIn r.is_honest r.stands_for r.durable r.log_end r.since_flush r.disk r.faults) gives
      d.remaining d.written d.link_faults d.given d.returned d.faults host counted s.remaining s.source_faults s.contents s.sink_faults h.parts h.have_run.done.console.nodes.items h.left h.have_run.nodes_ran

-- ---- what a client was told

-- the chronicle enters this answer to the request
pub record IsEntered (chronicle : List Entry) (request : ReqId) (answer : Answer) : Type 0 where
  pub entry : Entry
  pub entered : Contains chronicle entry
  pub is_to : is_answer_to request entry ≡ true
  pub tells : answer_of entry ≡ Some answer

-- a call that would collect it made no step, and that is the answer
pub record IsDeclined (calls : List Called) (request : ReqId) (answer : Answer) : Type 0 where
  pub clock : ℕ
  pub refused : LockRefused NodeCall
  pub made : Contains calls (called (optional_call_of (event_at clock (Collect request))) (Err refused))
  pub tells : answer_by (Err refused) ≡ Some answer

-- the call that submitted it made no step, and that is the answer
pub record IsTurned (calls : List Called) (ask : Ask) (answer : Answer) : Type 0 where
  pub clock : ℕ
  pub refused : LockRefused NodeCall
  pub made : Contains calls (called (call_of (event_at clock (Client ask))) (Err refused))
  pub tells : name_by (Err refused) ≡ Err answer

-- Of a client that made these calls: a request of it that has a name was begun, as the chronicle enters, and its answer is entered too,
-- or tells that the call for it made no step. One without a name is answered so at once.
pub record IsTrueTo (chronicle : List Entry) (calls : List Called) (x : Asked) : Type 0 where
  pub begun : (request : ReqId) → x.request ≡ Some request → Contains chronicle (entry.Asked (Some request))
  pub answered : (request : ReqId) (answer : Answer) → x.request ≡ Some request → x.answer ≡ Some answer → IsEntered chronicle request answer ⊎ IsDeclined calls request answer
  pub turned : x.request ≡ None → (answer : Answer) × (x.answer ≡ Some answer) × IsTurned calls x.ask answer

-- From one moment of a run to another the chronicle entered what these visits were told.
pub record TellsAll {L : Type 0} (begun last : World) (visits : List (Visit L)) : Type 0 where
  pub added : List Entry
  pub chronicle : last.chronicle ≡ added ++ begun.chronicle
  pub each : (x : Visit L) → Contains visits x → All (IsTrueTo added x.calls) (asks_of x.calls)

-- The run of all nodes with their console.
use Rattle.std.specs.Prelude.{◌≡◌, ◌⊎◌, ℕ, Option, List, length}
use Rattle.std.specs.List.{AllZip}
use Rattle.node_calls.specs.declared.call.NodeCall.{NodeCall}
use Rattle.node_calls.specs.declared.reply.NodeReply.{NodeReply}
use Rattle.node_lock.specs.Passes.{view_of, start_of}
use Rattle.item_groups.specs.Zips.{AllZip3}
use Rattle.served_seats.specs.Seats.{fresh}
use Rattle.served_console.specs.Jobs.{IsWorked}
use Rattle.served_console.specs.declared.end.ConsoleEnd.TheVariants as end
use Rattle.served_console.specs.declared.job.ConsoleDone.{ConsoleDone}
use Rattle.served_console.specs.declared.job.ConsoleJob.{ConsoleJob}
use Rattle.served_console.specs.declared.node.OperatedNode.{OperatedNode}
use Rattle.served_nodes.specs.Nodes.{NodeRan}
use Rattle.served_nodes.specs.declared.node.NodeLeft.{NodeLeft}
use Rattle.served_nodes.specs.declared.node.NodeParts.{NodeParts}
use Rattle.served_run.specs.declared.desk.Desk.{Desk}
use Rattle.served_run.specs.declared.desk.Ran.{Ran}
use Rattle.served_run.specs.declared.host.Host.{Host}

-- a node with so many jobs
abbrev pub HasJobs : {N D : Type 0} → ℕ → NodeParts N D → Type 0
HasJobs jobs node = length node.duties.items ≡ jobs

-- The console has a node as the node began: under a lock that was made with its state, by the run's clock, with a pass that has seen and
-- made nothing.
pub record Begins {W N C D Entry : Type 0} (clock : C) (node : NodeParts N D) (o : OperatedNode W N C Entry) : Type 0 where
  pub start : start_of o.site.lock.now ≡ node.state
  pub clock_is : o.site.clock.now ≡ clock
  pub pass : view_of o.pass ≡ fresh 0

module _ {W N C G D Entry S T : Type 0} (steps : N → Entry → N → Type 0) (event_of : Entry → NodeCall) (reply_of : Entry → NodeReply) (refuses : N → NodeCall → NodeCall → Type 0)
    (gives : C → ℕ → Type 0) where
  module _ (host : Host W C G) (source_left : S → Option (List ℕ)) (source_faults : S → ℕ) (contents : T → Option (List ℕ)) (sink_faults : T → ℕ) where
    -- The console did its work with what stood on the desk, and what it had came back.
    pub record ConsoleRan (desk : Desk S T) (ran : Ran N D S T Entry) (job : ConsoleJob W N C S T Entry) (done : ConsoleDone W N C S T Entry) : Type 0 where
      pub source_was : job.console.source ≡ desk.source
      pub sink_was : job.console.sink ≡ desk.sink
      pub lines_were : job.console.lines ≡ desk.lines
      pub opening_is : job.opening ≡ desk.opening
      pub works : IsWorked steps event_of reply_of refuses gives source_left source_faults contents sink_faults job done
      pub source_is : ran.source ≡ done.console.source
      pub sink_is : ran.sink ≡ done.console.sink
      pub end_is : ran.end ≡ done.end

    -- Where there was no memory the run has not begun, and all is on the desk as it was; or the console did its work.
    abbrev pub IsLost : Desk S T → Ran N D S T Entry → Type 0
    IsLost desk ran =
        ((ran.source ≡ desk.source) × (ran.sink ≡ desk.sink) × (ran.end ≡ end.Ended))
        ⊎ ((job : ConsoleJob W N C S T Entry) × (done : ConsoleDone W N C S T Entry) × ConsoleRan desk ran job done)

  module _ {L : Type 0} (remaining written : L → Option (List ℕ)) (link_faults : L → ℕ) (given : D → Option ℕ) (returned : D → Option (List L)) (faults : D → ℕ) (host : Host W C G) (counted : Type 0)
      (source_left : S → Option (List ℕ)) (source_faults : S → ℕ) (contents : T → Option (List ℕ)) (sink_faults : T → ℕ) where
    -- a node ran, and the console's pass of it ended so
    abbrev pub NodeRanBy : NodeParts N D → OperatedNode W N C Entry → NodeLeft N D Entry → Type 0
    NodeRanBy node o left = NodeRan steps event_of reply_of refuses (gives host.clock.now) host.schema.now remaining written link_faults given returned faults counted node (view_of o.pass) left

    -- All threads have ended. The console did its work, with a pass of each node, and each node ran: its history tells just what its
    -- console and its jobs made, and replays from its first state to its last.
    pub record HaveRun (nodes : List (NodeParts N D)) (desk : Desk S T) (left : List (NodeLeft N D Entry)) (ran : Ran N D S T Entry) : Type 0 where
      pub job : ConsoleJob W N C S T Entry
      pub done : ConsoleDone W N C S T Entry
      pub console : ConsoleRan host source_left source_faults contents sink_faults desk ran job done
      pub began : AllZip (Begins host.clock.now) nodes job.console.nodes.items
      pub nodes_ran : AllZip3 NodeRanBy nodes done.console.nodes.items left

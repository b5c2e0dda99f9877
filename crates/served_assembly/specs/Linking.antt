-- What runs do to the links between their nodes.
use Rattle.std.specs.Prelude.{◌≡◌, ◌⊎◌, ℕ, Option, List, Vec, length, map}
use Rattle.std.specs.List.{AllZip}
use Rattle.std.specs.declared.alloc.Global.{Global}
use Rattle.cs_base.specs.Faults.{HasRisen}
use Rattle.cs_store.specs.Disk.{Disk}
use Rattle.durable_state.specs.State.{Durable}
use Rattle.peer_messages.specs.declared.message.Message.{Message}
use Rattle.node_core.specs.declared.node.Node.{Node}
use Rattle.node_lock.specs.Histories.{Replays}
use Rattle.node_lock.specs.Views.{PassView}
use Rattle.node_workers.specs.Taking.{Take}
use Rattle.schema_book.specs.Books.{Book}
use Rattle.served_assembly.specs.Assembling.{IsAssembled}
use Rattle.served_assembly.specs.Parting.{IsLedByLinks, doors_in, ends_left, receivers_in}
use Rattle.served_links.specs.Ends.{EachLink, AreEven, LeadToOthers}
use Rattle.served_links.specs.Nodes.{ends_of, upto_of, AreEnds, AreFreshEnds}
use Rattle.served_links.specs.declared.ends.NodeLinks.{NodeLinks}
use Rattle.served_nodes.specs.Nodes.{NodeRan}
use Rattle.served_nodes.specs.declared.node.NodeLeft.{NodeLeft}
use Rattle.served_nodes.specs.declared.node.NodeParts.{NodeParts}
use Rattle.wired_node.specs.Making.{MakesIn, RefusesIn, call_in, reply_in}
use Rattle.wired_node.specs.States.{Wiring}
use Rattle.wired_node.specs.declared.entry.NodeEntry.{NodeEntry}

module _ {R : Type 0} (D : Type 0) (honest : Type 0) (stands_for : (ℕ → List ℕ) → Durable → Type 0) (durable : R → Durable) (log_end : R → ℕ) (since_flush : R → Option ℕ) (disk : R → Disk) (faults : R → ℕ) where
  -- A run began with these links and left the node so: its senders took what its steps sent, and its receivers, unless nobody worked with
  -- them, gave what was taken from them.
  pub record HasMoved (links : NodeLinks) (left : NodeLeft (Wiring R) D NodeEntry) : Type 0 where
    pub start : Wiring R
    pub senders : start.senders ≡ links.senders.items
    pub replays : Replays (MakesIn honest stands_for durable log_end since_flush disk faults) start left.history left.state
    pub receivers : (receivers_in left.jobs.items ≡ links.receivers) ⊎ ((taken : List (ℕ × Message)) × Take links.receivers taken (receivers_in left.jobs.items))

  -- Where links lead from each node to each other one and nothing went through them before, the ends that runs left of each link are still its two ends.
  abbrev pub LinksStayWhole : Type 0
  LinksStayWhole =
      (nodes : ℕ) (links : List NodeLinks) (left : List (NodeLeft (Wiring R) D NodeEntry))
      → LeadToOthers upto_of nodes (map ends_of links) → EachLink AreFreshEnds (map ends_of links) → AllZip HasMoved links left
      → AreEven nodes (map ends_left left) × EachLink AreEnds (map ends_left left)

  module _ {C : Type 0} (K L : Type 0) (gives : C → ℕ → Type 0) where
    -- A node that was put together with links and doors ran, by any clock, and whatever its doors tell. Then the run began with these
    -- links and left the node so, its first job is still the one of the links, and it has as many doors.
    abbrev pub RunsMoveLinks : Type 0
    RunsMoveLinks =
        (clock : C) (schema : Book) (remaining written : L → Option (List ℕ)) (link_faults : L → ℕ) (given : D → Option ℕ) (returned : D → Option (List L)) (door_faults : D → ℕ) (before now : ℕ)
        (node : Node R K) (links : NodeLinks) (doors : Vec D Global) (part : NodeParts (Wiring R) D) (console : PassView NodeEntry) (left : NodeLeft (Wiring R) D NodeEntry)
        → IsAssembled node links doors part
        → NodeRan (MakesIn honest stands_for durable log_end since_flush disk faults) call_in reply_in (RefusesIn honest stands_for durable log_end since_flush disk faults)
        (gives clock) schema remaining written link_faults given returned door_faults (HasRisen before now) part console left
        → HasMoved links left × IsLedByLinks left.jobs.items × (length (doors_in left.jobs.items) ≡ length doors.items)

-- What is known of the node at each place of a served run.
use Rattle.std.proofs.Common.{◌≡◌, ℕ, ◌<◌, Option, Some, List, [], Contains, length, sym, subst, ◌∙◌}
use Rattle.std.specs.Prelude.{slice_get, Vec}
use Rattle.std.specs.declared.alloc.Global.{Global}
use Rattle.node_core.specs.declared.node.Node.{Node}
use Rattle.node_lock.specs.Histories.{Replays}
use Rattle.node_lock.specs.Passes.{view_of}
use Rattle.lawful_orders.proofs.Places.{get_below, get_within, length_map}
use Rattle.wired_node.specs.Making.{MakesIn, RefusesIn, call_in, reply_in}
use Rattle.wired_node.specs.States.{Wiring}
use Rattle.wired_node.specs.declared.entry.NodeEntry.{NodeEntry}
use Rattle.served_links.specs.declared.ends.NodeLinks.{NodeLinks}
use Rattle.served_links.specs.Nodes.{ends_of}
use Rattle.served_nodes.specs.declared.node.NodeLeft.{NodeLeft}
use Rattle.served_nodes.specs.declared.node.NodeParts.{NodeParts}
use Rattle.served_assembly.specs.Assembling.{IsAssembled}
use Rattle.served_assembly.specs.Parting.{receivers_in}
use Rattle.served_stores.specs.Shown.{Shown}
use Rattle.served_run.specs.Runs.{NodeRanBy}
use Rattle.served_run.specs.declared.desk.Desk.{Desk}
use Rattle.served_run.specs.declared.host.Host.{Host}
use Rattle.served_cluster.specs.declared.ending.ServedRun.{ServedRun}
use Rattle.served_cluster.specs.Kinds.{ReplicaKind, DoorKind, StreamKind}
use Rattle.served_cluster.specs.Served.{HaveServed}
use Rattle.served_theorem.proofs.Consoles.{DeliversNone, begun_fresh, console_none}
use Rattle.served_theorem.proofs.Jobs.{TakesFrom, node_takes}
use Rattle.served_theorem.proofs.Lists.{all_at, zip3_at, zip3_long}

module _ {R K D L W G C S T : Type 0} (r : ReplicaKind R) (d : DoorKind D L) (gives : C → ℕ → Type 0) (s : StreamKind S T) (host : Host W C G) (desk : Desk S T) (counted : Type 0)
    (nodes : List (Node R K)) (doors : List (Vec D Global)) (out new : Shown) (result : ServedRun S T) (full : Option ℕ) where
  abbrev pub Steps : Wiring R → NodeEntry → Wiring R → Type 0
  Steps = MakesIn r.is_honest r.stands_for r.durable r.log_end r.since_flush r.disk r.faults

  -- The node was put together, went through its history, and took what it delivered from its links.
  pub record IsPlaced (h : HaveServed r d gives s host desk counted nodes doors out new result full) (k : ℕ) (left : NodeLeft (Wiring R) D NodeEntry) : Type 0 where
    pub node : Node R K
    pub node_at : slice_get nodes k ≡ Some node
    pub links : NodeLinks
    pub links_at : slice_get h.wired.links k ≡ Some links
    pub part : NodeParts (Wiring R) D
    pub part_at : slice_get h.parts k ≡ Some part
    pub state : part.state ≡ record { core = node.core; replica = node.replica; senders = links.senders.items; answers = [] }
    pub replays : Replays Steps part.state left.history left.state
    pub takes : (x : ℕ × NodeEntry) → Contains left.history x → TakesFrom (length links.receivers) (receivers_in left.jobs.items) (call_in x.1)

  module _ (h : HaveServed r d gives s host desk counted nodes doors out new result full) (many : length doors ≡ length nodes) where
    pub as_many_parts : length h.parts ≡ length nodes
    as_many_parts = h.wired.assembled.count

    pub as_many_left : length h.left ≡ length nodes
    as_many_left =
        zip3_long (NodeRanBy Steps call_in reply_in (RefusesIn r.is_honest r.stands_for r.durable r.log_end r.since_flush r.disk r.faults) gives d.remaining d.written d.link_faults d.given d.returned d.faults host counted s.remaining s.source_faults s.contents s.sink_faults)
        h.parts h.have_run.done.console.nodes.items h.left h.have_run.nodes_ran
        ∙ as_many_parts

    pub placed : (k : ℕ) (left : NodeLeft (Wiring R) D NodeEntry) → slice_get h.left k ≡ Some left → IsPlaced h k left
    placed k left at =
        let here =
        zip3_at (NodeRanBy Steps call_in reply_in (RefusesIn r.is_honest r.stands_for r.durable r.log_end r.since_flush r.disk r.faults) gives d.remaining d.written d.link_faults d.given d.returned d.faults host counted s.remaining s.source_faults s.contents s.sink_faults)
        h.parts h.have_run.done.console.nodes.items h.left h.have_run.nodes_ran k left at in
        let below : k < length nodes = subst (λ (n : ℕ). k < n) as_many_left (get_within h.left k left at) in
        let node = get_below nodes k below in
        let as_many_links : length h.wired.links ≡ length nodes = sym (length_map ends_of h.wired.links) ∙ h.wired.lead.0 in
        let links = get_below h.wired.links k (subst (λ (n : ℕ). k < n) (sym as_many_links) below) in
        let door = get_below doors k (subst (λ (n : ℕ). k < n) (sym many) below) in
        let assembled : IsAssembled node.0 links.0 door.0 here.one = h.wired.assembled.each k node.0 links.0 door.0 here.one node.1 links.1 door.1 here.one_at in
        let console =
        console_none Steps call_in reply_in (RefusesIn r.is_honest r.stands_for r.durable r.log_end r.since_flush r.disk r.faults) gives s.remaining s.source_faults s.contents s.sink_faults
        h.have_run.job.opening.items h.have_run.job.console h.have_run.done.console h.have_run.done.end h.have_run.console.works.works
        (begun_fresh Steps call_in reply_in (RefusesIn r.is_honest r.stands_for r.durable r.log_end r.since_flush r.disk r.faults) gives host.clock.now h.parts h.have_run.job.console.nodes.items h.have_run.began) in
        let none =
        all_at (DeliversNone Steps call_in reply_in (RefusesIn r.is_honest r.stands_for r.durable r.log_end r.since_flush r.disk r.faults) gives) h.have_run.done.console.nodes.items k here.two console here.two_at in
        record {
          node = node.0;
          node_at = node.1;
          links = links.0;
          links_at = links.1;
          part = here.one;
          part_at = here.one_at;
          state = assembled.state;
          replays = here.holds.replays;
          takes =
              node_takes Steps call_in reply_in (RefusesIn r.is_honest r.stands_for r.durable r.log_end r.since_flush r.disk r.faults) (gives host.clock.now) host.schema.now d.remaining d.written d.link_faults d.given d.returned d.faults counted
              links.0.receivers door.0.items here.one (view_of here.two.pass) left assembled.duties here.holds none;
        }

-- What runs leave of nodes that were put together with links and open doors.
use Rattle.std.proofs.Common.{◌≡◌, ℕ, ◌≤◌, Ok, Err, Some, List, length, map, sym, ap, subst, ◌∙◌, arith}
use Rattle.std.specs.Prelude.{IfOk, Result, Vec, slice_get}
use Rattle.std.specs.List.{AllByRecursion, AllZip}
use Rattle.std.specs.declared.alloc.Global.{Global}
use Rattle.cs_base.specs.Faults.{HasRisen}
use Rattle.item_groups.proofs.PlaceLaws.{there, zip2-by, zip3-at}
use Rattle.item_groups.proofs.ZipLaws.{zip3-long}
use Rattle.node_core.specs.declared.node.Node.{Node}
use Rattle.node_lock.specs.Passes.{view_of}
use Rattle.wired_node.specs.Making.{MakesIn, RefusesIn, call_in, reply_in}
use Rattle.wired_node.specs.States.{Wiring}
use Rattle.wired_node.specs.declared.entry.NodeEntry.{NodeEntry}
use Rattle.served_assembly.specs.Assembling.{AreAssembled, IsAssembled}
use Rattle.served_assembly.specs.Linking.{HasMoved, LinksStayWhole, RunsMoveLinks}
use Rattle.served_assembly.specs.Parting.{HasLinksFirst}
use Rattle.served_console.specs.declared.node.OperatedNode.{OperatedNode}
use Rattle.served_doors.specs.Opening.{AreOpen, IsFresh}
use Rattle.served_jobs.specs.declared.duty.Duty.TheVariants as duty
use Rattle.served_links.specs.Ends.{EachLink, LeadToOthers}
use Rattle.served_links.specs.Nodes.{AreFreshEnds, ends_of, upto_of}
use Rattle.served_links.specs.declared.ends.NodeLinks.{NodeLinks}
use Rattle.served_nodes.specs.Nodes.{NodeRan}
use Rattle.served_nodes.specs.declared.node.NodeLeft.{NodeLeft}
use Rattle.served_nodes.specs.declared.node.NodeParts.{NodeParts}
use Rattle.served_run.specs.Runs.{HasJobs, HaveRun}
use Rattle.served_run.specs.declared.desk.Desk.{Desk}
use Rattle.served_run.specs.declared.desk.Ran.{Ran}
use Rattle.served_run.specs.declared.host.Host.{Host}
use Rattle.served_cluster.specs.Giving.{CanPart, HasDoors}
use Rattle.served_cluster.specs.Kinds.{DoorKind, ReplicaKind, StreamKind}
use Rattle.served_cluster.specs.Served.{AreWired}
use Rattle.served_cluster.proofs.Lists.{all_at, all_by}
use Rattle.served_cluster.proofs.Zips.{map_long}

module _ {R K D : Type 0} (nodes : List (Node R K)) (doors : List (Vec D Global)) (parts : List (NodeParts (Wiring R) D)) (wired : AreWired nodes doors parts) (long : length doors ≡ length nodes) where
  -- a node before its run, with its links and its doors
  pub record IsAt (k : ℕ) (part : NodeParts (Wiring R) D) : Type 0 where
    pub node : Node R K
    pub node_at : slice_get nodes k ≡ Some node
    pub links : NodeLinks
    pub links_at : slice_get wired.links k ≡ Some links
    pub doors_are : Vec D Global
    pub doors_at : slice_get doors k ≡ Some doors_are
    pub assembled : IsAssembled node links doors_are part

  links_long : length wired.links ≡ length nodes
  links_long = sym (map_long ends_of wired.links) ∙ wired.lead.0

  pub part_at : (k : ℕ) (part : NodeParts (Wiring R) D) → slice_get parts k ≡ Some part → IsAt k part
  part_at k part at =
      let count = wired.assembled.count in
      let node = there parts nodes k part at (sym count) in
      let links = there parts wired.links k part at (links_long ∙ sym count) in
      let own = there parts doors k part at (long ∙ sym count) in
      record {
        node = node.0;
        node_at = node.1;
        links = links.0;
        links_at = links.1;
        doors_are = own.0;
        doors_at = own.1;
        assembled = wired.assembled.each k node.0 links.0 own.0 part node.1 links.1 own.1 at;
      }

  module _ (Fresh : D → Type 0) (open_doors : AllByRecursion (AreOpen Fresh 16) doors) where
    pub sixteen_at : (k : ℕ) (own : Vec D Global) → slice_get doors k ≡ Some own → length own.items ≡ 16
    sixteen_at k own at = let all = (all_at (AreOpen Fresh 16) doors k own open_doors at).all in sym own.ok.0 ∙ all

    duties_long : (own : List D) → length (map duty.Connections own) ≡ length own
    duties_long own = map_long duty.Connections own

    -- each node has a job for each of its doors, and three more
    pub have_jobs : AllByRecursion (HasJobs 19) parts
    have_jobs = all_by (HasJobs 19) parts (λ k part at.
        let is = part_at k part at in
        let own = is.doors_are in
        let sixteen = sixteen_at k own is.doors_at in
        let jobs = duties_long own.items in
        let here = ap length is.assembled.duties in
        omega (arith, here, jobs, sixteen))

-- nodes that were put together, where there was memory for it
pub wired_told : {R K D E : Type 0} (nodes : List (Node R K)) (doors : List (Vec D Global)) (links : List NodeLinks) (result : Result (Vec (NodeParts (Wiring R) D) Global) E)
    → LeadToOthers upto_of (length nodes) (map ends_of links) → EachLink AreFreshEnds (map ends_of links)
    → IfOk result (λ parts. AreAssembled nodes links doors parts.items) → IfOk result (λ parts. AreWired nodes doors parts.items)
wired_told nodes doors links (Ok parts) lead fresh assembled = record { links = links; lead = lead; fresh = fresh; assembled = assembled }
wired_told nodes doors links (Err e) lead fresh assembled = tt

-- ---- behind the run

module _ {R K D L W G C S T : Type 0} (r : ReplicaKind R) (d : DoorKind D L) (gives : C → ℕ → Type 0) (s : StreamKind S T) (host : Host W C G) (desk : Desk S T) (before now : ℕ)
    (nodes : List (Node R K)) (doors : List (Vec D Global)) (parts : List (NodeParts (Wiring R) D)) (wired : AreWired nodes doors parts) (long : length doors ≡ length nodes)
    (open_doors : AllByRecursion (AreOpen (IsFresh d.given d.returned d.faults) 16) doors)
    (left : List (NodeLeft (Wiring R) D NodeEntry)) (ran : Ran (Wiring R) D S T NodeEntry)
    (have : HaveRun (MakesIn r.is_honest r.stands_for r.durable r.log_end r.since_flush r.disk r.faults) call_in reply_in (RefusesIn r.is_honest r.stands_for r.durable r.log_end r.since_flush r.disk r.faults) gives
    d.remaining d.written d.link_faults d.given d.returned d.faults host (HasRisen before now) s.remaining s.source_faults s.contents s.sink_faults parts desk left ran) where
  abbrev RanBy : NodeParts (Wiring R) D → OperatedNode W (Wiring R) C NodeEntry → NodeLeft (Wiring R) D NodeEntry → Type 0
  RanBy part o l = NodeRan (MakesIn r.is_honest r.stands_for r.durable r.log_end r.since_flush r.disk r.faults) call_in reply_in (RefusesIn r.is_honest r.stands_for r.durable r.log_end r.since_flush r.disk r.faults)
      (gives host.clock.now) host.schema.now d.remaining d.written d.link_faults d.given d.returned d.faults (HasRisen before now) part (view_of o.pass) l

  -- a node whose run left this
  pub record HasRun (k : ℕ) (l : NodeLeft (Wiring R) D NodeEntry) : Type 0 where
    pub part : NodeParts (Wiring R) D
    pub is_at : IsAt nodes doors parts wired long k part
    pub console : OperatedNode W (Wiring R) C NodeEntry
    pub has_run : RanBy part console l

  left_parts : length left ≡ length parts
  left_parts = (zip3-long RanBy parts have.done.console.nodes.items left have.nodes_ran).1

  pub left_long : length left ≡ length nodes
  left_long = left_parts ∙ wired.assembled.count

  pub left_at : (k : ℕ) (l : NodeLeft (Wiring R) D NodeEntry) → slice_get left k ≡ Some l → HasRun k l
  left_at k l at =
      let longs = zip3-long RanBy parts have.done.console.nodes.items left have.nodes_ran in
      let part = there left parts k l at (sym longs.1) in
      let console = there left have.done.console.nodes.items k l at (longs.0 ∙ sym longs.1) in
      record {
        part = part.0;
        is_at = part_at nodes doors parts wired long k part.0 part.1;
        console = console.0;
        has_run = zip3-at RanBy parts have.done.console.nodes.items left k part.0 console.0 l have.nodes_ran part.1 console.1 at;
      }

  module _ (runs_move : RunsMoveLinks D r.is_honest r.stands_for r.durable r.log_end r.since_flush r.disk r.faults K L gives)
      (stay_whole : LinksStayWhole D r.is_honest r.stands_for r.durable r.log_end r.since_flush r.disk r.faults) where
    abbrev Moved : NodeLinks → NodeLeft (Wiring R) D NodeEntry → Type 0
    Moved = HasMoved D r.is_honest r.stands_for r.durable r.log_end r.since_flush r.disk r.faults

    -- what the run of a node did to its links, its first job, and its doors
    record Moves (k : ℕ) (l : NodeLeft (Wiring R) D NodeEntry) : Type 0 where
      run : HasRun k l
      moved : Moved run.is_at.links l
      led : HasLinksFirst l
      doors_left : HasDoors l

    moves_at : (k : ℕ) (l : NodeLeft (Wiring R) D NodeEntry) → slice_get left k ≡ Some l → Moves k l
    moves_at k l at =
        let run = left_at k l at in
        let here = run.is_at in
        let law = runs_move host.clock.now host.schema.now d.remaining d.written d.link_faults d.given d.returned d.faults before now here.node here.links here.doors_are run.part (view_of run.console.pass) l here.assembled run.has_run in
        record {
          run = run;
          moved = law.0;
          led = law.1;
          doors_left = law.2 ∙ sixteen_at nodes doors parts wired long (IsFresh d.given d.returned d.faults) open_doors k here.doors_are here.doors_at;
        }

    all_moved : AllZip Moved wired.links left
    all_moved = zip2-by Moved wired.links left (left_long ∙ sym (links_long nodes doors parts wired long)) (λ k links l at at'.
        let here = moves_at k l at' in
        let same : here.run.is_at.links ≡ links = let a = here.run.is_at.links_at in cc in
        subst (λ (x : NodeLinks). Moved x l) same here.moved)

    -- the nodes can be taken apart
    pub can_part : length nodes ≤ 7 → CanPart left
    can_part few =
        let law = stay_whole (length nodes) wired.links left wired.lead wired.fresh all_moved in
        record {
          few = (let count = left_long in omega (arith, few, count));
          led = all_by HasLinksFirst left (λ k l at. (moves_at k l at).led);
          even = (length nodes, law.0);
          ends = law.1;
          doors = all_by HasDoors left (λ k l at. (moves_at k l at).doors_left);
        }

-- the same, where there was memory for a run
module _ {R K D L W G C S T : Type 0} (r : ReplicaKind R) (d : DoorKind D L) (gives : C → ℕ → Type 0) (s : StreamKind S T) (host : Host W C G) (desk : Desk S T) (before now : ℕ)
    (nodes : List (Node R K)) (doors : List (Vec D Global)) (parts : List (NodeParts (Wiring R) D)) (wired : AreWired nodes doors parts) (long : length doors ≡ length nodes)
    (open_doors : AllByRecursion (AreOpen (IsFresh d.given d.returned d.faults) 16) doors) (ran : Ran (Wiring R) D S T NodeEntry) where
  abbrev HaveRunTo : Vec (NodeLeft (Wiring R) D NodeEntry) Global → Type 0
  HaveRunTo left = HaveRun (MakesIn r.is_honest r.stands_for r.durable r.log_end r.since_flush r.disk r.faults) call_in reply_in (RefusesIn r.is_honest r.stands_for r.durable r.log_end r.since_flush r.disk r.faults) gives
      d.remaining d.written d.link_faults d.given d.returned d.faults host (HasRisen before now) s.remaining s.source_faults s.contents s.sink_faults parts desk left.items ran

  pub can_told : {E : Type 0} (o : Result (Vec (NodeLeft (Wiring R) D NodeEntry) Global) E)
      → RunsMoveLinks D r.is_honest r.stands_for r.durable r.log_end r.since_flush r.disk r.faults K L gives
      → LinksStayWhole D r.is_honest r.stands_for r.durable r.log_end r.since_flush r.disk r.faults
      → length nodes ≤ 7 → IfOk o HaveRunTo → IfOk o (λ left. CanPart left.items)
  can_told (Ok left) runs_move stay_whole few have = can_part r d gives s host desk before now nodes doors parts wired long open_doors left.items ran have runs_move stay_whole few
  can_told (Err e) runs_move stay_whole few have = tt

  pub long_told : {E : Type 0} (P : ℕ → Type 0) (o : Result (Vec (NodeLeft (Wiring R) D NodeEntry) Global) E) → IfOk o HaveRunTo → P (length nodes) → IfOk o (λ left. P (length left.items))
  long_told P (Ok left) have here = subst P (sym (left_long r d gives s host desk before now nodes doors parts wired long open_doors left.items ran have)) here
  long_told P (Err e) have here = tt

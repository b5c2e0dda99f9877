-- What is so of the nodes of a run, place by place.
use Rattle.std.proofs.Common.{ℕ, List, Option, sym, ◌∙◌, ap, subst}
use Rattle.std.specs.List.{AllZip}
use Rattle.node_calls.specs.declared.call.NodeCall.{NodeCall}
use Rattle.node_calls.specs.declared.reply.NodeReply.{NodeReply}
use Rattle.node_lock.specs.Passes.{view_of, start_of}
use Rattle.node_lock.specs.declared.lock.NodeLock.{NodeLock}
use Rattle.node_lock.specs.declared.pass.Pass.{Pass}
use Rattle.item_groups.specs.Zips.{AllZip3}
use Rattle.item_groups.proofs.PlaceLaws.{there, zip2-at, zip2-by, zip2-long, zip3-at, zip3-by}
use Rattle.item_groups.proofs.ZipLaws.{zip3-long}
use Rattle.served_console.specs.Jobs.{KeepPasses, KeepsPass}
use Rattle.served_console.specs.declared.node.OperatedNode.{OperatedNode}
use Rattle.served_nodes.specs.Nodes.{NodeRan}
use Rattle.served_nodes.specs.declared.node.NodeLeft.{NodeLeft}
use Rattle.served_nodes.specs.declared.node.NodeParts.{NodeParts}
use Rattle.served_run.specs.Crews.{IsBack, IsClosed, IsCrewOf, IsOpened}
use Rattle.served_run.specs.Runs.{Begins, HaveRun}
use Rattle.served_run.specs.Works.{BeginsWith, CrewWorked, HaveClosed, IsFirstOf}
use Rattle.served_run.specs.declared.closing.NodeBack.{NodeBack}
use Rattle.served_run.specs.declared.desk.Desk.{Desk}
use Rattle.served_run.specs.declared.desk.Ran.{Ran}
use Rattle.served_run.specs.declared.host.Host.{Host}
use Rattle.served_run.specs.declared.opened.Crew.{Crew}
use Rattle.served_run.proofs.BackLaws.{is_back, node_ran}
use Rattle.served_run.proofs.WorkLaws.{each_kept}

have_begun : {W N C D Entry : Type 0} (jobs : ℕ) (clock : C) (nodes : List (NodeParts N D)) (locks : List (NodeLock N NodeCall NodeReply Entry)) (crews : List (Crew N D Entry)) (os : List (OperatedNode W N C Entry))
    → AllZip3 (IsOpened jobs) nodes locks crews → AllZip3 (BeginsWith clock) locks crews os → AllZip (Begins clock) nodes os
have_begun {N} {D} {Entry} jobs clock nodes locks crews os opened parts =
    let many = zip3-long (IsOpened jobs) nodes locks crews opened in
    zip2-by (Begins clock) nodes os ((zip3-long (BeginsWith clock) locks crews os parts).1 ∙ many.0)
    (λ k node o here here'.
    let lock = there nodes locks k node here many.0 in
    let crew = there nodes crews k node here many.1 in
    let p = zip3-at (IsOpened jobs) nodes locks crews k node lock.0 crew.0 opened here lock.1 crew.1 in
    let b = zip3-at (BeginsWith clock) locks crews os k lock.0 crew.0 o parts lock.1 crew.1 here' in
    record { start = ap start_of b.lock_is ∙ p.start; clock_is = b.clock_is; pass = ap view_of b.pass_is ∙ p.crew_of.first })

module _ {W N C G D Entry L : Type 0} (steps : N → Entry → N → Type 0) (event_of : Entry → NodeCall) (reply_of : Entry → NodeReply) (refuses : N → NodeCall → NodeCall → Type 0)
    (gives : C → ℕ → Type 0) (remaining written : L → Option (List ℕ)) (link_faults : L → ℕ) (given : D → Option ℕ) (returned : D → Option (List L)) (faults : D → ℕ) (host : Host W C G) (counted : Type 0) where
  abbrev Worked : NodeLock N NodeCall NodeReply Entry → Crew N D Entry → NodeBack N D Entry → Type 0
  Worked lock crew back = CrewWorked steps event_of reply_of refuses gives remaining written link_faults given returned faults host counted lock crew back

  -- all passes of each lock are back
  pub are_back : (jobs : ℕ) (locks : List (NodeLock N NodeCall NodeReply Entry)) (crews : List (Crew N D Entry)) (os os' : List (OperatedNode W N C Entry)) (backs : List (NodeBack N D Entry))
      → AllZip (IsCrewOf jobs) locks crews → AllZip3 (BeginsWith host.clock.now) locks crews os → KeepPasses os os' → AllZip IsFirstOf os' backs → AllZip3 Worked locks crews backs → AllZip IsBack locks backs
  are_back jobs locks crews os os' backs crews_of parts kept firsts worked =
      let many = zip3-long Worked locks crews backs worked in
      let same = each_kept os os' kept in
      zip2-by IsBack locks backs many.1
      (λ k lock back here here'.
      let crew = there locks crews k lock here many.0 in
      let o = there locks os k lock here (zip3-long (BeginsWith host.clock.now) locks crews os parts).1 in
      let o' = there os os' k o.0 o.1 (zip2-long KeepsPass os os' same) in
      is_back steps event_of reply_of refuses gives remaining written link_faults given returned faults host counted jobs lock crew.0 o.0 o'.0 back host.clock.now
      (zip2-at (IsCrewOf jobs) locks crews k lock crew.0 crews_of here crew.1)
      (zip3-at Worked locks crews backs k lock crew.0 back worked here crew.1 here')
      (zip3-at (BeginsWith host.clock.now) locks crews os k lock crew.0 o.0 parts here crew.1 o.1)
      (zip2-at KeepsPass os os' k o.0 o'.0 same o.1 o'.1)
      (zip2-at IsFirstOf os' backs k o'.0 back firsts o'.1 here'))

  abbrev RanBy : NodeParts N D → OperatedNode W N C Entry → NodeLeft N D Entry → Type 0
  RanBy node o left = NodeRan steps event_of reply_of refuses (gives host.clock.now) host.schema.now remaining written link_faults given returned faults counted node (view_of o.pass) left

  ran_by : (node : NodeParts N D) (o : OperatedNode W N C Entry) (back : NodeBack N D Entry) (left : NodeLeft N D Entry) → IsFirstOf o back
      → NodeRan steps event_of reply_of refuses (gives host.clock.now) host.schema.now remaining written link_faults given returned faults counted node (view_of back.first) left → RanBy node o left
  ran_by node o back left first ran =
      subst (λ (p : Pass N NodeCall NodeReply Entry). NodeRan steps event_of reply_of refuses (gives host.clock.now) host.schema.now remaining written link_faults given returned faults counted node (view_of p) left) first ran

  nodes_ran : (jobs : ℕ) (nodes : List (NodeParts N D)) (locks : List (NodeLock N NodeCall NodeReply Entry)) (crews : List (Crew N D Entry)) (os : List (OperatedNode W N C Entry)) (backs : List (NodeBack N D Entry)) (left : List (NodeLeft N D Entry))
      → AllZip3 (IsOpened jobs) nodes locks crews → AllZip IsFirstOf os backs → AllZip3 Worked locks crews backs → AllZip3 (IsClosed steps) locks backs left → AllZip3 RanBy nodes os left
  nodes_ran jobs nodes locks crews os backs left opened firsts worked closed =
      let many = zip3-long (IsOpened jobs) nodes locks crews opened in
      let ends = zip3-long (IsClosed steps) locks backs left closed in
      zip3-by RanBy nodes os left (sym (zip2-long IsFirstOf os backs firsts) ∙ ends.0 ∙ many.0) (ends.1 ∙ many.0)
      (λ k node o l here here' here''.
      let lock = there nodes locks k node here many.0 in
      let crew = there nodes crews k node here many.1 in
      let back = there locks backs k lock.0 lock.1 ends.0 in
      ran_by node o back.0 l
      (zip2-at IsFirstOf os backs k o back.0 firsts here' back.1)
      (node_ran steps event_of reply_of refuses gives remaining written link_faults given returned faults host counted jobs node lock.0 crew.0 back.0 l
      (zip3-at (IsOpened jobs) nodes locks crews k node lock.0 crew.0 opened here lock.1 crew.1)
      (zip3-at Worked locks crews backs k lock.0 crew.0 back.0 worked lock.1 crew.1 back.1)
      (zip3-at (IsClosed steps) locks backs left k lock.0 back.0 l closed lock.1 back.1 here'')))

  module _ {S T : Type 0} (source_left : S → Option (List ℕ)) (source_faults : S → ℕ) (contents : T → Option (List ℕ)) (sink_faults : T → ℕ) where
    -- closed locks tell how their nodes ran
    pub have_run : (jobs : ℕ) (nodes : List (NodeParts N D)) (locks : List (NodeLock N NodeCall NodeReply Entry)) (crews : List (Crew N D Entry)) (desk : Desk S T) (left : List (NodeLeft N D Entry)) (ran : Ran N D S T Entry)
        → AllZip3 (IsOpened jobs) nodes locks crews
        → HaveClosed steps event_of reply_of refuses gives remaining written link_faults given returned faults host counted source_left source_faults contents sink_faults locks crews desk left ran
        → HaveRun steps event_of reply_of refuses gives remaining written link_faults given returned faults host counted source_left source_faults contents sink_faults nodes desk left ran
    have_run jobs nodes locks crews desk left ran opened c = record {
      job = c.job;
      done = c.done;
      console = c.console;
      began = have_begun jobs host.clock.now nodes locks crews c.job.console.nodes.items opened c.began;
      nodes_ran = nodes_ran jobs nodes locks crews c.done.console.nodes.items c.backs left opened c.firsts c.crews_worked c.closed;
    }

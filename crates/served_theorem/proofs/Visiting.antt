-- Where the visits of a served run stand, and the entries of their calls.
use Rattle.std.proofs.Common.{◌≡◌, ℕ, suc, inl, inr, Option, Some, Ok, List, [], ◌∷◌, Contains, refl, sym, ap, subst, ◌∙◌}
use Rattle.std.specs.Prelude.{slice_get}
use Rattle.std.proofs.lemmas.List.Elements.{Contains-append_cases, Contains-push_cases}
use Rattle.cs_base.proofs.Members.{contains_here, contains_map, contains_nil, contains_there}
use Rattle.schema_book.specs.Books.{Book}
use Rattle.node_calls.specs.declared.call.NodeCall.{NodeCall}
use Rattle.node_calls.specs.declared.reply.NodeReply.{NodeReply}
use Rattle.node_lock.specs.Histories.{entries_by}
use Rattle.node_lock.specs.Passes.{view_of}
use Rattle.node_lock.specs.Views.{PassView}
use Rattle.node_lock.specs.declared.answers.Receipt.{Receipt}
use Rattle.node_workers.specs.Asking.{AreOfDesk}
use Rattle.node_workers.specs.Calls.{called}
use Rattle.item_groups.specs.Zips.{AllZip3}
use Rattle.served_seats.specs.Seats.{fresh, made_by}
use Rattle.served_jobs.specs.Doorways.{AreVisits}
use Rattle.served_jobs.specs.Doorways.AreVisits.{none as no_visits, more as more_visits}
use Rattle.served_jobs.specs.Visits.{IsVisit, Visit}
use Rattle.served_jobs.specs.declared.duty.Duty.{Duty}
use Rattle.served_jobs.specs.declared.duty.Duty.TheVariants as duty
use Rattle.served_console.specs.declared.node.OperatedNode.{OperatedNode}
use Rattle.served_nodes.specs.Jobs.{DidIfStarted}
use Rattle.served_nodes.specs.Nodes.{JobsRan, NodeRan}
use Rattle.served_nodes.specs.declared.node.JobLeft.{JobLeft}
use Rattle.served_nodes.specs.declared.node.NodeLeft.{NodeLeft}
use Rattle.served_nodes.specs.declared.node.NodeParts.{NodeParts}
use Rattle.served_run.specs.Runs.{NodeRanBy}
use Rattle.served_run.specs.declared.host.Host.{Host}
use Rattle.served_theorem.specs.Visits.{visits_by, visits_in, visits_of}
use Rattle.served_theorem.proofs.Entries.{all_of}
use Rattle.served_theorem.proofs.Told.{Tells, from_entries, kept, told_by_entry}

module _ {N Entry L : Type 0} (steps : N → Entry → N → Type 0) (event_of : Entry → NodeCall) (reply_of : Entry → NodeReply) (refuses : N → NodeCall → NodeCall → Type 0)
    (gives : ℕ → Type 0) (schema : Book) (remaining written : L → Option (List ℕ)) (link_faults : L → ℕ) where
  -- ---- of a pass

  module _ (start : N) where
    pub visit_desk : (v : PassView Entry) (visits : List (Visit L)) (w : PassView Entry) → AreVisits (IsVisit steps event_of reply_of refuses start gives schema remaining written link_faults) v visits w
        → (x : Visit L) → Contains visits x → AreOfDesk gives x.calls
    visit_desk v _ _ no_visits x h = absurd (contains_nil x h)
    visit_desk v _ _ (more_visits visits y w z before one) x h = elim (Contains-push_cases visits y x h) [
      | inl old ↦ visit_desk v visits w before x old
      | inr same ↦ subst (λ (u : Visit L). AreOfDesk gives u.calls) same one.of_desk
    ]

    pub visit_tells : (v : PassView Entry) (visits : List (Visit L)) (w : PassView Entry) → AreVisits (IsVisit steps event_of reply_of refuses start gives schema remaining written link_faults) v visits w
        → (x : Visit L) → Contains visits x → (call : NodeCall) (receipt : Receipt NodeReply) → Contains x.calls (called call (Ok receipt)) → Tells event_of reply_of call receipt.reply w.mine
    visit_tells v _ _ no_visits x h = absurd (contains_nil x h)
    visit_tells v _ _ (more_visits visits y w z before one) x h = elim (Contains-push_cases visits y x h) [
      | inl old ↦ λ call receipt made.
          let first = visit_tells v visits w before x old call receipt made in
          record { entry = first.entry; there = kept steps event_of reply_of refuses start w y.calls z one.made first.entry first.there; call_is = first.call_is; reply_is = first.reply_is }
      | inr same ↦ subst (λ (u : Visit L). (call : NodeCall) (receipt : Receipt NodeReply) → Contains u.calls (called call (Ok receipt)) → Tells event_of reply_of call receipt.reply z.mine) same
          (λ call receipt made. told_by_entry steps event_of reply_of refuses start w y.calls z one.made call receipt made)
    ]

    -- a pass made the visit
    pub record IsMadeBy (ws : List (PassView Entry)) (x : Visit L) : Type 0 where
      pub first : PassView Entry
      pub last : PassView Entry
      pub there : Contains ws last
      pub visits : List (Visit L)
      pub are : AreVisits (IsVisit steps event_of reply_of refuses start gives schema remaining written link_faults) first visits last
      pub one : Contains visits x

  -- ---- of a node

  module _ {D : Type 0} (given : D → Option ℕ) (returned : D → Option (List L)) (faults : D → ℕ) (counted : Type 0) where
    by_job : (start : N) (d : Duty D) (left : JobLeft D) (v w : PassView Entry) (ws : List (PassView Entry))
        (did : DidIfStarted steps event_of reply_of refuses start gives schema remaining written link_faults given returned faults counted d left v w) (x : Visit L)
        → Contains (visits_by steps event_of reply_of refuses gives schema remaining written link_faults given returned faults counted start d left v w did) x → IsMadeBy start (w ∷ ws) x
    by_job start (duty.Links receivers) left v w ws did x h = absurd (contains_nil x h)
    by_job start duty.Ticks left v w ws did x h = absurd (contains_nil x h)
    by_job start duty.Merges left v w ws did x h = absurd (contains_nil x h)
    by_job start (duty.Connections door) left v w ws (inl did) x h = record { first = v; last = w; there = contains_here w ws; visits = did.1.3.serves.visits; are = did.1.3.serves.are_visits; one = h }
    by_job start (duty.Connections door) left v w ws (inr lost) x h = absurd (contains_nil x h)

    pub by_jobs : (start : N) (number : ℕ) (ds : List (Duty D)) (ls : List (JobLeft D)) (ws : List (PassView Entry))
        (ran : JobsRan steps event_of reply_of refuses gives schema remaining written link_faults given returned faults counted start number ds ls ws) (x : Visit L)
        → Contains (visits_in steps event_of reply_of refuses gives schema remaining written link_faults given returned faults counted start number ds ls ws ran) x → IsMadeBy start ws x
    by_jobs start number [] [] [] ran x h = absurd (contains_nil x h)
    by_jobs start number [] [] (w ∷ ws) ran x h = absurd ran
    by_jobs start number [] (l ∷ ls) ws ran x h = absurd ran
    by_jobs start number (d ∷ ds) [] ws ran x h = absurd ran
    by_jobs start number (d ∷ ds) (l ∷ ls) [] ran x h = absurd ran
    by_jobs start number (d ∷ ds) (l ∷ ls) (w ∷ ws) ran x h =
        elim (Contains-append_cases (visits_by steps event_of reply_of refuses gives schema remaining written link_faults given returned faults counted start d l (fresh number) w ran.0.did)
        (visits_in steps event_of reply_of refuses gives schema remaining written link_faults given returned faults counted start (suc number) ds ls ws ran.1) x h) [
          | inl here ↦ by_job start d l (fresh number) w ws ran.0.did x here
          | inr rest ↦
              let more = by_jobs start (suc number) ds ls ws ran.1 x rest in
              record { first = more.first; last = more.last; there = contains_there w ws more.last more.there; visits = more.visits; are = more.are; one = more.one }
        ]

    -- each call of a visit that made a step has an entry in the node's history
    pub in_history : (node : NodeParts N D) (console : PassView Entry) (left : NodeLeft N D Entry) (ran : NodeRan steps event_of reply_of refuses gives schema remaining written link_faults given returned faults counted node console left) (x : Visit L)
        → IsMadeBy node.state ran.ends x → (call : NodeCall) (receipt : Receipt NodeReply) → Contains x.calls (called call (Ok receipt)) → Tells event_of reply_of call receipt.reply left.history
    in_history node console left ran x made call receipt h =
        let tells = visit_tells node.state made.first made.visits made.last made.are x made.one call receipt h in
        let each = all_of (λ (v : PassView Entry). entries_by v.number left.history ≡ made_by v) (console ∷ ran.ends) made.last ran.each (contains_there console ran.ends made.last made.there) in
        let found = from_entries made.last.number left.history tells.entry.1 (subst (λ (es : List Entry). Contains es tells.entry.1) (sym each) (contains_map (λ (y : ℕ × Entry). y.1) made.last.mine tells.entry tells.there)) in
        record {
          entry = found.0;
          there = found.1;
          call_is = ap event_of found.2 ∙ tells.call_is;
          reply_is = ap reply_of found.2 ∙ tells.reply_is;
        }

-- ---- of all nodes

module _ {W N C G D Entry L S T : Type 0} (steps : N → Entry → N → Type 0) (event_of : Entry → NodeCall) (reply_of : Entry → NodeReply) (refuses : N → NodeCall → NodeCall → Type 0)
    (gives : C → ℕ → Type 0) (remaining written : L → Option (List ℕ)) (link_faults : L → ℕ) (given : D → Option ℕ) (returned : D → Option (List L)) (faults : D → ℕ) (host : Host W C G) (counted : Type 0)
    (source_left : S → Option (List ℕ)) (source_faults : S → ℕ) (contents : T → Option (List ℕ)) (sink_faults : T → ℕ) where
  -- the visit was made at the node of this number
  pub record IsMadeAt (lefts : List (NodeLeft N D Entry)) (x : Visit L) : Type 0 where
    pub number : ℕ
    pub left : NodeLeft N D Entry
    pub left_at : slice_get lefts number ≡ Some left
    pub desk : AreOfDesk (gives host.clock.now) x.calls
    pub tells : (call : NodeCall) (receipt : Receipt NodeReply) → Contains x.calls (called call (Ok receipt)) → Tells event_of reply_of call receipt.reply left.history

  pub made_at : (nodes : List (NodeParts N D)) (os : List (OperatedNode W N C Entry)) (lefts : List (NodeLeft N D Entry))
      (all : AllZip3 (NodeRanBy steps event_of reply_of refuses gives remaining written link_faults given returned faults host counted source_left source_faults contents sink_faults) nodes os lefts) (x : Visit L)
      → Contains (visits_of steps event_of reply_of refuses gives remaining written link_faults given returned faults host counted source_left source_faults contents sink_faults nodes os lefts all) x → IsMadeAt lefts x
  made_at [] [] [] all x h = absurd (contains_nil x h)
  made_at [] [] (l ∷ lefts) all x h = absurd all
  made_at [] (o ∷ os) lefts all x h = absurd all
  made_at (n ∷ nodes) [] lefts all x h = absurd all
  made_at (n ∷ nodes) (o ∷ os) [] all x h = absurd all
  made_at (n ∷ nodes) (o ∷ os) (l ∷ lefts) all x h =
      elim (Contains-append_cases
      (visits_in steps event_of reply_of refuses (gives host.clock.now) host.schema.now remaining written link_faults given returned faults counted n.state 1 n.duties.items l.jobs.items all.0.ends all.0.jobs)
      (visits_of steps event_of reply_of refuses gives remaining written link_faults given returned faults host counted source_left source_faults contents sink_faults nodes os lefts all.1) x h) [
        | inl here ↦
            let made = by_jobs steps event_of reply_of refuses (gives host.clock.now) host.schema.now remaining written link_faults given returned faults counted n.state 1 n.duties.items l.jobs.items all.0.ends all.0.jobs x here in
            record {
              number = 0;
              left = l;
              left_at = refl;
              desk = visit_desk steps event_of reply_of refuses (gives host.clock.now) host.schema.now remaining written link_faults n.state made.first made.visits made.last made.are x made.one;
              tells = in_history steps event_of reply_of refuses (gives host.clock.now) host.schema.now remaining written link_faults given returned faults counted n (view_of o.pass) l all.0 x made;
            }
        | inr rest ↦
            let more = made_at nodes os lefts all.1 x rest in
            record { number = suc more.number; left = more.left; left_at = more.left_at; desk = more.desk; tells = more.tells }
      ]

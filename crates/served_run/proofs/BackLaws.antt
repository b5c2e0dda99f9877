-- Passes that are back, and what closed locks tell of them.
use Rattle.std.proofs.Common.{◌≡◌, ℕ, zero, suc, List, [], ◌∷◌, Option, map, sym, ◌∙◌, ap, subst, Vec, Global}
use Rattle.std.specs.List.{All, AllByRecursion, AllZip}
use Rattle.std.proofs.lemmas.List.Elements.{All-nil, All-cons}
use Rattle.node_calls.specs.declared.call.NodeCall.{NodeCall}
use Rattle.node_calls.specs.declared.reply.NodeReply.{NodeReply}
use Rattle.node_lock.specs.Histories.{Replays}
use Rattle.node_lock.specs.Passes.{IsPassOf, view_of, start_of}
use Rattle.node_lock.specs.Stepped.{IsSamePass}
use Rattle.node_lock.specs.Views.{PassView}
use Rattle.node_lock.specs.declared.lock.NodeLock.{NodeLock}
use Rattle.node_lock.specs.declared.pass.Pass.{Pass}
use Rattle.served_seats.specs.Seats.{fresh, fresh_from, IsOwn}
use Rattle.served_jobs.specs.declared.done.JobDone.{JobDone}
use Rattle.served_jobs.specs.declared.duty.Duty.{Duty}
use Rattle.served_console.specs.Jobs.{KeepsPass}
use Rattle.served_console.specs.declared.node.OperatedNode.{OperatedNode}
use Rattle.item_groups.specs.Zips.{AllZip3}
use Rattle.served_nodes.specs.Jobs.{DidIfStarted}
use Rattle.served_nodes.specs.Nodes.{JobsRan, NodeRan}
use Rattle.served_nodes.specs.declared.node.NodeLeft.{NodeLeft}
use Rattle.served_nodes.specs.declared.node.NodeParts.{NodeParts}
use Rattle.served_run.specs.Crews.{IsCrewOf, IsOpened, IsBack, IsClosed, pass_of, end_of, left_of}
use Rattle.served_run.specs.Works.{HasWorked, CrewWorked, BeginsWith}
use Rattle.served_run.specs.declared.closing.NodeBack.{NodeBack}
use Rattle.served_run.specs.declared.host.Host.{Host}
use Rattle.served_run.specs.declared.opened.Crew.{Crew}

heads : {A : Type 0} {x y : A} {xs ys : List A} → x ∷ xs ≡ y ∷ ys → x ≡ y
heads {x} {y} e = cc

tails : {A : Type 0} {x y : A} {xs ys : List A} → x ∷ xs ≡ y ∷ ys → xs ≡ ys
tails e = cc

module _ {W N C G D Entry L : Type 0} (steps : N → Entry → N → Type 0) (event_of : Entry → NodeCall) (reply_of : Entry → NodeReply) (refuses : N → NodeCall → NodeCall → Type 0)
    (gives : C → ℕ → Type 0) (remaining written : L → Option (List ℕ)) (link_faults : L → ℕ) (given : D → Option ℕ) (returned : D → Option (List L)) (faults : D → ℕ) (host : Host W C G) (counted : Type 0) where
  abbrev Worked : NodeLock N NodeCall NodeReply Entry → Pass N NodeCall NodeReply Entry → Duty D → JobDone N D Entry → Type 0
  Worked lock pass duty done = HasWorked steps event_of reply_of refuses gives remaining written link_faults given returned faults host counted lock pass duty done

  -- ---- passes of one lock

  others_of : (lock : NodeLock N NodeCall NodeReply Entry) (passes : List (Pass N NodeCall NodeReply Entry)) (duties : List (Duty D)) (dones : List (JobDone N D Entry))
      → AllZip3 (Worked lock) passes duties dones → All (IsPassOf lock) (map pass_of dones)
  others_of lock [] [] [] h = All-nil (IsPassOf lock)
  others_of lock [] [] (z ∷ zs) h = absurd h
  others_of lock [] (y ∷ ys) zs h = absurd h
  others_of lock (x ∷ xs) [] zs h = absurd h
  others_of lock (x ∷ xs) (y ∷ ys) [] h = absurd h
  others_of lock (x ∷ xs) (y ∷ ys) (z ∷ zs) h = All-cons (IsPassOf lock) z.pass (map pass_of zs) h.0.lock_is (others_of lock xs ys zs h.1)

  same_of : (lock : NodeLock N NodeCall NodeReply Entry) (passes : List (Pass N NodeCall NodeReply Entry)) (duties : List (Duty D)) (dones : List (JobDone N D Entry))
      → AllZip3 (Worked lock) passes duties dones → AllZip IsSamePass (map view_of passes) (map end_of dones)
  same_of lock [] [] [] h = tt
  same_of lock [] [] (z ∷ zs) h = absurd h
  same_of lock [] (y ∷ ys) zs h = absurd h
  same_of lock (x ∷ xs) [] zs h = absurd h
  same_of lock (x ∷ xs) (y ∷ ys) [] h = absurd h
  same_of lock (x ∷ xs) (y ∷ ys) (z ∷ zs) h = (h.0.same, same_of lock xs ys zs h.1)

  own_of : (lock : NodeLock N NodeCall NodeReply Entry) (passes : List (Pass N NodeCall NodeReply Entry)) (duties : List (Duty D)) (dones : List (JobDone N D Entry))
      → AllZip3 (Worked lock) passes duties dones → AllByRecursion IsOwn (map view_of passes) → AllByRecursion IsOwn (map end_of dones)
  own_of lock [] [] [] h own = tt
  own_of lock [] [] (z ∷ zs) h own = absurd h
  own_of lock [] (y ∷ ys) zs h own = absurd h
  own_of lock (x ∷ xs) [] zs h own = absurd h
  own_of lock (x ∷ xs) (y ∷ ys) [] h own = absurd h
  own_of lock (x ∷ xs) (y ∷ ys) (z ∷ zs) h own = (h.0.own own.0, own_of lock xs ys zs h.1 own.1)

  fresh_own : (number count : ℕ) → AllByRecursion IsOwn (fresh_from {E = Entry} number count)
  fresh_own number zero = tt
  fresh_own number (suc count) = (tt, fresh_own (suc number) count)

  -- the console's pass of a node is back, and the node's jobs are
  pub is_back : (jobs : ℕ) (lock : NodeLock N NodeCall NodeReply Entry) (crew : Crew N D Entry) (o o' : OperatedNode W N C Entry) (back : NodeBack N D Entry) (clock : C)
      → IsCrewOf jobs lock crew → CrewWorked steps event_of reply_of refuses gives remaining written link_faults given returned faults host counted lock crew back
      → BeginsWith clock lock crew o → KeepsPass o o' → back.first ≡ o'.pass → IsBack lock back
  is_back jobs lock crew o o' back clock c w b k is =
      let view : view_of o.pass ≡ fresh 0 = ap view_of b.pass_is ∙ c.first in
      let same : IsSamePass (fresh 0) (view_of back.first) =
      subst (λ (x : Pass N NodeCall NodeReply Entry). IsSamePass (fresh 0) (view_of x)) (sym is) (subst (λ (v : PassView Entry). IsSamePass v (view_of o'.pass)) view k.pass) in
      let own' : IsOwn (view_of o'.pass) = k.own (subst (λ (v : PassView Entry). IsOwn v) (sym view) tt) in
      record {
        jobs = jobs;
        seats = c.seats;
        first_of = subst (λ (x : Pass N NodeCall NodeReply Entry). IsPassOf lock x) (sym is) (subst (λ (l : NodeLock N NodeCall NodeReply Entry). IsPassOf l o'.pass) b.lock_is k.lock);
        others_of = others_of lock crew.others.items crew.duties.items back.dones.items w;
        same = (same, subst (λ (vs : List (PassView Entry)). AllZip IsSamePass vs (map end_of back.dones.items)) c.others (same_of lock crew.others.items crew.duties.items back.dones.items w));
        own = (
          subst (λ (x : Pass N NodeCall NodeReply Entry). IsOwn (view_of x)) (sym is) own',
          own_of lock crew.others.items crew.duties.items back.dones.items w (subst (λ (vs : List (PassView Entry)). AllByRecursion IsOwn vs) (sym c.others) (fresh_own 1 jobs)),
        );
      }

  -- ---- what closed locks tell

  jobs_ran : (lock : NodeLock N NodeCall NodeReply Entry) (number count : ℕ) (passes : List (Pass N NodeCall NodeReply Entry)) (duties : List (Duty D)) (dones : List (JobDone N D Entry))
      → AllZip3 (Worked lock) passes duties dones → map view_of passes ≡ fresh_from number count
      → JobsRan steps event_of reply_of refuses (gives host.clock.now) host.schema.now remaining written link_faults given returned faults counted (start_of lock) number duties (map left_of dones) (map end_of dones)
  jobs_ran lock number count [] [] [] h views = tt
  jobs_ran lock number count [] [] (z ∷ zs) h views = absurd h
  jobs_ran lock number count [] (y ∷ ys) zs h views = absurd h
  jobs_ran lock number count (x ∷ xs) [] zs h views = absurd h
  jobs_ran lock number count (x ∷ xs) (y ∷ ys) [] h views = absurd h
  jobs_ran lock number zero (x ∷ xs) (y ∷ ys) (z ∷ zs) h views = cc
  jobs_ran lock number (suc count) (x ∷ xs) (y ∷ ys) (z ∷ zs) h views =
      let view : view_of x ≡ fresh number = heads views in (
        record {
          pass = subst (λ (v : PassView Entry). IsSamePass v (view_of z.pass)) view h.0.same;
          own = h.0.own (subst (λ (v : PassView Entry). IsOwn v) (sym view) tt);
          did = subst (λ (v : PassView Entry). DidIfStarted steps event_of reply_of refuses (start_of lock) (gives host.clock.now) host.schema.now remaining written link_faults given returned faults counted y (left_of z) v (view_of z.pass)) view h.0.did;
        },
        jobs_ran lock (suc number) count xs ys zs h.1 (tails views),
      )

  pub node_ran : (jobs : ℕ) (node : NodeParts N D) (lock : NodeLock N NodeCall NodeReply Entry) (crew : Crew N D Entry) (back : NodeBack N D Entry) (left : NodeLeft N D Entry)
      → IsOpened jobs node lock crew → CrewWorked steps event_of reply_of refuses gives remaining written link_faults given returned faults host counted lock crew back
      → IsClosed steps lock back left
      → NodeRan steps event_of reply_of refuses (gives host.clock.now) host.schema.now remaining written link_faults given returned faults counted node (view_of back.first) left
  node_ran jobs node lock crew back left o w c =
      let ran = jobs_ran lock 1 jobs crew.others.items crew.duties.items back.dones.items w o.crew_of.others in
      let ran1 = subst (λ (d : Vec (Duty D) Global). JobsRan steps event_of reply_of refuses (gives host.clock.now) host.schema.now remaining written link_faults given returned faults counted (start_of lock) 1 d.items (map left_of back.dones.items) (map end_of back.dones.items)) o.duties ran in
      let ran2 = subst (λ (x : N). JobsRan steps event_of reply_of refuses (gives host.clock.now) host.schema.now remaining written link_faults given returned faults counted x 1 node.duties.items (map left_of back.dones.items) (map end_of back.dones.items)) o.start ran1 in
      record {
        ends = map end_of back.dones.items;
        jobs = subst (λ ls. JobsRan steps event_of reply_of refuses (gives host.clock.now) host.schema.now remaining written link_faults given returned faults counted node.state 1 node.duties.items ls (map end_of back.dones.items)) (sym c.jobs) ran2;
        replays = subst (λ (x : N). Replays steps x left.history left.state) o.start c.replays;
        most = c.most;
        each = c.each;
        none_else = c.none_else;
        seen = c.seen;
      }

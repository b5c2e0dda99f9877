-- What is said of a run, as it ends.
use Rattle.std.proofs.Common.{◌≡◌, ℕ, zero, suc, ◌+◌, ◌*◌, ◌≤◌, Bool, true, false, not, Ok, Err, Some, None, List, [], ◌∷◌, length, refl, sym, ap, subst, ◌∙◌, arith, inl, inr}
use Rattle.std.specs.Prelude.{IfOk, OnErr, Option, Result, Vec, slice_get}
use Rattle.std.specs.List.{AllByRecursion, list_any, position}
use Rattle.std.specs.declared.alloc.Global.{Global}
use Rattle.std.proofs.lemmas.Bool.{true≢false}
use Rattle.std.proofs.lemmas.Bool.Decides.{leb_tells}
use Rattle.cs_base.specs.Faults.{HasRisen}
use Rattle.node_core.specs.declared.node.Node.{Node}
use Rattle.wired_node.specs.Laws.{FailuresAreCounted, HasGone}
use Rattle.wired_node.specs.Making.{MakesIn, RefusesIn, call_in, reply_in}
use Rattle.wired_node.specs.States.{Wiring}
use Rattle.wired_node.specs.declared.entry.NodeEntry.{NodeEntry}
use Rattle.served_assembly.specs.Parting.{doors_in, has_door_failed, is_unstarted}
use Rattle.served_console.specs.declared.end.ConsoleEnd.TheVariants as console_end
use Rattle.served_doors.specs.Ledger.{Ledger}
use Rattle.served_doors.specs.Opening.{AreOpen, IsFresh}
use Rattle.served_jobs.specs.declared.duty.Duty.{Duty}
use Rattle.served_nodes.specs.declared.node.JobLeft.{JobLeft}
use Rattle.served_nodes.specs.declared.node.NodeLeft.{NodeLeft}
use Rattle.served_nodes.specs.declared.node.NodeParts.{NodeParts}
use Rattle.served_run.specs.Runs.{HaveRun, IsLost}
use Rattle.served_run.specs.declared.desk.Desk.{Desk}
use Rattle.served_run.specs.declared.desk.Ran.{Ran}
use Rattle.served_run.specs.declared.host.Host.{Host}
use Rattle.served_stores.specs.Shown.{Shown, IsSameAt}
use Rattle.served_stores.proofs.Backing.{same_at}
use Rattle.served_cluster.specs.Ends.{GivesAllBack, IsOfNoConsole, IsToldFirst, told_without}
use Rattle.served_cluster.specs.Giving.{AreBackBut, AreCounted, IsGivenBack, IsLostFor, GivesBack, lacks_door, lacks_thread}
use Rattle.served_cluster.specs.Kinds.{DoorKind, ReplicaKind, StreamKind}
use Rattle.served_cluster.specs.Served.{AreHomeFrom, AreWired, EndsWell, HaveServed, IsHome, StreamsAreBack, WentWell, has_failed, is_full}
use Rattle.served_cluster.specs.Serving.{AreOut, Serves}
use Rattle.served_cluster.specs.declared.ending.ServedEnd.{ServedEnd}
use Rattle.served_cluster.specs.declared.ending.ServedEnd.TheVariants as served
use Rattle.served_cluster.specs.declared.ending.ServedRun.{ServedRun}
use Rattle.served_cluster.proofs.Doors.{risen_within}
use Rattle.served_cluster.proofs.Jobs.{IsQuiet, door_counted, quiet_duties, start_counted}
use Rattle.served_cluster.proofs.Lists.{all_and, all_at, all_by, all_to, any_at, at_below, at_position, none_any, none_position}
use Rattle.served_cluster.proofs.Moves.{HasRun, left_at, left_long}
use Rattle.served_cluster.proofs.Told.{Found, FoundBehind, IsSilent, back_apart, behind, first_of_all, first_without, found_of, silent_keeps, silent_without}

-- ---- an end that tells nothing of nodes

module _ {R W G C S T : Type 0} (D : Type 0) (r : ReplicaKind R) (gives : C → ℕ → Type 0) (s : StreamKind S T) (host : Host W C G) where
  pub serves_silent : (Served : Option ℕ → Type 0) (nodes : ℕ) (Home : Type 0) (out new : Shown) (doors doors' starts starts' : ℕ) (desk : Desk S T) (result : ServedRun S T)
      → IsSilent result.end → ((n : ℕ) → out.faults n ≤ new.faults n) → doors ≤ doors' → starts ≤ starts' → StreamsAreBack D r gives s host desk result → ((n : ℕ) → nodes ≤ n → IsSameAt n out new)
      → Serves D r gives s host Served nodes Home out new doors doors' starts starts' desk result
  serves_silent Served nodes Home out new doors doors' starts starts' desk result silent stores_later doors_later threads_later console others = record {
    store_fault = λ n is. absurd (subst IsSilent is silent);
    door_fault = λ is. absurd (subst IsSilent is silent);
    no_thread = λ is. absurd (subst IsSilent is silent);
    undamaged = λ n f p is. subst IsSilent is silent;
    stores_later = stores_later;
    doors_later = doors_later;
    threads_later = threads_later;
    console = console;
    closed = λ is. absurd (subst IsSilent is silent);
    full = λ n is. absurd (subst IsSilent is silent);
    stores_home = λ all. absurd (silent_keeps result.end silent all);
    doors_home = λ all. absurd (silent_keeps result.end silent all);
    others = others;
  }

  -- nothing was touched but what stood on the desk
  pub untouched_back : (desk : Desk S T) (result : ServedRun S T) → result.source ≡ desk.source → result.sink ≡ desk.sink → IsOfNoConsole result.end → StreamsAreBack D r gives s host desk result
  untouched_back desk result source sink told = inl record { source = source; sink = sink; told = told }

  -- the nodes of a run are lost, but the console may have worked
  pub lost_back : (desk : Desk S T) (ran : Ran (Wiring R) D S T NodeEntry) (result : ServedRun S T)
      → IsLost (MakesIn r.is_honest r.stands_for r.durable r.log_end r.since_flush r.disk r.faults) call_in reply_in (RefusesIn r.is_honest r.stands_for r.durable r.log_end r.since_flush r.disk r.faults) gives
      host s.remaining s.source_faults s.contents s.sink_faults desk ran
      → result.source ≡ ran.source → result.sink ≡ ran.sink → result.end ≡ told_without ran.end → StreamsAreBack D r gives s host desk result
  lost_back desk ran result (inl none) source sink told =
      inl record {
        source = source ∙ none.0;
        sink = sink ∙ none.1;
        told = subst IsOfNoConsole (sym (told ∙ ap told_without none.2)) (first_without console_end.Ended);
      }
  lost_back desk ran result (inr worked) source sink told =
      inr record {
        ran = ran;
        job = worked.0;
        done = worked.1;
        console = worked.2;
        source = source;
        sink = sink;
        told = subst (λ (e : ServedEnd). IsToldFirst ran.end e) (sym told) (first_without ran.end);
      }

-- ---- the stores of nodes

module _ {R D : Type 0} (r : ReplicaKind R) where
  home_from : (n k : ℕ) (left : List (NodeLeft (Wiring R) D NodeEntry)) (l : NodeLeft (Wiring R) D NodeEntry) (old new : Shown) → AreHomeFrom r n left old new → slice_get left k ≡ Some l → IsHome r (n + k) l old new
  home_from n k [] l old new home at = absurd (let wrong : None ≡ Some l = at in cc)
  home_from n zero (x ∷ left) l old new home at =
      let same : x ≡ l = cc in
      subst (λ (j : ℕ). IsHome r j l old new) (let e : n ≡ n + 0 = omega arith in e) (subst (λ (y : NodeLeft (Wiring R) D NodeEntry). IsHome r n y old new) same home.0)
  home_from n (suc k) (x ∷ left) l old new home at =
      subst (λ (j : ℕ). IsHome r j l old new) (let e : n + 1 + k ≡ n + suc k = omega arith in e) (home_from (n + 1) k left l old new home.1 at)

  pub home_at : (k : ℕ) (left : List (NodeLeft (Wiring R) D NodeEntry)) (l : NodeLeft (Wiring R) D NodeEntry) (old new : Shown) → AreHomeFrom r 0 left old new → slice_get left k ≡ Some l → IsHome r k l old new
  home_at k left l old new home at = subst (λ (j : ℕ). IsHome r j l old new) (let e : 0 + k ≡ k = omega arith in e) (home_from 0 k left l old new home at)

-- ---- all is given back

runs_off : (runs : Bool) → not runs ≡ true → runs ≡ false
runs_off true is = absurd (true≢false (sym is))
runs_off false is = refl

runs_on : (runs : Bool) → not runs ≡ false → runs ≡ true
runs_on true is = refl
runs_on false is = absurd (true≢false is)

module _ {R K D L W G C S T : Type 0} (r : ReplicaKind R) (d : DoorKind D L) (gives : C → ℕ → Type 0) (s : StreamKind S T) (host : Host W C G) (desk : Desk S T) (starts starts' : ℕ)
    (nodes : List (Node R K)) (doors : List (Vec D Global)) (parts : List (NodeParts (Wiring R) D)) (wired : AreWired nodes doors parts) (long : length doors ≡ length nodes)
    (open_doors : AllByRecursion (AreOpen (IsFresh d.given d.returned d.faults) 16) doors)
    (left : List (NodeLeft (Wiring R) D NodeEntry)) (ran : Ran (Wiring R) D S T NodeEntry)
    (have : HaveRun (MakesIn r.is_honest r.stands_for r.durable r.log_end r.since_flush r.disk r.faults) call_in reply_in (RefusesIn r.is_honest r.stands_for r.durable r.log_end r.since_flush r.disk r.faults) gives
    d.remaining d.written d.link_faults d.given d.returned d.faults host (HasRisen starts starts') s.remaining s.source_faults s.contents s.sink_faults parts desk left ran)
    (out new : Shown) (book book' : Ledger D) (result : ServedRun S T)
    (are_out : AreOut r nodes out)
    (counted : FailuresAreCounted r.is_honest r.stands_for r.durable r.log_end r.since_flush r.disk r.faults)
    (source : result.source ≡ ran.source) (sink : result.sink ≡ ran.sink)
    (back : IsGivenBack r d.faults ran.end left out new book book' result.end) where
  abbrev At : ℕ → NodeLeft (Wiring R) D NodeEntry → Type 0
  At k l = HasRun r d gives s host desk starts starts' nodes doors parts wired long open_doors left ran have k l

  at : (k : ℕ) (l : NodeLeft (Wiring R) D NodeEntry) → slice_get left k ≡ Some l → At k l
  at = left_at r d gives s host desk starts starts' nodes doors parts wired long open_doors left ran have

  count : length left ≡ length nodes
  count = left_long r d gives s host desk starts starts' nodes doors parts wired long open_doors left ran have

  -- the faults of the store of a node, since it was put together
  law : (k : ℕ) (l : NodeLeft (Wiring R) D NodeEntry) (here : At k l)
      → (r.faults here.part.state.replica ≤ r.faults l.state.replica)
      × (l.state.core.runs ≡ false → HasRisen (r.faults here.part.state.replica) (r.faults l.state.replica))
      × (l.state.core.runs ≡ true → AllByRecursion HasGone l.history)
  law k l here =
      counted here.part.state l.state l.history here.has_run.replays (ap (λ (w : Wiring R). w.core.runs) here.is_at.assembled.state ∙ (are_out k here.is_at.node here.is_at.node_at).0.0)

  found : FoundBehind ran.end result.end (position has_failed left) (list_any lacks_door left) (list_any lacks_thread left) (position is_full left)
  found =
      subst (λ (e : ServedEnd). FoundBehind ran.end e (position has_failed left) (list_any lacks_door left) (list_any lacks_thread left) (position is_full left)) (sym back.told_is)
      (found_of ran.end (position has_failed left) (list_any lacks_door left) (list_any lacks_thread left) (position is_full left))

  -- where the end is this, and all is given back there, the console ended well, and this was found
  found_at : (told : ServedEnd) → result.end ≡ told → GivesAllBack told → (ran.end ≡ console_end.Ended) × Found told (position has_failed left) (list_any lacks_door left) (list_any lacks_thread left) (position is_full left)
  found_at told is all =
      behind ran.end told (position has_failed left) (list_any lacks_door left) (list_any lacks_thread left) (position is_full left)
      (subst (λ (e : ServedEnd). FoundBehind ran.end e (position has_failed left) (list_any lacks_door left) (list_any lacks_thread left) (position is_full left)) is found) (back_apart told all)

  -- ---- faults

  store_fault : (n : ℕ) → result.end ≡ served.StoreFault n → HasRisen (out.faults n) (new.faults n)
  store_fault n is =
      let one = at_position has_failed left n (found_at (served.StoreFault n) is tt).1 in
      let l = one.0 in
      let here = at n l one.1 in
      let faults = law n l here in
      let taken = (are_out n here.is_at.node here.is_at.node_at).1 in
      let same = ap (λ (w : Wiring R). r.faults w.replica) here.is_at.assembled.state in
      let home = home_at r n left l out new back.home one.1 in
      home.back.rose (risen_within (out.taken n) (r.faults here.part.state.replica) (r.faults l.state.replica) (r.faults home.replica)
      (omega (arith, taken, same)) faults.0 (faults.1 (runs_off l.state.core.runs one.2)) home.since.faults)

  door_fault : result.end ≡ served.DoorFault → HasRisen book.faults book'.faults
  door_fault is =
      let one = any_at lacks_door left (found_at served.DoorFault is tt).1 in
      let job = any_at has_door_failed one.1.jobs.items one.3 in
      let here = at one.0 one.1 one.2 in
      let own = here.is_at.doors_are in
      let fresh = (all_at (AreOpen (IsFresh d.given d.returned d.faults) 16) doors one.0 own open_doors here.is_at.doors_at).fresh in
      let quiet = all_to (IsFresh d.given d.returned d.faults) (λ (door : D). d.faults door ≡ 0) (λ door h. h.faults) own.items fresh in
      door_counted (MakesIn r.is_honest r.stands_for r.durable r.log_end r.since_flush r.disk r.faults) call_in reply_in (RefusesIn r.is_honest r.stands_for r.durable r.log_end r.since_flush r.disk r.faults)
      (gives host.clock.now) host.schema.now d.remaining d.written d.link_faults d.given d.returned d.faults (HasRisen starts starts') here.part.state
      book.faults book'.faults 1 here.part.duties.items one.1.jobs.items here.has_run.ends here.has_run.jobs
      (subst (λ (ds : List (Duty D)). AllByRecursion (IsQuiet d.faults) ds) (sym {A = List (Duty D)} here.is_at.assembled.duties) (quiet_duties d.faults here.is_at.links.receivers own.items quiet))
      (all_at (λ (x : NodeLeft (Wiring R) D NodeEntry). AreCounted d.faults book.faults book'.faults (doors_in x.jobs.items)) left one.0 one.1 back.counted one.2)
      job.0 job.1 job.2 job.3

  no_thread : result.end ≡ served.NoThread → HasRisen starts starts'
  no_thread is =
      let one = any_at lacks_thread left (found_at served.NoThread is tt).1 in
      let job = any_at is_unstarted one.1.jobs.items one.3 in
      let here = at one.0 one.1 one.2 in
      start_counted (MakesIn r.is_honest r.stands_for r.durable r.log_end r.since_flush r.disk r.faults) call_in reply_in (RefusesIn r.is_honest r.stands_for r.durable r.log_end r.since_flush r.disk r.faults)
      (gives host.clock.now) host.schema.now d.remaining d.written d.link_faults d.given d.returned d.faults (HasRisen starts starts') here.part.state
      1 here.part.duties.items one.1.jobs.items here.has_run.ends here.has_run.jobs job.0 job.1 job.2 job.3

  -- ---- a run that went well

  ends_well : position has_failed left ≡ None → list_any lacks_door left ≡ false → list_any lacks_thread left ≡ false → (k : ℕ) (l : NodeLeft (Wiring R) D NodeEntry) → slice_get left k ≡ Some l → EndsWell l
  ends_well none no_door no_lack k l here =
      let on = runs_on l.state.core.runs (all_at (λ (x : NodeLeft (Wiring R) D NodeEntry). has_failed x ≡ false) left k l (none_position has_failed left none) here) in
      record {
        runs = on;
        gone = (law k l (at k l here)).2 on;
        jobs = all_and (λ (j : JobLeft D). is_unstarted j ≡ false) (λ (j : JobLeft D). has_door_failed j ≡ false) WentWell (λ j a b. (a, b)) l.jobs.items
            (none_any is_unstarted l.jobs.items (all_at (λ (x : NodeLeft (Wiring R) D NodeEntry). lacks_thread x ≡ false) left k l (none_any lacks_thread left no_lack) here))
            (none_any has_door_failed l.jobs.items (all_at (λ (x : NodeLeft (Wiring R) D NodeEntry). lacks_door x ≡ false) left k l (none_any lacks_door left no_door) here));
      }

  abbrev Ends : Option ℕ → Type 0
  Ends = HaveServed r d gives s host desk (HasRisen starts starts') nodes doors out new result

  have_served : (full : Option ℕ) → (ran.end ≡ console_end.Ended) × ((position has_failed left ≡ None) × (list_any lacks_door left ≡ false) × (list_any lacks_thread left ≡ false) × (position is_full left ≡ full)) → Ends full
  have_served full well = record {
    parts = parts;
    wired = wired;
    left = left;
    ran = ran;
    have_run = have;
    source = source;
    sink = sink;
    ended = well.0;
    well = all_by EndsWell left (ends_well well.1.0 well.1.1 well.1.2);
    first_full = well.1.3;
    settled = back.settled;
    home = back.home;
  }

  -- ---- all that is said

  later : (n : ℕ) → out.faults n ≤ new.faults n
  later n =
      elim (leb_tells (length left) n) [
        | inl behind ↦ (let e = (back.others n behind.1).faults in omega arith)
        | inr before ↦ (let one = at_below left n before.1 in (home_at r n left one.0 out new back.home one.1).back.later)
      ]

  pub serves_given : starts ≤ starts' → Serves D r gives s host Ends (length nodes) (AreBackBut (length nodes * 16) book book') out new book.faults book'.faults starts starts' desk result
  serves_given threads_later = record {
    store_fault = store_fault;
    door_fault = door_fault;
    no_thread = no_thread;
    undamaged = λ n f p is. (found_at (served.Damaged n f p) is tt).1;
    stores_later = later;
    doors_later = back.later;
    threads_later = threads_later;
    console = inr record {
      ran = ran;
      job = have.job;
      done = have.done;
      console = have.console;
      source = source;
      sink = sink;
      told = subst (λ (e : ServedEnd). IsToldFirst ran.end e) (sym back.told_is) (first_of_all ran.end (position has_failed left) (list_any lacks_door left) (list_any lacks_thread left) (position is_full left));
    };
    closed = λ is. have_served None (found_at served.Closed is tt);
    full = λ n is. have_served (Some n) (found_at (served.HistoryFull n) is tt);
    stores_home = λ all n lt. (let one = at_below left n (let e = count in omega (arith, lt, e)) in (home_at r n left one.0 out new back.home one.1).back.home);
    doors_home = λ all. subst (λ (n : ℕ). AreBackBut (n * 16) book book') count back.back;
    others = λ n le. back.others n (let e = count in omega (arith, le, e));
  }

-- ---- however a run ends

module _ {R K D L W G C S T : Type 0} (r : ReplicaKind R) (d : DoorKind D L) (gives : C → ℕ → Type 0) (s : StreamKind S T) (host : Host W C G) (desk : Desk S T) (starts starts' : ℕ)
    (nodes : List (Node R K)) (doors : List (Vec D Global)) (parts : List (NodeParts (Wiring R) D)) (wired : AreWired nodes doors parts) (long : length doors ≡ length nodes)
    (open_doors : AllByRecursion (AreOpen (IsFresh d.given d.returned d.faults) 16) doors) (ran : Ran (Wiring R) D S T NodeEntry)
    (out new : Shown) (book book' : Ledger D) (result : ServedRun S T)
    (are_out : AreOut r nodes out)
    (counted : FailuresAreCounted r.is_honest r.stands_for r.durable r.log_end r.since_flush r.disk r.faults)
    (source : result.source ≡ ran.source) (sink : result.sink ≡ ran.sink) (threads_later : starts ≤ starts') where
  abbrev Serve : Type 0
  Serve = Serves D r gives s host (HaveServed r d gives s host desk (HasRisen starts starts') nodes doors out new result) (length nodes) (AreBackBut (length nodes * 16) book book') out new book.faults book'.faults starts starts' desk result

  serves_lost : IsLostFor r ran.end out new book book' result.end → StreamsAreBack D r gives s host desk result → Serve
  serves_lost lost console =
      serves_silent D r gives s host (HaveServed r d gives s host desk (HasRisen starts starts') nodes doors out new result) (length nodes) (AreBackBut (length nodes * 16) book book') out new book.faults book'.faults starts starts' desk result
      (subst IsSilent (sym lost.told_is) (silent_without ran.end))
      (λ n. let e = ap (λ (x : Shown). x.faults n) lost.stores in omega (arith, e))
      (let e = ap (λ (b : Ledger D). b.faults) lost.doors in omega (arith, e))
      threads_later console
      (λ n le. subst (λ (x : Shown). IsSameAt n out x) (sym lost.stores) (same_at n out))

  pub serves_run : {E : Type 0} (o : Result (Vec (NodeLeft (Wiring R) D NodeEntry) Global) E)
      → IfOk o (λ left. HaveRun (MakesIn r.is_honest r.stands_for r.durable r.log_end r.since_flush r.disk r.faults) call_in reply_in (RefusesIn r.is_honest r.stands_for r.durable r.log_end r.since_flush r.disk r.faults) gives
      d.remaining d.written d.link_faults d.given d.returned d.faults host (HasRisen starts starts') s.remaining s.source_faults s.contents s.sink_faults parts desk left.items ran)
      → OnErr o (IsLost (MakesIn r.is_honest r.stands_for r.durable r.log_end r.since_flush r.disk r.faults) call_in reply_in (RefusesIn r.is_honest r.stands_for r.durable r.log_end r.since_flush r.disk r.faults) gives
      host s.remaining s.source_faults s.contents s.sink_faults desk ran)
      → OnErr o (IsLostFor r ran.end out new book book' result.end)
      → IfOk o (λ left. GivesBack r d.faults ran.end left.items out new book book' result.end)
      → Serve
  serves_run (Err e) have lost lost_for back = serves_lost lost_for (lost_back D r gives s host desk ran result lost source sink lost_for.told_is)
  serves_run (Ok left) have lost lost_for (inl lost_for') =
      serves_lost lost_for' (inr record {
        ran = ran;
        job = have.job;
        done = have.done;
        console = have.console;
        source = source;
        sink = sink;
        told = subst (λ (e : ServedEnd). IsToldFirst ran.end e) (sym lost_for'.told_is) (first_without ran.end);
      })
  serves_run (Ok left) have lost lost_for (inr back) =
      serves_given r d gives s host desk starts starts' nodes doors parts wired long open_doors left.items ran have out new book book' result are_out counted source sink back threads_later

-- What is said of runs whose nodes were loaded, and whose doors were opened.
use Rattle.std.proofs.Common.{◌≡◌, ℕ, ◌*◌, ◌<◌, ◌≤◌, false, List, length, refl, sym, ap, subst, ◌∙◌, arith, inl, inr}
use Rattle.std.specs.Prelude.{Option, Vec}
use Rattle.std.specs.List.{AllByRecursion}
use Rattle.std.specs.declared.alloc.Global.{Global}
use Rattle.std.proofs.lemmas.Bool.Decides.{leb_tells}
use Rattle.cs_base.specs.Faults.{HasRisen}
use Rattle.peer_messages.specs.declared.setting.Setting.{Setting}
use Rattle.node_core.specs.declared.node.Node.{Node}
use Rattle.served_assembly.specs.Assembling.{Runs}
use Rattle.served_doors.specs.Ledger.{GivesMore, Ledger}
use Rattle.served_doors.specs.Opening.{AreOpen, CloseAgain, IsFresh}
use Rattle.served_doors.specs.declared.fault.DoorFault.{DoorFault}
use Rattle.served_doors.specs.declared.fault.DoorFault.TheVariants as fault
use Rattle.served_run.specs.declared.desk.Desk.{Desk}
use Rattle.served_run.specs.declared.host.Host.{Host}
use Rattle.served_stores.specs.Loading.{AreTakenFrom}
use Rattle.served_stores.specs.Releasing.{AreBackFrom}
use Rattle.served_stores.specs.Shown.{Shown, IsSameAt}
use Rattle.served_stores.proofs.Backing.{back_at, same_on}
use Rattle.served_stores.proofs.Taking.{taken_at}
use Rattle.served_cluster.specs.Ends.{GivesAllBack, told_of_doors}
use Rattle.served_cluster.specs.Giving.{AreBackBut}
use Rattle.served_cluster.specs.Kinds.{DoorKind, ReplicaKind, StreamKind, keeper_of}
use Rattle.served_cluster.specs.Served.{AreServed, HaveServed, IsServed, StreamsAreBack}
use Rattle.served_cluster.specs.Serving.{AreOut, Serves}
use Rattle.served_cluster.specs.declared.ending.ServedEnd.TheVariants as served
use Rattle.served_cluster.specs.declared.ending.ServedRun.{ServedRun}
use Rattle.served_cluster.proofs.Doors.{all_back, closed_again, risen_within}
use Rattle.served_cluster.proofs.Lists.{all_by, at_below, within}
use Rattle.served_cluster.proofs.Said.{serves_silent}
use Rattle.served_cluster.proofs.Told.{IsSilent}

-- ---- nodes that are loaded

module _ {R K : Type 0} (r : ReplicaKind R) where
  pub all_run : (nodes : List (Node R K)) (out : Shown) → AreOut r nodes out → AllByRecursion (Runs r.is_whole r.durable r.is_honest) nodes
  all_run nodes out are_out = all_by (Runs r.is_whole r.durable r.is_honest) nodes (λ n node at. (are_out n node at).0)

  pub taken_out : (setting : Setting) (nodes : List (Node R K)) (old out : Shown) → AreTakenFrom (keeper_of r) setting 0 nodes old out → AreOut r nodes out
  taken_out setting nodes old out taken n node at =
      let (x, at', one) = taken_at (keeper_of r) setting n nodes old out taken (within nodes n node at) in
      let same : x ≡ node = cc in
      subst (λ (y : Node R K). Runs r.is_whole r.durable r.is_honest y × (out.taken n ≤ r.faults y.replica)) same
      ((one.loaded.runs, one.loaded.whole, one.loaded.tied), one.taken)

module _ {R K D L W G C S T : Type 0} (r : ReplicaKind R) (d : DoorKind D L) (gives : C → ℕ → Type 0) (s : StreamKind S T) (host : Host W C G) (desk : Desk S T) (counted : Type 0) (starts starts' : ℕ)
    (nodes : List (Node R K)) (result : ServedRun S T) where
  abbrev HaveThese : List (Vec D Global) → Shown → Shown → Option ℕ → Type 0
  HaveThese doors out new = HaveServed r d gives s host desk counted nodes doors out new result

  abbrev HaveSome : Shown → Shown → Option ℕ → Type 0
  HaveSome out new = AreServed r d gives s host desk counted nodes out new result

  -- ---- doors that were opened

  module _ (out new : Shown) (book book' : Ledger D) where
    pub serves_open : (mid : Ledger D) (doors : List (Vec D Global)) → length doors ≡ length nodes → AllByRecursion (AreOpen (IsFresh d.given d.returned d.faults) 16) doors
        → GivesMore (length nodes * 16) book mid
        → Serves D r gives s host (HaveThese doors out new) (length nodes) (AreBackBut (length nodes * 16) mid book') out new mid.faults book'.faults starts starts' desk result
        → Serves D r gives s host (HaveSome out new) (length nodes) (AreBackBut 0 book book') out new book.faults book'.faults starts starts' desk result
    serves_open mid doors count open_doors more h = record {
      store_fault = h.store_fault;
      door_fault = λ is. risen_within book.faults mid.faults book'.faults book'.faults more.later h.doors_later (h.door_fault is) (omega arith);
      no_thread = h.no_thread;
      undamaged = h.undamaged;
      stores_later = h.stores_later;
      doors_later = (let a = more.later in let b = h.doors_later in omega (arith, a, b));
      threads_later = h.threads_later;
      console = h.console;
      closed = λ is. record { doors = doors; count = count; open_doors = open_doors; served = h.closed is };
      full = λ n is. record { doors = doors; count = count; open_doors = open_doors; served = h.full n is };
      stores_home = h.stores_home;
      doors_home = λ all. all_back (length nodes * 16) book mid book' more (h.doors_home all);
      others = h.others;
    }

    -- ---- doors that were not

    abbrev IsBack : Type 0
    IsBack = AreBackFrom r.is_honest (λ (node : Node R K). (r.disk node.replica).seen) (λ (node : Node R K). r.faults node.replica) 0 nodes out new

    released_later : IsBack → ((n : ℕ) → length nodes ≤ n → IsSameAt n out new) → (n : ℕ) → out.faults n ≤ new.faults n
    released_later back others n =
        elim (leb_tells (length nodes) n) [
          | inl behind ↦ (let e = (others n behind.1).faults in omega arith)
          | inr before ↦ (let one = at_below nodes n before.1 in
              (back_at r.is_honest (λ (node : Node R K). (r.disk node.replica).seen) (λ (node : Node R K). r.faults node.replica) n nodes one.0 out new back one.1).later)
        ]

    released_home : IsBack → (n : ℕ) → n < length nodes → new.is_out n ≡ false
    released_home back n lt =
        let one = at_below nodes n lt in (back_at r.is_honest (λ (node : Node R K). (r.disk node.replica).seen) (λ (node : Node R K). r.faults node.replica) n nodes one.0 out new back one.1).home

    pub serves_shut : (why : DoorFault) (Fresh : D → Type 0) (few each : ℕ) → result.end ≡ told_of_doors why → IsBack → ((n : ℕ) → length nodes ≤ n → IsSameAt n out new) → starts ≤ starts'
        → StreamsAreBack D r gives s host desk result
        → (why ≡ fault.Failed → CloseAgain Fresh few each book book') → (why ≡ fault.Failed → HasRisen book.faults book'.faults) → (why ≡ fault.NoMemory → book' ≡ book)
        → Serves D r gives s host (HaveSome out new) (length nodes) (AreBackBut 0 book book') out new book.faults book'.faults starts starts' desk result
    serves_shut fault.NoMemory Fresh few each is back others threads_later console closes cause none =
        serves_silent D r gives s host (HaveSome out new) (length nodes) (AreBackBut 0 book book') out new book.faults book'.faults starts starts' desk result
        (subst IsSilent (sym is) tt) (released_later back others) (let e = ap (λ (b : Ledger D). b.faults) (none refl) in omega (arith, e)) threads_later console others
    serves_shut fault.Failed Fresh few each is back others threads_later console closes cause none =
        let closed = closes refl in
        record {
          store_fault = λ n other. absurd (let wrong : served.DoorFault ≡ served.StoreFault n = sym is ∙ other in cc);
          door_fault = λ other. cause refl;
          no_thread = λ other. absurd (let wrong : served.DoorFault ≡ served.NoThread = sym is ∙ other in cc);
          undamaged = λ n f p other. (let wrong : served.DoorFault ≡ served.Damaged n f p = sym is ∙ other in cc);
          stores_later = released_later back others;
          doors_later = closed.later;
          threads_later = threads_later;
          console = console;
          closed = λ other. absurd (let wrong : served.DoorFault ≡ served.Closed = sym is ∙ other in cc);
          full = λ n other. absurd (let wrong : served.DoorFault ≡ served.HistoryFull n = sym is ∙ other in cc);
          stores_home = λ all. released_home back;
          doors_home = λ all. closed_again Fresh few each book book' closed;
          others = others;
        }

  -- ---- loaded nodes

  module _ (setting : Setting) (old out new : Shown) (count : length nodes ≡ length setting.ring) (taken : AreTakenFrom (keeper_of r) setting 0 nodes old out)
      (others : (n : ℕ) → length setting.ring ≤ n → IsSameAt n old out) (later : (n : ℕ) → old.faults n ≤ out.faults n)
      (Home : Type 0) (doors doors' : ℕ) (h : Serves D r gives s host (HaveSome out new) (length nodes) Home out new doors doors' starts starts' desk result) where
    all_others : (n : ℕ) → length setting.ring ≤ n → IsSameAt n old new
    all_others n le = same_on n old out new (others n le) (h.others n (let e = count in omega (arith, le, e)))

    pub loaded_fault : (n : ℕ) → result.end ≡ served.StoreFault n → HasRisen (old.faults n) (new.faults n)
    loaded_fault n is = risen_within (old.faults n) (out.faults n) (new.faults n) (new.faults n) (later n) (h.stores_later n) (h.store_fault n is) (omega arith)

    pub loaded_later : (n : ℕ) → old.faults n ≤ new.faults n
    loaded_later n = let a = later n in let b = h.stores_later n in omega (arith, a, b)

    pub loaded_served : (full : Option ℕ) → HaveSome out new full → IsServed K r d gives s host desk counted setting old new result full
    loaded_served full run = record { out = out; nodes = nodes; count = count; loaded = taken; served = run; others = all_others }

    pub loaded_home : GivesAllBack result.end → (n : ℕ) → new.is_out n ≡ old.is_out n
    loaded_home all n =
        elim (leb_tells (length nodes) n) [
          | inl behind ↦ (all_others n (let e = count in let le = behind.1 in omega (arith, le, e))).is_out
          | inr before ↦ (let (x, at, one) = taken_at (keeper_of r) setting n nodes old out taken before.1 in h.stores_home all n before.1 ∙ sym one.was_home)
        ]

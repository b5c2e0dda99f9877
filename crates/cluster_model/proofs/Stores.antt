-- Stores of nodes that stop, and loads of them.
use Rattle.std.proofs.Common.{◌≡◌, ℕ, suc, ◌+◌, ◌<◌, Bool, inl, inr, Ok, Err, Option, List, [], ◌∷◌, ◌++◌, refl, sym, ap, subst, ◌∙◌, arith, length, take, get_or}
use Rattle.std.proofs.Math.Seq.{take-suc}
use Rattle.std.proofs.lemmas.Bool.{cases_lt, cases_eq}
use Rattle.cs_store.specs.declared.mem.MemStore.{MemStore}
use Rattle.cs_store.specs.declared.plan.Plan.{Plan}
use Rattle.cs_store.specs.Disk.{Disk, Passes, Stays, IsImage, IsSettled}
use Rattle.cs_store.specs.Images.{Images, settled}
use Rattle.cs_store.specs.declared.mem_file.Outcome.TheVariants.{Kept}
use Rattle.cs_store.specs.Mem.{disk_of, images_of, plan_of, is_stopped, IsSure, IsSameDisk, IsAllSettled}
use Rattle.cs_store.specs.Past.{disk_at}
use Rattle.cs_store.specs.Plan.{IsBehind}
use Rattle.peer_messages.specs.declared.event.Event.{Event}
use Rattle.durable_state.specs.State.{Durable, IsSameKept}
use Rattle.durable_state.proofs.Same.{same_on}
use Rattle.node_steps.specs.Stops.{remains}
use Rattle.replica.specs.Finding.{AlwaysLeaves}
use Rattle.replica.specs.declared.error.LoadError.{LoadError}
use Rattle.replica.specs.declared.error.LoadError.TheVariants as load_error
use Rattle.cluster_model.specs.declared.error.ClusterError.TheVariants.{Damaged}
use Rattle.node_core.specs.declared.node.Node.{Node}
use Rattle.node_core.specs.declared.outcome.Lost.{Lost}
use Rattle.node_core.specs.Nodes.{Halts}
use Rattle.cluster_model.specs.Faults.{NeverFails, is_failure, planned, all_planned}
use Rattle.std.specs.Prelude.{Result, IfOk, OnErr}
use Rattle.std.specs.declared.alloc.AllocError.{AllocError}
use Rattle.peer_messages.specs.declared.setting.Setting.{Setting}
use Rattle.cluster_model.specs.declared.seat.Part.{Part}
use Rattle.cluster_model.specs.declared.seat.Part.TheVariants.{Rests}
use Rattle.cluster_model.specs.declared.seat.Seat.{Seat}
use Rattle.cluster_model.specs.declared.seat.Woken.{Woken}
use Rattle.cluster_model.specs.declared.seat.Woken.TheVariants.{Up, Failed, NoMemory}
use Rattle.cluster_model.specs.Sites.{Keeper, Crashed, HasHalted, StillLeft, Loads, Puts, WakesBy, SleepsBy}
use Rattle.cluster_model.specs.declared.told.Told.{Told}

pub never_fails : (s : MemStore) → IsSure s → NeverFails s
never_fails s h n = (h.1, subst (λ (p : Option Plan). IsBehind n p) (sym h.0) tt)

pub same_disk : (old new : MemStore) → IsSameDisk old new → disk_of new ≡ disk_of old
same_disk old new h = λ i. disk_at ((h.1 i).items) ((h.0 i).items)

pub still_settled : (old new : MemStore) → IsSameDisk old new → IsAllSettled old → IsAllSettled new
still_settled old new h settled = subst (λ (d : Disk). (k : ℕ) → IsSettled k d) (sym (same_disk old new h)) settled

-- what a crash leaves behind a call that changes nothing it might have left before it
image_back : (f : ℕ) (old mid : Disk) (files : ℕ → List ℕ) → Passes f Stays old mid → IsImage mid mid.moment files → IsImage old old.moment files
image_back f old mid files h image k = elim (cases_lt old.moment mid.moment) [
  | inl since ↦ elim (cases_eq k f) [
    | inl here ↦
        let before = h.file mid.moment (files k) since (omega arith) (subst (λ (j : ℕ). mid.left mid.moment j (files k)) here (image k)) in
        subst (λ (j : ℕ). old.left old.moment j (files k)) (sym here) (subst (λ (c : List ℕ). old.left old.moment f c) (sym before.2) before.1)
    | inr other ↦ h.others mid.moment k (files k) other since (omega arith) (image k)
  ]
  | inr same ↦
      let later = h.on.later in
      subst (λ (t : ℕ). old.left t k (files k)) (let e : mid.moment ≡ old.moment = omega (arith, same, later) in e) ((h.on.kept mid.moment k (files k) same).0 (image k))
]

-- a crash of a store that was asked something
pub crashed_on : (f : ℕ) (old mid new : MemStore) → Passes f Stays (disk_of old) (disk_of mid) → Crashed mid new → Crashed old new
crashed_on f old mid new h crashed = record { settled = crashed.settled; sure = crashed.sure; left = image_back f (disk_of old) (disk_of mid) (disk_of new).seen h crashed.left }

-- a load that failed leaves what was there
pub still_left : {R : Type 0} (m : Keeper R) (store armed s s' : MemStore) → IsSameDisk store armed
    → ((d : Durable) → m.stands_for (disk_of armed).seen d → AlwaysLeaves m.stands_for (IsSameKept d) (disk_of armed) (disk_of s)) → Crashed s s' → StillLeft m store s'
still_left m store armed s s' same leaves crashed = λ left h.
    let stands : m.stands_for (disk_of armed).seen h.stands.kept = subst (λ (d : Disk). m.stands_for d.seen h.stands.kept) (sym (same_disk store armed same)) h.stands.stands in
    let all = leaves h.stands.kept stands in
    let later = all.on.later in
    let found = all.files (disk_of s).moment (disk_of s').seen later (omega arith) crashed.left in
    record {
      settled = crashed.settled;
      sure = crashed.sure;
      stands = record { kept = found.kept; stands = found.stands; one = same_on left h.stands.kept found.kept h.stands.one found.one };
    }

-- a node that halted, and whose store crashed
pub has_halted : {R : Type 0} (m : Keeper R) (n n' : Node R MemStore) (told : List Told) (e : Event) (l : Lost) (failed stopped : Bool) (s : MemStore)
    → Halts n.core (m.durable n.replica) e (remains l.started l.entries) m.stands_for (disk_of (m.disk n'.replica)) → Crashed (m.disk n'.replica) s → (NeverFails (m.disk n.replica) → ⊥) → failed ≡ is_failure told stopped
    → HasHalted m n told e l failed s
has_halted m n n' told e l failed stopped s halts crashed cause is = record {
  deeds = halts.deeds;
  cut = halts.cut;
  entries = halts.entries;
  stands = halts.leaves (disk_of s).seen crashed.left;
  settled = crashed.settled;
  sure = crashed.sure;
  cause = cause;
  stopped = stopped;
  by = is;
}

-- a store that was told nothing more
pub told_nothing : (old new : MemStore) (told : List Told) → plan_of new ≡ all_planned told (plan_of old) → is_stopped new ≡ is_stopped old → told ≡ [] → NeverFails old → NeverFails new
told_nothing old new told plan stopped none sure n =
    let same : plan_of new ≡ plan_of old = plan ∙ ap (λ (xs : List Told). all_planned xs (plan_of old)) none in
    (stopped ∙ (sure n).0, subst (λ (p : Option Plan). IsBehind n p) (sym same) (sure n).1)

planned_more : (xs : List Told) (x : Told) (p : Option Plan) → all_planned (xs ++ x ∷ []) p ≡ planned x (all_planned xs p)
planned_more [] x p = refl
planned_more (y ∷ ys) x p = planned_more ys x (planned y p)

-- one fault more is told
pub tell_step : (told : List Told) (i : ℕ) (d : Told) (p q r : Option Plan) → i < length told → q ≡ all_planned (take i told) p → r ≡ planned (get_or told i d) q → r ≡ all_planned (take (i + 1) told) p
tell_step told i d p q r within before after =
    after ∙ ap (λ (x : Option Plan). planned (get_or told i d) x) before ∙ sym (planned_more (take i told) (get_or told i d) p)
    ∙ ap (λ (xs : List Told). all_planned xs p) (sym (take-suc told i d within) ∙ ap (λ (n : ℕ). take n told) (let e : suc i ≡ i + 1 = omega arith in e))

pub damaged_as : (me number place k f p : ℕ) (s : MemStore) (error : LoadError MemStore) → Damaged me number place ≡ Damaged k f p → error ≡ load_error.Damaged s number place → (k ≡ me) × ((x : MemStore) × (error ≡ load_error.Damaged x f p))
damaged_as me number place k f p s error same is =
    let me_is : me ≡ k = cc in
    let number_is : number ≡ f = cc in
    let place_is : place ≡ p = cc in
    (sym me_is, (s, is ∙ (λ i. load_error.Damaged s (number_is i) (place_is i))))

-- a crash that keeps what was written leaves what is read
pub kept_read : (old new : MemStore) → ((k : ℕ) → images_of new k ≡ settled Kept (images_of old k)) → (k : ℕ) → (disk_of new).seen k ≡ (disk_of old).seen k
kept_read old new h k = ap (λ (i : Images). i.kept) (h k)

-- ---- what a load puts in its node's place

pub wakes_ok : {R : Type 0} (m : Keeper R) (c : Setting) (k : ℕ) (seat seat' : Seat R) (part : Part R) (store : MemStore) (woken : Woken R) (r : Result Bool AllocError) → Loads m c k seat.told.items store woken → Puts (record seat { part = part }) woken r seat'
    → IfOk r (λ ok. WakesBy m c k seat (Rests store) ok seat')
wakes_ok m c k seat seat' part store (Up n) (Ok ok) h (is, here) = subst (λ (b : Bool). WakesBy m c k seat (Rests store) b seat') (sym is) (n, here, h.0, h.1)
wakes_ok m c k seat seat' part store (Up n) (Err e) h here = tt
wakes_ok m c k seat seat' part store (Failed s) (Ok ok) h (is, here) = subst (λ (b : Bool). WakesBy m c k seat (Rests store) b seat') (sym is) (s, here, h.0, h.1)
wakes_ok m c k seat seat' part store (Failed s) (Err e) h here = tt
wakes_ok m c k seat seat' part store (NoMemory s) (Ok ok) h here = absurd here
wakes_ok m c k seat seat' part store (NoMemory s) (Err e) h here = tt

pub wakes_err : {R : Type 0} (m : Keeper R) (c : Setting) (k : ℕ) (seat seat' : Seat R) (part : Part R) (store : MemStore) (woken : Woken R) (r : Result Bool AllocError) → Loads m c k seat.told.items store woken → Puts (record seat { part = part }) woken r seat'
    → OnErr r (SleepsBy m seat (Rests store) seat')
wakes_err m c k seat seat' part store (Up n) (Ok ok) h here = tt
wakes_err m c k seat seat' part store (Up n) (Err e) h here = absurd here
wakes_err m c k seat seat' part store (Failed s) (Ok ok) h here = tt
wakes_err m c k seat seat' part store (Failed s) (Err e) h here = absurd here
wakes_err m c k seat seat' part store (NoMemory s) (Ok ok) h here = tt
wakes_err m c k seat seat' part store (NoMemory s) (Err e) h here = (s, here, h)

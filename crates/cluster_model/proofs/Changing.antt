-- Clocks, stops between events, faults that are told, and loads.
use Rattle.std.proofs.Common.{◌≡◌, ℕ, zero, suc, Bool, true, false, inl, inr, Option, Some, None, List, [], ◌∷◌, ◌++◌, Contains, refl, sym, ap, subst, ◌∙◌, reverse}
use Rattle.std.specs.Prelude.{map, slice_get, slice_set}
use Rattle.cs_store.specs.declared.mem.MemStore.{MemStore}
use Rattle.cs_store.specs.Mem.{disk_of}
use Rattle.peer_messages.specs.declared.chronicle.Entry.{Entry}
use Rattle.peer_messages.specs.declared.chronicle.Entry.TheVariants.{Stopped as HasStopped}
use Rattle.peer_messages.specs.declared.setting.Setting.{Setting}
use Rattle.durable_state.specs.State.{Durable, IsSameKept}
use Rattle.node_steps.specs.State.{NodeState, loaded}
use Rattle.durable_state.proofs.Same.{same_on}
use Rattle.replica.specs.Finding.{IsSafe}
use Rattle.replica.specs.Kept.{IsKeptOf}
use Rattle.node_core.specs.declared.node.Node.{Node}
use Rattle.node_core.specs.Nodes.{Core, state_with}
use Rattle.cluster_runs.specs.World.{World, Standing, Running, Down, left_by}
use Rattle.cluster_runs.specs.Run.{deeds_in}
use Rattle.cluster_runs.specs.Run.RunFrom.{load, load_failed, stopped as stopped_between}
use Rattle.cs_base.proofs.Members.{contains_here}
use Rattle.cs_base.proofs.Slots.{some_one, set_get, set_same, set_set}
use Rattle.cluster_model.specs.State.{Showing, Up, Off, Site, Post, ClusterState}
use Rattle.cluster_model.specs.Takes.{changed, with_changed, with_site, stopped, set_clock, told_of, Restarts, RestartsAt, RestartsBy}
use Rattle.cluster_model.specs.Faults.{NeverFails}
use Rattle.cluster_model.specs.Sites.{Keeper, Crashed, IsReady, HasLeft, IsSeat, AtSeat, StaysBy, StaysAt, StopsBy, TellsBy, IsLoaded, StillLeft, WakesBy, SleepsBy, ClockWas}
use Rattle.cluster_model.specs.Holding.{Fits, IsRun, seen, showing_of, site_of}
use Rattle.cluster_model.specs.declared.told.Told.{Told}
use Rattle.cluster_model.specs.declared.seat.Part.{Part}
use Rattle.cluster_model.specs.declared.seat.Part.TheVariants.{Runs, Rests, Lent}
use Rattle.cluster_model.specs.declared.seat.Seat.{Seat}
use Rattle.cluster_model.proofs.Fits.{fit_at, fit_put, beside_running, beside_resting}
use Rattle.cluster_model.proofs.Going.{get_site, get_no_site, seat_site, put_site, same_site, same_looks, put_fits, still_run, stays_look, stays_fit}

-- what always holds of a kind of replica
pub record Laws {R : Type 0} (m : Keeper R) : Type 0 where
  pub safe : (r : R) → m.is_whole r → IsSafe m.stands_for (m.durable r) (disk_of (m.disk r))
  pub one : (files : ℕ → List ℕ) (a b : Durable) → m.stands_for files a → m.stands_for files b → IsSameKept a b

-- ---- what is seen

pub record Changes {R : Type 0} (m : Keeper R) (c : Setting) (first : List NodeState) (seats : List (Seat R)) (post : Post) (chronicle : List Entry) (k : ℕ) (change : Site → Site) (seats' : List (Seat R)) : Type 0 where
  pub state : seen m c first seats' post chronicle ≡ changed change (seen m c first seats post chronicle) k
  pub run : IsRun m c first seats' post chronicle

change_none : {R : Type 0} (m : Keeper R) (c : Setting) (first : List NodeState) (seats seats' : List (Seat R)) (post : Post) (chronicle : List Entry) (k : ℕ) (change : Site → Site) → slice_get seats k ≡ None → seats' ≡ seats
    → IsRun m c first seats post chronicle → Changes m c first seats post chronicle k change seats'
change_none {R} m c first seats seats' post chronicle k change at same run =
    let v = seen m c first seats post chronicle in
    subst (λ (xs : List (Seat R)). Changes m c first seats post chronicle k change xs) (sym same)
    (record { state = sym (ap (λ (o : Option Site). with_changed change v k o) (get_no_site m seats k at)); run = run })

change_one : {R : Type 0} (m : Keeper R) (c : Setting) (first : List NodeState) (seats seats' : List (Seat R)) (post : Post) (chronicle : List Entry) (k : ℕ) (change : Site → Site) (seat seat' : Seat R)
    → slice_get seats k ≡ Some seat → seats' ≡ slice_set seats k seat' → site_of m seat' ≡ change (site_of m seat) → IsRun m c first (slice_set seats k seat') post chronicle
    → Changes m c first seats post chronicle k change seats'
change_one {R} m c first seats seats' post chronicle k change seat seat' at same is run =
    let v = seen m c first seats post chronicle in
    subst (λ (xs : List (Seat R)). Changes m c first seats post chronicle k change xs) (sym same)
    (record {
      state = same_looks c first post _ _ chronicle chronicle (put_site m seats k seat' (change (site_of m seat)) is) refl
          ∙ sym (ap (λ (o : Option Site). with_changed change v k o) (get_site m seats k seat at));
      run = run;
    })

-- ---- clocks

clock_by : {R : Type 0} (m : Keeper R) (c : Setting) (first : List NodeState) (seats seats' : List (Seat R)) (post : Post) (chronicle : List Entry) (k micros : ℕ) (o : Option (Seat R)) (Otherwise : Type 0)
    → IsRun m c first seats post chronicle → slice_get seats k ≡ o → AtSeat (λ (seat seat' : Seat R). IsSeat seat.part micros seat.told.items seat') Otherwise seats k o seats'
    → Changes m c first seats post chronicle k (set_clock micros) seats'
clock_by m c first seats seats' post chronicle k micros None Otherwise run at (other, same) = change_none m c first seats seats' post chronicle k (set_clock micros) at same run
clock_by m c first seats seats' post chronicle k micros (Some seat) Otherwise run at (seat', is, same) =
    change_one m c first seats seats' post chronicle k (set_clock micros) seat seat' at same (seat_site m seat.part micros seat.told.items seat' is)
    (still_run m c first seats post chronicle k seat seat' run at (λ y fits. put_fits m c k micros seat.told.items seat.part seat' y is fits))

pub clock_changes : {R : Type 0} (m : Keeper R) (c : Setting) (first : List NodeState) (seats seats' : List (Seat R)) (post : Post) (chronicle : List Entry) (k micros : ℕ) (Otherwise : Type 0)
    → IsRun m c first seats post chronicle → AtSeat (λ (seat seat' : Seat R). IsSeat seat.part micros seat.told.items seat') Otherwise seats k (slice_get seats k) seats'
    → Changes m c first seats post chronicle k (set_clock micros) seats'
clock_changes m c first seats seats' post chronicle k micros Otherwise run h = clock_by m c first seats seats' post chronicle k micros (slice_get seats k) Otherwise run refl h

-- ---- crashes

crashed_left : {R : Type 0} (m : Keeper R) (laws : Laws m) (n : Node R MemStore) (store : MemStore) → m.is_whole n.replica → Crashed (m.disk n.replica) store → HasLeft m (m.durable n.replica) store
crashed_left m laws n store whole h = record { settled = h.settled; sure = h.sure; stands = laws.safe n.replica whole (disk_of store).seen h.left }

crash_run : {R : Type 0} (m : Keeper R) (laws : Laws m) (c : Setting) (first : List NodeState) (seats : List (Seat R)) (post : Post) (chronicle : List Entry) (k : ℕ) (seat seat' : Seat R) (n : Node R MemStore) (store : MemStore)
    → IsRun m c first seats post chronicle → slice_get seats k ≡ Some seat → seat.part ≡ Runs n → IsSeat (Rests store) seat.clock [] seat' → Crashed (m.disk n.replica) store → IsRun m c first (slice_set seats k seat') post chronicle
crash_run m laws c first seats post chronicle k seat seat' n store run at part is h =
    let w = run.world in
    let there = fit_at m c k seats w.standing seat run.nodes at in
    let up = beside_running m c k seat.told.items seat.part n there.0 part there.2 in
    let before : NodeState = state_with n.core (m.durable n.replica) in
    let here : slice_get w.standing k ≡ Some (Running before) = there.1 ∙ ap Some (up.1 ∙ ap Running (sym up.2.is)) in
    let w' : World = record w { standing = slice_set w.standing k (Down before None) } in
    record {
      world = w';
      run = stopped_between w w' k run.run (record { before = before; at = here; world = refl });
      nodes = fit_put m c k seats w.standing seat' (Down before None) run.nodes (put_fits m c k seat.clock [] (Rests store) seat' (Down before None) is (crashed_left m laws n store up.2.ready.whole h));
      sent = run.sent;
      chronicle = run.chronicle;
    }

rest_fits : {R : Type 0} (m : Keeper R) (c : Setting) (k clock : ℕ) (seat seat' : Seat R) (store store' : MemStore) (told : List Told) → seat.part ≡ Rests store → IsSeat (Rests store') clock told seat' → StillLeft m store store' → (y : Standing)
    → Fits m c k seat.told.items seat.part y → Fits m c k seat'.told.items seat'.part y
rest_fits m c k clock seat seat' store store' told part is still y fits =
    let off = beside_resting m c k seat.told.items seat.part store y part fits in
    put_fits m c k clock told (Rests store') seat' y is (subst (λ (z : Standing). Fits m c k told (Rests store') z) (sym off.2) (still (left_by off.0 off.1) off.3))

crash_part : {R : Type 0} (m : Keeper R) (laws : Laws m) (c : Setting) (first : List NodeState) (seats seats' : List (Seat R)) (post : Post) (chronicle : List Entry) (k : ℕ) (seat seat' : Seat R) (part : Part R)
    → IsRun m c first seats post chronicle → slice_get seats k ≡ Some seat → seat.part ≡ part → seats' ≡ slice_set seats k seat' → StopsBy m part seat'.part → seat'.clock ≡ seat.clock → seat'.told.items ≡ []
    → Changes m c first seats post chronicle k stopped seats'
crash_part m laws c first seats seats' post chronicle k seat seat' (Runs n) run at part same (store, rests, h) clock told =
    change_one m c first seats seats' post chronicle k stopped seat seat' at same (seat_site m (Rests store) seat.clock [] seat' (rests, clock, told))
    (crash_run m laws c first seats post chronicle k seat seat' n store run at part (rests, clock, told) h)
crash_part m laws c first seats seats' post chronicle k seat seat' (Rests store) run at part same rests clock told =
    change_one m c first seats seats' post chronicle k stopped seat seat' at same (seat_site m (Rests store) seat.clock [] seat' (rests, clock, told))
    (still_run m c first seats post chronicle k seat seat' run at (rest_fits m c k seat.clock seat seat' store store [] part (rests, clock, told) (λ left h. h)))
crash_part {R} m laws c first seats seats' post chronicle k seat seat' Lent run at part same rests clock told =
    let there = fit_at m c k seats run.world.standing seat run.nodes at in
    absurd (subst (λ (p : Part R). Fits m c k seat.told.items p there.0) part there.2)

crash_by : {R : Type 0} (m : Keeper R) (laws : Laws m) (c : Setting) (first : List NodeState) (seats seats' : List (Seat R)) (post : Post) (chronicle : List Entry) (k : ℕ) (o : Option (Seat R)) (Otherwise : Type 0)
    → IsRun m c first seats post chronicle → slice_get seats k ≡ o → AtSeat (λ (seat seat' : Seat R). StopsBy m seat.part seat'.part × (seat'.clock ≡ seat.clock) × (seat'.told.items ≡ [])) Otherwise seats k o seats'
    → Changes m c first seats post chronicle k stopped seats'
crash_by m laws c first seats seats' post chronicle k None Otherwise run at (other, same) = change_none m c first seats seats' post chronicle k stopped at same run
crash_by m laws c first seats seats' post chronicle k (Some seat) Otherwise run at (seat', h, same) = crash_part m laws c first seats seats' post chronicle k seat seat' seat.part run at refl same h.0 h.1 h.2

pub crash_changes : {R : Type 0} (m : Keeper R) (laws : Laws m) (c : Setting) (first : List NodeState) (seats seats' : List (Seat R)) (post : Post) (chronicle : List Entry) (k : ℕ) (Otherwise : Type 0)
    → IsRun m c first seats post chronicle → AtSeat (λ (seat seat' : Seat R). StopsBy m seat.part seat'.part × (seat'.clock ≡ seat.clock) × (seat'.told.items ≡ [])) Otherwise seats k (slice_get seats k) seats'
    → Changes m c first seats post chronicle k stopped seats'
crash_changes m laws c first seats seats' post chronicle k Otherwise run h = crash_by m laws c first seats seats' post chronicle k (slice_get seats k) Otherwise run refl h

-- ---- faults

some_more : (told : List Told) (fault : Told) → told ++ fault ∷ [] ≡ [] → ⊥
some_more [] fault h = cc
some_more (x ∷ xs) fault h = cc

told_ready : {R : Type 0} (m : Keeper R) (n n' : Node R MemStore) → n'.core ≡ n.core → m.durable n'.replica ≡ m.durable n.replica → (m.is_whole n.replica → m.is_whole n'.replica) → IsReady m n → IsReady m n'
told_ready m n n' core kept whole ready = record {
  runs = ap (λ (x : Core). x.runs) core ∙ ready.runs;
  whole = whole ready.whole;
  tied = subst (λ (d : Durable). IsKeptOf d n'.core.kept) (sym kept) (subst (λ (x : Core). IsKeptOf (m.durable n.replica) x.kept) (sym core) ready.tied);
}

tell_fits : {R : Type 0} (m : Keeper R) (c : Setting) (k : ℕ) (seat seat' : Seat R) (fault : Told) (part : Part R) (y : Standing) → seat'.told.items ≡ seat.told.items ++ fault ∷ [] → TellsBy m fault part seat'.part
    → Fits m c k seat.told.items part y → Fits m c k seat'.told.items seat'.part y
tell_fits {R} m c k seat seat' fault (Runs n) (Running s) told (n', is, core, kept, whole, plan) fits =
    subst (λ (p : Part R). Fits m c k seat'.told.items p (Running s)) (sym is) (record {
      is = ap (λ (x : Core). state_with x (m.durable n'.replica)) core ∙ ap (λ (d : Durable). state_with n.core d) kept ∙ fits.is;
      setting = ap (λ (x : Core). x.setting) core ∙ fits.setting;
      me = ap (λ (x : Core). x.me) core ∙ fits.me;
      ready = told_ready m n n' core kept whole fits.ready;
      sure = λ none. absurd (some_more seat.told.items fault (sym told ∙ none));
    })
tell_fits m c k seat seat' fault (Runs n) (Down s made) told h fits = absurd fits
tell_fits m c k seat seat' fault (Rests store) (Running s) told h fits = absurd fits
tell_fits {R} m c k seat seat' fault (Rests store) (Down s made) told h fits = subst (λ (p : Part R). Fits m c k seat'.told.items p (Down s made)) (sym h) fits
tell_fits m c k seat seat' fault Lent y told h fits = absurd fits

tells_look : {R : Type 0} (m : Keeper R) (fault : Told) (part part' : Part R) → TellsBy m fault part part' → showing_of m part' ≡ showing_of m part
tells_look m fault (Runs n) part' (n', is, core, kept, whole, plan) = ap (showing_of m) is ∙ ap (λ (x : Core). Up (state_with x (m.durable n'.replica))) core ∙ ap (λ (d : Durable). Up (state_with n.core d)) kept
tells_look m fault (Rests store) part' h = ap (showing_of m) h
tells_look m fault Lent part' h = ap (showing_of m) h

tell_by : {R : Type 0} (m : Keeper R) (c : Setting) (first : List NodeState) (seats seats' : List (Seat R)) (post : Post) (chronicle : List Entry) (k j : ℕ) (fault : Told) (o : Option (Seat R)) (Otherwise : Type 0)
    → IsRun m c first seats post chronicle → slice_get seats k ≡ o → AtSeat (λ (seat seat' : Seat R). TellsBy m fault seat.part seat'.part × (seat'.clock ≡ seat.clock) × (seat'.told.items ≡ seat.told.items ++ fault ∷ [])) Otherwise seats k o seats'
    → Changes m c first seats post chronicle k (told_of (suc j) fault) seats'
tell_by m c first seats seats' post chronicle k j fault None Otherwise run at (other, same) = change_none m c first seats seats' post chronicle k (told_of (suc j) fault) at same run
tell_by m c first seats seats' post chronicle k j fault (Some seat) Otherwise run at (seat', h, same) =
    change_one m c first seats seats' post chronicle k (told_of (suc j) fault) seat seat' at same
    (λ i. record { node = tells_look m fault seat.part seat'.part h.0 i; clock = h.1 i; told = h.2 i })
    (still_run m c first seats post chronicle k seat seat' run at (λ y fits. tell_fits m c k seat seat' fault seat.part y h.2 h.0 fits))

pub tell_changes : {R : Type 0} (m : Keeper R) (c : Setting) (first : List NodeState) (seats seats' : List (Seat R)) (post : Post) (chronicle : List Entry) (k j : ℕ) (fault : Told) (Otherwise : Type 0)
    → IsRun m c first seats post chronicle → (j ≡ 0 → ⊥) → AtSeat (λ (seat seat' : Seat R). TellsBy m fault seat.part seat'.part × (seat'.clock ≡ seat.clock) × (seat'.told.items ≡ seat.told.items ++ fault ∷ [])) Otherwise seats k (slice_get seats k) seats'
    → Changes m c first seats post chronicle k (told_of j fault) seats'
tell_changes m c first seats seats' post chronicle k zero fault Otherwise run some h = absurd (some refl)
tell_changes m c first seats seats' post chronicle k (suc j) fault Otherwise run some h = tell_by m c first seats seats' post chronicle k j fault (slice_get seats k) Otherwise run refl h

same_one : (v : ClusterState) (k : ℕ) (o : Option Site) (fault : Told) → slice_get v.sites k ≡ o → with_changed (told_of zero fault) v k o ≡ v
same_one v k None fault at = refl
same_one v k (Some site) fault at = ap (λ (ss : List Site). let u : ClusterState = record v { sites = ss } in u) (set_same v.sites k site at)

-- no fault is told
pub none_told : (v : ClusterState) (k j : ℕ) (fault : Told) → j ≡ 0 → v ≡ changed (told_of j fault) v k
none_told v k zero fault none = sym (same_one v k (slice_get v.sites k) fault refl)
none_told v k (suc j) fault none = cc

clock_there : (v : ClusterState) (k micros : ℕ) (o : Option Site) (site : Site) → slice_get v.sites k ≡ o → o ≡ Some site → changed (set_clock site.clock) (with_changed (set_clock micros) v k o) k ≡ v
clock_there v k micros None site at is = cc
clock_there v k micros (Some x) site at is =
    let mid : ClusterState = with_site v k (set_clock micros x) in
    ap (λ (o : Option Site). with_changed (set_clock site.clock) mid k o) (set_get v.sites k x (set_clock micros x) at)
    ∙ ap (λ (ss : List Site). let u : ClusterState = record v { sites = ss } in u)
    (set_set v.sites k (set_clock micros x) (set_clock site.clock x) ∙ ap (λ (y : Site). slice_set v.sites k (set_clock y.clock x)) (sym (some_one is)) ∙ set_same v.sites k x at)

clock_gone : (v : ClusterState) (k micros : ℕ) → slice_get v.sites k ≡ None → changed (set_clock micros) v k ≡ v
clock_gone v k micros at = ap (λ (o : Option Site). with_changed (set_clock micros) v k o) at

-- a clock that is set back
pub clock_back : {R : Type 0} (m : Keeper R) (seats : List (Seat R)) (v a b d : ClusterState) (k micros before : ℕ) → v.sites ≡ map (site_of m) seats → a ≡ changed (set_clock micros) v k → b ≡ a → d ≡ changed (set_clock before) b k
    → ClockWas seats k (Some before) → d ≡ v
clock_back m seats v a b d k micros before sites first same last (seat, at, clock) =
    let there : slice_get v.sites k ≡ Some (site_of m seat) = ap (λ (xs : List Site). slice_get xs k) sites ∙ get_site m seats k seat at in
    last ∙ ap (λ (u : ClusterState). changed (set_clock before) u k) (same ∙ first) ∙ ap (λ (n : ℕ). changed (set_clock n) (changed (set_clock micros) v k) k) (sym clock)
    ∙ clock_there v k micros (slice_get v.sites k) (site_of m seat) refl there

-- and one that is not there
pub clock_none : {R : Type 0} (m : Keeper R) (seats : List (Seat R)) (v a b : ClusterState) (k micros : ℕ) → v.sites ≡ map (site_of m) seats → a ≡ changed (set_clock micros) v k → b ≡ a → ClockWas seats k None → b ≡ v
clock_none m seats v a b k micros sites first same at =
    same ∙ first ∙ clock_gone v k micros (ap (λ (xs : List Site). slice_get xs k) sites ∙ get_no_site m seats k at)

-- ---- where nothing has happened

pub record Still {R : Type 0} (m : Keeper R) (c : Setting) (first : List NodeState) (seats : List (Seat R)) (post : Post) (chronicle : List Entry) (seats' : List (Seat R)) : Type 0 where
  pub state : seen m c first seats' post chronicle ≡ seen m c first seats post chronicle
  pub run : IsRun m c first seats' post chronicle

still_none : {R : Type 0} (m : Keeper R) (c : Setting) (first : List NodeState) (seats seats' : List (Seat R)) (post : Post) (chronicle : List Entry) → seats' ≡ seats → IsRun m c first seats post chronicle → Still m c first seats post chronicle seats'
still_none {R} m c first seats seats' post chronicle same run = subst (λ (xs : List (Seat R)). Still m c first seats post chronicle xs) (sym same) (record { state = refl; run = run })

still_one : {R : Type 0} (m : Keeper R) (c : Setting) (first : List NodeState) (seats seats' : List (Seat R)) (post : Post) (chronicle : List Entry) (k : ℕ) (seat seat' : Seat R)
    → IsRun m c first seats post chronicle → slice_get seats k ≡ Some seat → seats' ≡ slice_set seats k seat' → site_of m seat' ≡ site_of m seat
    → ((y : Standing) → Fits m c k seat.told.items seat.part y → Fits m c k seat'.told.items seat'.part y) → Still m c first seats post chronicle seats'
still_one {R} m c first seats seats' post chronicle k seat seat' run at same is fits =
    subst (λ (xs : List (Seat R)). Still m c first seats post chronicle xs) (sym same)
    (record { state = same_looks c first post _ _ chronicle chronicle (same_site m seats k seat seat' at is) refl; run = still_run m c first seats post chronicle k seat seat' run at fits })

still_same : {R : Type 0} (m : Keeper R) (c : Setting) (first : List NodeState) (seats seats' : List (Seat R)) (post : Post) (chronicle : List Entry) (k : ℕ) (seat seat' : Seat R)
    → IsRun m c first seats post chronicle → slice_get seats k ≡ Some seat → seats' ≡ slice_set seats k seat' → seat' ≡ seat → Still m c first seats post chronicle seats'
still_same {R} m c first seats seats' post chronicle k seat seat' run at same is =
    still_none m c first seats seats' post chronicle (same ∙ ap (λ (x : Seat R). slice_set seats k x) is ∙ set_same seats k seat at) run

stay_part : {R : Type 0} (m : Keeper R) (c : Setting) (first : List NodeState) (seats seats' : List (Seat R)) (post : Post) (chronicle : List Entry) (k : ℕ) (seat seat' : Seat R) (part : Part R)
    → IsRun m c first seats post chronicle → slice_get seats k ≡ Some seat → seats' ≡ slice_set seats k seat' → seat.part ≡ part → StaysBy m seat part seat' → Still m c first seats post chronicle seats'
stay_part m c first seats seats' post chronicle k seat seat' (Runs n) run at same part (n', is, h) =
    still_one m c first seats seats' post chronicle k seat seat' run at same (stays_look m seat seat' n n' part is h) (stays_fit m c k seat seat' n n' part is h)
stay_part m c first seats seats' post chronicle k seat seat' (Rests store) run at same part h = still_same m c first seats seats' post chronicle k seat seat' run at same h
stay_part m c first seats seats' post chronicle k seat seat' Lent run at same part h = still_same m c first seats seats' post chronicle k seat seat' run at same h

stay_by : {R : Type 0} (m : Keeper R) (c : Setting) (first : List NodeState) (seats seats' : List (Seat R)) (post : Post) (chronicle : List Entry) (k : ℕ) (o : Option (Seat R)) (Otherwise : Type 0)
    → IsRun m c first seats post chronicle → slice_get seats k ≡ o → AtSeat (StaysAt m) Otherwise seats k o seats' → Still m c first seats post chronicle seats'
stay_by m c first seats seats' post chronicle k None Otherwise run at (other, same) = still_none m c first seats seats' post chronicle same run
stay_by m c first seats seats' post chronicle k (Some seat) Otherwise run at (seat', h, same) = stay_part m c first seats seats' post chronicle k seat seat' seat.part run at same refl h

pub stay_still : {R : Type 0} (m : Keeper R) (c : Setting) (first : List NodeState) (seats seats' : List (Seat R)) (post : Post) (chronicle : List Entry) (k : ℕ) (Otherwise : Type 0)
    → IsRun m c first seats post chronicle → AtSeat (StaysAt m) Otherwise seats k (slice_get seats k) seats' → Still m c first seats post chronicle seats'
stay_still m c first seats seats' post chronicle k Otherwise run h = stay_by m c first seats seats' post chronicle k (slice_get seats k) Otherwise run refl h

sleep_part : {R : Type 0} (m : Keeper R) (c : Setting) (first : List NodeState) (seats seats' : List (Seat R)) (post : Post) (chronicle : List Entry) (k : ℕ) (seat seat' : Seat R) (part : Part R)
    → IsRun m c first seats post chronicle → slice_get seats k ≡ Some seat → seats' ≡ slice_set seats k seat' → seat.part ≡ part → SleepsBy m seat part seat' → Still m c first seats post chronicle seats'
sleep_part m c first seats seats' post chronicle k seat seat' (Runs n) run at same part h = still_same m c first seats seats' post chronicle k seat seat' run at same h
sleep_part m c first seats seats' post chronicle k seat seat' (Rests store) run at same part (store', is, still) =
    still_one m c first seats seats' post chronicle k seat seat' run at same
    (seat_site m (Rests store') seat.clock seat.told.items seat' is ∙ ap (λ (x : Showing). let site : Site = record { node = x; clock = seat.clock; told = seat.told.items } in site) (sym (ap (showing_of m) part)))
    (rest_fits m c k seat.clock seat seat' store store' seat.told.items part is still)
sleep_part m c first seats seats' post chronicle k seat seat' Lent run at same part h = still_same m c first seats seats' post chronicle k seat seat' run at same h

sleep_by : {R : Type 0} (m : Keeper R) (c : Setting) (first : List NodeState) (seats seats' : List (Seat R)) (post : Post) (chronicle : List Entry) (k : ℕ) (o : Option (Seat R)) (Otherwise : Type 0)
    → IsRun m c first seats post chronicle → slice_get seats k ≡ o → AtSeat (λ (seat seat' : Seat R). SleepsBy m seat seat.part seat') Otherwise seats k o seats' → Still m c first seats post chronicle seats'
sleep_by m c first seats seats' post chronicle k None Otherwise run at (other, same) = still_none m c first seats seats' post chronicle same run
sleep_by m c first seats seats' post chronicle k (Some seat) Otherwise run at (seat', h, same) = sleep_part m c first seats seats' post chronicle k seat seat' seat.part run at same refl h

pub sleep_still : {R : Type 0} (m : Keeper R) (c : Setting) (first : List NodeState) (seats seats' : List (Seat R)) (post : Post) (chronicle : List Entry) (k : ℕ) (Otherwise : Type 0)
    → IsRun m c first seats post chronicle → AtSeat (λ (seat seat' : Seat R). SleepsBy m seat seat.part seat') Otherwise seats k (slice_get seats k) seats' → Still m c first seats post chronicle seats'
sleep_still m c first seats seats' post chronicle k Otherwise run h = sleep_by m c first seats seats' post chronicle k (slice_get seats k) Otherwise run refl h

untold_by : {R : Type 0} (m : Keeper R) (c : Setting) (first : List NodeState) (seats seats' : List (Seat R)) (post : Post) (chronicle : List Entry) (k : ℕ) (o : Option (Seat R)) (Otherwise : Type 0)
    → IsRun m c first seats post chronicle → slice_get seats k ≡ o → AtSeat (λ (seat seat' : Seat R). IsSeat seat.part seat.clock seat.told.items seat') Otherwise seats k o seats' → Still m c first seats post chronicle seats'
untold_by m c first seats seats' post chronicle k None Otherwise run at (other, same) = still_none m c first seats seats' post chronicle same run
untold_by m c first seats seats' post chronicle k (Some seat) Otherwise run at (seat', is, same) =
    still_one m c first seats seats' post chronicle k seat seat' run at same (seat_site m seat.part seat.clock seat.told.items seat' is) (λ y fits. put_fits m c k seat.clock seat.told.items seat.part seat' y is fits)

-- a fault that could not be told
pub untold_still : {R : Type 0} (m : Keeper R) (c : Setting) (first : List NodeState) (seats seats' : List (Seat R)) (post : Post) (chronicle : List Entry) (k : ℕ) (Otherwise : Type 0)
    → IsRun m c first seats post chronicle → AtSeat (λ (seat seat' : Seat R). IsSeat seat.part seat.clock seat.told.items seat') Otherwise seats k (slice_get seats k) seats' → Still m c first seats post chronicle seats'
untold_still m c first seats seats' post chronicle k Otherwise run h = untold_by m c first seats seats' post chronicle k (slice_get seats k) Otherwise run refl h

-- ---- loads

some_told : (told : List Told) → (told ≡ [] → ⊥) → (fault : Told) × Contains told fault
some_told [] some = absurd (some refl)
some_told (x ∷ xs) some = (x, contains_here x xs)

-- what a load tells
abbrev pub load_entries : ℕ → Bool → List Entry
load_entries k true = []
load_entries k false = HasStopped k ∷ []

pub record Wakes {R : Type 0} (m : Keeper R) (c : Setting) (first : List NodeState) (seats : List (Seat R)) (post : Post) (chronicle : List Entry) (k : ℕ) (seats' : List (Seat R)) (chronicle' : List Entry) : Type 0 where
  pub restarts : Restarts (seen m c first seats post chronicle) k (seen m c first seats' post chronicle')
  pub run : IsRun m c first seats' post chronicle'

at_node : {R : Type 0} (m : Keeper R) (v v' : ClusterState) (seats : List (Seat R)) (k : ℕ) (seat : Seat R) (showing : Showing) → v.sites ≡ map (site_of m) seats → slice_get seats k ≡ Some seat → showing_of m seat.part ≡ showing
    → RestartsBy v k (site_of m seat) showing v' → Restarts v k v'
at_node m v v' seats k seat showing sites at shows h =
    subst (λ (o : Option Site). RestartsAt v k o v') (sym (ap (λ (xs : List Site). slice_get xs k) sites ∙ get_site m seats k seat at))
    (subst (λ (x : Showing). RestartsBy v k (site_of m seat) x v') (sym shows) h)

wake_up : {R : Type 0} (m : Keeper R) (laws : Laws m) (c : Setting) (first : List NodeState) (seats : List (Seat R)) (post : Post) (chronicle : List Entry) (k : ℕ) (seat seat' : Seat R) (store : MemStore) (n : Node R MemStore)
    → IsRun m c first seats post chronicle → slice_get seats k ≡ Some seat → seat.part ≡ Rests store → IsSeat (Runs n) seat.clock seat.told.items seat' → IsLoaded m c k store n → (seat.told.items ≡ [] → NeverFails (m.disk n.replica))
    → Wakes m c first seats post chronicle k (slice_set seats k seat') chronicle
wake_up m laws c first seats post chronicle k seat seat' store n run at part is h sure =
    let w = run.world in
    let there = fit_at m c k seats w.standing seat run.nodes at in
    let off = beside_resting m c k seat.told.items seat.part store there.0 part there.2 in
    let found : Durable = m.durable n.replica in
    let here : slice_get w.standing k ≡ Some (Down off.0 off.1) = there.1 ∙ ap Some off.2 in
    let same = same_on (left_by off.0 off.1) off.3.stands.kept found off.3.stands.one (laws.one (disk_of store).seen off.3.stands.kept found off.3.stands.stands h.found) in
    let w' : World = record w { standing = slice_set w.standing k (Running (loaded found)); past = reverse (deeds_in off.1) ++ w.past } in
    record {
      restarts = at_node m _ _ seats k seat Off refl at (ap (showing_of m) part) (inl (
        found,
        same_looks c first post _ _ chronicle chronicle
            (put_site m seats k seat' _ (seat_site m (Runs n) seat.clock seat.told.items seat' is ∙ ap (λ (s : NodeState). let site : Site = record { node = Up s; clock = seat.clock; told = seat.told.items } in site) h.state)) refl,
      ));
      run = record {
        world = w';
        run = load w w' k run.run (record { before = off.0; made = off.1; found = found; at = here; same = same; world = refl });
        nodes = fit_put m c k seats w.standing seat' (Running (loaded found)) run.nodes (put_fits m c k seat.clock seat.told.items (Runs n) seat' (Running (loaded found)) is (record { is = h.state; setting = h.setting; me = h.me; ready = h.ready; sure = sure }));
        sent = run.sent;
        chronicle = run.chronicle;
      };
    }

wake_fails : {R : Type 0} (m : Keeper R) (c : Setting) (first : List NodeState) (seats : List (Seat R)) (post : Post) (chronicle : List Entry) (k : ℕ) (seat seat' : Seat R) (store store' : MemStore)
    → IsRun m c first seats post chronicle → slice_get seats k ≡ Some seat → seat.part ≡ Rests store → IsSeat (Rests store') seat.clock [] seat' → StillLeft m store store' → (seat.told.items ≡ [] → ⊥)
    → Wakes m c first seats post chronicle k (slice_set seats k seat') (HasStopped k ∷ chronicle)
wake_fails m c first seats post chronicle k seat seat' store store' run at part is still some =
    let there = fit_at m c k seats run.world.standing seat run.nodes at in
    let off = beside_resting m c k seat.told.items seat.part store there.0 part there.2 in
    let here : slice_get run.world.standing k ≡ Some (Down off.0 off.1) = there.1 ∙ ap Some off.2 in
    let on = still_run m c first seats post chronicle k seat seat' run at (rest_fits m c k seat.clock seat seat' store store' [] part is still) in
    let w' : World = record on.world { chronicle = HasStopped k ∷ on.world.chronicle } in
    let fault = some_told seat.told.items some in
    record {
      restarts = at_node m _ _ seats k seat Off refl at (ap (showing_of m) part) (inr (
        fault.0,
        fault.1,
        same_looks c first post _ _ _ _ (put_site m seats k seat' _ (seat_site m (Rests store') seat.clock [] seat' is)) refl,
      ));
      run = record {
        world = w';
        run = load_failed on.world w' k on.run (record { before = off.0; made = off.1; at = here; world = refl });
        nodes = on.nodes;
        sent = on.sent;
        chronicle = ap (λ (es : List Entry). HasStopped k ∷ es) on.chronicle;
      };
    }

-- a node that runs is left alone
wake_none : {R : Type 0} (m : Keeper R) (c : Setting) (first : List NodeState) (seats seats' : List (Seat R)) (post : Post) (chronicle : List Entry) (k : ℕ) (ok : Bool)
    → IsRun m c first seats post chronicle → Restarts (seen m c first seats post chronicle) k (seen m c first seats post chronicle) → ok ≡ true → seats' ≡ seats
    → Wakes m c first seats post chronicle k seats' (load_entries k ok ++ chronicle)
wake_none {R} m c first seats seats' post chronicle k ok run restarts is same =
    subst (λ (b : Bool). Wakes m c first seats post chronicle k seats' (load_entries k b ++ chronicle)) (sym is)
    (subst (λ (xs : List (Seat R)). Wakes m c first seats post chronicle k xs chronicle) (sym same) (record { restarts = restarts; run = run }))

wake_part : {R : Type 0} (m : Keeper R) (laws : Laws m) (c : Setting) (first : List NodeState) (seats : List (Seat R)) (post : Post) (chronicle : List Entry) (k : ℕ) (seat seat' : Seat R) (part : Part R) (ok : Bool)
    → IsRun m c first seats post chronicle → slice_get seats k ≡ Some seat → seat.part ≡ part → WakesBy m c k seat part ok seat'
    → Wakes m c first seats post chronicle k (slice_set seats k seat') (load_entries k ok ++ chronicle)
wake_part {R} m laws c first seats post chronicle k seat seat' (Runs n) ok run at part (is, same) =
    wake_none m c first seats (slice_set seats k seat') post chronicle k ok run
    (at_node m _ _ seats k seat (Up (state_with n.core (m.durable n.replica))) refl at (ap (showing_of m) part) refl) is
    (ap (λ (x : Seat R). slice_set seats k x) same ∙ set_same seats k seat at)
wake_part m laws c first seats post chronicle k seat seat' (Rests store) true run at part (n, is, h, sure) = wake_up m laws c first seats post chronicle k seat seat' store n run at part is h sure
wake_part m laws c first seats post chronicle k seat seat' (Rests store) false run at part (store', is, still, some) = wake_fails m c first seats post chronicle k seat seat' store store' run at part is still some
wake_part {R} m laws c first seats post chronicle k seat seat' Lent ok run at part h =
    let there = fit_at m c k seats run.world.standing seat run.nodes at in
    absurd (subst (λ (p : Part R). Fits m c k seat.told.items p there.0) part there.2)

wake_by : {R : Type 0} (m : Keeper R) (laws : Laws m) (c : Setting) (first : List NodeState) (seats seats' : List (Seat R)) (post : Post) (chronicle : List Entry) (k : ℕ) (o : Option (Seat R)) (ok : Bool)
    → IsRun m c first seats post chronicle → slice_get seats k ≡ o → AtSeat (λ (seat seat' : Seat R). WakesBy m c k seat seat.part ok seat') (ok ≡ true) seats k o seats'
    → Wakes m c first seats post chronicle k seats' (load_entries k ok ++ chronicle)
wake_by m laws c first seats seats' post chronicle k None ok run at (is, same) =
    wake_none m c first seats seats' post chronicle k ok run
    (subst (λ (x : Option Site). RestartsAt (seen m c first seats post chronicle) k x (seen m c first seats post chronicle)) (sym (get_no_site m seats k at)) refl) is same
wake_by {R} m laws c first seats seats' post chronicle k (Some seat) ok run at (seat', h, same) =
    subst (λ (xs : List (Seat R)). Wakes m c first seats post chronicle k xs (load_entries k ok ++ chronicle)) (sym same)
    (wake_part m laws c first seats post chronicle k seat seat' seat.part ok run at refl h)

pub wake_goes : {R : Type 0} (m : Keeper R) (laws : Laws m) (c : Setting) (first : List NodeState) (seats seats' : List (Seat R)) (post : Post) (chronicle : List Entry) (k : ℕ) (ok : Bool)
    → IsRun m c first seats post chronicle → AtSeat (λ (seat seat' : Seat R). WakesBy m c k seat seat.part ok seat') (ok ≡ true) seats k (slice_get seats k) seats'
    → Wakes m c first seats post chronicle k seats' (load_entries k ok ++ chronicle)
wake_goes m laws c first seats seats' post chronicle k ok run h = wake_by m laws c first seats seats' post chronicle k (slice_get seats k) ok run refl h

-- What comes of an event at a node leads a run on.
use Rattle.std.proofs.Common.{◌≡◌, ℕ, zero, suc, Bool, true, false, inl, inr, ◌&&◌, not, Option, Some, None, List, [], ◌∷◌, ◌++◌, refl, sym, ap, subst, ◌∙◌, length, reverse}
use Rattle.std.specs.Prelude.{map, slice_get, slice_set, Result, Ok, Err, IfOk, OnErr, OnOk}
use Rattle.std.specs.List.{range_with_len}
use Rattle.std.proofs.lemmas.List.{map-set}
use Rattle.cs_store.specs.declared.mem.MemStore.{MemStore}
use Rattle.cs_store.specs.Mem.{disk_of}
use Rattle.peer_messages.specs.declared.event.What.{What}
use Rattle.peer_messages.specs.declared.event.What.TheVariants.{Client, Deliver, Alive, Collect, Flush, Tick}
use Rattle.peer_messages.specs.declared.chronicle.Entry.{Entry}
use Rattle.peer_messages.specs.declared.chronicle.Entry.TheVariants.{Marks, Time}
use Rattle.peer_messages.specs.declared.chronicle.Refusal.{Refusal}
use Rattle.peer_messages.specs.declared.chronicle.Refusal.TheVariants.{Down as IsDown}
use Rattle.peer_messages.specs.declared.message.Message.{Message}
use Rattle.peer_messages.specs.declared.outcome.Outputs.{Outputs}
use Rattle.peer_messages.specs.declared.setting.Setting.{Setting}
use Rattle.durable_state.specs.State.{Durable, IsSameKept}
use Rattle.node_steps.specs.State.{NodeState}
use Rattle.node_steps.specs.Steps.{NodeStep}
use Rattle.node_steps.specs.Stops.{asked_by, remains, remains_in, CutStep, MayBeLeft}
use Rattle.replica.specs.Finding.{StandFor}
use Rattle.node_core.specs.declared.node.Node.{Node}
use Rattle.node_core.specs.declared.outcome.Lost.{Lost}
use Rattle.node_core.specs.Nodes.{Core, state_with}
use Rattle.cluster_runs.specs.World.{World, Standing, Running, Down, Made, left_by}
use Rattle.cluster_runs.specs.Run.{WasSent, IsMade, IsTurnedFor, entered_by, entered_at_stop, closing, stepped as stepped_world}
use Rattle.cluster_runs.specs.Run.RunFrom.{more, stopped_in, turned}
use Rattle.cs_base.proofs.Members.{contains_here, contains_there}
use Rattle.cs_base.proofs.Slots.{some_one, set_same}
use Rattle.cluster_model.specs.State.{Showing, Up, Off, Site, Post, ClusterState, with_sent}
use Rattle.cluster_model.specs.Takes.{Comes, ComesAt, ComesBy, WasTold, event_at, turned_away, stopped}
use Rattle.cluster_model.specs.Faults.{has_fail, has_stop, is_failure}
use Rattle.cluster_model.specs.Sites.{Keeper, HasStepped, HasHalted, Stays, Refuses, IsSeat, TurnsUp, TurnsBy, Turns, TurnsAt, AtSeat}
use Rattle.cluster_model.specs.Turns.{asks, turn_entries, posted}
use Rattle.cluster_model.specs.Holding.{Fits, AreFit, IsRun, seen, showing_of, site_of}
use Rattle.cluster_model.specs.declared.told.Told.{Told}
use Rattle.cluster_model.specs.declared.told.Told.TheVariants.{Fail, Stop}
use Rattle.cluster_model.specs.declared.seat.Part.{Part}
use Rattle.cluster_model.specs.declared.seat.Part.TheVariants.{Runs, Rests, Lent}
use Rattle.cluster_model.specs.declared.seat.Seat.{Seat}
use Rattle.cluster_model.specs.declared.turn.Turn.{Turn}
use Rattle.cluster_model.specs.declared.turn.Turn.TheVariants.{Stepped, Stopped, Refused, NoNode}
use Rattle.cluster_model.proofs.Fits.{fit_at, fit_put, beside_running, beside_resting}

-- ---- sites

-- a node that is there
pub at_seat : {R : Type 0} (Becomes : Seat R → Seat R → Type 0) (Otherwise : Type 0) (seats : List (Seat R)) (k j : ℕ) (seat seat' : Seat R) → j ≡ k → slice_get seats j ≡ Some seat → Becomes seat seat'
    → AtSeat Becomes Otherwise seats k (slice_get seats k) (slice_set seats j seat')
at_seat {R} Becomes Otherwise seats k j seat seat' number at becomes =
    subst (λ (o : Option (Seat R)). AtSeat Becomes Otherwise seats k o (slice_set seats j seat')) (sym (ap (λ (n : ℕ). slice_get seats n) (sym number) ∙ at))
    (seat', becomes, ap (λ (n : ℕ). slice_set seats n seat') number)

pub err_at_seat : {R T E : Type 0} (r : Result T E) (Becomes : Seat R → Seat R → Type 0) (Otherwise : Type 0) (seats : List (Seat R)) (k j : ℕ) (seat seat' : Seat R) → j ≡ k → slice_get seats j ≡ Some seat → OnErr r (Becomes seat seat')
    → OnErr r (AtSeat Becomes Otherwise seats k (slice_get seats k) (slice_set seats j seat'))
err_at_seat (Ok x) Becomes Otherwise seats k j seat seat' number at becomes = tt
err_at_seat (Err e) Becomes Otherwise seats k j seat seat' number at becomes = at_seat Becomes Otherwise seats k j seat seat' number at becomes

pub ok_at_seat : {R T E : Type 0} (r : Result T E) (Becomes : Seat R → Seat R → Type 0) (Otherwise : Type 0) (seats : List (Seat R)) (k j : ℕ) (seat seat' : Seat R) → j ≡ k → slice_get seats j ≡ Some seat → OnOk r (Becomes seat seat')
    → OnOk r (AtSeat Becomes Otherwise seats k (slice_get seats k) (slice_set seats j seat'))
ok_at_seat (Ok x) Becomes Otherwise seats k j seat seat' number at becomes = at_seat Becomes Otherwise seats k j seat seat' number at becomes
ok_at_seat (Err e) Becomes Otherwise seats k j seat seat' number at becomes = tt

-- and one that is not
pub no_seat : {R : Type 0} (Becomes : Seat R → Seat R → Type 0) (Otherwise : Type 0) (seats : List (Seat R)) (k : ℕ) → slice_get seats k ≡ None → Otherwise → AtSeat Becomes Otherwise seats k (slice_get seats k) seats
no_seat {R} Becomes Otherwise seats k at other = subst (λ (o : Option (Seat R)). AtSeat Becomes Otherwise seats k o seats) (sym at) (other, refl)

pub on_err : {T E : Type 0} (r : Result T E) (P : Type 0) → P → OnErr r P
on_err (Ok x) P p = tt
on_err (Err e) P p = p

pub ok_parts : {T E : Type 0} (r : Result T E) (A B C : Type 0) → OnOk r A → B → OnOk r C → OnOk r (A × B × C)
ok_parts (Ok x) A B C a b c = (a, b, c)
ok_parts (Err e) A B C a b c = tt

pub err_parts : {T E : Type 0} (r : Result T E) (A B C : Type 0) → OnErr r (A × C) → B → OnErr r (A × B × C)
err_parts (Ok x) A B C ac b = tt
err_parts (Err e) A B C ac b = (ac.0, b, ac.1)

pub if_ok : {X E : Type 0} (r : Result X E) (P Q : X → Type 0) → IfOk r P → ((x : X) → P x → Q x) → IfOk r Q
if_ok (Ok x) P Q h to = to x h
if_ok (Err e) P Q h to = tt

pub get_site : {R : Type 0} (m : Keeper R) (seats : List (Seat R)) (k : ℕ) (seat : Seat R) → slice_get seats k ≡ Some seat → slice_get (map (site_of m) seats) k ≡ Some (site_of m seat)
get_site m [] k seat h = cc
get_site m (x ∷ xs) zero seat h = ap (λ (y : Option Site). y) (ap Some (ap (site_of m) (some_one h)))
get_site m (x ∷ xs) (suc k) seat h = get_site m xs k seat h

pub get_no_site : {R : Type 0} (m : Keeper R) (seats : List (Seat R)) (k : ℕ) → slice_get seats k ≡ None → slice_get (map (site_of m) seats) k ≡ None
get_no_site m [] k h = refl
get_no_site m (x ∷ xs) zero h = cc
get_no_site m (x ∷ xs) (suc k) h = get_no_site m xs k h

pub seat_site : {R : Type 0} (m : Keeper R) (part : Part R) (clock : ℕ) (told : List Told) (seat : Seat R) → IsSeat part clock told seat → site_of m seat ≡ record { node = showing_of m part; clock = clock; told = told }
seat_site m part clock told seat h = λ i. record { node = showing_of m (h.0 i); clock = h.1 i; told = h.2 i }

-- the sites once node k is this
pub put_site : {R : Type 0} (m : Keeper R) (seats : List (Seat R)) (k : ℕ) (seat : Seat R) (site : Site) → site_of m seat ≡ site → map (site_of m) (slice_set seats k seat) ≡ slice_set (map (site_of m) seats) k site
put_site m seats k seat site is = map-set (site_of m) seats k seat ∙ ap (λ (x : Site). slice_set (map (site_of m) seats) k x) is

-- and where it looks as it did
pub same_site : {R : Type 0} (m : Keeper R) (seats : List (Seat R)) (k : ℕ) (seat seat' : Seat R) → slice_get seats k ≡ Some seat → site_of m seat' ≡ site_of m seat → map (site_of m) (slice_set seats k seat') ≡ map (site_of m) seats
same_site m seats k seat seat' at same = put_site m seats k seat' (site_of m seat) same ∙ set_same (map (site_of m) seats) k (site_of m seat) (get_site m seats k seat at)

abbrev looks : Setting → List NodeState → Post → List Site → List Entry → ClusterState
looks c first post sites chronicle = record { setting = c; first = first; sites = sites; post = post; chronicle = chronicle }

pub same_looks : (c : Setting) (first : List NodeState) (post : Post) (sites sites' : List Site) (chronicle chronicle' : List Entry) → sites ≡ sites' → chronicle ≡ chronicle' → looks c first post sites chronicle ≡ looks c first post sites' chronicle'
same_looks c first post sites sites' chronicle chronicle' a b = λ i. record { setting = c; first = first; sites = a i; post = post; chronicle = b i }

-- ---- nodes

pub put_fits : {R : Type 0} (m : Keeper R) (c : Setting) (k clock : ℕ) (told : List Told) (part : Part R) (seat : Seat R) (y : Standing) → IsSeat part clock told seat → Fits m c k told part y → Fits m c k seat.told.items seat.part y
put_fits {R} m c k clock told part seat y is h =
    subst (λ (t : List Told). Fits m c k t seat.part y) (sym is.2) (subst (λ (p : Part R). Fits m c k told p y) (sym is.0) h)

-- a node that stands beside what it stood beside
abbrev pub still_run : {R : Type 0} (m : Keeper R) (c : Setting) (first : List NodeState) (seats : List (Seat R)) (post : Post) (chronicle : List Entry) (k : ℕ) (seat seat' : Seat R)
    → IsRun m c first seats post chronicle → slice_get seats k ≡ Some seat → ((y : Standing) → Fits m c k seat.told.items seat.part y → Fits m c k seat'.told.items seat'.part y) → IsRun m c first (slice_set seats k seat') post chronicle
still_run m c first seats post chronicle k seat seat' run at fits =
    let w = run.world in
    let there = fit_at m c k seats w.standing seat run.nodes at in
    record {
      world = w;
      run = run.run;
      nodes = subst (λ (ys : List Standing). AreFit m c 0 (slice_set seats k seat') ys) (set_same w.standing k there.0 there.1) (fit_put m c k seats w.standing seat' there.0 run.nodes (fits there.0 there.2));
      sent = run.sent;
      chronicle = run.chronicle;
    }

-- a client that is turned away
turned_run : {R : Type 0} (m : Keeper R) (c : Setting) (first : List NodeState) (seats : List (Seat R)) (post : Post) (chronicle : List Entry) (k : ℕ) (asked : Bool) (refusal : Refusal) (y : Standing)
    → (run : IsRun m c first seats post chronicle) → slice_get run.world.standing k ≡ Some y → IsTurnedFor y refusal → IsRun m c first seats post (reverse (turn_entries k asked (Refused refusal)) ++ chronicle)
turned_run m c first seats post chronicle k true refusal y run at cause =
    let w = run.world in
    let entries : List Entry = reverse (turn_entries k true (Refused refusal)) in
    record {
      world = record w { chronicle = entries ++ w.chronicle };
      run = turned w (record w { chronicle = entries ++ w.chronicle }) k run.run (record { standing = y; refusal = refusal; at = at; cause = cause; world = refl });
      nodes = run.nodes;
      sent = run.sent;
      chronicle = ap (λ (es : List Entry). entries ++ es) run.chronicle;
    }
turned_run m c first seats post chronicle k false refusal y run at cause = run

turned_looks : (v : ClusterState) (k : ℕ) (what : What) (refusal : Refusal) → record v { chronicle = reverse (turn_entries k (asks what) (Refused refusal)) ++ v.chronicle } ≡ turned_away v k what refusal
turned_looks v k (Client ask) refusal = refl
turned_looks v k (Deliver m) refusal = refl
turned_looks v k (Alive peer up) refusal = refl
turned_looks v k (Collect request) refusal = refl
turned_looks v k Flush refusal = refl
turned_looks v k Tick refusal = refl

-- ---- what comes of an event

pub record Goes {R : Type 0} (m : Keeper R) (c : Setting) (first : List NodeState) (seats : List (Seat R)) (post : Post) (chronicle : List Entry) (k : ℕ) (what : What) (seats' : List (Seat R)) (post' : Post) (chronicle' : List Entry) : Type 0 where
  pub comes : Comes (seen m c first seats post chronicle) k what (seen m c first seats' post' chronicle')
  pub run : IsRun m c first seats' post' chronicle'

at_site : {R : Type 0} (m : Keeper R) (v v' : ClusterState) (seats : List (Seat R)) (k : ℕ) (seat : Seat R) (what : What) (showing : Showing) → v.sites ≡ map (site_of m) seats → slice_get seats k ≡ Some seat → showing_of m seat.part ≡ showing
    → ComesBy v k (site_of m seat) showing what v' → Comes v k what v'
at_site m v v' seats k seat what showing sites at shows h =
    subst (λ (o : Option Site). ComesAt v k what o v') (sym (ap (λ (xs : List Site). slice_get xs k) sites ∙ get_site m seats k seat at))
    (subst (λ (x : Showing). ComesBy v k (site_of m seat) x what v') (sym shows) h)

entered_step : (c : Setting) (k : ℕ) (asked : Bool) (o : Outputs) (alive up : List ℕ) → alive ≡ up
    → (asked_by o.started ++ Marks k up ∷ Time k o.time ∷ []) ++ (o.entries ++ closing k o.tables) ≡ turn_entries k asked (Stepped o alive)
entered_step c k asked o alive up same = ap (λ (nodes : List ℕ). (asked_by o.started ++ Marks k nodes ∷ Time k o.time ∷ []) ++ (o.entries ++ closing k o.tables)) (sym same)

stepped_goes : {R : Type 0} (m : Keeper R) (c : Setting) (first : List NodeState) (seats : List (Seat R)) (post : Post) (chronicle : List Entry) (k : ℕ) (what : What) (seat seat' : Seat R) (n n' : Node R MemStore) (o : Outputs) (alive : List ℕ)
    → IsRun m c first seats post chronicle → slice_get seats k ≡ Some seat → seat.part ≡ Runs n → WasSent post.sent k what → IsSeat (Runs n') seat.clock seat.told.items seat'
    → HasStepped m (range_with_len 0 (length c.ring)) n (event_at seat.clock what) o alive n'
    → Goes m c first seats post chronicle k what (slice_set seats k seat') (with_sent post o.sends) (reverse (turn_entries k (asks what) (Stepped o alive)) ++ chronicle)
stepped_goes m c first seats post chronicle k what seat seat' n n' o alive run at part sent is h =
    let w = run.world in
    let there = fit_at m c k seats w.standing seat run.nodes at in
    let up = beside_running m c k seat.told.items seat.part n there.0 part there.2 in
    let before : NodeState = state_with n.core (m.durable n.replica) in
    let after : NodeState = state_with n'.core (m.durable n'.replica) in
    let here : slice_get w.standing k ≡ Some (Running before) = there.1 ∙ ap Some (up.1 ∙ ap Running (sym up.2.is)) in
    let step : NodeStep c k before (event_at seat.clock what) h.steps.deeds o after =
    subst (λ (j : ℕ). NodeStep c j before (event_at seat.clock what) h.steps.deeds o after) up.2.me
    (subst (λ (d : Setting). NodeStep d n.core.me before (event_at seat.clock what) h.steps.deeds o after) up.2.setting h.steps.step) in
    let entries : reverse (entered_by c k o after) ≡ reverse (turn_entries k (asks what) (Stepped o alive)) = ap reverse (entered_step c k (asks what) o alive _ h.up) in
    record {
      comes = at_site m _ _ seats k seat what (Up before) refl at (ap (showing_of m) part) (inl (record {
        deeds = h.steps.deeds;
        outputs = o;
        after = after;
        early = h.early;
        step = step;
        state = same_looks c first (with_sent post o.sends) _ _ _ _ (put_site m seats k seat' _ (seat_site m (Runs n') seat.clock seat.told.items seat' is)) (ap (λ (es : List Entry). es ++ chronicle) (sym entries));
      }));
      run = record {
        world = stepped_world c w k h.steps.deeds o after;
        run = more w (stepped_world c w k h.steps.deeds o after) k (event_at seat.clock what) run.run (record {
          before = before;
          deeds = h.steps.deeds;
          outputs = o;
          after = after;
          at = here;
          was_sent = subst (λ (ms : List Message). WasSent ms k what) (sym run.sent) sent;
          step = step;
          world = refl;
        });
        nodes = fit_put m c k seats w.standing seat' (Running after) run.nodes (put_fits m c k seat.clock seat.told.items (Runs n') seat' (Running after) is (record {
          is = refl;
          setting = ap (λ (x : Core). x.setting) h.steps.stays ∙ up.2.setting;
          me = ap (λ (x : Core). x.me) h.steps.stays ∙ up.2.me;
          ready = h.ready;
          sure = λ none. h.sure (up.2.sure none);
        }));
        sent = ap (λ (ms : List Message). ms ++ o.sends) run.sent;
        chronicle = ap (λ (es : List Entry). es ++ w.chronicle) entries ∙ ap (λ (es : List Entry). reverse (turn_entries k (asks what) (Stepped o alive)) ++ es) run.chronicle;
      };
    }

-- ---- stops inside a step

-- what may be left is left by the step, or by none
record IsLeft {R : Type 0} (m : Keeper R) (c : Setting) (k : ℕ) (s : NodeState) (what : What) (clock : ℕ) (entries : List Entry) (store : MemStore) : Type 0 where
  made : Option Made
  is_made : IsMade c k s (event_at clock what) entries made
  stands : StandFor m.stands_for (IsSameKept (left_by s made)) (disk_of store).seen

left_as : {R : Type 0} (m : Keeper R) (c : Setting) (k : ℕ) (s : NodeState) (what : What) (clock : ℕ) (entries : List Entry) (store : MemStore) → (h : StandFor m.stands_for (MayBeLeft c k s (event_at clock what) entries) (disk_of store).seen)
    → MayBeLeft c k s (event_at clock what) entries h.kept → IsLeft m c k s what clock entries store
left_as m c k s what clock entries store h (inl same) = record { made = None; is_made = tt; stands = record { kept = h.kept; stands = h.stands; one = same } }
left_as m c k s what clock entries store h (inr makes) = record {
  made = Some (record { deeds = makes.deeds; after = makes.after });
  is_made = (makes.outputs, makes.step, makes.remain);
  stands = record { kept = h.kept; stands = h.stands; one = makes.kept };
}

was_fail : (told : List Told) → has_fail told ≡ true → WasTold true told
was_fail [] h = cc
was_fail (Fail j ∷ xs) h = (j, contains_here (Fail j) xs)
was_fail (Stop j outcome ∷ xs) h = let there = was_fail xs h in (there.0, contains_there (Stop j outcome) xs (Fail there.0) there.1)

was_stop : (told : List Told) → has_stop told ≡ true → WasTold false told
was_stop [] h = cc
was_stop (Fail j ∷ xs) h = let there = was_stop xs h in (there.0, there.1, contains_there (Fail j) xs (Stop there.0 there.1) there.2)
was_stop (Stop j outcome ∷ xs) h = (j, outcome, contains_here (Stop j outcome) xs)

stops_else : (told : List Told) → (told ≡ [] → ⊥) → has_fail told ≡ false → has_stop told ≡ true
stops_else [] some none = absurd (some refl)
stops_else (Fail j ∷ xs) some none = cc
stops_else (Stop j outcome ∷ xs) some none = refl

told_as : (told : List Told) (stopped a b : Bool) → has_fail told ≡ a → has_stop told ≡ b → (told ≡ [] → ⊥) → WasTold (a && not (b && stopped)) told
told_as told stopped false b fails stops some = was_stop told (stops_else told some fails)
told_as told stopped true false fails stops some = was_fail told fails
told_as told true true true fails stops some = was_stop told stops
told_as told false true true fails stops some = was_fail told fails

was_told : (told : List Told) (stopped failed : Bool) → failed ≡ is_failure told stopped → (told ≡ [] → ⊥) → WasTold failed told
was_told told stopped failed is some = subst (λ (b : Bool). WasTold b told) (sym is) (told_as told stopped (has_fail told) (has_stop told) refl refl some)

stopped_goes : {R : Type 0} (m : Keeper R) (c : Setting) (first : List NodeState) (seats : List (Seat R)) (post : Post) (chronicle : List Entry) (k : ℕ) (what : What) (seat seat' : Seat R) (n : Node R MemStore) (l : Lost) (failed : Bool) (store : MemStore)
    → IsRun m c first seats post chronicle → slice_get seats k ≡ Some seat → seat.part ≡ Runs n → WasSent post.sent k what → IsSeat (Rests store) seat.clock [] seat'
    → HasHalted m n seat.told.items (event_at seat.clock what) l failed store
    → Goes m c first seats post chronicle k what (slice_set seats k seat') post (reverse (turn_entries k (asks what) (Stopped l failed)) ++ chronicle)
stopped_goes m c first seats post chronicle k what seat seat' n l failed store run at part sent is h =
    let w = run.world in
    let there = fit_at m c k seats w.standing seat run.nodes at in
    let up = beside_running m c k seat.told.items seat.part n there.0 part there.2 in
    let before : NodeState = state_with n.core (m.durable n.replica) in
    let here : slice_get w.standing k ≡ Some (Running before) = there.1 ∙ ap Some (up.1 ∙ ap Running (sym up.2.is)) in
    let cut : CutStep c k before (event_at seat.clock what) h.deeds =
    subst (λ (j : ℕ). CutStep c j before (event_at seat.clock what) h.deeds) up.2.me
    (subst (λ (d : Setting). CutStep d n.core.me before (event_at seat.clock what) h.deeds) up.2.setting h.cut) in
    let left : List Entry = remains_in k before (event_at seat.clock what) h.deeds in
    let same : remains l.started l.entries ≡ left = h.entries ∙ ap (λ (j : ℕ). remains_in j before (event_at seat.clock what) h.deeds) up.2.me in
    let stands : StandFor m.stands_for (MayBeLeft c k before (event_at seat.clock what) left) (disk_of store).seen =
    subst (λ (es : List Entry). StandFor m.stands_for (MayBeLeft c k before (event_at seat.clock what) es) (disk_of store).seen) same
    (subst (λ (j : ℕ). StandFor m.stands_for (MayBeLeft c j before (event_at seat.clock what) (remains l.started l.entries)) (disk_of store).seen) up.2.me
    (subst (λ (d : Setting). StandFor m.stands_for (MayBeLeft d n.core.me before (event_at seat.clock what) (remains l.started l.entries)) (disk_of store).seen) up.2.setting h.stands)) in
    let made = left_as m c k before what seat.clock left store stands stands.one in
    let entries : reverse (entered_at_stop k left failed) ≡ reverse (turn_entries k (asks what) (Stopped l failed)) = ap (λ (es : List Entry). reverse (entered_at_stop k es failed)) (sym same) in
    let w' : World = record w { standing = slice_set w.standing k (Down before made.made); chronicle = reverse (entered_at_stop k left failed) ++ w.chronicle } in
    record {
      comes = at_site m _ _ seats k seat what (Up before) refl at (ap (showing_of m) part) (inr (inl (record {
        deeds = h.deeds;
        failed = failed;
        cut = cut;
        cause = was_told seat.told.items h.stopped failed h.by (λ none. h.cause (up.2.sure none));
        state = same_looks c first post _ _ _ _ (put_site m seats k seat' _ (seat_site m (Rests store) seat.clock [] seat' is)) (ap (λ (es : List Entry). es ++ chronicle) (sym entries));
      })));
      run = record {
        world = w';
        run = stopped_in w w' k (event_at seat.clock what) made.made failed run.run (record {
          before = before;
          deeds = h.deeds;
          at = here;
          was_sent = subst (λ (ms : List Message). WasSent ms k what) (sym run.sent) sent;
          cut = cut;
          is_made = made.is_made;
          world = refl;
        });
        nodes = fit_put m c k seats w.standing seat' (Down before made.made) run.nodes (put_fits m c k seat.clock [] (Rests store) seat' (Down before made.made) is (record { settled = h.settled; sure = h.sure; stands = made.stands }));
        sent = run.sent;
        chronicle = ap (λ (es : List Entry). es ++ w.chronicle) entries ∙ ap (λ (es : List Entry). reverse (turn_entries k (asks what) (Stopped l failed)) ++ es) run.chronicle;
      };
    }

-- ---- refusals

-- a node to which nothing has happened looks as it did
pub stays_look : {R : Type 0} (m : Keeper R) (seat seat' : Seat R) (n n' : Node R MemStore) → seat.part ≡ Runs n → IsSeat (Runs n') seat.clock seat.told.items seat' → Stays m n n' → site_of m seat' ≡ site_of m seat
stays_look {R} m seat seat' n n' part is h =
    seat_site m (Runs n') seat.clock seat.told.items seat' is
    ∙ ap (λ (x : Showing). let site : Site = record { node = x; clock = seat.clock; told = seat.told.items } in site)
    (ap (λ (x : Core). Up (state_with x (m.durable n'.replica))) h.core ∙ ap (λ (d : Durable). Up (state_with n.core d)) h.kept ∙ sym (ap (showing_of m) part))

-- and stands beside what it stood beside
pub stays_fit : {R : Type 0} (m : Keeper R) (c : Setting) (k : ℕ) (seat seat' : Seat R) (n n' : Node R MemStore) → seat.part ≡ Runs n → IsSeat (Runs n') seat.clock seat.told.items seat' → Stays m n n' → (y : Standing)
    → Fits m c k seat.told.items seat.part y → Fits m c k seat'.told.items seat'.part y
stays_fit m c k seat seat' n n' part is h y fits =
    let up = beside_running m c k seat.told.items seat.part n y part fits in
    put_fits m c k seat.clock seat.told.items (Runs n') seat' y is (subst (λ (z : Standing). Fits m c k seat.told.items (Runs n') z) (sym up.1) (record {
      is = ap (λ (x : Core). state_with x (m.durable n'.replica)) h.core ∙ ap (λ (d : Durable). state_with n.core d) h.kept ∙ up.2.is;
      setting = ap (λ (x : Core). x.setting) h.core ∙ up.2.setting;
      me = ap (λ (x : Core). x.me) h.core ∙ up.2.me;
      ready = h.ready;
      sure = λ none. h.sure (up.2.sure none);
    }))

refused_for : {R : Type 0} (m : Keeper R) (n : Node R MemStore) (what : What) (clock : ℕ) (refusal : Refusal) (s : NodeState) → Refuses m n (event_at clock what) refusal → IsTurnedFor (Running s) refusal
refused_for m n what clock refusal s (inl room) = inl room.0
refused_for m n what clock refusal s (inr large) = inr large.0

refused_comes : {R : Type 0} (m : Keeper R) (c : Setting) (v v' : ClusterState) (k : ℕ) (what : What) (site : Site) (n : Node R MemStore) (refusal : Refusal) → v.setting ≡ c → n.core.setting ≡ c → n.core.me ≡ k → Refuses m n (event_at site.clock what) refusal
    → v' ≡ turned_away v k what refusal → ComesBy v k site (Up (state_with n.core (m.durable n.replica))) what v'
refused_comes m c v v' k what site n refusal is setting me (inl (overloaded, (log_end, room))) state = inr (inr (inl (
  log_end,
  record {
    core = n.core;
    kept = m.durable n.replica;
    setting = setting ∙ sym is;
    me = me;
    is = refl;
    cause = room;
    state = state ∙ ap (λ (r : Refusal). turned_away v k what r) overloaded;
  },
)))
refused_comes m c v v' k what site n refusal is setting me (inr (invalid, (p, large))) state = inr (inr (inr (
  p,
  record {
    core = n.core;
    kept = m.durable n.replica;
    setting = setting ∙ sym is;
    me = me;
    is = refl;
    cause = large;
    state = state ∙ ap (λ (r : Refusal). turned_away v k what r) invalid;
  },
)))

refused_goes : {R : Type 0} (m : Keeper R) (c : Setting) (first : List NodeState) (seats : List (Seat R)) (post : Post) (chronicle : List Entry) (k : ℕ) (what : What) (seat seat' : Seat R) (n n' : Node R MemStore) (refusal : Refusal)
    → IsRun m c first seats post chronicle → slice_get seats k ≡ Some seat → seat.part ≡ Runs n → IsSeat (Runs n') seat.clock seat.told.items seat' → Stays m n n' → Refuses m n (event_at seat.clock what) refusal
    → Goes m c first seats post chronicle k what (slice_set seats k seat') post (reverse (turn_entries k (asks what) (Refused refusal)) ++ chronicle)
refused_goes m c first seats post chronicle k what seat seat' n n' refusal run at part is stays h =
    let w = run.world in
    let there = fit_at m c k seats w.standing seat run.nodes at in
    let up = beside_running m c k seat.told.items seat.part n there.0 part there.2 in
    let before : NodeState = state_with n.core (m.durable n.replica) in
    let here : slice_get w.standing k ≡ Some (Running before) = there.1 ∙ ap Some (up.1 ∙ ap Running (sym up.2.is)) in
    let on = still_run m c first seats post chronicle k seat seat' run at (stays_fit m c k seat seat' n n' part is stays) in
    let chronicle' : List Entry = reverse (turn_entries k (asks what) (Refused refusal)) ++ chronicle in
    record {
      comes = at_site m _ _ seats k seat what (Up before) refl at (ap (showing_of m) part)
          (refused_comes m c (seen m c first seats post chronicle) _ k what (site_of m seat) n refusal refl up.2.setting up.2.me h
          (same_looks c first post _ _ chronicle' chronicle' (same_site m seats k seat seat' at (stays_look m seat seat' n n' part is stays)) refl
          ∙ turned_looks (seen m c first seats post chronicle) k what refusal));
      run = turned_run m c first (slice_set seats k seat') post chronicle k (asks what) refusal (Running before) on here (refused_for m n what seat.clock refusal before h);
    }

down_goes : {R : Type 0} (m : Keeper R) (c : Setting) (first : List NodeState) (seats seats' : List (Seat R)) (post : Post) (chronicle : List Entry) (k : ℕ) (what : What) (seat : Seat R) (store : MemStore)
    → IsRun m c first seats post chronicle → slice_get seats k ≡ Some seat → seat.part ≡ Rests store → seats' ≡ seats
    → Goes m c first seats post chronicle k what seats' post (reverse (turn_entries k (asks what) (Refused IsDown)) ++ chronicle)
down_goes {R} m c first seats seats' post chronicle k what seat store run at part same =
    let w = run.world in
    let there = fit_at m c k seats w.standing seat run.nodes at in
    let off = beside_resting m c k seat.told.items seat.part store there.0 part there.2 in
    let chronicle' : List Entry = reverse (turn_entries k (asks what) (Refused IsDown)) ++ chronicle in
    subst (λ (xs : List (Seat R)). Goes m c first seats post chronicle k what xs post chronicle') (sym same) (record {
      comes = at_site m _ _ seats k seat what Off refl at (ap (showing_of m) part) (turned_looks (seen m c first seats post chronicle) k what IsDown);
      run = turned_run m c first seats post chronicle k (asks what) IsDown (Down off.0 off.1) run (there.1 ∙ ap Some off.2) refl;
    })

-- ---- each turn

turn_up : {R : Type 0} (m : Keeper R) (c : Setting) (first : List NodeState) (seats : List (Seat R)) (post : Post) (chronicle : List Entry) (k : ℕ) (what : What) (seat seat' : Seat R) (n : Node R MemStore) (turn : Turn)
    → IsRun m c first seats post chronicle → slice_get seats k ≡ Some seat → seat.part ≡ Runs n → WasSent post.sent k what → TurnsUp m (range_with_len 0 (length c.ring)) seat n (event_at seat.clock what) turn seat'
    → Goes m c first seats post chronicle k what (slice_set seats k seat') (posted post turn) (reverse (turn_entries k (asks what) turn) ++ chronicle)
turn_up m c first seats post chronicle k what seat seat' n (Stepped o alive) run at part sent (n', is, h) = stepped_goes m c first seats post chronicle k what seat seat' n n' o alive run at part sent is h
turn_up m c first seats post chronicle k what seat seat' n (Stopped l failed) run at part sent (store, is, h) = stopped_goes m c first seats post chronicle k what seat seat' n l failed store run at part sent is h
turn_up m c first seats post chronicle k what seat seat' n (Refused refusal) run at part sent (n', is, stays, h) = refused_goes m c first seats post chronicle k what seat seat' n n' refusal run at part is stays h
turn_up m c first seats post chronicle k what seat seat' n NoNode run at part sent h = absurd h

refused_turn : {R : Type 0} (m : Keeper R) (c : Setting) (first : List NodeState) (seats : List (Seat R)) (post : Post) (chronicle : List Entry) (k : ℕ) (what : What) (seat seat' : Seat R) (store : MemStore) (turn : Turn)
    → IsRun m c first seats post chronicle → slice_get seats k ≡ Some seat → seat.part ≡ Rests store → turn ≡ Refused IsDown → seat' ≡ seat
    → Goes m c first seats post chronicle k what (slice_set seats k seat') (posted post turn) (reverse (turn_entries k (asks what) turn) ++ chronicle)
refused_turn {R} m c first seats post chronicle k what seat seat' store turn run at part is same =
    subst (λ (t : Turn). Goes m c first seats post chronicle k what (slice_set seats k seat') (posted post t) (reverse (turn_entries k (asks what) t) ++ chronicle)) (sym is)
    (down_goes m c first seats (slice_set seats k seat') post chronicle k what seat store run at part (ap (λ (x : Seat R). slice_set seats k x) same ∙ set_same seats k seat at))

turn_by : {R : Type 0} (m : Keeper R) (c : Setting) (first : List NodeState) (seats : List (Seat R)) (post : Post) (chronicle : List Entry) (k : ℕ) (what : What) (seat seat' : Seat R) (part : Part R) (turn : Turn)
    → IsRun m c first seats post chronicle → slice_get seats k ≡ Some seat → seat.part ≡ part → WasSent post.sent k what → TurnsBy m (range_with_len 0 (length c.ring)) seat part (event_at seat.clock what) turn seat'
    → Goes m c first seats post chronicle k what (slice_set seats k seat') (posted post turn) (reverse (turn_entries k (asks what) turn) ++ chronicle)
turn_by m c first seats post chronicle k what seat seat' (Runs n) turn run at part sent h = turn_up m c first seats post chronicle k what seat seat' n turn run at part sent h
turn_by m c first seats post chronicle k what seat seat' (Rests store) turn run at part sent (is, same) = refused_turn m c first seats post chronicle k what seat seat' store turn run at part is same
turn_by {R} m c first seats post chronicle k what seat seat' Lent turn run at part sent h =
    let there = fit_at m c k seats run.world.standing seat run.nodes at in
    absurd (subst (λ (p : Part R). Fits m c k seat.told.items p there.0) part there.2)

turn_at : {R : Type 0} (m : Keeper R) (c : Setting) (first : List NodeState) (seats seats' : List (Seat R)) (post : Post) (chronicle : List Entry) (k : ℕ) (what : What) (o : Option (Seat R)) (turn : Turn)
    → IsRun m c first seats post chronicle → slice_get seats k ≡ o → WasSent post.sent k what
    → AtSeat (λ (seat seat' : Seat R). Turns m (range_with_len 0 (length c.ring)) seat (event_at seat.clock what) turn seat') (turn ≡ NoNode) seats k o seats'
    → Goes m c first seats post chronicle k what seats' (posted post turn) (reverse (turn_entries k (asks what) turn) ++ chronicle)
turn_at {R} m c first seats seats' post chronicle k what None turn run at sent (is, same) =
    subst (λ (t : Turn). Goes m c first seats post chronicle k what seats' (posted post t) (reverse (turn_entries k (asks what) t) ++ chronicle)) (sym is)
    (subst (λ (xs : List (Seat R)). Goes m c first seats post chronicle k what xs post chronicle) (sym same)
    (record { comes = subst (λ (x : Option Site). ComesAt (seen m c first seats post chronicle) k what x (seen m c first seats post chronicle)) (sym (get_no_site m seats k at)) refl; run = run }))
turn_at {R} m c first seats seats' post chronicle k what (Some seat) turn run at sent (seat', h, same) =
    subst (λ (xs : List (Seat R)). Goes m c first seats post chronicle k what xs (posted post turn) (reverse (turn_entries k (asks what) turn) ++ chronicle)) (sym same)
    (turn_by m c first seats post chronicle k what seat seat' seat.part turn run at refl sent h)

pub turn_goes : {R : Type 0} (m : Keeper R) (c : Setting) (first : List NodeState) (seats seats' : List (Seat R)) (post : Post) (chronicle : List Entry) (k : ℕ) (what : What) (turn : Turn)
    → IsRun m c first seats post chronicle → WasSent post.sent k what → TurnsAt m (range_with_len 0 (length c.ring)) seats k what turn seats'
    → Goes m c first seats post chronicle k what seats' (posted post turn) (reverse (turn_entries k (asks what) turn) ++ chronicle)
turn_goes m c first seats seats' post chronicle k what turn run sent h = turn_at m c first seats seats' post chronicle k what (slice_get seats k) turn run refl sent h

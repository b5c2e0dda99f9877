-- What a cluster begins with is fit, and where its stores were formatted its runs are those of fresh nodes.
use Rattle.std.proofs.Common.{◌≡◌, ℕ, zero, suc, ◌+◌, Some, None, List, [], ◌∷◌, ◌++◌, append-nil, append_assoc, ◌<◌, ◌≤◌, refl, sym, ap, subst, ◌∙◌, arith, length}
use Rattle.std.specs.Prelude.{Vec, map, replicate, slice_get, slice_set}
use Rattle.std.specs.declared.alloc.Global.{Global}
use Rattle.std.proofs.lemmas.List.{length-append}
use Rattle.cs_store.specs.declared.mem.MemStore.{MemStore}
use Rattle.cs_store.specs.Images.{formatted_bytes}
use Rattle.peer_messages.specs.declared.chronicle.Entry.{Entry}
use Rattle.peer_messages.specs.declared.setting.Setting.{Setting}
use Rattle.durable_state.specs.State.{Durable, IsSameKept, formatted}
use Rattle.node_steps.specs.State.{NodeState, loaded, fresh_node}
use Rattle.node_core.specs.Nodes.{state_with}
use Rattle.cluster_runs.specs.World.{World, Standing, Running, Down, start}
use Rattle.cluster_runs.specs.Run.{RunFrom, Run}
use Rattle.cluster_runs.specs.Run.RunFrom.{begun, load, stopped}
use Rattle.cluster_runs.proofs.Runs.{run_on}
use Rattle.answer_causes.specs.AnswersRight.{AnswersRight}
use Rattle.answer_causes.proofs.Right.{all_right}
use Rattle.read_consistency.specs.ReadRight.{ReadRight}
use Rattle.read_consistency.proofs.Traces.{run_right}
use Rattle.reads_forward.specs.ReadsForward.{ReadsForward}
use Rattle.reads_forward.proofs.Traces.{run_forward}
use Rattle.cs_base.proofs.Slots.{some_one}
use Rattle.cluster_model.specs.State.{Site, ClusterState, IsReached, AreFresh, Post, no_post, begin_of}
use Rattle.cluster_model.specs.Sites.{Keeper}
use Rattle.cluster_model.specs.Holding.{Fits, AreFit, IsRun, Holds, seen, site_of, states_of, running_state, first_of, entries_in, state_of}
use Rattle.cluster_model.specs.Mails.{HoldsMail, post_of}
use Rattle.cluster_model.specs.declared.parts.Parts.{Parts}
use Rattle.cluster_model.specs.Beginning.{AreRead, IsFormatted, AreFormatted, StandsFor, AreLoaded, IsDamagedAt, IsSeated, AreSeated, Begins, begun_site}
use Rattle.cluster_model.specs.declared.seat.Part.TheVariants.{Runs}
use Rattle.cluster_model.specs.declared.seat.Seat.{Seat}
use Rattle.cluster_model.proofs.Fits.{are_shown}
use Rattle.cluster_model.proofs.Going.{seat_site, put_fits}

-- ---- reached states

pub run_reached : {R : Type 0} (m : Keeper R) (c : Setting) (first : List NodeState) (seats : List (Seat R)) (post : Post) (chronicle : List Entry) → IsRun m c first seats post chronicle → IsReached (seen m c first seats post chronicle)
run_reached m c first seats post chronicle run = (run.world, run.run, record { nodes = are_shown m c 0 seats run.world.standing run.nodes; sent = sym run.sent; chronicle = sym run.chronicle })

-- ---- fresh nodes

abbrev plain : List Standing → World
plain standing = record { standing = standing; sent = []; chronicle = []; past = [] }

at_end : (xs ys : List Standing) (y : Standing) → slice_get (xs ++ y ∷ ys) (length xs) ≡ Some y
at_end [] ys y = refl
at_end (x ∷ xs) ys y = at_end xs ys y

set_at_end : (xs ys : List Standing) (y z : Standing) → slice_set (xs ++ y ∷ ys) (length xs) z ≡ xs ++ z ∷ ys
set_at_end [] ys y z = refl
set_at_end (x ∷ xs) ys y z = ap (λ (zs : List Standing). x ∷ zs) (set_at_end xs ys y z)

-- a fresh node stops, and is loaded
reload : (c : Setting) (xs ys : List Standing) (s : NodeState) → (d : Durable) → IsSameKept formatted d → s ≡ loaded d
    → RunFrom c (start c) (plain (xs ++ Running fresh_node ∷ ys)) → RunFrom c (start c) (plain (xs ++ Running s ∷ ys))
reload c xs ys s d same is run =
    let down = stopped (plain (xs ++ Running fresh_node ∷ ys)) (plain (xs ++ Down fresh_node None ∷ ys)) (length xs) run
    (record { before = fresh_node; at = at_end xs ys (Running fresh_node); world = ap plain (sym (set_at_end xs ys (Running fresh_node) (Down fresh_node None))) }) in
    load (plain (xs ++ Down fresh_node None ∷ ys)) (plain (xs ++ Running s ∷ ys)) (length xs) down (record {
      before = fresh_node;
      made = None;
      found = d;
      at = at_end xs ys (Down fresh_node None);
      same = same;
      world = ap plain (ap (λ (z : NodeState). xs ++ Running z ∷ ys) is ∙ sym (set_at_end xs ys (Down fresh_node None) (Running (loaded d))));
    })

one_less : (a b : ℕ) → suc a ≡ suc b → a ≡ b
one_less a b h = omega (arith, h)

reload_all : (c : Setting) (xs : List Standing) (n : ℕ) (rest : List NodeState) → length rest ≡ n → ((k : ℕ) (s : NodeState) → slice_get rest k ≡ Some s → (d : Durable) × IsSameKept formatted d × (s ≡ loaded d))
    → RunFrom c (start c) (plain (xs ++ replicate n (Running fresh_node))) → RunFrom c (start c) (plain (xs ++ map Running rest))
reload_all c xs zero [] long each run = run
reload_all c xs zero (s ∷ rest) long each run = absurd (omega (arith, long))
reload_all c xs (suc n) [] long each run = absurd (omega (arith, long))
reload_all c xs (suc n) (s ∷ rest) long each run =
    let one = each 0 s refl in
    let next = reload c xs (replicate n (Running fresh_node)) s one.0 one.1 one.2 run in
    let behind = reload_all c (xs ++ Running s ∷ []) n rest (one_less (length rest) n long) (λ k t at. each (suc k) t at)
    (subst (λ (zs : List Standing). RunFrom c (start c) (plain zs)) (sym (append_assoc xs (Running s ∷ []) (replicate n (Running fresh_node)))) next) in
    subst (λ (zs : List Standing). RunFrom c (start c) (plain zs)) (append_assoc xs (Running s ∷ []) (map Running rest)) behind

fresh_run : (c : Setting) (first : List NodeState) → AreFresh c first → Run c (begin_of first)
fresh_run c first h = reload_all c [] (length c.ring) first h.count h.each begun

pub reached_right : (v : ClusterState) → IsReached v → AreFresh v.setting v.first → ReadRight v.setting v.chronicle
reached_right v (w, run, shown) fresh =
    subst (λ (es : List Entry). ReadRight v.setting es) (sym shown.chronicle) (run_right v.setting w (run_on v.setting (start v.setting) (begin_of v.first) w (fresh_run v.setting v.first fresh) run))

pub reached_forward : (v : ClusterState) → IsReached v → AreFresh v.setting v.first → ReadsForward v.setting v.chronicle
reached_forward v (w, run, shown) fresh =
    subst (λ (es : List Entry). ReadsForward v.setting es) (sym shown.chronicle) (run_forward v.setting w (run_on v.setting (start v.setting) (begin_of v.first) w (fresh_run v.setting v.first fresh) run))

pub reached_causes : (v : ClusterState) → IsReached v → AreFresh v.setting v.first → AnswersRight v.setting v.chronicle
reached_causes v (w, run, shown) fresh =
    subst (λ (es : List Entry). AnswersRight v.setting es) (sym shown.chronicle) (all_right v.setting w (run_on v.setting (start v.setting) (begin_of v.first) w (fresh_run v.setting v.first fresh) run))

-- ---- loaded nodes

seated_state : {R : Type 0} (m : Keeper R) (c : Setting) (k : ℕ) (s : MemStore) (seat : Seat R) → (h : IsSeated m c k s seat) → running_state m seat.part ≡ state_with h.node.core (m.durable h.node.replica)
seated_state m c k s seat h = ap (running_state m) h.is.0

seated_fits : {R : Type 0} (m : Keeper R) (c : Setting) (k : ℕ) (s : MemStore) (seat : Seat R) → IsSeated m c k s seat → Fits m c k seat.told.items seat.part (Running (running_state m seat.part))
seated_fits m c k s seat h =
    put_fits m c k 0 [] (Runs h.node) seat (Running (running_state m seat.part)) h.is
    (record { is = sym (seated_state m c k s seat h); setting = h.setting; me = h.me; ready = h.ready; sure = λ none. h.sure })

seated_fit : {R : Type 0} (m : Keeper R) (c : Setting) (i : ℕ) (stores : List MemStore) (seats : List (Seat R)) → AreSeated m c i stores seats → AreFit m c i seats (map Running (states_of m seats))
seated_fit m c i [] [] h = tt
seated_fit m c i [] (y ∷ ys) h = absurd h
seated_fit m c i (x ∷ xs) [] h = absurd h
seated_fit m c i (x ∷ xs) (y ∷ ys) h = (seated_fits m c i x y h.0, seated_fit m c (i + 1) xs ys h.1)

pub seated_run : {R : Type 0} (m : Keeper R) (c : Setting) (stores : List MemStore) (seats : List (Seat R)) → AreSeated m c 0 stores seats → IsRun m c (states_of m seats) seats no_post []
seated_run m c stores seats h = record { world = begin_of (states_of m seats); run = begun; nodes = seated_fit m c 0 stores seats h; sent = refl; chronicle = refl }

pub seated_loaded : {R : Type 0} (m : Keeper R) (c : Setting) (i : ℕ) (stores : List MemStore) (seats : List (Seat R)) → AreSeated m c i stores seats → AreLoaded m.stands_for stores (states_of m seats)
seated_loaded m c i [] [] h = tt
seated_loaded m c i [] (y ∷ ys) h = absurd h
seated_loaded m c i (x ∷ xs) [] h = absurd h
seated_loaded m c i (x ∷ xs) (y ∷ ys) h = (subst (λ (s : NodeState). StandsFor m.stands_for x s) (sym (seated_state m c i x y h.0)) h.0.stands, seated_loaded m c (i + 1) xs ys h.1)

seated_site : {R : Type 0} (m : Keeper R) (c : Setting) (k : ℕ) (s : MemStore) (seat : Seat R) → IsSeated m c k s seat → site_of m seat ≡ begun_site (running_state m seat.part)
seated_site m c k s seat h = seat_site m (Runs h.node) 0 [] seat h.is ∙ ap begun_site (sym (seated_state m c k s seat h))

pub seated_sites : {R : Type 0} (m : Keeper R) (c : Setting) (i : ℕ) (stores : List MemStore) (seats : List (Seat R)) → AreSeated m c i stores seats → map (site_of m) seats ≡ map begun_site (states_of m seats)
seated_sites m c i [] [] h = refl
seated_sites m c i [] (y ∷ ys) h = absurd h
seated_sites m c i (x ∷ xs) [] h = absurd h
seated_sites m c i (x ∷ xs) (y ∷ ys) h =
    ap (λ (s : Site). s ∷ map (site_of m) ys) (seated_site m c i x y h.0) ∙ ap (λ (ss : List Site). begun_site (running_state m y.part) ∷ ss) (seated_sites m c (i + 1) xs ys h.1)

seated_number : {R : Type 0} (m : Keeper R) (c : Setting) (a b : ℕ) (s : MemStore) (seat : Seat R) → a ≡ b → IsSeated m c a s seat → IsSeated m c b s seat
seated_number m c a b s seat same h = subst (λ (n : ℕ). IsSeated m c n s seat) same h

-- one more node
pub seated_more : {R : Type 0} (m : Keeper R) (c : Setting) (i : ℕ) (stores : List MemStore) (seats : List (Seat R)) (s : MemStore) (seat : Seat R) → AreSeated m c i stores seats → IsSeated m c (i + length stores) s seat → AreSeated m c i (stores ++ s ∷ []) (seats ++ seat ∷ [])
seated_more m c i [] [] s seat h one = (seated_number m c (i + 0) i s seat (let e : i + 0 ≡ i = omega arith in e) one, tt)
seated_more m c i [] (y ∷ ys) s seat h one = absurd h
seated_more m c i (x ∷ xs) [] s seat h one = absurd h
seated_more m c i (x ∷ xs) (y ∷ ys) s seat h one =
    (h.0, seated_more m c (i + 1) xs ys s seat h.1 (seated_number m c (i + suc (length xs)) (i + 1 + length xs) s seat (let e : i + suc (length xs) ≡ i + 1 + length xs = omega arith in e) one))

-- ---- formatted stores

pub record EmptyLaws (stands_for : (ℕ → List ℕ) → Durable → Type 0) (is_damaged : (ℕ → List ℕ) → ℕ → ℕ → Type 0) : Type 0 where
  pub one : (files : ℕ → List ℕ) (a b : Durable) → stands_for files a → stands_for files b → IsSameKept a b
  pub empty : (files : ℕ → List ℕ) → ((k : ℕ) → files k ≡ formatted_bytes k) → stands_for files formatted
  pub undamaged : (files : ℕ → List ℕ) (d : Durable) (f p : ℕ) → stands_for files d → is_damaged files f p → ⊥

read_formatted : (s : MemStore) (files : ℕ → List ℕ) → AreRead s files → IsFormatted s → (k : ℕ) → files k ≡ formatted_bytes k
read_formatted s files read is k = read k ∙ sym (is k)

fresh_one : (stands_for : (ℕ → List ℕ) → Durable → Type 0) (is_damaged : (ℕ → List ℕ) → ℕ → ℕ → Type 0) (laws : EmptyLaws stands_for is_damaged) (s : MemStore) (state : NodeState) → IsFormatted s → StandsFor stands_for s state
    → (d : Durable) × IsSameKept formatted d × (state ≡ loaded d)
fresh_one stands_for is_damaged laws s state is h = (h.kept, laws.one h.files formatted h.kept (laws.empty h.files (read_formatted s h.files h.read is)) h.stands, h.is)

fresh_each : (stands_for : (ℕ → List ℕ) → Durable → Type 0) (is_damaged : (ℕ → List ℕ) → ℕ → ℕ → Type 0) (laws : EmptyLaws stands_for is_damaged) (stores : List MemStore) (first : List NodeState)
    → AreFormatted stores → AreLoaded stands_for stores first → (k : ℕ) (s : NodeState) → slice_get first k ≡ Some s → (d : Durable) × IsSameKept formatted d × (s ≡ loaded d)
fresh_each stands_for is_damaged laws [] [] are h k s at = cc
fresh_each stands_for is_damaged laws [] (y ∷ ys) are h k s at = absurd h
fresh_each stands_for is_damaged laws (x ∷ xs) [] are h k s at = absurd h
fresh_each stands_for is_damaged laws (x ∷ xs) (y ∷ ys) are h zero s at =
    fresh_one stands_for is_damaged laws x s (are 0 x refl) (subst (λ (z : NodeState). StandsFor stands_for x z) (some_one at) h.0)
fresh_each stands_for is_damaged laws (x ∷ xs) (y ∷ ys) are h (suc k) s at = fresh_each stands_for is_damaged laws xs ys (λ j t there. are (suc j) t there) h.1 k s at

loaded_count : (stands_for : (ℕ → List ℕ) → Durable → Type 0) (stores : List MemStore) (first : List NodeState) → AreLoaded stands_for stores first → length first ≡ length stores
loaded_count stands_for [] [] h = refl
loaded_count stands_for [] (y ∷ ys) h = absurd h
loaded_count stands_for (x ∷ xs) [] h = absurd h
loaded_count stands_for (x ∷ xs) (y ∷ ys) h = ap suc (loaded_count stands_for xs ys h.1)

pub are_fresh : (stands_for : (ℕ → List ℕ) → Durable → Type 0) (is_damaged : (ℕ → List ℕ) → ℕ → ℕ → Type 0) (laws : EmptyLaws stands_for is_damaged) (c : Setting) (stores : List MemStore) (first : List NodeState)
    → length stores ≡ length c.ring → AreFormatted stores → AreLoaded stands_for stores first → AreFresh c first
are_fresh stands_for is_damaged laws c stores first long are h = record { count = loaded_count stands_for stores first h ∙ long; each = fresh_each stands_for is_damaged laws stores first are h }

pub not_damaged : (stands_for : (ℕ → List ℕ) → Durable → Type 0) (is_damaged : (ℕ → List ℕ) → ℕ → ℕ → Type 0) (laws : EmptyLaws stands_for is_damaged) (s : MemStore) (f p : ℕ) → IsFormatted s → IsDamagedAt is_damaged s f p → ⊥
not_damaged stands_for is_damaged laws s f p is (files, read, damaged) = laws.undamaged files formatted f p (laws.empty files (read_formatted s files read is)) damaged

-- the next store's node
pub seated_next : {R : Type 0} (m : Keeper R) (c : Setting) (stores : List MemStore) (seats seats' : List (Seat R)) (s : MemStore) (seat : Seat R) (number me : ℕ) → AreSeated m c 0 stores seats → number ≡ length stores → me ≡ number → IsSeated m c me s seat → seats' ≡ seats ++ seat ∷ []
    → AreSeated m c 0 (stores ++ s ∷ []) seats'
seated_next {R} m c stores seats seats' s seat number me h count is one more =
    subst (λ (xs : List (Seat R)). AreSeated m c 0 (stores ++ s ∷ []) xs) (sym more) (seated_more m c 0 stores seats s seat h (seated_number m c me (0 + length stores) s seat (let e : me ≡ 0 + length stores = omega (arith, is, count) in e) one))

pub next_within : (all front it rest : List MemStore) (s : MemStore) → front ++ it ≡ all → it ≡ s ∷ rest → length front < length all
next_within all front it rest s split next =
    let long : length all ≡ length front + length it = ap length (sym split) ∙ length-append front it in
    let some : length it ≡ suc (length rest) = ap length next in
    omega (arith, long, some)

pub next_there : (all front it rest : List MemStore) (s : MemStore) → front ++ it ≡ all → it ≡ s ∷ rest → slice_get all (length front) ≡ Some s
next_there all [] it rest s split next = ap (λ (xs : List MemStore). slice_get xs 0) (sym split ∙ next)
next_there all (x ∷ front) it rest s split next =
    ap (λ (xs : List MemStore). slice_get xs (suc (length front))) (sym split) ∙ next_there (front ++ it) front it rest s refl next

pub next_split : (all front it rest : List MemStore) (s : MemStore) → front ++ it ≡ all → it ≡ s ∷ rest → (front ++ s ∷ []) ++ rest ≡ all
next_split all front it rest s split next = append_assoc front (s ∷ []) rest ∙ ap (λ (l : List MemStore). front ++ l) (sym next) ∙ split

pub next_count : (front : List MemStore) (s : MemStore) (n : ℕ) → n ≡ length front → n + 1 ≡ length (front ++ s ∷ [])
next_count front s n count = let e = length-append front (s ∷ []) in omega (arith, e, count)

none_left : (xs : List MemStore) (n : ℕ) → n ≡ length xs → n ≡ 0 → xs ≡ []
none_left [] n e z = refl
none_left (x ∷ xs) n e z = let f = sym z ∙ e in cc

pub all_seated : {R : Type 0} (m : Keeper R) (c : Setting) (all front it : List MemStore) (seats : List (Seat R)) (n : ℕ) → AreSeated m c 0 front seats → front ++ it ≡ all → n ≡ length it → n ≡ 0 → AreSeated m c 0 all seats
all_seated {R} m c all front it seats n h split long none =
    subst (λ (xs : List MemStore). AreSeated m c 0 xs seats) (sym (append-nil front) ∙ ap (λ (xs : List MemStore). front ++ xs) (sym (none_left it n long none)) ∙ split) h

-- ---- the whole

pub first_seated : {R : Type 0} (m : Keeper R) (records : List (Vec (Seat R) Global × Unit {0})) (seats : Vec (Seat R) Global) → records ≡ (seats, tt) ∷ [] → first_of m records ≡ states_of m seats.items
first_seated m records seats is = ap (first_of m) is

pub seated_holds : {R : Type 0} (m : Keeper R) (c : Setting) (stores : List MemStore) (p : Parts R) → p.setting ≡ c → length c.ring ≤ 7 → AreSeated m c 0 stores p.seats.items → first_of m p.begun.items ≡ states_of m p.seats.items
    → HoldsMail p.annals.mail → post_of p.annals.mail ≡ no_post → entries_in p ≡ [] → Holds m p
seated_holds m c stores p setting few h first mail posts entries =
    let seats = p.seats.items in
    record {
      few = subst (λ (d : Setting). length d.ring ≤ 7) (sym setting) few;
      mail = mail;
      run = subst (λ (es : List Entry). IsRun m p.setting (first_of m p.begun.items) seats (post_of p.annals.mail) es) (sym entries)
          (subst (λ (x : Post). IsRun m p.setting (first_of m p.begun.items) seats x []) (sym posts)
          (subst (λ (ss : List NodeState). IsRun m p.setting ss seats no_post []) (sym first)
          (subst (λ (d : Setting). IsRun m d (states_of m seats) seats no_post []) (sym setting) (seated_run m c stores seats h))));
    }

pub seated_begins : {R : Type 0} (m : Keeper R) (c : Setting) (stores : List MemStore) (p : Parts R) → p.setting ≡ c → AreSeated m c 0 stores p.seats.items → first_of m p.begun.items ≡ states_of m p.seats.items
    → post_of p.annals.mail ≡ no_post → entries_in p ≡ [] → Begins m.stands_for c stores (state_of m p)
seated_begins m c stores p setting h first posts entries = record {
  setting = setting;
  loaded = subst (λ (ss : List NodeState). AreLoaded m.stands_for stores ss) (sym first) (seated_loaded m c 0 stores p.seats.items h);
  sites = seated_sites m c 0 stores p.seats.items h ∙ ap (λ (ss : List NodeState). map begun_site ss) (sym first);
  post = posts;
  chronicle = entries;
}

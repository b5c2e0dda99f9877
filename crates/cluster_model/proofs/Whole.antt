-- From the parts of a cluster to what is seen of it.
use Rattle.std.proofs.Common.{◌≡◌, ℕ, Bool, true, false, List, [], ◌∷◌, ◌++◌, refl, sym, ap, subst, ◌∙◌, length, reverse}
use Rattle.std.specs.Prelude.{Vec, slice_get, Result, Ok, Err, OnOk, OnErr}
use Rattle.std.specs.List.{range_with_len}
use Rattle.std.specs.declared.alloc.Global.{Global}
use Rattle.std.proofs.lemmas.List.{reverse-append}
use Rattle.peer_messages.specs.declared.chronicle.Entry.{Entry}
use Rattle.peer_messages.specs.declared.chronicle.Entry.TheVariants.{Stopped as HasStopped}
use Rattle.peer_messages.specs.declared.event.What.{What}
use Rattle.peer_messages.specs.declared.setting.Setting.{Setting}
use Rattle.chronicle_pieces.specs.Pieces.{joined}
use Rattle.chronicle_pieces.specs.declared.piece.Piece.{Piece}
use Rattle.node_steps.specs.State.{NodeState}
use Rattle.cluster_runs.specs.Run.{WasSent}
use Rattle.cluster_model.specs.State.{Site, Post, ClusterState, passed_at}
use Rattle.cluster_model.specs.Takes.{Comes, Restarts, changed, told_of}
use Rattle.cluster_model.specs.Mails.{HoldsMail, post_of}
use Rattle.cluster_model.specs.Turns.{asks, turn_entries}
use Rattle.cluster_model.specs.Annals.{IsSame, Enters, entries_of}
use Rattle.cluster_model.specs.Sites.{Keeper, AtSeat, IsSeat, StaysAt, TurnsAt, TellsBy, WakesBy, SleepsBy}
use Rattle.cluster_model.specs.declared.told.Told.{Told}
use Rattle.cluster_model.specs.Holding.{IsRun, Holds, entries_in, first_of, seen, state_of}
use Rattle.cluster_model.specs.declared.annals.Annals.{Annals}
use Rattle.cluster_model.specs.declared.parts.Parts.{Parts}
use Rattle.cluster_model.specs.declared.seat.Seat.{Seat}
use Rattle.cluster_model.specs.declared.turn.Turn.{Turn}
use Rattle.cluster_model.proofs.Going.{turn_goes}
use Rattle.cluster_model.proofs.Changing.{Changes, Laws, Still, load_entries, stay_still, sleep_still, untold_still, tell_changes, wake_goes}

-- the messages and entries of a run, told otherwise
told_run : {R : Type 0} (m : Keeper R) (c : Setting) (first : List NodeState) (seats : List (Seat R)) (post post' : Post) (chronicle chronicle' : List Entry) → post' ≡ post → chronicle' ≡ chronicle → IsRun m c first seats post chronicle → IsRun m c first seats post' chronicle'
told_run m c first seats post post' chronicle chronicle' posts entries run =
    subst (λ (es : List Entry). IsRun m c first seats post' es) (sym entries) (subst (λ (x : Post). IsRun m c first seats x chronicle) (sym posts) run)

told_seen : {R : Type 0} (m : Keeper R) (c : Setting) (first : List NodeState) (seats : List (Seat R)) (post post' : Post) (chronicle chronicle' : List Entry) → post' ≡ post → chronicle' ≡ chronicle → seen m c first seats post' chronicle' ≡ seen m c first seats post chronicle
told_seen m c first seats post post' chronicle chronicle' posts entries = ap (λ (x : Post). seen m c first seats x chronicle') posts ∙ ap (λ (es : List Entry). seen m c first seats post es) entries

newer : (old new more : List Entry) → new ≡ old ++ more → reverse new ≡ reverse more ++ reverse old
newer old new more is = ap reverse is ∙ reverse-append old more

-- ---- what was set up for an event

pub same_holds : {R : Type 0} (m : Keeper R) (p : Parts R) (annals : Annals) → Holds m p → IsSame p.annals annals → Holds m (record p { annals = annals })
same_holds m p annals h same = record {
  few = h.few;
  mail = same.mail;
  run = told_run m p.setting (first_of m p.begun.items) p.seats.items _ _ _ _ same.post (ap reverse same.entries) h.run;
}

pub same_state : {R : Type 0} (m : Keeper R) (p : Parts R) (annals : Annals) → IsSame p.annals annals → state_of m (record p { annals = annals }) ≡ state_of m p
same_state m p annals same = told_seen m p.setting (first_of m p.begun.items) p.seats.items _ _ _ _ same.post (ap reverse same.entries)

-- ---- an event that came

pub record Took {R : Type 0} (m : Keeper R) (p : Parts R) (k : ℕ) (what : What) (p' : Parts R) : Type 0 where
  pub comes : Comes (state_of m p) k what (state_of m p')
  pub holds : Holds m p'

took_at : {R : Type 0} (m : Keeper R) (p : Parts R) (annals' : Annals) (seats' : Vec (Seat R) Global) (k : ℕ) (what : What) (turn : Turn) → Holds m p → WasSent (post_of p.annals.mail).sent k what
    → TurnsAt m (range_with_len 0 (length p.setting.ring)) p.seats.items k what turn seats'.items → Enters k (asks what) turn p.annals annals' → Took m p k what (record p { seats = seats'; annals = annals' })
took_at m p annals' seats' k what turn h sent turns enters =
    let first = first_of m p.begun.items in
    let goes = turn_goes m p.setting first p.seats.items seats'.items (post_of p.annals.mail) (entries_in p) k what turn h.run sent turns in
    let entries = newer (entries_of p.annals) (entries_of annals') (turn_entries k (asks what) turn) enters.entries in
    record {
      comes = subst (λ (v : ClusterState). Comes (state_of m p) k what v) (sym (told_seen m p.setting first seats'.items _ _ _ _ enters.post entries)) goes.comes;
      holds = record { few = h.few; mail = enters.mail; run = told_run m p.setting first seats'.items _ _ _ _ enters.post entries goes.run };
    }

pub took : {R : Type 0} (m : Keeper R) (p : Parts R) (annals annals' : Annals) (seats' : Vec (Seat R) Global) (k : ℕ) (what : What) (turn : Turn) → Holds m p → IsSame p.annals annals → WasSent (post_of p.annals.mail).sent k what
    → TurnsAt m (range_with_len 0 (length p.setting.ring)) p.seats.items k what turn seats'.items → Enters k (asks what) turn annals annals' → Took m p k what (record p { seats = seats'; annals = annals' })
took m p annals annals' seats' k what turn h same sent turns enters =
    let q : Parts _ = record p { annals = annals } in
    let there = took_at m q annals' seats' k what turn (same_holds m p annals h same) (subst (λ (x : Post). WasSent x.sent k what) (sym same.post) sent) turns enters in
    record { comes = subst (λ (v : ClusterState). Comes v k what (state_of m (record p { seats = seats'; annals = annals' }))) (same_state m p annals same) there.comes; holds = there.holds }

-- ---- one for which there was no memory

pub record Kept {R : Type 0} (m : Keeper R) (p p' : Parts R) : Type 0 where
  pub state : state_of m p' ≡ state_of m p
  pub holds : Holds m p'

kept_by : {R : Type 0} (m : Keeper R) (p : Parts R) (annals : Annals) (seats' : Vec (Seat R) Global) → Holds m p → IsSame p.annals annals
    → Still m p.setting (first_of m p.begun.items) p.seats.items (post_of annals.mail) (reverse (entries_of annals)) seats'.items → Kept m p (record p { seats = seats'; annals = annals })
kept_by m p annals seats' h same still = record { state = still.state ∙ same_state m p annals same; holds = record { few = h.few; mail = same.mail; run = still.run } }

pub kept_staying : {R : Type 0} (m : Keeper R) (p : Parts R) (annals : Annals) (seats' : Vec (Seat R) Global) (k : ℕ) → Holds m p → IsSame p.annals annals → AtSeat (StaysAt m) (Unit {0}) p.seats.items k (slice_get p.seats.items k) seats'.items
    → Kept m p (record p { seats = seats'; annals = annals })
kept_staying m p annals seats' k h same stays =
    kept_by m p annals seats' h same (stay_still m p.setting (first_of m p.begun.items) p.seats.items seats'.items _ _ k (Unit {0}) (same_holds m p annals h same).run stays)

pub kept_sleeping : {R : Type 0} (m : Keeper R) (p : Parts R) (annals : Annals) (seats' : Vec (Seat R) Global) (k : ℕ) → Holds m p → IsSame p.annals annals
    → AtSeat (λ (seat seat' : Seat R). SleepsBy m seat seat.part seat') (Unit {0}) p.seats.items k (slice_get p.seats.items k) seats'.items → Kept m p (record p { seats = seats'; annals = annals })
kept_sleeping m p annals seats' k h same sleeps =
    kept_by m p annals seats' h same (sleep_still m p.setting (first_of m p.begun.items) p.seats.items seats'.items _ _ k (Unit {0}) (same_holds m p annals h same).run sleeps)

-- ---- a load

pub record Woke {R : Type 0} (m : Keeper R) (p : Parts R) (k : ℕ) (p' : Parts R) : Type 0 where
  pub restarts : Restarts (state_of m p) k (state_of m p')
  pub holds : Holds m p'

woke_at : {R : Type 0} (m : Keeper R) (laws : Laws m) (p : Parts R) (annals' : Annals) (seats' : Vec (Seat R) Global) (k : ℕ) (ok : Bool) → Holds m p
    → AtSeat (λ (seat seat' : Seat R). WakesBy m p.setting k seat seat.part ok seat') (ok ≡ true) p.seats.items k (slice_get p.seats.items k) seats'.items
    → post_of annals'.mail ≡ post_of p.annals.mail → HoldsMail annals'.mail → reverse (entries_of annals') ≡ load_entries k ok ++ entries_in p → Woke m p k (record p { seats = seats'; annals = annals' })
woke_at m laws p annals' seats' k ok h wakes posts mail entries =
    let first = first_of m p.begun.items in
    let there = wake_goes m laws p.setting first p.seats.items seats'.items (post_of p.annals.mail) (entries_in p) k ok h.run wakes in
    record {
      restarts = subst (λ (v : ClusterState). Restarts (state_of m p) k v) (sym (told_seen m p.setting first seats'.items _ _ _ _ posts entries)) there.restarts;
      holds = record { few = h.few; mail = mail; run = told_run m p.setting first seats'.items _ _ _ _ posts entries there.run };
    }

pub woke : {R : Type 0} (m : Keeper R) (laws : Laws m) (p : Parts R) (annals annals' : Annals) (seats' : Vec (Seat R) Global) (k : ℕ) (ok : Bool) → Holds m p → IsSame p.annals annals
    → AtSeat (λ (seat seat' : Seat R). WakesBy m p.setting k seat seat.part ok seat') (ok ≡ true) p.seats.items k (slice_get p.seats.items k) seats'.items
    → annals'.mail ≡ annals.mail → reverse (entries_of annals') ≡ load_entries k ok ++ reverse (entries_of annals) → Woke m p k (record p { seats = seats'; annals = annals' })
woke m laws p annals annals' seats' k ok h same wakes mails entries =
    let q : Parts _ = record p { annals = annals } in
    let there = woke_at m laws q annals' seats' k ok (same_holds m p annals h same) wakes (ap post_of mails) (subst HoldsMail (sym mails) same.mail) entries in
    record { restarts = subst (λ (v : ClusterState). Restarts v k (state_of m (record p { seats = seats'; annals = annals' }))) (same_state m p annals same) there.restarts; holds = there.holds }

pub failure_last : (old new : List Entry) (k : ℕ) → new ≡ old ++ HasStopped k ∷ [] → reverse new ≡ load_entries k false ++ reverse old
failure_last old new k is = newer old new (HasStopped k ∷ []) is

-- ---- what changes at a node

pub record Changed {R : Type 0} (m : Keeper R) (p : Parts R) (k : ℕ) (change : Site → Site) (p' : Parts R) : Type 0 where
  pub state : state_of m p' ≡ changed change (state_of m p) k
  pub holds : Holds m p'

pub changed_by : {R : Type 0} (m : Keeper R) (p : Parts R) (seats' : Vec (Seat R) Global) (k : ℕ) (change : Site → Site) → Holds m p
    → Changes m p.setting (first_of m p.begun.items) p.seats.items (post_of p.annals.mail) (entries_in p) k change seats'.items → Changed m p k change (record p { seats = seats' })
changed_by m p seats' k change h changes = record { state = changes.state; holds = record { few = h.few; mail = h.mail; run = changes.run } }

-- ---- a message that is passed

pub passed_holds : {R : Type 0} (m : Keeper R) (p : Parts R) (annals : Annals) (place : ℕ) → Holds m p → post_of annals.mail ≡ passed_at (post_of p.annals.mail) place → HoldsMail annals.mail → annals.pieces ≡ p.annals.pieces
    → Holds m (record p { annals = annals })
passed_holds m p annals place h posts mail pieces = record {
  few = h.few;
  mail = mail;
  run = told_run m p.setting (first_of m p.begun.items) p.seats.items (passed_at (post_of p.annals.mail) place) _ (entries_in p) _ posts (ap (λ (x : Vec Piece Global). reverse (joined x.items)) pieces)
      (record { world = h.run.world; run = h.run.run; nodes = h.run.nodes; sent = h.run.sent; chronicle = h.run.chronicle });
}

-- ---- faults

abbrev Tells : {R : Type 0} → Keeper R → Told → List (Seat R) → ℕ → List (Seat R) → Type 0
Tells {R} m fault seats k seats' =
    AtSeat (λ (seat seat' : Seat R). TellsBy m fault seat.part seat'.part × (seat'.clock ≡ seat.clock) × (seat'.told.items ≡ seat.told.items ++ fault ∷ [])) (Unit {0}) seats k (slice_get seats k) seats'

abbrev Tells_none : {R : Type 0} → List (Seat R) → ℕ → List (Seat R) → Type 0
Tells_none {R} seats k seats' = AtSeat (λ (seat seat' : Seat R). IsSeat seat.part seat.clock seat.told.items seat') (Unit {0}) seats k (slice_get seats k) seats'

told : {R : Type 0} (m : Keeper R) (p : Parts R) (seats' : Vec (Seat R) Global) (k j : ℕ) (fault : Told) → Holds m p → (j ≡ 0 → ⊥) → Tells m fault p.seats.items k seats'.items → Changed m p k (told_of j fault) (record p { seats = seats' })
told m p seats' k j fault h some tells =
    changed_by m p seats' k (told_of j fault) h (tell_changes m p.setting (first_of m p.begun.items) p.seats.items seats'.items (post_of p.annals.mail) (entries_in p) k j fault (Unit {0}) h.run some tells)

untold : {R : Type 0} (m : Keeper R) (p : Parts R) (seats' : Vec (Seat R) Global) (k : ℕ) → Holds m p → Tells_none p.seats.items k seats'.items → Kept m p (record p { seats = seats' })
untold m p seats' k h tells =
    let still = untold_still m p.setting (first_of m p.begun.items) p.seats.items seats'.items (post_of p.annals.mail) (entries_in p) k (Unit {0}) h.run tells in
    record { state = still.state; holds = record { few = h.few; mail = h.mail; run = still.run } }

pub told_state : {R T E : Type 0} (m : Keeper R) (p : Parts R) (r : Result T E) (seats' : Vec (Seat R) Global) (k j : ℕ) (fault : Told) → Holds m p → (j ≡ 0 → ⊥) → OnOk r (Tells m fault p.seats.items k seats'.items)
    → OnOk r (state_of m (record p { seats = seats' }) ≡ changed (told_of j fault) (state_of m p) k)
told_state m p (Ok x) seats' k j fault h some tells = (told m p seats' k j fault h some tells).state
told_state m p (Err e) seats' k j fault h some tells = tt

pub untold_state : {R T E : Type 0} (m : Keeper R) (p : Parts R) (r : Result T E) (seats' : Vec (Seat R) Global) (k : ℕ) → Holds m p → OnErr r (Tells_none p.seats.items k seats'.items) → OnErr r (state_of m (record p { seats = seats' }) ≡ state_of m p)
untold_state m p (Ok x) seats' k h tells = tt
untold_state m p (Err e) seats' k h tells = (untold m p seats' k h tells).state

pub told_holds : {R T E : Type 0} (m : Keeper R) (p : Parts R) (r : Result T E) (seats' : Vec (Seat R) Global) (k j : ℕ) (fault : Told) → Holds m p → (j ≡ 0 → ⊥) → OnOk r (Tells m fault p.seats.items k seats'.items)
    → OnErr r (Tells_none p.seats.items k seats'.items) → Holds m (record p { seats = seats' })
told_holds m p (Ok x) seats' k j fault h some tells none = (told m p seats' k j fault h some tells).holds
told_holds m p (Err e) seats' k j fault h some tells none = (untold m p seats' k h none).holds

-- ---- loads that went well, and that failed

pub woke_well : {R : Type 0} (m : Keeper R) (laws : Laws m) (p : Parts R) (annals : Annals) (seats' : Vec (Seat R) Global) (k : ℕ) (ok : Bool) (c : Setting) → Holds m p → IsSame p.annals annals → ok ≡ true → c ≡ p.setting
    → AtSeat (λ (seat seat' : Seat R). WakesBy m c k seat seat.part ok seat') (ok ≡ true) p.seats.items k (slice_get p.seats.items k) seats'.items → Woke m p k (record p { seats = seats'; annals = annals })
woke_well {R} m laws p annals seats' k ok c h same well setting wakes =
    woke m laws p annals annals seats' k ok h same
    (subst (λ (d : Setting). AtSeat (λ (seat seat' : Seat R). WakesBy m d k seat seat.part ok seat') (ok ≡ true) p.seats.items k (slice_get p.seats.items k) seats'.items) setting wakes) refl
    (sym (ap (λ (b : Bool). load_entries k b ++ reverse (entries_of annals)) well))

pub woke_not : {R : Type 0} (m : Keeper R) (laws : Laws m) (p : Parts R) (annals annals' : Annals) (seats' : Vec (Seat R) Global) (k : ℕ) (ok : Bool) (c : Setting) → Holds m p → IsSame p.annals annals → ok ≡ false → c ≡ p.setting
    → AtSeat (λ (seat seat' : Seat R). WakesBy m c k seat seat.part ok seat') (ok ≡ true) p.seats.items k (slice_get p.seats.items k) seats'.items
    → entries_of annals' ≡ entries_of annals ++ HasStopped k ∷ [] → annals'.mail ≡ annals.mail → Woke m p k (record p { seats = seats'; annals = annals' })
woke_not {R} m laws p annals annals' seats' k ok c h same failed setting wakes entries mails =
    woke m laws p annals annals' seats' k ok h same
    (subst (λ (d : Setting). AtSeat (λ (seat seat' : Seat R). WakesBy m d k seat seat.part ok seat') (ok ≡ true) p.seats.items k (slice_get p.seats.items k) seats'.items) setting wakes) mails
    (failure_last (entries_of annals) (entries_of annals') k entries ∙ sym (ap (λ (b : Bool). load_entries k b ++ reverse (entries_of annals)) failed))

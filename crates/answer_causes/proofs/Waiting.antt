-- In each run, the open requests of a node that runs are those that wait for an answer.
use Rattle.std.proofs.Common.{◌≡◌, ℕ, inl, inr, ◌≤◌, Bool, true, false, Option, Some, None, List, [], ◌∷◌, ◌++◌, refl, sym, ap, subst, ◌∙◌, arith, Contains, filter}
use Rattle.std.specs.Prelude.{◌↔◌, ◌==◌, if◌then◌else◌, flat_map, map, nat_lt, slice_get, slice_set, length}
use Rattle.std.proofs.lemmas.List.Elements.{Contains-append_cases, Contains-append_left, Contains-append_right}
use Rattle.std.proofs.lemmas.Bool.{eqb-true, eq-eqb, ltb-true}
use Rattle.cs_base.specs.declared.ids.ReqId.{ReqId}
use Rattle.cs_base.proofs.Members.{contains_nil, contains_here, contains_there, contains_cases, contains_one, contains_from_map, contains_filter, contains_from_filter}
use Rattle.peer_messages.specs.declared.event.Ask.{Ask}
use Rattle.peer_messages.specs.declared.event.Event.{Event}
use Rattle.peer_messages.specs.declared.event.What.{What}
use Rattle.peer_messages.specs.declared.event.What.TheVariants.{Client, Deliver, Alive, Collect, Flush, Tick}
use Rattle.peer_messages.specs.declared.chronicle.Entry.{Entry}
use Rattle.peer_messages.specs.declared.outcome.Outputs.{Outputs}
use Rattle.peer_messages.specs.declared.setting.Setting.{Setting}
use Rattle.durable_state.specs.State.{Durable}
use Rattle.node_steps.specs.State.{NodeState, loaded, fresh_node}
use Rattle.node_steps.specs.Fitting.{message_fits, mark_fits}
use Rattle.node_steps.specs.Acts.{Act, Rises, Hears, Asks, Marks, DeadlineComes, HintExpires, Deed, request_at}
use Rattle.node_steps.specs.Steps.{NodeStep, Due, AreDue, act_of, matter_of, is_ahead, looked_at, time_after, started_by, entries_of}
use Rattle.cluster_runs.specs.World.{World, Standing, Running, Down, Made}
use Rattle.cluster_runs.specs.Run.{Run, ClusterStep}
use Rattle.cluster_runs.specs.Run.RunFrom.{begun as fresh, more as went_on, stopped_in, stopped, load, load_failed, turned}
use Rattle.cs_base.proofs.Slots.{get_set}
use Rattle.cluster_runs.proofs.Lists.{all_same}
use Rattle.cluster_runs.proofs.Runs.{time_rises}
use Rattle.answer_causes.specs.Story.{Happening, Step, Halt, Load, Away, story, answers_to, is_unanswered, asked_in, waiting_at}
use Rattle.answer_causes.specs.Causes.{EachStep, AnswersOnce}
use Rattle.answer_causes.proofs.Turns.{IsOpen, IsHere, IsNeat, IsAsk}
use Rattle.answer_causes.proofs.Steps.{Told, NewAt, AreOld}
use Rattle.answer_causes.proofs.Chains.{IsHeard, IsLastAsk, within, Whole, whole}

-- ---- the matters of a step

-- of what is due
abbrev pub IsDueAct : Act → Type 0
IsDueAct (Rises time) = ⊥
IsDueAct (Hears m) = ⊥
IsDueAct (Asks ask) = ⊥
IsDueAct (Marks peer up) = ⊥
IsDueAct (DeadlineComes id) = Unit {0}
IsDueAct (HintExpires peer number) = Unit {0}

pub due_acts : (c : Setting) (k t : ℕ) (s : NodeState) (due : List Due) → AreDue c k t s due → (a : Act) → Contains (map act_of due) a → IsDueAct a
due_acts c k t s due are a h =
    let d = contains_from_map act_of due a h in
    elim ((are.each d.0).0 d.1).1 [
      | inl (opened, is) ↦ subst (λ (x : Act). IsDueAct x) d.2 (subst (λ (x : Due). IsDueAct x.act) (sym is) tt)
      | inr (hinted, held, is) ↦ subst (λ (x : Act). IsDueAct x) d.2 (subst (λ (x : Due). IsDueAct x.act) (sym is) tt)
    ]

due_first : (a : Act) (ms : List Act) → IsDueAct a → IsLastAsk ms → IsLastAsk (a ∷ ms)
due_first (Rises time) ms due h = absurd due
due_first (Hears m) ms due h = absurd due
due_first (Asks ask) ms due h = absurd due
due_first (Marks peer up) ms due h = absurd due
due_first (DeadlineComes id) ms due h = h
due_first (HintExpires peer number) ms due h = h

pub due_last : (xs ms : List Act) → ((a : Act) → Contains xs a → IsDueAct a) → IsLastAsk ms → IsLastAsk (xs ++ ms)
due_last [] ms each h = h
due_last (a ∷ xs) ms each h = due_first a (xs ++ ms) (each a (contains_here a xs)) (due_last xs ms (λ b x. each b (contains_there a xs b x)) h)

heard_last : (b : Bool) (a : Act) → IsLastAsk (a ∷ []) → IsLastAsk (if b then a ∷ [] else [])
heard_last true a h = h
heard_last false a h = tt

matter_last : (c : Setting) (k : ℕ) (what : What) → IsLastAsk (matter_of c k what)
matter_last c k (Client ask) = refl
matter_last c k (Deliver m) = heard_last (message_fits c k m) _ tt
matter_last c k (Alive peer up) = heard_last (mark_fits c k peer) _ tt
matter_last c k (Collect request) = tt
matter_last c k Flush = tt
matter_last c k Tick = tt

pub looked_last : (c : Setting) (k : ℕ) (b : Bool) (what : What) → IsLastAsk (matter_of c k (if b then Tick else what))
looked_last c k true what = tt
looked_last c k false what = matter_last c k what

-- the event's own matter is no deadline, and is a request where a client asks
pub heard_none : (b : Bool) (a x : Act) → Contains (if b then a ∷ [] else []) x → x ≡ a
heard_none true a x h = sym (contains_one a x h)
heard_none false a x h = absurd (contains_nil x h)

ask_is : (k t : ℕ) (a b : Act) → a ≡ b → (IsAsk b → ⊥) → IsAsk a → ⊥
ask_is k t a b is none ask = none (ask.0, sym is ∙ ask.1)

matter_asks : (c : Setting) (k t : ℕ) (what : What) (a : Act) → Contains (matter_of c k what) a → IsAsk a → started_by k t what ≡ Some (request_at k t)
matter_asks c k t (Client ask) a h asks = refl
matter_asks c k t (Deliver m) a h asks = absurd (ask_is k t a _ (heard_none (message_fits c k m) _ a h) (λ x. let e : Hears _ ≡ Asks x.0 = x.1 in cc) asks)
matter_asks c k t (Alive peer up) a h asks = absurd (ask_is k t a _ (heard_none (mark_fits c k peer) _ a h) (λ x. let e : Marks peer up ≡ Asks x.0 = x.1 in cc) asks)
matter_asks c k t (Collect request) a h asks = absurd (contains_nil a h)
matter_asks c k t Flush a h asks = absurd (contains_nil a h)
matter_asks c k t Tick a h asks = absurd (contains_nil a h)

looked_asks : (c : Setting) (k t : ℕ) (b : Bool) (what : What) (a : Act) → Contains (matter_of c k (if b then Tick else what)) a → IsAsk a → started_by k t what ≡ Some (request_at k t)
looked_asks c k t true what a h asks = absurd (contains_nil a h)
looked_asks c k t false what a h asks = matter_asks c k t what a h asks

-- what a step began is the request of its client, which is looked at whatever its time
started_asks : (c : Setting) (k t time : ℕ) (e : Event) (what : What) (q : ReqId) → Contains (asked_in (started_by k t what)) q → (q ≡ request_at k t) × ((ask : Ask) × Contains (matter_of c k (if is_ahead time e what then Tick else what)) (Asks ask))
started_asks c k t time e (Client ask) q h = (sym (contains_one (request_at k t) q h), (ask, contains_here (Asks ask) []))
started_asks c k t time e (Deliver m) q h = absurd (contains_nil q h)
started_asks c k t time e (Alive peer up) q h = absurd (contains_nil q h)
started_asks c k t time e (Collect request) q h = absurd (contains_nil q h)
started_asks c k t time e Flush q h = absurd (contains_nil q h)
started_asks c k t time e Tick q h = absurd (contains_nil q h)

due_not_ask : (a : Act) → IsDueAct a → IsAsk a → ⊥
due_not_ask a h ask = subst (λ (x : Act). IsDueAct x) ask.1 h

rises_not_ask : (t : ℕ) (a : Act) → Rises t ≡ a → IsAsk a → ⊥
rises_not_ask t a is ask = let e : Rises t ≡ Asks ask.0 = is ∙ ask.1 in cc

heard_not_ask : (a : Act) → IsHeard a → IsAsk a → ⊥
heard_not_ask a h ask = subst (λ (x : Act). IsHeard x) ask.1 h

-- ---- what is known of a node that runs

pub record IsFaithful (k : ℕ) (s : NodeState) (hs : List Happening) : Type 0 where
  pub neat : IsNeat s
  pub old : (q : ReqId) → IsHere s q → q.time ≤ s.time
  pub waits : (q : ReqId) → IsOpen s q ↔ Contains (waiting_at k hs) q

-- what is known of a step of it
pub record KnownStep (c : Setting) (k : ℕ) (s : NodeState) (e : Event) (deeds : List Deed) (o : Outputs) (s' : NodeState) : Type 0 where
  pub whole : Whole k (time_after s e) s deeds s'
  pub entries : o.entries ≡ flat_map entries_of deeds
  pub new : (q : ReqId) → NewAt k (time_after s e) deeds q ↔ Contains (asked_in o.started) q

pub becomes_old : (k : ℕ) (s : NodeState) (hs : List Happening) (e : Event) → IsFaithful k s hs → AreOld (time_after s e) s
becomes_old k s hs e f q h = let before = f.old q h in let later = time_rises s e in omega (arith, before, later)

pub known_step : (c : Setting) (k : ℕ) (s : NodeState) (hs : List Happening) (e : Event) (deeds : List Deed) (o : Outputs) (s' : NodeState) → IsFaithful k s hs → NodeStep c k s e deeds o s' → KnownStep c k s e deeds o s'
known_step c k s hs e deeds o s' f step =
    let t = time_after s e in
    let lines : List Act = map act_of step.due in
    let ms = matter_of c k (looked_at s.time e) in
    let each = due_acts c k t s step.due step.are_due in
    let in_chain = within c k s (Rises t ∷ (lines ++ ms)) deeds s' [] [] step.moves in
    let started : o.started ≡ started_by k t e.what = ap (λ (x : Outputs). x.started) step.outputs in
    record {
      whole = whole c k t (lines ++ ms) s deeds s' f.neat (becomes_old k s hs e f) (due_last lines ms each (looked_last c k (is_ahead s.time e e.what) e.what)) step.moves;
      entries = ap (λ (x : Outputs). x.entries) step.outputs;
      new = λ q. (
        λ n.
            let d : Deed = n.0.0 in
            let asks : IsAsk d.act = n.0.2 in
            let begins : started_by k t e.what ≡ Some (request_at k t) = elim (in_chain.acts d n.0.1) [
              | inl matter ↦ elim (contains_cases (Rises t) (lines ++ ms) d.act matter) [
                | inl rises ↦ absurd (rises_not_ask t d.act rises asks)
                | inr rest ↦ elim (Contains-append_cases lines ms d.act rest) [ inl due ↦ absurd (due_not_ask d.act (each d.act due) asks) | inr this ↦ looked_asks c k t (is_ahead s.time e e.what) e.what d.act this asks ]
              ]
              | inr heard ↦ absurd (heard_not_ask d.act heard asks)
            ] in
            subst (λ (x : ReqId). Contains (asked_in o.started) x) (sym n.1) (subst (λ (x : Option ReqId). Contains (asked_in x) (request_at k t)) (sym (started ∙ begins)) (contains_here (request_at k t) [])),
        λ h.
            let asks = started_asks c k t s.time e e.what q (subst (λ (x : Option ReqId). Contains (asked_in x) q) started h) in
            elim (in_chain.taken (Asks asks.1.0) (contains_there (Rises t) (lines ++ ms) (Asks asks.1.0) (Contains-append_right lines ms (Asks asks.1.0) asks.1.1))) [
              | inl left ↦ absurd (contains_nil (Asks asks.1.0) left)
              | inr made ↦ ((made.0, made.1, (asks.1.0, made.2)), asks.0)
            ],
      );
    }

-- a step ends at the time to which it rose
pub step_time : (c : Setting) (k : ℕ) (s : NodeState) (hs : List Happening) (e : Event) (deeds : List Deed) (o : Outputs) (s' : NodeState) → IsFaithful k s hs → NodeStep c k s e deeds o s' → o.time ≡ time_after s e
step_time c k s hs e deeds o s' f step = ap (λ (x : Outputs). x.time) step.outputs ∙ (known_step c k s hs e deeds o s' f step).whole.time

-- ---- what waits behind a step

unanswered_none : (es : List Entry) (q : ReqId) → answers_to es q ≡ 0 → is_unanswered es q ≡ true
unanswered_none es q none = ap (λ (n : ℕ). nat_lt n 1) none

none_of : (n : ℕ) → nat_lt n 1 ≡ true → n ≡ 0
none_of n h = let p = ltb-true n 1 h in omega (arith, p)

unanswered_back : (es : List Entry) (q : ReqId) → is_unanswered es q ≡ true → answers_to es q ≡ 0
unanswered_back es q h = none_of (answers_to es q) h

abbrev pub behind : ℕ → Outputs → List Happening → List ReqId
behind k o hs = filter (is_unanswered o.entries) (asked_in o.started ++ waiting_at k hs)

pub waiting_here : (k : ℕ) (e : Event) (deeds : List Deed) (o : Outputs) (hs : List Happening) → waiting_at k (Step k e deeds o ∷ hs) ≡ behind k o hs
waiting_here k e deeds o hs = ap (λ (b : Bool). if b then behind k o hs else waiting_at k hs) (eq-eqb k k refl)

not_same : (j k : ℕ) → (j ≡ k → ⊥) → (b : Bool) → (j == k) ≡ b → b ≡ false
not_same j k other true is = absurd (other (eqb-true j k is))
not_same j k other false is = refl

pub away : (j k : ℕ) → (j ≡ k → ⊥) → (j == k) ≡ false
away j k other = not_same j k other (j == k) refl

pub step_faithful : (c : Setting) (k : ℕ) (s : NodeState) (hs : List Happening) (e : Event) (deeds : List Deed) (o : Outputs) (s' : NodeState) → IsFaithful k s hs → KnownStep c k s e deeds o s' → IsFaithful k s' (Step k e deeds o ∷ hs)
step_faithful c k s hs e deeds o s' f x =
    let t = time_after s e in
    let g = x.whole.facts in
    let told : (q : ReqId) → answers_to o.entries q ≡ Told deeds q = λ q. ap (λ (es : List Entry). answers_to es q) x.entries in
    let time = x.whole.time in
    record {
      neat = g.neat;
      old = λ q h. elim (g.here q h) [
        | inl first ↦ (let before = becomes_old k s hs e f q first in omega (arith, before, time))
        | inr new ↦ (let at : q.time ≡ t = ap (λ (r : ReqId). r.time) new.1 in omega (arith, at, time))
      ];
      waits = λ q. (
        λ h.
            let there = (g.opened q).0 h in
            let asked : Contains (asked_in o.started ++ waiting_at k hs) q = elim there.0 [
              | inl was ↦ Contains-append_right (asked_in o.started) (waiting_at k hs) q ((f.waits q).0 was)
              | inr new ↦ Contains-append_left (asked_in o.started) (waiting_at k hs) q ((x.new q).0 new)
            ] in
            subst (λ (xs : List ReqId). Contains xs q) (sym (waiting_here k e deeds o hs)) (contains_filter (is_unanswered o.entries) (asked_in o.started ++ waiting_at k hs) q asked (unanswered_none o.entries q (told q ∙ there.1))),
        λ h.
            let w : Contains (behind k o hs) q = subst (λ (xs : List ReqId). Contains xs q) (waiting_here k e deeds o hs) h in
            let none : Told deeds q ≡ 0 = sym (told q) ∙ unanswered_back o.entries q (contains_from_filter (is_unanswered o.entries) (asked_in o.started ++ waiting_at k hs) q w).1 in
            (g.opened q).1 (
              elim (Contains-append_cases (asked_in o.started) (waiting_at k hs) q (contains_from_filter (is_unanswered o.entries) (asked_in o.started ++ waiting_at k hs) q w).0) [ inl new ↦ inr ((x.new q).1 new) | inr was ↦ inl ((f.waits q).1 was) ],
              none,
            ),
      );
    }

pub step_once : (c : Setting) (k : ℕ) (s : NodeState) (hs : List Happening) (e : Event) (deeds : List Deed) (o : Outputs) (s' : NodeState) → IsFaithful k s hs → KnownStep c k s e deeds o s' → AnswersOnce k e deeds o hs
step_once c k s hs e deeds o s' f x =
    let g = x.whole.facts in
    let told : (q : ReqId) → answers_to o.entries q ≡ Told deeds q = λ q. ap (λ (es : List Entry). answers_to es q) x.entries in
    record {
      once = λ q. subst (λ (n : ℕ). n ≤ 1) (sym (told q)) (g.once q);
      waits = λ q some. elim (g.from q (λ none. some (told q ∙ none))) [
        | inl was ↦ Contains-append_right (asked_in o.started) (waiting_at k hs) q ((f.waits q).0 was)
        | inr new ↦ Contains-append_left (asked_in o.started) (waiting_at k hs) q ((x.new q).0 new)
      ];
    }

-- ---- runs

abbrev pub AllFaithful : World → List Happening → Type 0
AllFaithful w hs = (k : ℕ) (s : NodeState) → slice_get w.standing k ≡ Some (Running s) → IsFaithful k s hs

-- nothing is open at a node that was just loaded
loaded_faithful : (k : ℕ) (d : Durable) (hs : List Happening) → waiting_at k hs ≡ [] → IsFaithful k (loaded d) hs
loaded_faithful k d hs none = record {
  neat = record { writes = tt; reads = tt; one_kind = λ q a b. a };
  old = λ q h. elim h [ inl a ↦ absurd a | inr b ↦ absurd b ];
  waits = λ q. (λ h. elim h [ inl a ↦ absurd a | inr b ↦ absurd b ], λ h. absurd (contains_nil q (subst (λ (xs : List ReqId). Contains xs q) none h)));
}

-- a node goes on while others do
still_faithful : (k : ℕ) (s : NodeState) (hs js : List Happening) → waiting_at k js ≡ waiting_at k hs → IsFaithful k s hs → IsFaithful k s js
still_faithful k s hs js same f = record { neat = f.neat; old = f.old; waits = λ q. subst (λ (xs : List ReqId). IsOpen s q ↔ Contains xs q) (sym same) (f.waits q) }

running_one : (s r : NodeState) → Running s ≡ Running r → s ≡ r
running_one s r e = cc

down_not : (s r : NodeState) (m : Option Made) → Running r ≡ Down s m → ⊥
down_not s r m e = cc

pub record Known (w : World) (hs : List Happening) : Type 0 where
  pub faithful : AllFaithful w hs
  pub once : EachStep AnswersOnce hs

step_known : (c : Setting) (w w' : World) (k : ℕ) (e : Event) (hs : List Happening) (x : ClusterStep c w k e w') → Known w hs → Known w' (Step k e x.deeds x.outputs ∷ hs)
step_known c w w' k e hs x known =
    let f = known.faithful k x.before x.at in
    let y = known_step c k x.before hs e x.deeds x.outputs x.after f x.step in
    record {
      faithful = λ j s at. elim (get_set w.standing k (Running x.after) j (Running s) (subst (λ (v : World). slice_get v.standing j ≡ Some (Running s)) x.world at)) [
        | inl (same, is) ↦ subst (λ (i : ℕ). IsFaithful i s (Step k e x.deeds x.outputs ∷ hs)) (sym same)
            (subst (λ (r : NodeState). IsFaithful k r (Step k e x.deeds x.outputs ∷ hs)) (sym (running_one s x.after is)) (step_faithful c k x.before hs e x.deeds x.outputs x.after f y))
        | inr (other, old) ↦ still_faithful j s hs (Step k e x.deeds x.outputs ∷ hs) (ap (λ (b : Bool). if b then behind j x.outputs hs else waiting_at j hs) (away k j (λ is. other (sym is)))) (known.faithful j s old)
      ];
      once = (step_once c k x.before hs e x.deeds x.outputs x.after f y, known.once);
    }

-- node k is down behind it
halt_known : (w w' : World) (k : ℕ) (hs : List Happening) (x : Standing) → ((s : NodeState) → Running s ≡ x → ⊥) → w'.standing ≡ slice_set w.standing k x → Known w hs → Known w' (Halt k ∷ hs)
halt_known w w' k hs x down standing known = record {
  faithful = λ j s at. elim (get_set w.standing k x j (Running s) (subst (λ (v : List Standing). slice_get v j ≡ Some (Running s)) standing at)) [
    | inl (same, is) ↦ absurd (down s is)
    | inr (other, old) ↦ still_faithful j s hs (Halt k ∷ hs) (ap (λ (b : Bool). if b then [] else waiting_at j hs) (away k j (λ is. other (sym is)))) (known.faithful j s old)
  ];
  once = known.once;
}

load_known : (w w' : World) (k : ℕ) (d : Durable) (hs : List Happening) → w'.standing ≡ slice_set w.standing k (Running (loaded d)) → Known w hs → Known w' (Load k ∷ hs)
load_known w w' k d hs standing known = record {
  faithful = λ j s at. elim (get_set w.standing k (Running (loaded d)) j (Running s) (subst (λ (v : List Standing). slice_get v j ≡ Some (Running s)) standing at)) [
    | inl (same, is) ↦ subst (λ (i : ℕ). IsFaithful i s (Load k ∷ hs)) (sym same)
        (subst (λ (r : NodeState). IsFaithful k r (Load k ∷ hs)) (sym (running_one s (loaded d) is)) (loaded_faithful k d (Load k ∷ hs) (ap (λ (b : Bool). if b then [] else waiting_at k hs) (eq-eqb k k refl))))
    | inr (other, old) ↦ still_faithful j s hs (Load k ∷ hs) (ap (λ (b : Bool). if b then [] else waiting_at j hs) (away k j (λ is. other (sym is)))) (known.faithful j s old)
  ];
  once = known.once;
}

same_known : (w w' : World) (hs : List Happening) → w'.standing ≡ w.standing → Known w hs → Known w' hs
same_known w w' hs standing known = record { faithful = λ j s at. known.faithful j s (subst (λ (v : List Standing). slice_get v j ≡ Some (Running s)) standing at); once = known.once }

pub known : (c : Setting) (w : World) (run : Run c w) → Known w (story c w run)
known c _ fresh = record {
  faithful = λ k s at. subst (λ (r : NodeState). IsFaithful k r []) (running_one fresh_node s (all_same (length c.ring) (Running fresh_node) k (Running s) at)) (loaded_faithful k _ [] refl);
  once = tt;
}
known c _ (went_on w w' k e run x) = step_known c w w' k e (story c w run) x (known c w run)
known c _ (stopped_in w w' k e made failed run x) = halt_known w w' k (story c w run) (Down x.before made) (λ s is. down_not x.before s made is) (ap (λ (v : World). v.standing) x.world) (known c w run)
known c _ (stopped w w' k run x) = halt_known w w' k (story c w run) (Down x.before None) (λ s is. down_not x.before s None is) (ap (λ (v : World). v.standing) x.world) (known c w run)
known c _ (load w w' k run x) = load_known w w' k x.found (story c w run) (ap (λ (v : World). v.standing) x.world) (known c w run)
known c _ (load_failed w w' k run x) = same_known w w' (story c w run) (ap (λ (v : World). v.standing) x.world) (known c w run)
known c _ (turned w w' k run x) =
    let before = known c w run in
    record {
      faithful = λ j s at. still_faithful j s (story c w run) (Away k x.refusal ∷ story c w run) refl (before.faithful j s (subst (λ (v : World). slice_get v.standing j ≡ Some (Running s)) x.world at));
      once = before.once;
    }

pub answered_once : (c : Setting) (w : World) (run : Run c w) → EachStep AnswersOnce (story c w run)
answered_once c w run = (known c w run).once

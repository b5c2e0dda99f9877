-- The nodes that a node takes for dead are those marked so since it was last loaded.
use Rattle.std.proofs.Common.{◌≡◌, ℕ, inl, inr, ◌⊎◌, Bool, true, false, Option, Some, None, List, [], ◌∷◌, refl, sym, ap, subst, ◌∙◌, Contains}
use Rattle.std.specs.Prelude.{if◌then◌else◌, map, length, MatchBool, slice_get, slice_set}
use Rattle.std.proofs.lemmas.Bool.{eq-eqb}
use Rattle.std.proofs.lemmas.List.Elements.{Contains-append_cases}
use Rattle.cs_base.specs.declared.ids.ReqId.{ReqId}
use Rattle.cs_base.specs.declared.level.Level.{Level}
use Rattle.cs_base.proofs.Members.{contains_nil, contains_here, contains_cases, contains_one}
use Rattle.peer_messages.specs.declared.event.Event.{Event}
use Rattle.peer_messages.specs.declared.event.Plan.{Plan}
use Rattle.peer_messages.specs.declared.event.Plan.TheVariants as plan
use Rattle.peer_messages.specs.declared.event.What.{What}
use Rattle.peer_messages.specs.declared.event.What.TheVariants.{Client, Deliver, Alive, Collect, Flush, Tick}
use Rattle.peer_messages.specs.declared.message.Body.{Body}
use Rattle.peer_messages.specs.declared.message.Body.TheVariants.{Write, WriteAck, Read, ReadReply, Mend, MendAck, Hint, HintAck}
use Rattle.peer_messages.specs.declared.message.Message.{Message}
use Rattle.peer_messages.specs.declared.chronicle.Refusal.{Refusal}
use Rattle.peer_messages.specs.declared.outcome.Outputs.{Outputs}
use Rattle.peer_messages.specs.declared.setting.Setting.{Setting}
use Rattle.peer_messages.specs.Settings.{marked}
use Rattle.node_steps.specs.State.{NodeState, OpenWrite, OpenRead, loaded, fresh_node}
use Rattle.node_steps.specs.Effects.{Effects, nothing, open_at}
use Rattle.node_steps.specs.Hints.{with_sent, is_last, hint_done}
use Rattle.node_steps.specs.Requests.{refusal_of, BeginsOrRefuses}
use Rattle.node_steps.specs.Acts.{Act, Rises, Hears, Asks, Marks, DeadlineComes, HintExpires, Incoming, Deed, Does, HearsBody, Ends, EndsRead, Chain, request_at, is_old, asker_of, TakesChanges}
use Rattle.node_steps.specs.Acts.Chain.{begun, own as own_move, matter as matter_move}
use Rattle.node_steps.specs.Steps.{NodeStep, act_of, matter_of, is_ahead, time_after}
use Rattle.node_steps.specs.Fitting.{message_fits, mark_fits, write_fits}
use Rattle.node_steps.specs.Replicas.{Asker}
use Rattle.cluster_runs.specs.World.{World, Standing, Running, Down, Made}
use Rattle.cluster_runs.specs.Run.{Run}
use Rattle.cluster_runs.specs.Run.RunFrom.{begun as fresh, more as went_on, stopped_in, stopped, load, load_failed, turned}
use Rattle.cs_base.proofs.Slots.{get_set}
use Rattle.changes.specs.declared.Mutation.{Mutation}
use Rattle.cluster_runs.proofs.Lists.{all_same}
use Rattle.answer_causes.specs.Story.{Happening, Step, Halt, Load, story}
use Rattle.peer_messages.specs.declared.event.Ask.{Ask}
use Rattle.answer_causes.specs.Causes.{EachStep}
use Rattle.answer_causes.specs.Marks.{marked_by, down_at, SeesMarks}
use Rattle.answer_causes.proofs.Phases.{IsQuiet, AreQuiet, parts}
use Rattle.answer_causes.proofs.Chains.{IsHeard, within}
use Rattle.answer_causes.proofs.Waiting.{IsDueAct, due_acts, heard_none, away}

of_down : (s s' r : NodeState) → s' ≡ r → r.down ≡ s.down → s'.down ≡ s.down
of_down s s' r is same = ap (λ (x : NodeState). x.down) is ∙ same

acked_down : (c : Setting) (b : Bool) (s : NodeState) (peer number : ℕ) → (if b then with_sent c (hint_done s peer number) peer else hint_done s peer number).down ≡ s.down
acked_down c true s peer number = refl
acked_down c false s peer number = refl

merge_down : (a : Asker) (m : Mutation) (fits : Bool) (s : NodeState) (o : Effects) (s' : NodeState) → MatchBool fits (TakesChanges a m.partition m.changes MendAck s o s') ((o ≡ nothing) × (s' ≡ s)) → s'.down ≡ s.down
merge_down a m true s o s' h = of_down s s' _ h.3 refl
merge_down a m false s o s' h = of_down s s' s h.1 refl

body_down : (c : Setting) (k : ℕ) (m : Incoming) (b : Body) (s : NodeState) (o : Effects) (s' : NodeState) → HearsBody c k (asker_of m) b s o s' → s'.down ≡ s.down
body_down c k m (Write u) s o s' h = of_down s s' _ h.3 refl
body_down c k m WriteAck s o s' h = of_down s s' _ h.3 refl
body_down c k m (Read q) s o s' h = of_down s s' _ h.3 refl
body_down c k m (ReadReply content) s o s' h = of_down s s' _ h.3 refl
body_down c k m (Mend u) s o s' h = merge_down (asker_of m) u (write_fits c u) s o s' h
body_down c k m MendAck s o s' h = of_down s s' _ h.3 refl
body_down c k m (Hint number u) s o s' h = of_down s s' _ h.3 refl
body_down c k m (HintAck number) s o s' h = of_down s s' _ h.1 (acked_down c (is_last s m.from number) s m.from number)

comes_down : (c : Setting) (k : ℕ) (m : Incoming) (old : Bool) (s : NodeState) (o : Effects) (s' : NodeState) → MatchBool old ((o ≡ nothing) × (s' ≡ s)) (HearsBody c k (asker_of m) m.body s o s') → s'.down ≡ s.down
comes_down c k m true s o s' h = of_down s s' s h.1 refl
comes_down c k m false s o s' h = body_down c k m m.body s o s' h

asks_down : (c : Setting) (id : ReqId) (p : Plan) (l : Level) (r : Option Refusal) (s : NodeState) (o : Effects) (s' : NodeState) → BeginsOrRefuses c id p l r s o s' → s'.down ≡ s.down
asks_down c id (plan.Write d) l None s o s' h = of_down s s' _ h.1 refl
asks_down c id (plan.Read q columns) l None s o s' h = of_down s s' _ h.1 refl
asks_down c id (plan.Use keyspace) l None s o s' h = of_down s s' _ h.1 refl
asks_down c id (plan.Invalid fault) l None s o s' h = absurd h
asks_down c id p l (Some r) s o s' h = of_down s s' _ h.1 refl

ends_read_down : (c : Setting) (id : ReqId) (r : Option OpenRead) (s : NodeState) (o : Effects) (s' : NodeState) → EndsRead c id r s o s' → s'.down ≡ s.down
ends_read_down c id None s o s' h = of_down s s' _ h.1 refl
ends_read_down c id (Some r) s o s' h = of_down s s' _ h.1 refl

ends_down : (c : Setting) (id : ReqId) (w : Option OpenWrite) (s : NodeState) (o : Effects) (s' : NodeState) → Ends c id w s o s' → s'.down ≡ s.down
ends_down c id None s o s' h = ends_read_down c id (open_at s.reads id) s o s' h
ends_down c id (Some w) s o s' h = of_down s s' _ h.1 refl

abbrev IsMark : Act → Type 0
IsMark (Marks peer up) = Unit {0}
IsMark (Rises t) = ⊥
IsMark (Hears m) = ⊥
IsMark (Asks ask) = ⊥
IsMark (DeadlineComes id) = ⊥
IsMark (HintExpires peer number) = ⊥

does_down : (c : Setting) (k : ℕ) (s : NodeState) (a : Act) (o : Effects) (s' : NodeState) → (IsMark a → ⊥) → Does c k s a o s' → s'.down ≡ s.down
does_down c k s (Rises t) o s' none h = of_down s s' _ h.2 refl
does_down c k s (Hears m) o s' none h = comes_down c k m (is_old c s.risen m.born) s o s' h
does_down c k s (Asks ask) o s' none h = asks_down c (request_at k s.risen) ask.plan ask.level (refusal_of c s (request_at k s.risen) ask.plan ask.level) s o s' h
does_down c k s (Marks peer up) o s' none h = absurd (none tt)
does_down c k s (DeadlineComes id) o s' none h = ends_down c id (open_at s.writes id) s o s' h
does_down c k s (HintExpires peer number) o s' none h = of_down s s' _ h.1 refl

heard_not_mark : (a : Act) → IsHeard a → IsMark a → ⊥
heard_not_mark (Hears m) h x = x
heard_not_mark (Rises t) h x = h
heard_not_mark (Asks ask) h x = h
heard_not_mark (Marks peer up) h x = h
heard_not_mark (DeadlineComes id) h x = h
heard_not_mark (HintExpires peer number) h x = h

abbrev NoMarks : List Act → Type 0
NoMarks ms = (a : Act) → Contains ms a → IsMark a → ⊥

-- moves without a mark among them
chain_down : (c : Setting) (k : ℕ) (s : NodeState) (ms : List Act) → NoMarks ms → (deeds : List Deed) (s' : NodeState) (pending left : List Act) → Chain c k s ms deeds s' pending left → (s'.down ≡ s.down) × ((d : Deed) → Contains deeds d → d.before.down ≡ s.down)
chain_down c k s ms none _ _ _ _ begun = (refl, λ d h. absurd (contains_nil d h))
chain_down c k s ms none _ _ _ _ (own_move deeds mid s' a pending left o chain does) =
    let prev = chain_down c k s ms none deeds mid (a ∷ pending) left chain in
    let heard = (within c k s ms deeds mid (a ∷ pending) left chain).heard a (contains_here a pending) in (
      does_down c k mid a o s' (heard_not_mark a heard) does ∙ prev.0,
      λ d h. elim (Contains-append_cases deeds _ d h) [ inl old ↦ prev.1 d old | inr last ↦ subst (λ (x : Deed). x.before.down ≡ s.down) (contains_one _ d last) prev.0 ],
    )
chain_down c k s ms none _ _ _ _ (matter_move deeds mid s' a left o chain does) =
    let prev = chain_down c k s ms none deeds mid [] (a ∷ left) chain in
    let there = (within c k s ms deeds mid [] (a ∷ left) chain).of_left a (contains_here a left) in (
      does_down c k mid a o s' (none a there) does ∙ prev.0,
      λ d h. elim (Contains-append_cases deeds _ d h) [ inl old ↦ prev.1 d old | inr last ↦ subst (λ (x : Deed). x.before.down ≡ s.down) (contains_one _ d last) prev.0 ],
    )

due_not_mark : (a : Act) → IsDueAct a → IsMark a → ⊥
due_not_mark (Rises time) h x = h
due_not_mark (Hears m) h x = h
due_not_mark (Asks ask) h x = h
due_not_mark (Marks peer up) h x = h
due_not_mark (DeadlineComes id) h x = x
due_not_mark (HintExpires peer number) h x = x

mark_here : (a b : Act) → a ≡ b → (IsMark b → ⊥) → IsMark a → ⊥
mark_here a b is none h = none (subst (λ (x : Act). IsMark x) is h)

first_no_marks : (t : ℕ) (lines : List Act) → ((a : Act) → Contains lines a → IsDueAct a) → NoMarks (Rises t ∷ lines)
first_no_marks t lines each a h = elim (contains_cases (Rises t) lines a h) [
  | inl rises ↦ mark_here a (Rises t) (sym rises) (λ x. x)
  | inr rest ↦ due_not_mark a (each a rest)
]

due_quiet : (a : Act) → IsDueAct a → IsQuiet a
due_quiet (Rises time) h = absurd h
due_quiet (Hears m) h = absurd h
due_quiet (Asks ask) h = absurd h
due_quiet (Marks peer up) h = absurd h
due_quiet (DeadlineComes id) h = tt
due_quiet (HintExpires peer number) h = tt

first_quiet : (t : ℕ) (lines : List Act) → ((a : Act) → Contains lines a → IsDueAct a) → AreQuiet (Rises t ∷ lines)
first_quiet t lines each a h = elim (contains_cases (Rises t) lines a h) [ inl here ↦ subst (λ (x : Act). IsQuiet x) here tt | inr rest ↦ due_quiet a (each a rest) ]

-- ---- the event's own matter

one_no_mark : (a : Act) → (IsMark a → ⊥) → NoMarks (a ∷ [])
one_no_mark a none x h = mark_here x a (sym (contains_one a x h)) none

if_no_mark : (b : Bool) (a : Act) → (IsMark a → ⊥) → NoMarks (if b then a ∷ [] else [])
if_no_mark true a none = one_no_mark a none
if_no_mark false a none = λ x h. absurd (contains_nil x h)

deliver_no_mark : (c : Setting) (k : ℕ) (b : Bool) (m : Message) → NoMarks (matter_of c k (if b then Tick else Deliver m))
deliver_no_mark c k true m = λ a h. absurd (contains_nil a h)
deliver_no_mark c k false m = if_no_mark (message_fits c k m) _ (λ x. x)

nil_no_marks : NoMarks []
nil_no_marks a h = absurd (contains_nil a h)

nil_cons : {X : Type 0} (x : X) (xs : List X) → [] ≡ x ∷ xs → ⊥
nil_cons x xs e = cc

heads : (a b : Act) (xs ys : List Act) → a ∷ xs ≡ b ∷ ys → (a ≡ b) × (xs ≡ ys)
heads a b xs ys e = (cc, cc)

mark_does : (c : Setting) (k : ℕ) (s : NodeState) (p : ℕ) (u : Bool) (o : Effects) (s' : NodeState) → Does c k s (Marks p u) o s' → s'.down ≡ marked s.down p u
mark_does c k s p true o s' h = ap (λ (x : NodeState). x.down) h.1
mark_does c k s p false o s' h = ap (λ (x : NodeState). x.down) h.1

mark_chain : (c : Setting) (k : ℕ) (m : NodeState) (p : ℕ) (u : Bool) (deeds : List Deed) (s' : NodeState) (pending left : List Act) → Chain c k m (Marks p u ∷ []) deeds s' pending left
    → ((left ≡ Marks p u ∷ []) × (s'.down ≡ m.down)) ⊎ ((left ≡ []) × (s'.down ≡ marked m.down p u))
mark_chain c k m p u _ _ _ _ begun = inl (refl, refl)
mark_chain c k m p u _ _ _ _ (own_move deeds mid s' a pending left o chain does) =
    let heard = (within c k m (Marks p u ∷ []) deeds mid (a ∷ pending) left chain).heard a (contains_here a pending) in
    let same = does_down c k mid a o s' (heard_not_mark a heard) does in
    elim (mark_chain c k m p u deeds mid (a ∷ pending) left chain) [ inl x ↦ inl (x.0, same ∙ x.1) | inr x ↦ inr (x.0, same ∙ x.1) ]
mark_chain c k m p u _ _ _ _ (matter_move deeds mid s' a left o chain does) = elim (mark_chain c k m p u deeds mid [] (a ∷ left) chain) [
  | inl x ↦
      let h = heads a (Marks p u) left [] x.0 in
      inr (h.1, mark_does c k mid p u o s' (subst (λ (b : Act). Does c k mid b o s') h.0 does) ∙ ap (λ (d : List ℕ). marked d p u) x.1)
  | inr x ↦ absurd (nil_cons a left (sym x.0))
]

alive_down : (c : Setting) (k : ℕ) (m : NodeState) (p : ℕ) (u b : Bool) (deeds : List Deed) (s' : NodeState) → Chain c k m (if b then Marks p u ∷ [] else []) deeds s' [] [] → s'.down ≡ (if b then marked m.down p u else m.down)
alive_down c k m p u true deeds s' chain = elim (mark_chain c k m p u deeds s' [] [] chain) [ inl x ↦ absurd (nil_cons (Marks p u) [] x.0) | inr x ↦ x.1 ]
alive_down c k m p u false deeds s' chain = (chain_down c k m [] nil_no_marks deeds s' [] [] chain).0

rest_down : (c : Setting) (k time : ℕ) (e : Event) (what : What) (m : NodeState) (deeds : List Deed) (s' : NodeState) → Chain c k m (matter_of c k (if is_ahead time e what then Tick else what)) deeds s' [] [] → s'.down ≡ marked_by c k what m.down
rest_down c k time e (Client ask) m deeds s' chain = (chain_down c k m (Asks ask ∷ []) (one_no_mark (Asks ask) (λ x. x)) deeds s' [] [] chain).0
rest_down c k time e (Deliver x) m deeds s' chain = (chain_down c k m _ (deliver_no_mark c k (is_ahead time e (Deliver x)) x) deeds s' [] [] chain).0
rest_down c k time e (Alive p u) m deeds s' chain = alive_down c k m p u (mark_fits c k p) deeds s' chain
rest_down c k time e (Collect request) m deeds s' chain = (chain_down c k m [] nil_no_marks deeds s' [] [] chain).0
rest_down c k time e Flush m deeds s' chain = (chain_down c k m [] nil_no_marks deeds s' [] [] chain).0
rest_down c k time e Tick m deeds s' chain = (chain_down c k m [] nil_no_marks deeds s' [] [] chain).0

-- a request is taken where no mark is
heard_ask : (a : Act) (ask : Ask) → IsHeard a → a ≡ Asks ask → ⊥
heard_ask a ask h is = subst (λ (x : Act). IsHeard x) is h

rest_asks : (c : Setting) (k time : ℕ) (e : Event) (what : What) (m : NodeState) (deeds : List Deed) (s' : NodeState) → Chain c k m (matter_of c k (if is_ahead time e what then Tick else what)) deeds s' [] [] → (d : Deed) (ask : Ask) → Contains deeds d → d.act ≡ Asks ask
    → d.before.down ≡ m.down
rest_asks c k time e (Client x) m deeds s' chain d ask h is = (chain_down c k m (Asks x ∷ []) (one_no_mark (Asks x) (λ y. y)) deeds s' [] [] chain).1 d h
rest_asks c k time e (Deliver x) m deeds s' chain d ask h is = (chain_down c k m _ (deliver_no_mark c k (is_ahead time e (Deliver x)) x) deeds s' [] [] chain).1 d h
rest_asks c k time e (Alive p u) m deeds s' chain d ask h is = elim ((within c k m _ deeds s' [] [] chain).acts d h) [
  | inl this ↦ (let x : Asks ask ≡ Marks p u = sym is ∙ heard_none (mark_fits c k p) (Marks p u) d.act this in cc)
  | inr heard ↦ absurd (heard_ask d.act ask heard is)
]
rest_asks c k time e (Collect request) m deeds s' chain d ask h is = (chain_down c k m [] nil_no_marks deeds s' [] [] chain).1 d h
rest_asks c k time e Flush m deeds s' chain d ask h is = (chain_down c k m [] nil_no_marks deeds s' [] [] chain).1 d h
rest_asks c k time e Tick m deeds s' chain d ask h is = (chain_down c k m [] nil_no_marks deeds s' [] [] chain).1 d h

-- ---- a step

record StepMarks (c : Setting) (k : ℕ) (s : NodeState) (e : Event) (deeds : List Deed) (s' : NodeState) : Type 0 where
  pub last : s'.down ≡ marked_by c k e.what s.down
  pub asks : (d : Deed) (ask : Ask) → Contains deeds d → d.act ≡ Asks ask → d.before.down ≡ s.down

step_marks : (c : Setting) (k : ℕ) (s : NodeState) (e : Event) (deeds : List Deed) (o : Outputs) (s' : NodeState) → NodeStep c k s e deeds o s' → StepMarks c k s e deeds s'
step_marks c k s e deeds o s' step =
    let t = time_after s e in
    let lines : List Act = map act_of step.due in
    let each = due_acts c k t s step.due step.are_due in
    let p = parts c k s (Rises t ∷ lines) _ deeds s' (first_quiet t lines each) step.moves in
    let first = chain_down c k s (Rises t ∷ lines) (first_no_marks t lines each) p.first p.between [] [] p.due in
    record {
      last = rest_down c k s.time e e.what p.between p.second s' p.rest ∙ ap (λ (d : List ℕ). marked_by c k e.what d) first.0;
      asks = λ d ask h is. elim (Contains-append_cases p.first p.second d (subst (λ (xs : List Deed). Contains xs d) p.all h)) [
        | inl early ↦ first.1 d early
        | inr late ↦ rest_asks c k s.time e e.what p.between p.second s' p.rest d ask late is ∙ first.0
      ];
    }

-- ---- runs

record Marked (c : Setting) (w : World) (hs : List Happening) : Type 0 where
  pub down : (k : ℕ) (s : NodeState) → slice_get w.standing k ≡ Some (Running s) → s.down ≡ down_at c k hs
  pub sees : EachStep (SeesMarks c) hs

running_one : (s r : NodeState) → Running s ≡ Running r → s ≡ r
running_one s r e = cc

down_not : (s r : NodeState) (m : Option Made) → Running r ≡ Down s m → ⊥
down_not s r m e = cc

halted : (c : Setting) (w w' : World) (k : ℕ) (hs : List Happening) (x : Standing) → ((s : NodeState) → Running s ≡ x → ⊥) → w'.standing ≡ slice_set w.standing k x → Marked c w hs → Marked c w' (Halt k ∷ hs)
halted c w w' k hs x none standing m = record {
  down = λ j s at. elim (get_set w.standing k x j (Running s) (subst (λ (v : List Standing). slice_get v j ≡ Some (Running s)) standing at)) [
    | inl (same, is) ↦ absurd (none s is)
    | inr (other, old) ↦ m.down j s old ∙ sym (ap (λ (b : Bool). if b then [] else down_at c j hs) (away k j (λ is. other (sym is))))
  ];
  sees = m.sees;
}

marks : (c : Setting) (w : World) (run : Run c w) → Marked c w (story c w run)
marks c _ fresh = record { down = λ k s at. ap (λ (x : NodeState). x.down) (sym (running_one fresh_node s (all_same (length c.ring) (Running fresh_node) k (Running s) at))); sees = tt }
marks c _ (went_on w w' k e run x) =
    let m = marks c w run in
    let hs = story c w run in
    let now = m.down k x.before x.at in
    let y = step_marks c k x.before e x.deeds x.outputs x.after x.step in
    record {
      down = λ j s at. elim (get_set w.standing k (Running x.after) j (Running s) (subst (λ (v : World). slice_get v.standing j ≡ Some (Running s)) x.world at)) [
        | inl (same, is) ↦
            ap (λ (r : NodeState). r.down) (running_one s x.after is) ∙ y.last ∙ ap (λ (d : List ℕ). marked_by c k e.what d) now
            ∙ sym (ap (λ (b : Bool). if b then marked_by c k e.what (down_at c k hs) else down_at c k hs) (eq-eqb k k refl))
            ∙ ap (λ (i : ℕ). down_at c i (Step k e x.deeds x.outputs ∷ hs)) (sym same)
        | inr (other, old) ↦ m.down j s old ∙ sym (ap (λ (b : Bool). if b then marked_by c j e.what (down_at c j hs) else down_at c j hs) (away k j (λ is. other (sym is))))
      ];
      sees = (record { seen = λ d ask h is. y.asks d ask h is ∙ now }, m.sees);
    }
marks c _ (stopped_in w w' k e made failed run x) = halted c w w' k (story c w run) (Down x.before made) (λ s is. down_not x.before s made is) (ap (λ (v : World). v.standing) x.world) (marks c w run)
marks c _ (stopped w w' k run x) = halted c w w' k (story c w run) (Down x.before None) (λ s is. down_not x.before s None is) (ap (λ (v : World). v.standing) x.world) (marks c w run)
marks c _ (load w w' k run x) =
    let m = marks c w run in
    let hs = story c w run in
    record {
      down = λ j s at. elim (get_set w.standing k (Running (loaded x.found)) j (Running s) (subst (λ (v : World). slice_get v.standing j ≡ Some (Running s)) x.world at)) [
        | inl (same, is) ↦
            ap (λ (r : NodeState). r.down) (running_one s (loaded x.found) is) ∙ sym (ap (λ (b : Bool). if b then [] else down_at c k hs) (eq-eqb k k refl)) ∙ ap (λ (i : ℕ). down_at c i (Load k ∷ hs)) (sym same)
        | inr (other, old) ↦ m.down j s old ∙ sym (ap (λ (b : Bool). if b then [] else down_at c j hs) (away k j (λ is. other (sym is))))
      ];
      sees = m.sees;
    }
marks c _ (load_failed w w' k run x) =
    let m = marks c w run in
    record { down = λ j s at. m.down j s (subst (λ (v : World). slice_get v.standing j ≡ Some (Running s)) x.world at); sees = m.sees }
marks c _ (turned w w' k run x) =
    let m = marks c w run in
    record { down = λ j s at. m.down j s (subst (λ (v : World). slice_get v.standing j ≡ Some (Running s)) x.world at); sees = m.sees }

pub marks_seen : (c : Setting) (w : World) (run : Run c w) → EachStep (SeesMarks c) (story c w run)
marks_seen c w run = (marks c w run).sees

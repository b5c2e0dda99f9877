-- A peer's next hints are sent behind the last one's acknowledgement.
use Rattle.std.proofs.Common.{◌≡◌, ◌≢◌, ℕ, inl, inr, ◌⊎◌, Bool, true, false, Option, Some, None, List, [], ◌∷◌, ◌++◌, refl, sym, ap, subst, ◌∙◌, Contains, filter, length}
use Rattle.std.specs.Prelude.{◌==◌, not, if◌then◌else◌, flat_map, map, slice_get, slice_set, MatchBool}
use Rattle.std.proofs.lemmas.Bool.{eqb-true, eq-eqb}
use Rattle.cs_base.specs.declared.ids.ReqId.{ReqId}
use Rattle.cs_base.specs.declared.level.Level.{Level}
use Rattle.cs_base.proofs.Members.{contains_here, contains_there, contains_map, contains_filter, contains_flat}
use Rattle.cs_base.proofs.Slots.{get_set}
use Rattle.changes.specs.declared.Mutation.{Mutation}
use Rattle.row_change.specs.declared.entry.Hint as hint
use Rattle.peer_messages.specs.declared.event.Event.{Event}
use Rattle.peer_messages.specs.declared.event.Plan.{Plan}
use Rattle.peer_messages.specs.declared.event.Plan.TheVariants as plan
use Rattle.peer_messages.specs.declared.message.Body.{Body}
use Rattle.peer_messages.specs.declared.message.Body.TheVariants.{Write, WriteAck, Read, ReadReply, Mend, MendAck, Hint, HintAck}
use Rattle.peer_messages.specs.declared.chronicle.Refusal.{Refusal}
use Rattle.peer_messages.specs.declared.outcome.Outbound.{Outbound}
use Rattle.peer_messages.specs.declared.outcome.Outputs.{Outputs}
use Rattle.peer_messages.specs.declared.setting.Setting.{Setting}
use Rattle.peer_messages.specs.Settings.{marked}
use Rattle.node_steps.specs.State.{NodeState, Batch, OpenWrite, OpenRead, loaded, fresh_node}
use Rattle.node_steps.specs.Effects.{Effects, nothing, open_at}
use Rattle.node_steps.specs.Hints.{first_hints, number_of, send_hint, sends_hints, waiting_of, with_batch, with_sent, is_last, hint_done, hint_acked}
use Rattle.node_steps.specs.Requests.{refusal_of, BeginsOrRefuses}
use Rattle.node_steps.specs.Acts.{Act, Rises, Hears, Asks, Marks, DeadlineComes, HintExpires, Incoming, Deed, Does, HearsBody, Ends, EndsRead, Chain, request_at, is_old, asker_of, TakesChanges}
use Rattle.node_steps.specs.Acts.Chain.{begun, own as own_move, matter as matter_move}
use Rattle.node_steps.specs.Steps.{NodeStep, matters_of, message_of, messages_of, sends_of}
use Rattle.node_steps.proofs.HintMembers.{first_from}
use Rattle.node_steps.specs.Replicas.{Asker}
use Rattle.node_steps.specs.Fitting.{write_fits}
use Rattle.cluster_runs.specs.World.{World, Standing, Running, Down, Made}
use Rattle.cluster_runs.specs.Run.{Run}
use Rattle.cluster_runs.specs.Run.RunFrom.{begun as fresh, more as went_on, stopped_in, stopped, load, load_failed, turned}
use Rattle.cluster_runs.proofs.Lists.{all_same}
use Rattle.answer_causes.specs.Story.{Happening, Step, Halt, Load, story}
use Rattle.answer_causes.specs.Causes.{EachStep}
use Rattle.answer_causes.specs.Hints.{hint_message}
use Rattle.answer_causes.specs.Batches.{behind_ack, is_last_of, batch_by_body, batch_by_act, batch_by, batch_behind, batch_at, SendsNext}
use Rattle.answer_causes.proofs.Steps.{deed_of}
use Rattle.answer_causes.proofs.Chains.{deeds_do}
use Rattle.answer_causes.proofs.Waiting.{away}

-- ---- a peer's batch among others

abbrev others : ℕ → List Batch → List Batch
others p bs = filter (λ b. not (b.peer == p)) bs

here_head : (t : Bool) (b : Batch) (rest new : List Batch) (p : ℕ) → (b.peer == p) ≡ t → waiting_of ((if not t then b ∷ rest else rest) ++ new) p ≡ waiting_of (rest ++ new) p
here_head true b rest new p is = refl
here_head false b rest new p is = ap (λ (t : Bool). if t then b.waiting else waiting_of (rest ++ new) p) is

here_all : (bs : List Batch) (p : ℕ) (ws : List ℕ) → waiting_of (with_batch bs p ws) p ≡ ws
here_all [] p ws = ap (λ (t : Bool). if t then ws else []) (eq-eqb p p refl)
here_all (b ∷ bs) p ws = here_head (b.peer == p) b (others p bs) (record { peer = p; waiting = ws } ∷ []) p refl ∙ here_all bs p ws

other_head : (t : Bool) (b : Batch) (rest bs new : List Batch) (p q : ℕ) → p ≢ q → (b.peer == p) ≡ t → waiting_of (rest ++ new) q ≡ waiting_of bs q → waiting_of ((if not t then b ∷ rest else rest) ++ new) q ≡ waiting_of (b ∷ bs) q
other_head true b rest bs new p q other is same =
    let mine : b.peer ≡ p = eqb-true b.peer p is in
    let apart : (b.peer == q) ≡ false = away b.peer q (λ x. other (sym mine ∙ x)) in
    same ∙ sym (ap (λ (t : Bool). if t then b.waiting else waiting_of bs q) apart)
other_head false b rest bs new p q other is same = ap (λ (ws : List ℕ). if b.peer == q then b.waiting else ws) same

other_all : (bs : List Batch) (p q : ℕ) (ws : List ℕ) → p ≢ q → waiting_of (with_batch bs p ws) q ≡ waiting_of bs q
other_all [] p q ws other = ap (λ (t : Bool). if t then ws else []) (away p q other)
other_all (b ∷ bs) p q ws other = other_head (b.peer == p) b (others p bs) bs (record { peer = p; waiting = ws } ∷ []) p q other refl (other_all bs p q ws other)

pick_by : (t : Bool) (p q : ℕ) (x y z : List ℕ) → (p == q) ≡ t → (p ≡ q → z ≡ x) → (p ≢ q → z ≡ y) → z ≡ (if t then x else y)
pick_by true p q x y z is here other = here (eqb-true p q is)
pick_by false p q x y z is here other = other (λ same. let e : true ≡ false = sym (eq-eqb p q same) ∙ is in cc)

pick : (p q : ℕ) (x y z : List ℕ) → (p ≡ q → z ≡ x) → (p ≢ q → z ≡ y) → z ≡ (if p == q then x else y)
pick p q x y z here other = pick_by (p == q) p q x y z refl here other

-- ---- what a move makes of it

-- it stays as it was
of_batches : (q : ℕ) (s s' r : NodeState) → s' ≡ r → r.batches ≡ s.batches → waiting_of s'.batches q ≡ waiting_of s.batches q
of_batches q s s' r is same = ap (λ (x : NodeState). waiting_of x.batches q) is ∙ ap (λ (bs : List Batch). waiting_of bs q) same

abbrev next_of : Setting → NodeState → ℕ → List ℕ
next_of c s q = map number_of (first_hints c s q)

abbrev pub acked_by : Setting → Bool → NodeState → ℕ → ℕ → NodeState
acked_by c t s a n = if t then with_sent c (hint_done s a n) a else hint_done s a n

ack_here : (c : Setting) (t : Bool) (s : NodeState) (a n : ℕ) → waiting_of (acked_by c t s a n).batches a ≡ (if t then next_of c (acked_by c t s a n) a else behind_ack (waiting_of s.batches a) n)
ack_here c true s a n = here_all (hint_done s a n).batches a (next_of c (hint_done s a n) a)
ack_here c false s a n = here_all s.batches a (behind_ack (waiting_of s.batches a) n)

ack_other : (c : Setting) (t : Bool) (s : NodeState) (a n q : ℕ) → a ≢ q → waiting_of (acked_by c t s a n).batches q ≡ waiting_of s.batches q
ack_other c true s a n q other = other_all (hint_done s a n).batches a q (next_of c (hint_done s a n) a) other ∙ other_all s.batches a q (behind_ack (waiting_of s.batches a) n) other
ack_other c false s a n q other = other_all s.batches a q (behind_ack (waiting_of s.batches a) n) other

ack_batch : (c : Setting) (s : NodeState) (a n q : ℕ)
    → waiting_of (hint_acked c s a n).batches q ≡ (if a == q then (if is_last_of (waiting_of s.batches q) n then next_of c (hint_acked c s a n) q else behind_ack (waiting_of s.batches q) n) else waiting_of s.batches q)
ack_batch c s a n q =
    let r = hint_acked c s a n in
    pick a q (if is_last_of (waiting_of s.batches q) n then next_of c r q else behind_ack (waiting_of s.batches q) n) (waiting_of s.batches q) (waiting_of r.batches q)
    (λ same. subst (λ (i : ℕ). waiting_of r.batches i ≡ (if is_last_of (waiting_of s.batches i) n then next_of c r i else behind_ack (waiting_of s.batches i) n)) same (ack_here c (is_last s a n) s a n))
    (λ other. ack_other c (is_last s a n) s a n q other)

merge_batch : (q : ℕ) (a : Asker) (m : Mutation) (fits : Bool) (s : NodeState) (o : Effects) (s' : NodeState) → MatchBool fits (TakesChanges a m.partition m.changes MendAck s o s') ((o ≡ nothing) × (s' ≡ s)) → waiting_of s'.batches q ≡ waiting_of s.batches q
merge_batch q a m true s o s' h = of_batches q s s' _ h.3 refl
merge_batch q a m false s o s' h = of_batches q s s' s h.1 refl

body_batch : (c : Setting) (k q : ℕ) (m : Incoming) (b : Body) (s : NodeState) (o : Effects) (s' : NodeState) → HearsBody c k (asker_of m) b s o s' → waiting_of s'.batches q ≡ batch_by_body q m.from b (next_of c s' q) (waiting_of s.batches q)
body_batch c k q m (Write u) s o s' h = of_batches q s s' _ h.3 refl
body_batch c k q m WriteAck s o s' h = of_batches q s s' _ h.3 refl
body_batch c k q m (Read r) s o s' h = of_batches q s s' _ h.3 refl
body_batch c k q m (ReadReply content) s o s' h = of_batches q s s' _ h.3 refl
body_batch c k q m (Mend u) s o s' h = merge_batch q (asker_of m) u (write_fits c u) s o s' h
body_batch c k q m MendAck s o s' h = of_batches q s s' _ h.3 refl
body_batch c k q m (Hint number u) s o s' h = of_batches q s s' _ h.3 refl
body_batch c k q m (HintAck n) s o s' h =
    subst (λ (x : NodeState). waiting_of x.batches q ≡ batch_by_body q m.from (HintAck n) (next_of c x q) (waiting_of s.batches q)) (sym h.1) (ack_batch c s m.from n q)

comes_batch : (c : Setting) (k q : ℕ) (m : Incoming) (old : Bool) (s : NodeState) (o : Effects) (s' : NodeState) → MatchBool old ((o ≡ nothing) × (s' ≡ s)) (HearsBody c k (asker_of m) m.body s o s')
    → waiting_of s'.batches q ≡ (if old then waiting_of s.batches q else batch_by_body q m.from m.body (next_of c s' q) (waiting_of s.batches q))
comes_batch c k q m true s o s' h = of_batches q s s' s h.1 refl
comes_batch c k q m false s o s' h = body_batch c k q m m.body s o s' h

asks_batch : (c : Setting) (q : ℕ) (id : ReqId) (p : Plan) (l : Level) (r : Option Refusal) (s : NodeState) (o : Effects) (s' : NodeState) → BeginsOrRefuses c id p l r s o s' → waiting_of s'.batches q ≡ waiting_of s.batches q
asks_batch c q id (plan.Write d) l None s o s' h = of_batches q s s' _ h.1 refl
asks_batch c q id (plan.Read x columns) l None s o s' h = of_batches q s s' _ h.1 refl
asks_batch c q id (plan.Use keyspace) l None s o s' h = of_batches q s s' _ h.1 refl
asks_batch c q id (plan.Invalid fault) l None s o s' h = absurd h
asks_batch c q id p l (Some r) s o s' h = of_batches q s s' _ h.1 refl

ends_read_batch : (c : Setting) (q : ℕ) (id : ReqId) (r : Option OpenRead) (s : NodeState) (o : Effects) (s' : NodeState) → EndsRead c id r s o s' → waiting_of s'.batches q ≡ waiting_of s.batches q
ends_read_batch c q id None s o s' h = of_batches q s s' _ h.1 refl
ends_read_batch c q id (Some r) s o s' h = of_batches q s s' _ h.1 refl

ends_batch : (c : Setting) (q : ℕ) (id : ReqId) (w : Option OpenWrite) (s : NodeState) (o : Effects) (s' : NodeState) → Ends c id w s o s' → waiting_of s'.batches q ≡ waiting_of s.batches q
ends_batch c q id None s o s' h = ends_read_batch c q id (open_at s.reads id) s o s' h
ends_batch c q id (Some w) s o s' h = of_batches q s s' _ h.1 refl

sent_batch : (c : Setting) (s : NodeState) (p q : ℕ) → waiting_of (with_sent c s p).batches q ≡ (if p == q then next_of c (with_sent c s p) q else waiting_of s.batches q)
sent_batch c s p q =
    pick p q (next_of c s q) (waiting_of s.batches q) (waiting_of (with_sent c s p).batches q)
    (λ same. subst (λ (i : ℕ). waiting_of (with_sent c s p).batches i ≡ next_of c s i) same (here_all s.batches p (next_of c s p)))
    (λ other. other_all s.batches p q (next_of c s p) other)

does_batch : (c : Setting) (k q : ℕ) (s : NodeState) (a : Act) (o : Effects) (s' : NodeState) → Does c k s a o s' → waiting_of s'.batches q ≡ batch_by_act c q s.risen a (next_of c s' q) (waiting_of s.batches q)
does_batch c k q s (Rises t) o s' h = of_batches q s s' _ h.2 refl
does_batch c k q s (Hears m) o s' h = comes_batch c k q m (is_old c s.risen m.born) s o s' h
does_batch c k q s (Asks ask) o s' h = asks_batch c q (request_at k s.risen) ask.plan ask.level (refusal_of c s (request_at k s.risen) ask.plan ask.level) s o s' h
does_batch c k q s (Marks p true) o s' h =
    subst (λ (x : NodeState). waiting_of x.batches q ≡ batch_by_act c q s.risen (Marks p true) (next_of c x q) (waiting_of s.batches q)) (sym h.1) (sent_batch c (record s { down = marked s.down p true }) p q)
does_batch c k q s (Marks p false) o s' h = of_batches q s s' _ h.1 refl
does_batch c k q s (DeadlineComes id) o s' h = ends_batch c q id (open_at s.writes id) s o s' h
does_batch c k q s (HintExpires p number) o s' h = of_batches q s s' _ h.1 refl

-- ---- what moves make of it

batch_push : (c : Setting) (q : ℕ) (ds : List Deed) (d : Deed) (w : List ℕ) → batch_behind c q (ds ++ d ∷ []) w ≡ batch_by c q d (batch_behind c q ds w)
batch_push c q [] d w = refl
batch_push c q (x ∷ ds) d w = batch_push c q ds d (batch_by c q x w)

one_more : (c : Setting) (k q : ℕ) (deeds : List Deed) (mid s' : NodeState) (a : Act) (o : Effects) (w : List ℕ) → Does c k mid a o s' → waiting_of mid.batches q ≡ batch_behind c q deeds w → waiting_of s'.batches q ≡ batch_behind c q (deeds ++ deed_of k a mid s' o ∷ []) w
one_more c k q deeds mid s' a o w does prev =
    does_batch c k q mid a o s' does ∙ ap (λ (x : List ℕ). batch_by_act c q mid.risen a (next_of c s' q) x) prev ∙ sym (batch_push c q deeds (deed_of k a mid s' o) w)

chain_batch : (c : Setting) (k q : ℕ) (s : NodeState) (ms : List Act) (deeds : List Deed) (s' : NodeState) (pending left : List Act) → Chain c k s ms deeds s' pending left → waiting_of s'.batches q ≡ batch_behind c q deeds (waiting_of s.batches q)
chain_batch c k q s ms _ _ _ _ begun = refl
chain_batch c k q s ms _ _ _ _ (own_move deeds mid s' a pending left o chain does) = one_more c k q deeds mid s' a o (waiting_of s.batches q) does (chain_batch c k q s ms deeds mid (a ∷ pending) left chain)
chain_batch c k q s ms _ _ _ _ (matter_move deeds mid s' a left o chain does) = one_more c k q deeds mid s' a o (waiting_of s.batches q) does (chain_batch c k q s ms deeds mid [] (a ∷ left) chain)

-- ---- and before one of them

not_nil : (front back : List Deed) (d : Deed) → [] ≡ front ++ d ∷ back → ⊥
not_nil [] back d e = cc
not_nil (f ∷ front) back d e = cc

heads : (a b : Deed) (xs ys : List Deed) → a ∷ xs ≡ b ∷ ys → (a ≡ b) × (xs ≡ ys)
heads a b xs ys e = (cc, cc)

cons_same : (a b : Deed) (xs ys : List Deed) → a ≡ b → xs ≡ ys → a ∷ xs ≡ b ∷ ys
cons_same a b xs ys e f = cc

snoc_cases : (front back xs : List Deed) (x d : Deed) → xs ++ x ∷ [] ≡ front ++ d ∷ back → ((xs ≡ front) × (x ≡ d)) ⊎ ((rest : List Deed) × (xs ≡ front ++ d ∷ rest))
snoc_cases [] back [] x d e = inl (refl, (heads x d [] back e).0)
snoc_cases [] back (y ∷ xs) x d e = inr (xs, cons_same y d xs xs (heads y d (xs ++ x ∷ []) back e).0 refl)
snoc_cases (f ∷ front) back [] x d e = absurd (not_nil front back d (heads x f [] (front ++ d ∷ back) e).1)
snoc_cases (f ∷ front) back (y ∷ xs) x d e =
    let h = heads y f (xs ++ x ∷ []) (front ++ d ∷ back) e in
    elim (snoc_cases front back xs x d h.1) [
      | inl (same, is) ↦ inl (cons_same y f xs front h.0 same, is)
      | inr (rest, same) ↦ inr (rest, cons_same y f xs (front ++ d ∷ rest) h.0 same)
    ]

abbrev IsBatchBefore : Setting → ℕ → List ℕ → List Deed → Type 0
IsBatchBefore c q w deeds = (front back : List Deed) (d : Deed) → deeds ≡ front ++ d ∷ back → waiting_of d.before.batches q ≡ batch_behind c q front w

before_push : (c : Setting) (k q : ℕ) (deeds : List Deed) (mid s' : NodeState) (a : Act) (o : Effects) (w : List ℕ) → waiting_of mid.batches q ≡ batch_behind c q deeds w → IsBatchBefore c q w deeds → IsBatchBefore c q w (deeds ++ deed_of k a mid s' o ∷ [])
before_push c k q deeds mid s' a o w now prev front back d e = elim (snoc_cases front back deeds (deed_of k a mid s' o) d e) [
  | inl (same, is) ↦ subst (λ (x : Deed). waiting_of x.before.batches q ≡ batch_behind c q front w) is (subst (λ (xs : List Deed). waiting_of mid.batches q ≡ batch_behind c q xs w) same now)
  | inr (rest, same) ↦ prev front rest d same
]

pub chain_before : (c : Setting) (k q : ℕ) (s : NodeState) (ms : List Act) (deeds : List Deed) (s' : NodeState) (pending left : List Act) → Chain c k s ms deeds s' pending left → IsBatchBefore c q (waiting_of s.batches q) deeds
chain_before c k q s ms _ _ _ _ begun = λ front back d e. absurd (not_nil front back d e)
chain_before c k q s ms _ _ _ _ (own_move deeds mid s' a pending left o chain does) =
    before_push c k q deeds mid s' a o (waiting_of s.batches q) (chain_batch c k q s ms deeds mid (a ∷ pending) left chain) (chain_before c k q s ms deeds mid (a ∷ pending) left chain)
chain_before c k q s ms _ _ _ _ (matter_move deeds mid s' a left o chain does) =
    before_push c k q deeds mid s' a o (waiting_of s.batches q) (chain_batch c k q s ms deeds mid [] (a ∷ left) chain) (chain_before c k q s ms deeds mid [] (a ∷ left) chain)

-- ---- a step

last_sends : (c : Setting) (t : Bool) (s : NodeState) (a n k : ℕ) → t ≡ true → (h : hint.Hint) → Contains (first_hints c (acked_by c t s a n) a) h → Contains (if t then sends_hints c k (hint_done s a n) a else []) (send_hint k h)
last_sends c true s a n k is h there = contains_map (send_hint k) (first_hints c (hint_done s a n) a) h there
last_sends c false s a n k is h there = cc

-- the last acknowledgement's move
ack_sends : (c : Setting) (k : ℕ) (m : Incoming) (s : NodeState) (o : Effects) (s' : NodeState) (old : Bool) (b : Body) (n : ℕ) → MatchBool old ((o ≡ nothing) × (s' ≡ s)) (HearsBody c k (asker_of m) b s o s') → old ≡ false → b ≡ HintAck n → is_last s m.from n ≡ true
    → (h : hint.Hint) → Contains (first_hints c s' m.from) h → Contains o.sends (send_hint k h)
ack_sends c k m s o s' true b n does old is last h there = cc
ack_sends c k m s o s' false b n does old is last h there =
    let x = subst (λ (y : Body). HearsBody c k (asker_of m) y s o s') is does in
    subst (λ (y : Effects). Contains y.sends (send_hint k h)) (sym x.0) (last_sends c (is_last s m.from n) s m.from n k last h (subst (λ (y : NodeState). Contains (first_hints c y m.from) h) x.1 there))

deed_in : (front back : List Deed) (d : Deed) → Contains (front ++ d ∷ back) d
deed_in [] back d = contains_here d back
deed_in (f ∷ front) back d = contains_there f (front ++ d ∷ back) d (deed_in front back d)

-- what a move sends to another node goes out
goes_out : (c : Setting) (k : ℕ) (s : NodeState) (e : Event) (deeds : List Deed) (o : Outputs) (s' : NodeState) → NodeStep c k s e deeds o s' → (d : Deed) (h : hint.Hint) → Contains deeds d → Contains d.effects.sends (send_hint k h) → h.peer ≢ k → Contains o.sends (hint_message k o.time h)
goes_out c k s e deeds o s' step d h there sent other =
    let time : o.time ≡ s'.time = ap (λ (z : Outputs). z.time) step.outputs in
    let x : Outbound = send_hint k h in
    let test : not (h.peer == k) ≡ true = ap not (away h.peer k other) in
    let all : Contains (messages_of k s'.time (flat_map sends_of deeds)) (message_of k s'.time x) =
    contains_map (message_of k s'.time) (filter (λ (y : Outbound). not (y.upto == k)) (flat_map sends_of deeds)) x
    (contains_filter (λ (y : Outbound). not (y.upto == k)) (flat_map sends_of deeds) x (contains_flat sends_of deeds d x there sent) test) in
    subst (λ (n : ℕ). Contains o.sends (hint_message k n h)) (sym time) (subst (λ (z : Outputs). Contains z.sends (hint_message k s'.time h)) (sym step.outputs) all)

abbrev pub HasBatches : Setting → ℕ → NodeState → List Happening → Type 0
HasBatches c k s hs = (q : ℕ) → waiting_of s.batches q ≡ batch_at c k q hs

step_next : (c : Setting) (k : ℕ) (s : NodeState) (hs : List Happening) (e : Event) (deeds : List Deed) (o : Outputs) (s' : NodeState) → HasBatches c k s hs → NodeStep c k s e deeds o s' → SendsNext c k e deeds o hs
step_next c k s hs e deeds o s' has step = record {
  next = λ front back d m n is act body other young last h there.
      let ms = matters_of c k s e step.due in
      let in_all : Contains deeds d = subst (λ (xs : List Deed). Contains xs d) (sym is) (deed_in front back d) in
      let does : Does c k d.before (Hears m) d.effects d.after = subst (λ (a : Act). Does c k d.before a d.effects d.after) act (deeds_do c k s ms deeds s' [] [] step.moves d in_all) in
      let waits = chain_before c k m.from s ms deeds s' [] [] step.moves front back d is ∙ ap (λ (w : List ℕ). batch_behind c m.from front w) (has m.from) in
      let is_so : is_last d.before m.from n ≡ true = ap (λ (w : List ℕ). is_last_of w n) waits ∙ last in
      let sent = ack_sends c k m d.before d.effects d.after (is_old c d.before.risen m.born) m.body n does young body is_so h there in
      let mine : h.peer ≡ m.from = eqb-true h.peer m.from (first_from c d.after m.from h there).2 in
      goes_out c k s e deeds o s' step d h in_all sent (λ x. other (sym mine ∙ x));
}

step_batches : (c : Setting) (k : ℕ) (s : NodeState) (hs : List Happening) (e : Event) (deeds : List Deed) (o : Outputs) (s' : NodeState) → HasBatches c k s hs → NodeStep c k s e deeds o s' → HasBatches c k s' (Step k e deeds o ∷ hs)
step_batches c k s hs e deeds o s' has step q =
    chain_batch c k q s (matters_of c k s e step.due) deeds s' [] [] step.moves ∙ ap (λ (w : List ℕ). batch_behind c q deeds w) (has q)
    ∙ sym (ap (λ (b : Bool). if b then batch_behind c q deeds (batch_at c k q hs) else batch_at c k q hs) (eq-eqb k k refl))

-- ---- runs

pub record Batched (c : Setting) (w : World) (hs : List Happening) : Type 0 where
  pub has : (k : ℕ) (s : NodeState) → slice_get w.standing k ≡ Some (Running s) → HasBatches c k s hs
  pub sends : EachStep (SendsNext c) hs

running_one : (s r : NodeState) → Running s ≡ Running r → s ≡ r
running_one s r e = cc

down_not : (s r : NodeState) (m : Option Made) → Running r ≡ Down s m → ⊥
down_not s r m e = cc

halted : (c : Setting) (w w' : World) (k : ℕ) (hs : List Happening) (x : Standing) → ((s : NodeState) → Running s ≡ x → ⊥) → w'.standing ≡ slice_set w.standing k x → Batched c w hs → Batched c w' (Halt k ∷ hs)
halted c w w' k hs x none standing m = record {
  has = λ j s at q. elim (get_set w.standing k x j (Running s) (subst (λ (v : List Standing). slice_get v j ≡ Some (Running s)) standing at)) [
    | inl (same, is) ↦ absurd (none s is)
    | inr (other, old) ↦ m.has j s old q ∙ sym (ap (λ (b : Bool). if b then [] else batch_at c j q hs) (away k j (λ is. other (sym is))))
  ];
  sends = m.sends;
}

pub batched : (c : Setting) (w : World) (run : Run c w) → Batched c w (story c w run)
batched c _ fresh = record { has = λ k s at q. ap (λ (x : NodeState). waiting_of x.batches q) (sym (running_one fresh_node s (all_same (length c.ring) (Running fresh_node) k (Running s) at))); sends = tt }
batched c _ (went_on w w' k e run x) =
    let m = batched c w run in
    let hs = story c w run in
    let now = m.has k x.before x.at in
    record {
      has = λ j s at. elim (get_set w.standing k (Running x.after) j (Running s) (subst (λ (v : World). slice_get v.standing j ≡ Some (Running s)) x.world at)) [
        | inl (same, is) ↦ subst (λ (i : ℕ). HasBatches c i s (Step k e x.deeds x.outputs ∷ hs)) (sym same)
            (subst (λ (r : NodeState). HasBatches c k r (Step k e x.deeds x.outputs ∷ hs)) (sym (running_one s x.after is)) (step_batches c k x.before hs e x.deeds x.outputs x.after now x.step))
        | inr (other, old) ↦ λ q. m.has j s old q ∙ sym (ap (λ (b : Bool). if b then batch_behind c q x.deeds (batch_at c j q hs) else batch_at c j q hs) (away k j (λ is. other (sym is))))
      ];
      sends = (step_next c k x.before hs e x.deeds x.outputs x.after now x.step, m.sends);
    }
batched c _ (stopped_in w w' k e made failed run x) = halted c w w' k (story c w run) (Down x.before made) (λ s is. down_not x.before s made is) (ap (λ (v : World). v.standing) x.world) (batched c w run)
batched c _ (stopped w w' k run x) = halted c w w' k (story c w run) (Down x.before None) (λ s is. down_not x.before s None is) (ap (λ (v : World). v.standing) x.world) (batched c w run)
batched c _ (load w w' k run x) =
    let m = batched c w run in
    let hs = story c w run in
    record {
      has = λ j s at q. elim (get_set w.standing k (Running (loaded x.found)) j (Running s) (subst (λ (v : World). slice_get v.standing j ≡ Some (Running s)) x.world at)) [
        | inl (same, is) ↦
            ap (λ (r : NodeState). waiting_of r.batches q) (running_one s (loaded x.found) is) ∙ sym (ap (λ (b : Bool). if b then [] else batch_at c k q hs) (eq-eqb k k refl)) ∙ ap (λ (i : ℕ). batch_at c i q (Load k ∷ hs)) (sym same)
        | inr (other, old) ↦ m.has j s old q ∙ sym (ap (λ (b : Bool). if b then [] else batch_at c j q hs) (away k j (λ is. other (sym is))))
      ];
      sends = m.sends;
    }
batched c _ (load_failed w w' k run x) =
    let m = batched c w run in
    record { has = λ j s at. m.has j s (subst (λ (v : World). slice_get v.standing j ≡ Some (Running s)) x.world at); sends = m.sends }
batched c _ (turned w w' k run x) =
    let m = batched c w run in
    record { has = λ j s at. m.has j s (subst (λ (v : World). slice_get v.standing j ≡ Some (Running s)) x.world at); sends = m.sends }

pub next_sent : (c : Setting) (w : World) (run : Run c w) → EachStep (SendsNext c) (story c w run)
next_sent c w run = (batched c w run).sends

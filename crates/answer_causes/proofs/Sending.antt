-- Hints go out behind a mark up or the last acknowledgement alone.
use Rattle.std.proofs.Common.{◌≡◌, ℕ, inl, inr, ◌⊎◌, Bool, true, false, Option, Some, None, List, [], ◌∷◌, ◌++◌, refl, sym, ap, subst, ◌∙◌, Contains, filter}
use Rattle.std.specs.Prelude.{◌==◌, not, if◌then◌else◌, flat_map, nat_lt, MatchBool}
use Rattle.std.proofs.lemmas.Bool.{eqb-true}
use Rattle.cs_base.specs.declared.ids.ReqId.{ReqId}
use Rattle.cs_base.specs.declared.level.Level.{Level}
use Rattle.cs_base.proofs.Members.{contains_nil, contains_cases, contains_from_map, contains_from_filter, contains_from_flat}
use Rattle.changes.specs.declared.Held.{Held}
use Rattle.changes.specs.declared.Mutation.{Mutation}
use Rattle.changes.specs.Drafts.{mutation_of}
use Rattle.row_change.specs.declared.entry.Hint as hint
use Rattle.peer_messages.specs.declared.chronicle.Refusal.{Refusal}
use Rattle.peer_messages.specs.declared.event.Event.{Event}
use Rattle.peer_messages.specs.declared.event.Plan.{Plan}
use Rattle.peer_messages.specs.declared.event.Plan.TheVariants as plan
use Rattle.peer_messages.specs.declared.message.Body.{Body}
use Rattle.peer_messages.specs.declared.message.Body.TheVariants.{Write, WriteAck, Read, ReadReply, Mend, MendAck, Hint, HintAck}
use Rattle.peer_messages.specs.declared.message.Message.{Message}
use Rattle.peer_messages.specs.declared.outcome.Move.{Move}
use Rattle.peer_messages.specs.declared.outcome.Outbound.{Outbound}
use Rattle.peer_messages.specs.declared.outcome.Outputs.{Outputs}
use Rattle.peer_messages.specs.declared.setting.Setting.{Setting}
use Rattle.peer_messages.specs.Moves.{quiet as quiet_move}
use Rattle.node_steps.specs.State.{NodeState, OpenWrite, OpenRead}
use Rattle.node_steps.specs.Effects.{Effects, nothing, outbound, send_to, open_at, Takes}
use Rattle.node_steps.specs.Hints.{first_hints, send_hint, sends_hints, waiting_of, is_last, hint_done}
use Rattle.node_steps.specs.Writes.{HearsAck}
use Rattle.node_steps.specs.Reads.{HearsReply, TellsRows, MergesReply, is_stray, replies_of, read_needs, AwaitsMends, mends, differing, HearsMendAck, is_awaited, mended_by, mend_of}
use Rattle.node_steps.specs.Requests.{refusal_of, BeginsOrRefuses}
use Rattle.node_steps.specs.Acts.{Act, Rises, Hears, Asks, Marks, DeadlineComes, HintExpires, Incoming, Deed, Does, HearsBody, Ends, EndsRead, request_at, is_old, asker_of, TakesChanges}
use Rattle.node_steps.specs.Steps.{NodeStep, matters_of, message_of, sends_of}
use Rattle.node_steps.proofs.HintMembers.{first_from}
use Rattle.node_steps.specs.Replicas.{Asker}
use Rattle.node_steps.specs.Fitting.{write_fits}
use Rattle.cluster_runs.specs.World.{World}
use Rattle.cluster_runs.specs.Run.{Run}
use Rattle.cluster_runs.specs.Run.RunFrom.{begun as fresh, more as went_on, stopped_in, stopped, load, load_failed, turned}
use Rattle.answer_causes.specs.Story.{Happening, story}
use Rattle.answer_causes.specs.Causes.{EachStep}
use Rattle.answer_causes.specs.Hints.{hint_message}
use Rattle.answer_causes.specs.Batches.{is_last_of, batch_behind, batch_at, LetsGo, SendsThen}
use Rattle.answer_causes.proofs.Chains.{deeds_do}
use Rattle.answer_causes.proofs.Batching.{acked_by, HasBatches, chain_before, batched}

-- ---- what sends no hint

abbrev NoHint : List Outbound → Type 0
NoHint ys = (y : Outbound) (n : ℕ) (m : Mutation) → Contains ys y → y.body ≡ Hint n m → ⊥

none_sent : NoHint []
none_sent y n m h is = contains_nil y h

by_sends : (o p : Effects) → o ≡ p → NoHint p.sends → NoHint o.sends
by_sends o p is none = subst (λ (x : Effects). NoHint x.sends) (sym is) none

to_none : (request : ReqId) (b : Body) (ks : List ℕ) → ((n : ℕ) (m : Mutation) → b ≡ Hint n m → ⊥) → NoHint (send_to request b ks)
to_none request b ks other y n m h is = let x = contains_from_map (outbound request b) ks y h in other n m (ap (λ (z : Outbound). z.body) x.2 ∙ is)

acks_none : (c : Setting) (id : ReqId) (from : ℕ) (xs xs' : List (ReqId × OpenWrite)) (o : Option OpenWrite) (turn : Move) → Takes (HearsAck c id from) id xs o turn xs' → NoHint turn.sends
acks_none c id from xs xs' None turn h = subst (λ (t : Move). NoHint t.sends) (sym h.0) none_sent
acks_none c id from xs xs' (Some w) turn (w', (is, next), same) = subst (λ (t : Move). NoHint t.sends) (sym is) none_sent

quiet_none : (turn : Move) → turn ≡ quiet_move → NoHint turn.sends
quiet_none turn is = subst (λ (t : Move). NoHint t.sends) (sym is) none_sent

rows_none : (id : ReqId) (r : OpenRead) (turn : Move) → TellsRows id r turn → NoHint turn.sends
rows_none id r turn (rows, more, shown, is) = subst (λ (t : Move). NoHint t.sends) (sym is) none_sent

awaits_none : (id : ReqId) (r r' : OpenRead) (ks : List ℕ) (sent turn : Move) → NoHint sent.sends → AwaitsMends id r ks sent turn r' → NoHint turn.sends
awaits_none id r r' [] sent turn none h = rows_none id r turn h
awaits_none id r r' (k ∷ ks) sent turn none h = subst (λ (t : Move). NoHint t.sends) (sym h.0) none

counts_none : (b : Bool) (c : Setting) (id : ReqId) (r r' : OpenRead) (turn : Move) → MatchBool b ((turn ≡ quiet_move) × (r' ≡ r)) (AwaitsMends id r (differing c r) (mends id r (differing c r)) turn r') → NoHint turn.sends
counts_none true c id r r' turn h = quiet_none turn h.0
counts_none false c id r r' turn h = awaits_none id r r' (differing c r) (mends id r (differing c r)) turn (to_none id (Mend (mend_of r)) (differing c r) (λ n m e. cc)) h

merges_none : (b : Bool) (c : Setting) (id : ReqId) (from : ℕ) (content : List Held) (r r' : OpenRead) (turn : Move) → MatchBool b ((turn ≡ quiet_move) × (r' ≡ r)) (MergesReply c id from content r turn r') → NoHint turn.sends
merges_none true c id from content r r' turn h = quiet_none turn h.0
merges_none false c id from content r r' turn (n, is, merge, counts) = counts_none (nat_lt (replies_of c n) (read_needs c n)) c id n r' turn counts

replies_none : (c : Setting) (id : ReqId) (from : ℕ) (content : List Held) (xs xs' : List (ReqId × OpenRead)) (o : Option OpenRead) (turn : Move) → Takes (HearsReply c id from content) id xs o turn xs' → NoHint turn.sends
replies_none c id from content xs xs' None turn h = quiet_none turn h.0
replies_none c id from content xs xs' (Some r) turn (r', step, same) = merges_none (is_stray c from r) c id from content r r' turn step

mends_none : (b : Bool) (id : ReqId) (r r' : OpenRead) (ks : List ℕ) (turn : Move) → MatchBool b (AwaitsMends id r ks quiet_move turn r') ((turn ≡ quiet_move) × (r' ≡ r)) → NoHint turn.sends
mends_none true id r r' ks turn h = awaits_none id r r' ks quiet_move turn none_sent h
mends_none false id r r' ks turn h = quiet_none turn h.0

mended_none : (c : Setting) (id : ReqId) (from : ℕ) (xs xs' : List (ReqId × OpenRead)) (o : Option OpenRead) (turn : Move) → Takes (HearsMendAck c id from) id xs o turn xs' → NoHint turn.sends
mended_none c id from xs xs' None turn h = quiet_none turn h.0
mended_none c id from xs xs' (Some r) turn (r', step, same) = mends_none (is_awaited r.mending from) id r r' (mended_by r.mending from) turn step

merge_none : (a : Asker) (m : Mutation) (fits : Bool) (s : NodeState) (o : Effects) (s' : NodeState) → MatchBool fits (TakesChanges a m.partition m.changes MendAck s o s') ((o ≡ nothing) × (s' ≡ s)) → NoHint o.sends
merge_none a m true s o s' h = by_sends o _ h.2 (to_none a.request MendAck (a.from ∷ []) (λ i j e. cc))
merge_none a m false s o s' h = by_sends o _ h.0 none_sent

asks_none : (c : Setting) (id : ReqId) (p : Plan) (l : Level) (r : Option Refusal) (s : NodeState) (o : Effects) (s' : NodeState) → BeginsOrRefuses c id p l r s o s' → NoHint o.sends
asks_none c id (plan.Write d) l None s o s' h = by_sends o _ h.0 (to_none id (Write (mutation_of id d)) _ (λ n m e. cc))
asks_none c id (plan.Read q columns) l None s o s' h = by_sends o _ h.0 (to_none id (Read q) _ (λ n m e. cc))
asks_none c id (plan.Use keyspace) l None s o s' h = by_sends o _ h.0 none_sent
asks_none c id (plan.Invalid fault) l None s o s' h = absurd h
asks_none c id p l (Some r) s o s' h = by_sends o _ h.0 none_sent

ends_read_none : (c : Setting) (id : ReqId) (r : Option OpenRead) (s : NodeState) (o : Effects) (s' : NodeState) → EndsRead c id r s o s' → NoHint o.sends
ends_read_none c id None s o s' h = by_sends o _ h.0 none_sent
ends_read_none c id (Some r) s o s' h = by_sends o _ h.0 none_sent

ends_none : (c : Setting) (id : ReqId) (w : Option OpenWrite) (s : NodeState) (o : Effects) (s' : NodeState) → Ends c id w s o s' → NoHint o.sends
ends_none c id None s o s' h = ends_read_none c id (open_at s.reads id) s o s' h
ends_none c id (Some w) s o s' h = by_sends o _ h.0 none_sent

-- ---- what sends one

record AckBy (c : Setting) (s : NodeState) (a : Act) (peer : ℕ) : Type 0 where
  pub from : Incoming
  pub number : ℕ
  pub act : a ≡ Hears from
  pub body : from.body ≡ HintAck number
  pub peers : from.from ≡ peer
  pub young : is_old c s.risen from.born ≡ false
  pub last : is_last s peer number ≡ true

record Sender (c : Setting) (k : ℕ) (s : NodeState) (a : Act) (s' : NodeState) (y : Outbound) : Type 0 where
  pub by : (a ≡ Marks y.upto true) ⊎ AckBy c s a y.upto
  pub kept : hint.Hint
  pub first : Contains (first_hints c s' y.upto) kept
  pub is : send_hint k kept ≡ y

ack_from : (c : Setting) (t : Bool) (s : NodeState) (a n k : ℕ) (y : Outbound) → Contains (if t then sends_hints c k (hint_done s a n) a else []) y → (t ≡ true) × ((h : hint.Hint) × Contains (first_hints c (acked_by c t s a n) a) h × (send_hint k h ≡ y))
ack_from c true s a n k y h = (refl, contains_from_map (send_hint k) (first_hints c (hint_done s a n) a) y h)
ack_from c false s a n k y h = absurd (contains_nil y h)

-- its peer is the one to which it goes
goes_to : (c : Setting) (k : ℕ) (s : NodeState) (p : ℕ) (h : hint.Hint) (y : Outbound) → Contains (first_hints c s p) h → send_hint k h ≡ y → p ≡ y.upto
goes_to c k s p h y there is = sym (eqb-true h.peer p (first_from c s p h there).2) ∙ ap (λ (z : Outbound). z.upto) is

ack_sender : (c : Setting) (k : ℕ) (m : Incoming) (n : ℕ) (s : NodeState) (o : Effects) (s' : NodeState) (y : Outbound) → m.body ≡ HintAck n → is_old c s.risen m.born ≡ false → HearsBody c k (asker_of m) (HintAck n) s o s' → Contains o.sends y → Sender c k s (Hears m) s' y
ack_sender c k m n s o s' y body young h there =
    let x = ack_from c (is_last s m.from n) s m.from n k y (subst (λ (z : Effects). Contains z.sends y) h.0 there) in
    let kept : Contains (first_hints c s' m.from) x.1.0 = subst (λ (z : NodeState). Contains (first_hints c z m.from) x.1.0) (sym h.1) x.1.1 in
    let upto = goes_to c k s' m.from x.1.0 y kept x.1.2 in
    record {
      by = inr (record { from = m; number = n; act = refl; body = body; peers = upto; young = young; last = subst (λ (p : ℕ). is_last s p n ≡ true) upto x.0 });
      kept = x.1.0;
      first = subst (λ (p : ℕ). Contains (first_hints c s' p) x.1.0) upto kept;
      is = x.1.2;
    }

body_sender : (c : Setting) (k : ℕ) (m : Incoming) (b : Body) (s : NodeState) (o : Effects) (s' : NodeState) (y : Outbound) (n : ℕ) (u : Mutation) → m.body ≡ b → is_old c s.risen m.born ≡ false → HearsBody c k (asker_of m) b s o s' → Contains o.sends y → y.body ≡ Hint n u
    → Sender c k s (Hears m) s' y
body_sender c k m (Write w) s o s' y n u body young h there is = absurd (by_sends o _ h.2 (to_none m.request WriteAck (m.from ∷ []) (λ i j e. cc)) y n u there is)
body_sender c k m WriteAck s o s' y n u body young (turn, moves, same, rest) there is = absurd (by_sends o _ same (acks_none c m.request m.from s.writes s'.writes (open_at s.writes m.request) turn moves) y n u there is)
body_sender c k m (Read q) s o s' y n u body young h there is = absurd (by_sends o _ h.2 (to_none m.request (ReadReply h.0) (m.from ∷ []) (λ i j e. cc)) y n u there is)
body_sender c k m (ReadReply content) s o s' y n u body young (turn, moves, same, rest) there is = absurd (by_sends o _ same (replies_none c m.request m.from content s.reads s'.reads (open_at s.reads m.request) turn moves) y n u there is)
body_sender c k m (Mend w) s o s' y n u body young h there is = absurd (merge_none (asker_of m) w (write_fits c w) s o s' h y n u there is)
body_sender c k m MendAck s o s' y n u body young (turn, moves, same, rest) there is = absurd (by_sends o _ same (mended_none c m.request m.from s.reads s'.reads (open_at s.reads m.request) turn moves) y n u there is)
body_sender c k m (Hint number w) s o s' y n u body young h there is = absurd (by_sends o _ h.2 (to_none m.request (HintAck number) (m.from ∷ []) (λ i j e. cc)) y n u there is)
body_sender c k m (HintAck number) s o s' y n u body young h there is = ack_sender c k m number s o s' y body young h there

comes_sender : (c : Setting) (k : ℕ) (m : Incoming) (old : Bool) (s : NodeState) (o : Effects) (s' : NodeState) (y : Outbound) (n : ℕ) (u : Mutation) → is_old c s.risen m.born ≡ old → MatchBool old ((o ≡ nothing) × (s' ≡ s)) (HearsBody c k (asker_of m) m.body s o s') → Contains o.sends y → y.body ≡ Hint n u
    → Sender c k s (Hears m) s' y
comes_sender c k m true s o s' y n u old h there is = absurd (by_sends o nothing h.0 none_sent y n u there is)
comes_sender c k m false s o s' y n u old h there is = body_sender c k m m.body s o s' y n u refl old h there is

mark_sender : (c : Setting) (k : ℕ) (s : NodeState) (p : ℕ) (s' : NodeState) (y : Outbound) → first_hints c s' p ≡ first_hints c s p → Contains (sends_hints c k s p) y → Sender c k s (Marks p true) s' y
mark_sender c k s p s' y same there =
    let x = contains_from_map (send_hint k) (first_hints c s p) y there in
    let upto = goes_to c k s p x.0 y x.1 x.2 in
    record {
      by = inl (ap (λ (q : ℕ). Marks q true) upto);
      kept = x.0;
      first = subst (λ (q : ℕ). Contains (first_hints c s' q) x.0) upto (subst (λ (f : List hint.Hint). Contains f x.0) (sym same) x.1);
      is = x.2;
    }

does_sender : (c : Setting) (k : ℕ) (s : NodeState) (a : Act) (o : Effects) (s' : NodeState) (y : Outbound) (n : ℕ) (u : Mutation) → Does c k s a o s' → Contains o.sends y → y.body ≡ Hint n u → Sender c k s a s' y
does_sender c k s (Rises t) o s' y n u h there is = absurd (by_sends o nothing h.1 none_sent y n u there is)
does_sender c k s (Hears m) o s' y n u h there is = comes_sender c k m (is_old c s.risen m.born) s o s' y n u refl h there is
does_sender c k s (Asks ask) o s' y n u h there is =
    absurd (asks_none c (request_at k s.risen) ask.plan ask.level (refusal_of c s (request_at k s.risen) ask.plan ask.level) s o s' h y n u there is)
does_sender c k s (Marks p true) o s' y n u h there is = mark_sender c k s p s' y (ap (λ (z : NodeState). first_hints c z p) h.1) (subst (λ (z : Effects). Contains z.sends y) h.0 there)
does_sender c k s (Marks p false) o s' y n u h there is = absurd (by_sends o _ h.0 none_sent y n u there is)
does_sender c k s (DeadlineComes id) o s' y n u h there is = absurd (ends_none c id (open_at s.writes id) s o s' h y n u there is)
does_sender c k s (HintExpires p number) o s' y n u h there is = absurd (by_sends o nothing h.0 none_sent y n u there is)

-- ---- a step

cons_more : (f d : Deed) (xs front back : List Deed) → xs ≡ front ++ d ∷ back → f ∷ xs ≡ (f ∷ front) ++ d ∷ back
cons_more f d xs front back is = ap (λ (ys : List Deed). f ∷ ys) is

cons_here : (f d : Deed) (xs : List Deed) → f ≡ d → f ∷ xs ≡ [] ++ d ∷ xs
cons_here f d xs is = ap (λ (g : Deed). g ∷ xs) is

parted : (deeds : List Deed) (d : Deed) → Contains deeds d → (front : List Deed) × (back : List Deed) × (deeds ≡ front ++ d ∷ back)
parted [] d h = absurd (contains_nil d h)
parted (f ∷ deeds) d h = elim (contains_cases f deeds d h) [
  | inl here ↦ ([], deeds, cons_here f d deeds here)
  | inr there ↦ (let x = parted deeds d there in (f ∷ x.0, x.1, cons_more f d deeds x.0 x.1 x.2))
]

-- the move by which it goes
let_go : (c : Setting) (k peer : ℕ) (hs : List Happening) (front : List Deed) (d : Deed) → waiting_of d.before.batches peer ≡ batch_behind c peer front (batch_at c k peer hs) → (d.act ≡ Marks peer true) ⊎ AckBy c d.before d.act peer → LetsGo c k peer hs front d
let_go c k peer hs front d waits (inl marks) = inl marks
let_go c k peer hs front d waits (inr x) = inr (x.from, x.number, x.act, x.peers, x.body, x.young, ap (λ (w : List ℕ). is_last_of w x.number) (sym waits) ∙ x.last)

message_upto : (k time : ℕ) (y : Outbound) (x : Message) → message_of k time y ≡ x → y.upto ≡ x.upto
message_upto k time y x is = ap (λ (z : Message). z.upto) is

message_is : (k time now : ℕ) (y : Outbound) (x : Message) (h : hint.Hint) → message_of k time y ≡ x → send_hint k h ≡ y → now ≡ time → x ≡ hint_message k now h
message_is k time now y x h is from same = sym is ∙ ap (λ (z : Outbound). message_of k time z) (sym from) ∙ ap (λ (t : ℕ). hint_message k t h) (sym same)

body_of : (k time : ℕ) (y : Outbound) (x : Message) (n : ℕ) (u : Mutation) → message_of k time y ≡ x → x.body ≡ Hint n u → y.body ≡ Hint n u
body_of k time y x n u is body = ap (λ (z : Message). z.body) is ∙ body

waits_so : (c : Setting) (k peer : ℕ) (s : NodeState) (hs : List Happening) (front : List Deed) (d : Deed) → waiting_of d.before.batches peer ≡ batch_behind c peer front (waiting_of s.batches peer) → HasBatches c k s hs
    → waiting_of d.before.batches peer ≡ batch_behind c peer front (batch_at c k peer hs)
waits_so c k peer s hs front d before has = before ∙ ap (λ (w : List ℕ). batch_behind c peer front w) (has peer)

step_then : (c : Setting) (k : ℕ) (s : NodeState) (hs : List Happening) (e : Event) (deeds : List Deed) (o : Outputs) (s' : NodeState) → HasBatches c k s hs → NodeStep c k s e deeds o s' → SendsThen c k e deeds o hs
step_then c k s hs e deeds o s' has step = record {
  only = λ x n u there body.
      let ms = matters_of c k s e step.due in
      let time : o.time ≡ s'.time = ap (λ (z : Outputs). z.time) step.outputs in
      let out = contains_from_map (message_of k s'.time) (filter (λ (y : Outbound). not (y.upto == k)) (flat_map sends_of deeds)) x (subst (λ (z : Outputs). Contains z.sends x) step.outputs there) in
      let y : Outbound = out.0 in
      let is : message_of k s'.time y ≡ x = out.2 in
      let d = contains_from_flat sends_of deeds y (contains_from_filter (λ (z : Outbound). not (z.upto == k)) (flat_map sends_of deeds) y out.1).0 in
      let does = deeds_do c k s ms deeds s' [] [] step.moves d.0 d.1 in
      let by = does_sender c k d.0.before d.0.act d.0.effects d.0.after y n u does d.2 (body_of k s'.time y x n u is body) in
      let p = parted deeds d.0 d.1 in
      let upto = message_upto k s'.time y x is in
      let waits = waits_so c k y.upto s hs p.0 d.0 (chain_before c k y.upto s ms deeds s' [] [] step.moves p.0 p.1 d.0 p.2) has in (
        p.0,
        p.1,
        d.0,
        by.kept,
        p.2,
        subst (λ (q : ℕ). LetsGo c k q hs p.0 d.0) upto (let_go c k y.upto hs p.0 d.0 waits by.by),
        subst (λ (q : ℕ). Contains (first_hints c d.0.after q) by.kept) upto by.first,
        message_is k s'.time o.time y x by.kept is by.is time,
      );
}

-- ---- runs

pub hints_sent : (c : Setting) (w : World) (run : Run c w) → EachStep (SendsThen c) (story c w run)
hints_sent c _ fresh = tt
hints_sent c _ (went_on w w' k e run x) = (step_then c k x.before (story c w run) e x.deeds x.outputs x.after ((batched c w run).has k x.before x.at) x.step, hints_sent c w run)
hints_sent c _ (stopped_in w w' k e made failed run x) = hints_sent c w run
hints_sent c _ (stopped w w' k run x) = hints_sent c w run
hints_sent c _ (load w w' k run x) = hints_sent c w run
hints_sent c _ (load_failed w w' k run x) = hints_sent c w run
hints_sent c _ (turned w w' k run x) = hints_sent c w run

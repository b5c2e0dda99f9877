-- What a reader of a chronicle finds to be submitted under an id, and who submits it.
use Rattle.std.proofs.Common.{◌≡◌, ◌≢◌, ℕ, ◌⊎◌, inl, inr, Bool, true, false, Option, Some, None, List, [], ◌∷◌, ◌++◌, refl, sym, ap, subst, ◌∙◌, Contains}
use Rattle.std.specs.Prelude.{◌==◌, ◌&&◌, nat_lt, if◌then◌else◌, MatchBool}
use Rattle.std.proofs.lemmas.Bool.{eqb-true, eq-eqb}
use Rattle.cs_base.specs.declared.ids.ReqId.{ReqId}
use Rattle.cs_base.specs.declared.level.Level.{Level}
use Rattle.cs_base.specs.Requests.{is_request}
use Rattle.changes.specs.declared.Held.{Held}
use Rattle.changes.specs.declared.Mutation.{Mutation}
use Rattle.changes.specs.Drafts.{mutation_of}
use Rattle.cs_base.proofs.Members.{contains_nil, contains_cases, contains_here, contains_there, contains_one}
use Rattle.changes.proofs.Ranks.{request_made}
use Rattle.peer_messages.specs.declared.event.Plan.{Plan}
use Rattle.peer_messages.specs.declared.event.Plan.TheVariants as plan
use Rattle.peer_messages.specs.declared.message.Body.{Body}
use Rattle.peer_messages.specs.declared.message.Body.TheVariants.{Write, WriteAck, Read, ReadReply, Mend, MendAck, Hint, HintAck}
use Rattle.peer_messages.specs.declared.chronicle.Entry.{Entry}
use Rattle.peer_messages.specs.declared.chronicle.Entry.TheVariants.{Asked, Submitted, Acked, Refused, Used, Began, Rows, Marks as Marked, Time, Turned, Tables, Stopped}
use Rattle.peer_messages.specs.declared.chronicle.Refusal.{Refusal}
use Rattle.peer_messages.specs.declared.chronicle.Refusal.TheVariants.{WriteTimeout}
use Rattle.peer_messages.specs.declared.outcome.Move.{Move}
use Rattle.peer_messages.specs.declared.setting.Setting.{Setting}
use Rattle.peer_messages.specs.Moves.{quiet}
use Rattle.node_steps.specs.State.{NodeState, OpenWrite, OpenRead}
use Rattle.node_steps.specs.Effects.{Effects, nothing, open_at, Takes}
use Rattle.node_steps.specs.Replicas.{Asker}
use Rattle.node_steps.specs.Requests.{refusal_of, Begins, BeginsOrRefuses}
use Rattle.node_steps.specs.Writes.{acks_of, write_needs, is_enough, heard_write, ack_told, ack_turn, HearsAck}
use Rattle.node_steps.specs.Fitting.{write_fits}
use Rattle.node_steps.specs.Reads.{HearsReply, TellsRows, MergesReply, is_stray, heard_by, replies_of, read_needs, differing, mends, AwaitsMends, is_awaited, mended_by, HearsMendAck}
use Rattle.node_steps.specs.Acts.{Act, Rises, Hears, Asks, Marks, DeadlineComes, HintExpires, Incoming, Does, HearsBody, TakesChanges, Ends, EndsRead, request_at, is_old, asker_of}
use Rattle.cluster_runs.specs.Chronicle.{submission_of}
use Rattle.cluster_runs.specs.Trace.{IsTold}

-- ---- ids

both_true : (a b : Bool) → (a && b) ≡ true → (a ≡ true) × (b ≡ true)
both_true true b h = (refl, h)
both_true false b h = cc

pub same_request : (a b : ReqId) → is_request a b ≡ true → a ≡ b
same_request a b h =
    let both = both_true (a.node == b.node) (a.time == b.time) h in
    request_made (eqb-true a.node b.node both.0) (eqb-true a.time b.time both.1)

pub itself : (a : ReqId) → is_request a a ≡ true
itself a = ap (λ (b : Bool). b && (a.time == a.time)) (eq-eqb a.node a.node refl) ∙ eq-eqb a.time a.time refl

pub is_not : (b : Bool) → (b ≡ true → ⊥) → b ≡ false
is_not true h = absurd (h refl)
is_not false h = refl

-- ---- entries that submit nothing under an id

-- what the entry submits is of node k
abbrev pub IsOwn : ℕ → Entry → Type 0
IsOwn k (Submitted id m) = id.node ≡ k
IsOwn k (Asked r) = Unit {0}
IsOwn k (Acked r l heard) = Unit {0}
IsOwn k (Refused r refusal) = Unit {0}
IsOwn k (Used r keyspace) = Unit {0}
IsOwn k (Began r q l columns) = Unit {0}
IsOwn k (Rows r rows more grounds) = Unit {0}
IsOwn k (Marked j alive) = Unit {0}
IsOwn k (Time j t) = Unit {0}
IsOwn k (Turned j refusal) = Unit {0}
IsOwn k (Tables j n) = Unit {0}
IsOwn k (Stopped j) = Unit {0}

abbrev pub AreOwn : ℕ → List Entry → Type 0
AreOwn k es = (e : Entry) → Contains es e → IsOwn k e

apart_head : (k : ℕ) (e : Entry) (es : List Entry) (id : ReqId) → IsOwn k e → id.node ≢ k → submission_of (e ∷ es) id ≡ submission_of es id
apart_head k (Submitted r m) es id own other =
    ap (λ (b : Bool). if b then Some m else submission_of es id) (is_not (is_request r id) (λ t. other (ap (λ (x : ReqId). x.node) (sym (same_request r id t)) ∙ own)))
apart_head k (Asked r) es id own other = refl
apart_head k (Acked r l heard) es id own other = refl
apart_head k (Refused r refusal) es id own other = refl
apart_head k (Used r keyspace) es id own other = refl
apart_head k (Began r q l columns) es id own other = refl
apart_head k (Rows r rows more grounds) es id own other = refl
apart_head k (Marked j alive) es id own other = refl
apart_head k (Time j t) es id own other = refl
apart_head k (Turned j refusal) es id own other = refl
apart_head k (Tables j n) es id own other = refl
apart_head k (Stopped j) es id own other = refl

-- what node k enters changes nothing of what was submitted at another node
pub submission_apart : (k : ℕ) (es earlier : List Entry) (id : ReqId) → AreOwn k es → id.node ≢ k → submission_of (es ++ earlier) id ≡ submission_of earlier id
submission_apart k [] earlier id own other = refl
submission_apart k (e ∷ es) earlier id own other =
    apart_head k e (es ++ earlier) id (own e (contains_here e es)) other ∙ submission_apart k es earlier id (λ x h. own x (contains_there e es x h)) other

-- ---- what is told

pub is_told : (chronicle : List Entry) (e : Entry) → ((id : ReqId) (m : Mutation) → e ≡ Submitted id m → submission_of chronicle id ≡ Some m) → IsTold chronicle e
is_told chronicle (Submitted id m) h = h id m refl
is_told chronicle (Asked r) h = tt
is_told chronicle (Acked r l heard) h = tt
is_told chronicle (Refused r refusal) h = tt
is_told chronicle (Used r keyspace) h = tt
is_told chronicle (Began r q l columns) h = tt
is_told chronicle (Rows r rows more grounds) h = tt
is_told chronicle (Marked k alive) h = tt
is_told chronicle (Time k t) h = tt
is_told chronicle (Turned k refusal) h = tt
is_told chronicle (Tables k n) h = tt
is_told chronicle (Stopped k) h = tt

-- ---- the only one under an id

none_head : (e : Entry) (es : List Entry) (id : ReqId) (m : Mutation) → ((n : Mutation) → e ≡ Submitted id n → ⊥) → submission_of es id ≡ Some m → submission_of (e ∷ es) id ≡ Some m
none_head (Submitted r n) es id m none rest =
    ap (λ (b : Bool). if b then Some n else submission_of es id) (is_not (is_request r id) (λ t. none n (ap (λ (x : ReqId). Submitted x n) (same_request r id t)))) ∙ rest
none_head (Asked r) es id m none rest = rest
none_head (Acked r l heard) es id m none rest = rest
none_head (Refused r refusal) es id m none rest = rest
none_head (Used r keyspace) es id m none rest = rest
none_head (Began r q l columns) es id m none rest = rest
none_head (Rows r rows more grounds) es id m none rest = rest
none_head (Marked j alive) es id m none rest = rest
none_head (Time j t) es id m none rest = rest
none_head (Turned j refusal) es id m none rest = rest
none_head (Tables j n) es id m none rest = rest
none_head (Stopped j) es id m none rest = rest

here_head : (id : ReqId) (m : Mutation) (es : List Entry) → submission_of (Submitted id m ∷ es) id ≡ Some m
here_head id m es = ap (λ (b : Bool). if b then Some m else submission_of es id) (itself id)

false_true : false ≡ true → ⊥
false_true e = cc

submitted_under : (b : Bool) (r : ReqId) (n : Mutation) (id : ReqId) → is_request r id ≡ b → ((k : Mutation) × (Submitted r n ≡ Submitted id k)) ⊎ ((k : Mutation) → Submitted r n ≡ Submitted id k → ⊥)
submitted_under true r n id test = inl (n, ap (λ (x : ReqId). Submitted x n) (same_request r id test))
submitted_under false r n id test = inr (λ k e. let same : r ≡ id = cc in false_true (sym test ∙ ap (λ (x : ReqId). is_request x id) same ∙ itself id))

-- whether the entry submits something under the id
submits_or_not : (e : Entry) (id : ReqId) → ((n : Mutation) × (e ≡ Submitted id n)) ⊎ ((n : Mutation) → e ≡ Submitted id n → ⊥)
submits_or_not (Submitted r n) id = submitted_under (is_request r id) r n id refl
submits_or_not (Asked r) id = inr (λ n e. cc)
submits_or_not (Acked r l heard) id = inr (λ n e. cc)
submits_or_not (Refused r refusal) id = inr (λ n e. cc)
submits_or_not (Used r keyspace) id = inr (λ n e. cc)
submits_or_not (Began r q l columns) id = inr (λ n e. cc)
submits_or_not (Rows r rows more grounds) id = inr (λ n e. cc)
submits_or_not (Marked j alive) id = inr (λ n e. cc)
submits_or_not (Time j t) id = inr (λ n e. cc)
submits_or_not (Turned j refusal) id = inr (λ n e. cc)
submits_or_not (Tables j n) id = inr (λ n e. cc)
submits_or_not (Stopped j) id = inr (λ n e. cc)

pub only_submission : (es earlier : List Entry) (id : ReqId) (m : Mutation) → Contains es (Submitted id m) → ((n : Mutation) → Contains es (Submitted id n) → n ≡ m) → submission_of (es ++ earlier) id ≡ Some m
only_submission [] earlier id m h only = absurd (contains_nil _ h)
only_submission (e ∷ es) earlier id m h only = elim (submits_or_not e id) [
  | inl (n, is) ↦
      subst (λ (x : Entry). submission_of (x ∷ es ++ earlier) id ≡ Some m) (sym is)
      (here_head id n (es ++ earlier) ∙ ap (λ (x : Mutation). Some x) (only n (subst (λ (x : Entry). Contains (e ∷ es) x) is (contains_here e es))))
  | inr none ↦ elim (contains_cases e es (Submitted id m) h) [
    | inl here ↦ absurd (none m here)
    | inr rest ↦ none_head e (es ++ earlier) id m none (only_submission es earlier id m rest (λ n c. only n (contains_there e es (Submitted id n) c)))
  ]
]

-- ---- what a move submits

-- these entries submit nothing
abbrev pub SubmitNothing : List Entry → Type 0
SubmitNothing es = (id : ReqId) (m : Mutation) → Contains es (Submitted id m) → ⊥

none_in_nil : SubmitNothing []
none_in_nil id m h = contains_nil _ h

none_in_acked : (r : ReqId) (l : Level) (heard : List ℕ) → SubmitNothing (Acked r l heard ∷ [])
none_in_acked r l heard id m h = let e : Acked r l heard ≡ Submitted id m = contains_one _ _ h in cc

none_in_rows : (id : ReqId) (r : OpenRead) (turn : Move) → TellsRows id r turn → SubmitNothing turn.entries
none_in_rows id r turn (rows, more, shown, is) =
    subst (λ (t : Move). SubmitNothing t.entries) (sym is) (λ i m h. let x : Rows id rows more (record { heard = heard_by r; merged = r.merged }) ≡ Submitted i m = contains_one _ _ h in cc)

none_in_quiet : (turn : Move) → turn ≡ quiet → SubmitNothing turn.entries
none_in_quiet turn is = subst (λ (t : Move). SubmitNothing t.entries) (sym is) none_in_nil

none_in_told : (answered enough : Bool) (id : ReqId) (w : OpenWrite) → SubmitNothing (ack_told answered enough id w)
none_in_told true enough id w = none_in_nil
none_in_told false true id w = none_in_acked id w.level w.heard
none_in_told false false id w = none_in_nil

none_in_turn : (c : Setting) (id : ReqId) (w : OpenWrite) → SubmitNothing (ack_turn c id w).entries
none_in_turn c id w = none_in_told w.answered (is_enough c w) id w

ack_takes : (c : Setting) (id : ReqId) (from : ℕ) (xs xs' : List (ReqId × OpenWrite)) (o : Option OpenWrite) (turn : Move) → Takes (HearsAck c id from) id xs o turn xs' → SubmitNothing turn.entries
ack_takes c id from xs xs' None turn h = none_in_quiet turn h.0
ack_takes c id from xs xs' (Some w) turn (w', (is, same), after) = subst (λ (t : Move). SubmitNothing t.entries) (sym is) (none_in_turn c id (heard_write c from w))

awaits_mends : (id : ReqId) (r r' : OpenRead) (ks : List ℕ) (sent turn : Move) → SubmitNothing sent.entries → AwaitsMends id r ks sent turn r' → SubmitNothing turn.entries
awaits_mends id r r' [] sent turn none h = none_in_rows id r turn h
awaits_mends id r r' (k ∷ ks) sent turn none h = subst (λ (t : Move). SubmitNothing t.entries) (sym h.0) none

reply_counts : (b : Bool) (c : Setting) (id : ReqId) (r r' : OpenRead) (turn : Move) → MatchBool b ((turn ≡ quiet) × (r' ≡ r)) (AwaitsMends id r (differing c r) (mends id r (differing c r)) turn r') → SubmitNothing turn.entries
reply_counts true c id r r' turn h = none_in_quiet turn h.0
reply_counts false c id r r' turn h = awaits_mends id r r' (differing c r) (mends id r (differing c r)) turn none_in_nil h

reply_merges : (b : Bool) (c : Setting) (id : ReqId) (from : ℕ) (content : List Held) (r r' : OpenRead) (turn : Move) → MatchBool b ((turn ≡ quiet) × (r' ≡ r)) (MergesReply c id from content r turn r') → SubmitNothing turn.entries
reply_merges true c id from content r r' turn h = none_in_quiet turn h.0
reply_merges false c id from content r r' turn (n, is, merge, counts) = reply_counts (nat_lt (replies_of c n) (read_needs c n)) c id n r' turn counts

reply_takes : (c : Setting) (id : ReqId) (from : ℕ) (content : List Held) (xs xs' : List (ReqId × OpenRead)) (o : Option OpenRead) (turn : Move) → Takes (HearsReply c id from content) id xs o turn xs' → SubmitNothing turn.entries
reply_takes c id from content xs xs' None turn h = none_in_quiet turn h.0
reply_takes c id from content xs xs' (Some r) turn (r', step, same) = reply_merges (is_stray c from r) c id from content r r' turn step

mend_acked : (b : Bool) (id : ReqId) (r r' : OpenRead) (ks : List ℕ) (turn : Move) → MatchBool b (AwaitsMends id r ks quiet turn r') ((turn ≡ quiet) × (r' ≡ r)) → SubmitNothing turn.entries
mend_acked true id r r' ks turn h = awaits_mends id r r' ks quiet turn none_in_nil h
mend_acked false id r r' ks turn h = none_in_quiet turn h.0

mend_ack_takes : (c : Setting) (id : ReqId) (from : ℕ) (xs xs' : List (ReqId × OpenRead)) (o : Option OpenRead) (turn : Move) → Takes (HearsMendAck c id from) id xs o turn xs' → SubmitNothing turn.entries
mend_ack_takes c id from xs xs' None turn h = none_in_quiet turn h.0
mend_ack_takes c id from xs xs' (Some r) turn (r', step, same) = mend_acked (is_awaited r.mending from) id r r' (mended_by r.mending from) turn step

none_in : (o p : Effects) → o ≡ p → SubmitNothing p.entries → SubmitNothing o.entries
none_in o p is none = subst (λ (x : Effects). SubmitNothing x.entries) (sym is) none

mend_submits : (a : Asker) (m : Mutation) (fits : Bool) (s : NodeState) (o : Effects) (s' : NodeState) → MatchBool fits (TakesChanges a m.partition m.changes MendAck s o s') ((o ≡ nothing) × (s' ≡ s)) → SubmitNothing o.entries
mend_submits a m true s o s' h = none_in o _ h.2 none_in_nil
mend_submits a m false s o s' h = none_in o _ h.0 none_in_nil

body_submits : (c : Setting) (me : ℕ) (a : Asker) (b : Body) (s : NodeState) (o : Effects) (s' : NodeState) → HearsBody c me a b s o s' → SubmitNothing o.entries
body_submits c me a (Write m) s o s' h = none_in o _ h.2 none_in_nil
body_submits c me a WriteAck s o s' (turn, moves, is, same) = none_in o _ is (ack_takes c a.request a.from s.writes s'.writes (open_at s.writes a.request) turn moves)
body_submits c me a (Read q) s o s' h = none_in o _ h.2 none_in_nil
body_submits c me a (ReadReply content) s o s' (turn, moves, is, same) = none_in o _ is (reply_takes c a.request a.from content s.reads s'.reads (open_at s.reads a.request) turn moves)
body_submits c me a (Mend m) s o s' h = mend_submits a m (write_fits c m) s o s' h
body_submits c me a MendAck s o s' (turn, moves, is, same) = none_in o _ is (mend_ack_takes c a.request a.from s.reads s'.reads (open_at s.reads a.request) turn moves)
body_submits c me a (Hint number m) s o s' h = none_in o _ h.2 none_in_nil
body_submits c me a (HintAck number) s o s' h = none_in o _ h.0 none_in_nil

heard_submits : (c : Setting) (me : ℕ) (m : Incoming) (old : Bool) (s : NodeState) (o : Effects) (s' : NodeState) → MatchBool old ((o ≡ nothing) × (s' ≡ s)) (HearsBody c me (asker_of m) m.body s o s') → SubmitNothing o.entries
heard_submits c me m true s o s' h = none_in o _ h.0 none_in_nil
heard_submits c me m false s o s' h = body_submits c me (asker_of m) m.body s o s' h

pub hears_submits : (c : Setting) (k : ℕ) (m : Incoming) (s : NodeState) (o : Effects) (s' : NodeState) → Does c k s (Hears m) o s' → SubmitNothing o.entries
hears_submits c k m s o s' h = heard_submits c k m (is_old c s.risen m.born) s o s' h

pub rises_submits : (c : Setting) (k t : ℕ) (s : NodeState) (o : Effects) (s' : NodeState) → Does c k s (Rises t) o s' → SubmitNothing o.entries
rises_submits c k t s o s' h = none_in o _ h.1 none_in_nil

-- what a request submits
abbrev pub PlanSubmits : ReqId → Plan → ReqId → Mutation → Type 0
PlanSubmits at (plan.Write d) id m = (id ≡ at) × (m ≡ mutation_of at d)
PlanSubmits at (plan.Read q columns) id m = ⊥
PlanSubmits at (plan.Use keyspace) id m = ⊥
PlanSubmits at (plan.Invalid fault) id m = ⊥

abbrev pub Submits : ℕ → ℕ → List Act → ReqId → Mutation → Type 0
Submits k t [] id m = ⊥
Submits k t (Asks ask ∷ ms) id m = PlanSubmits (request_at k t) ask.plan id m
Submits k t (Rises time ∷ ms) id m = ⊥
Submits k t (Hears x ∷ ms) id m = Submits k t ms id m
Submits k t (Marks peer up ∷ ms) id m = Submits k t ms id m
Submits k t (DeadlineComes r ∷ ms) id m = Submits k t ms id m
Submits k t (HintExpires peer number ∷ ms) id m = Submits k t ms id m

begins_submits : (c : Setting) (at : ReqId) (p : Plan) (l : Level) (s : NodeState) (o : Effects) (s' : NodeState) → Begins c at p l s o s' → (id : ReqId) (m : Mutation) → Contains o.entries (Submitted id m) → PlanSubmits at p id m
begins_submits c at (plan.Write d) l s o s' (is, same) id m h =
    let e : Submitted at (mutation_of at d) ≡ Submitted id m = contains_one _ _ (subst (λ (x : Effects). Contains x.entries (Submitted id m)) is h) in
    (cc, cc)
begins_submits c at (plan.Read q columns) l s o s' (is, same) id m h =
    let e : Began at q l columns ≡ Submitted id m = contains_one _ _ (subst (λ (x : Effects). Contains x.entries (Submitted id m)) is h) in
    cc
begins_submits c at (plan.Use keyspace) l s o s' (is, same) id m h =
    let e : Used at keyspace ≡ Submitted id m = contains_one _ _ (subst (λ (x : Effects). Contains x.entries (Submitted id m)) is h) in
    cc
begins_submits c at (plan.Invalid fault) l s o s' b id m h = absurd b

refused_not : (at : ReqId) (r : Refusal) (id : ReqId) (m : Mutation) → Refused at r ≡ Submitted id m → ⊥
refused_not at r id m e = cc

plan_submits : (c : Setting) (at : ReqId) (p : Plan) (l : Level) (r : Option Refusal) (s : NodeState) (o : Effects) (s' : NodeState) → BeginsOrRefuses c at p l r s o s' → (id : ReqId) (m : Mutation) → Contains o.entries (Submitted id m) → PlanSubmits at p id m
plan_submits c at p l None s o s' b id m h = begins_submits c at p l s o s' b id m h
plan_submits c at p l (Some r) s o s' (is, same) id m h =
    let e : Refused at r ≡ Submitted id m = contains_one _ _ (subst (λ (x : Effects). Contains x.entries (Submitted id m)) is h) in
    absurd (refused_not at r id m e)

ends_read_submits : (c : Setting) (id : ReqId) (r : Option OpenRead) (s : NodeState) (o : Effects) (s' : NodeState) → EndsRead c id r s o s' → SubmitNothing o.entries
ends_read_submits c id None s o s' h = none_in o _ h.0 none_in_nil
ends_read_submits c id (Some r) s o s' h = none_in o _ h.0 (λ i m there. absurd (refused_not id _ i m (contains_one _ _ there)))

write_end_submits : (b : Bool) (id : ReqId) (r : Refusal) → SubmitNothing (if b then [] else Refused id r ∷ [])
write_end_submits true id r = none_in_nil
write_end_submits false id r = λ i m there. absurd (refused_not id r i m (contains_one _ _ there))

ends_submits : (c : Setting) (id : ReqId) (w : Option OpenWrite) (s : NodeState) (o : Effects) (s' : NodeState) → Ends c id w s o s' → SubmitNothing o.entries
ends_submits c id None s o s' h = ends_read_submits c id (open_at s.reads id) s o s' h
ends_submits c id (Some w) s o s' h = none_in o _ h.0 (write_end_submits w.answered id (WriteTimeout (acks_of c w) (write_needs c w)))

-- of the event's matter, what it submits
pub matter_submits : (c : Setting) (k t : ℕ) (a : Act) (s : NodeState) (o : Effects) (s' : NodeState) → s.risen ≡ t → Does c k s a o s' → (id : ReqId) (m : Mutation) → Contains o.entries (Submitted id m) → Submits k t (a ∷ []) id m
matter_submits c k t (Asks ask) s o s' is d id m h =
    subst (λ (n : ℕ). PlanSubmits (request_at k n) ask.plan id m) is (plan_submits c (request_at k s.risen) ask.plan ask.level (refusal_of c s (request_at k s.risen) ask.plan ask.level) s o s' d id m h)
matter_submits c k t (Rises time) s o s' is d id m h = rises_submits c k time s o s' d id m h
matter_submits c k t (Hears x) s o s' is d id m h = hears_submits c k x s o s' d id m h
matter_submits c k t (Marks peer up) s o s' is d id m h = none_in o _ d.0 none_in_nil id m h
matter_submits c k t (DeadlineComes r) s o s' is d id m h = ends_submits c r (open_at s.writes r) s o s' d id m h
matter_submits c k t (HintExpires peer number) s o s' is d id m h = none_in o _ d.0 none_in_nil id m h

plan_once : (at : ReqId) (p : Plan) (id : ReqId) (m n : Mutation) → PlanSubmits at p id m → PlanSubmits at p id n → n ≡ m
plan_once at (plan.Write d) id m n a b = b.1 ∙ sym a.1
plan_once at (plan.Read q columns) id m n a b = absurd a
plan_once at (plan.Use keyspace) id m n a b = absurd a
plan_once at (plan.Invalid fault) id m n a b = absurd a

pub submits_once : (k t : ℕ) (ms : List Act) (id : ReqId) (m n : Mutation) → Submits k t ms id m → Submits k t ms id n → n ≡ m
submits_once k t [] id m n a b = absurd a
submits_once k t (Asks ask ∷ ms) id m n a b = plan_once (request_at k t) ask.plan id m n a b
submits_once k t (Rises time ∷ ms) id m n a b = absurd a
submits_once k t (Hears x ∷ ms) id m n a b = submits_once k t ms id m n a b
submits_once k t (Marks peer up ∷ ms) id m n a b = submits_once k t ms id m n a b
submits_once k t (DeadlineComes r ∷ ms) id m n a b = submits_once k t ms id m n a b
submits_once k t (HintExpires peer number ∷ ms) id m n a b = submits_once k t ms id m n a b

plan_at : (at : ReqId) (p : Plan) (id : ReqId) (m : Mutation) → PlanSubmits at p id m → id ≡ at
plan_at at (plan.Write d) id m h = h.0
plan_at at (plan.Read q columns) id m h = absurd h
plan_at at (plan.Use keyspace) id m h = absurd h
plan_at at (plan.Invalid fault) id m h = absurd h

pub submits_at : (k t : ℕ) (ms : List Act) (id : ReqId) (m : Mutation) → Submits k t ms id m → id ≡ request_at k t
submits_at k t [] id m a = absurd a
submits_at k t (Asks ask ∷ ms) id m a = plan_at (request_at k t) ask.plan id m a
submits_at k t (Rises time ∷ ms) id m a = absurd a
submits_at k t (Hears x ∷ ms) id m a = submits_at k t ms id m a
submits_at k t (Marks peer up ∷ ms) id m a = submits_at k t ms id m a
submits_at k t (DeadlineComes r ∷ ms) id m a = submits_at k t ms id m a
submits_at k t (HintExpires peer number ∷ ms) id m a = submits_at k t ms id m a

pub submits_own : (k t : ℕ) (ms : List Act) (id : ReqId) (m : Mutation) → Submits k t ms id m → id.node ≡ k
submits_own k t ms id m a = ap (λ (x : ReqId). x.node) (submits_at k t ms id m a)

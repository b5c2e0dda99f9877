-- What is known stays known as a run goes on.
use Rattle.std.proofs.Common.{◌≡◌, ℕ, ◌⊎◌, inl, inr, Bool, true, false, Option, Some, List, [], ◌∷◌, refl, sym, ap, subst, ◌∙◌, Contains}
use Rattle.std.specs.Prelude.{slice_get, if◌then◌else◌}
use Rattle.cs_base.specs.declared.ids.ReqId.{ReqId}
use Rattle.cs_base.specs.declared.level.Level.{Level}
use Rattle.cs_base.specs.Requests.{is_request}
use Rattle.changes.specs.declared.Partition.{Partition}
use Rattle.changes.specs.declared.Held.{Held}
use Rattle.changes.specs.declared.Mutation.{Mutation}
use Rattle.changes.specs.declared.Query.{Query}
use Rattle.row_change.specs.declared.entry.Hint as hint
use Rattle.cs_base.proofs.Members.{contains_here, contains_there}
use Rattle.peer_messages.specs.declared.message.Body.{Body}
use Rattle.peer_messages.specs.declared.message.Body.TheVariants.{Write, WriteAck, Read, ReadReply, Mend, MendAck, Hint, HintAck}
use Rattle.peer_messages.specs.declared.chronicle.Entry.{Entry}
use Rattle.peer_messages.specs.declared.chronicle.Entry.TheVariants.{Asked, Submitted, Acked, Refused, Used, Began, Rows, Marks, Time, Turned, Tables, Stopped}
use Rattle.peer_messages.specs.declared.outcome.Outbound.{Outbound}
use Rattle.peer_messages.specs.declared.setting.Setting.{Setting}
use Rattle.durable_state.specs.State.{changes_of}
use Rattle.node_steps.specs.State.{NodeState, OpenWrite, OpenRead}
use Rattle.node_steps.specs.Hints.{request_of}
use Rattle.node_steps.specs.Acts.{Deed}
use Rattle.cluster_runs.specs.Chronicle.{submission_of, StandsBefore}
use Rattle.cluster_runs.specs.Trace.{Scene}
use Rattle.cluster_runs.proofs.Submissions.{same_request, is_not}
use Rattle.read_consistency.proofs.Facts.{WasBegun, Reaches, HasAll, IsReadOf, IsOf, Sees, Answers, ReplyOk, MendOk, BodyIs, BodyOk, WriteOk, HintOk, ReadOk, NodeOk, AckedOk, EntryOk, Explains}

pub record Grows (w w' : Scene) : Type 0 where
  pub past : (d : Deed) → Contains w.past d → Contains w'.past d
  pub chronicle : (e : Entry) → Contains w.chronicle e → Contains w'.chronicle e
  pub submissions : (id : ReqId) → WasBegun w.past id → submission_of w'.chronicle id ≡ submission_of w.chronicle id
  pub starts : (id : ReqId) (e : Entry) → WasBegun w.past id → StandsBefore w'.chronicle id e → StandsBefore w.chronicle id e
  pub nodes : (j : ℕ) (s' : NodeState) → slice_get w'.nodes j ≡ Some s' → (s : NodeState) × (slice_get w.nodes j ≡ Some s) × ((p : Partition) (x : Held) → Reaches (changes_of s.content) p x → Reaches (changes_of s'.content) p x)

pub begun_on : (w w' : Scene) → Grows w w' → (id : ReqId) → WasBegun w.past id → WasBegun w'.past id
begun_on w w' g id b = (b.0, g.past b.0 b.1, b.2)

pub has_all_on : (w w' : Scene) → Grows w w' → (j : ℕ) (id : ReqId) → WasBegun w.past id → HasAll w j id → HasAll w' j id
has_all_on w w' g j id begun h s' at m sub x there =
    let old = g.nodes j s' at in
    old.2 m.partition x (h old.0 old.1 m (sym (g.submissions id begun) ∙ sub) x there)

pub of_on : (w w' : Scene) → Grows w w' → (p : Partition) (R R' : Held → Type 0) (x : Held) → ((y : Held) → R y → R' y) → IsOf w.chronicle p R x → IsOf w'.chronicle p R' x
of_on w w' g p R R' x more h = record {
  request = h.request;
  mutation = h.mutation;
  submitted = g.chronicle _ h.submitted;
  partition = h.partition;
  there = h.there;
  beside = λ y c b. more y (h.beside y c b);
}

pub read_of_on : (w w' : Scene) → Grows w w' → (id : ReqId) (q : Query) (l : Level) → IsReadOf w.past id q l → IsReadOf w'.past id q l
read_of_on w w' g id q l h = record { deed = h.deed; there = g.past h.deed h.there; at = h.at; columns = h.columns; asks = h.asks; level = h.level }

pub stands_in : (es : List Entry) (id : ReqId) (e : Entry) → StandsBefore es id e → Contains es e
stands_in [] id e h = absurd h
stands_in (x ∷ es) id e (inl h) = contains_there x es e h.1
stands_in (x ∷ es) id e (inr h) = contains_there x es e (stands_in es id e h)

pub sees_on : (c : Setting) (w w' : Scene) → Grows w w' → Explains c w → (read : ReqId) (j : ℕ) (q : Query) (content : List Held) → WasBegun w.past read → Sees w.chronicle read j q content → Sees w'.chronicle read j q content
sees_on c w w' g e read j q content begun h id l heard before there m sub part x in_m in_q =
    let old = g.starts read (Acked id l heard) begun before in
    let acked = e.entries (Acked id l heard) (stands_in w.chronicle read (Acked id l heard) old) in
    h id l heard old there m (sym (g.submissions id acked.begun) ∙ sub) part x in_m in_q

pub answers_on : (w w' : Scene) → Grows w w' → (q : Query) (content : List Held) → Answers w.chronicle q content → Answers w'.chronicle q content
answers_on w w' g q content h = record { of = λ x c. of_on w w' g q.partition _ _ x (λ y r. r) (h.of x c); inside = h.inside }

pub reply_on : (c : Setting) (w w' : Scene) → Grows w w' → Explains c w → (j : ℕ) (id : ReqId) (content : List Held) → WasBegun w.past id → ReplyOk w j id content → ReplyOk w' j id content
reply_on c w w' g e j id content begun h = record {
  query = h.query;
  level = h.level;
  asked = read_of_on w w' g id h.query h.level h.asked;
  answers = answers_on w w' g h.query content h.answers;
  sees = sees_on c w w' g e id j h.query content begun h.sees;
}

pub mend_on : (w w' : Scene) → Grows w w' → (m : Mutation) → MendOk w.chronicle m → MendOk w'.chronicle m
mend_on w w' g m h x there = of_on w w' g m.partition _ _ x (λ y r. r) (h x there)

body_is_on : (c : Setting) (w w' : Scene) → Grows w w' → Explains c w → (j : ℕ) (id : ReqId) (b : Body) → WasBegun w.past id → BodyIs w j id b → BodyIs w' j id b
body_is_on c w w' g e j id (Write m) begun h = g.submissions id begun ∙ h
body_is_on c w w' g e j id WriteAck begun h = has_all_on w w' g j id begun h
body_is_on c w w' g e j id (Read q) begun h = (h.0, read_of_on w w' g id q h.0 h.1)
body_is_on c w w' g e j id (ReadReply content) begun h = reply_on c w w' g e j id content begun h
body_is_on c w w' g e j id (Mend m) begun h = mend_on w w' g m h
body_is_on c w w' g e j id MendAck begun h = tt
body_is_on c w w' g e j id (Hint number m) begun h = g.submissions id begun ∙ h
body_is_on c w w' g e j id (HintAck number) begun h = tt

pub body_on : (c : Setting) (w w' : Scene) → Grows w w' → Explains c w → (j : ℕ) (x : Outbound) → BodyOk w j x → BodyOk w' j x
body_on c w w' g e j x h = record { begun = begun_on w w' g x.request h.begun; is = body_is_on c w w' g e j x.request x.body h.begun h.is }

pub hint_on : (w w' : Scene) → Grows w w' → (k : ℕ) (x : hint.Hint) → HintOk w k x → HintOk w' k x
hint_on w w' g k x h = record { begun = begun_on w w' g (request_of k x) h.begun; is = g.submissions (request_of k x) h.begun ∙ h.is }

pub write_on : (w w' : Scene) → Grows w w' → (k : ℕ) (id : ReqId) (o : OpenWrite) → WriteOk w k id o → WriteOk w' k id o
write_on w w' g k id o h = record {
  mine = h.mine;
  begun = begun_on w w' g id h.begun;
  is = g.submissions id h.begun ∙ h.is;
  heard = λ j c. has_all_on w w' g j id h.begun (h.heard j c);
}

-- a node whose moves are lost goes on to be that one
abbrev pub StaysLosing : Scene → Scene → ℕ → Type 0
StaysLosing w w' k = w.losing ≡ Some k → w'.losing ≡ Some k

-- a request that asks for rows was begun
pub was_begun : (past : List Deed) (id : ReqId) (q : Query) (l : Level) → IsReadOf past id q l → WasBegun past id
was_begun past id q l h = (h.deed, h.there, h.at)

pub read_on : (c : Setting) (w w' : Scene) → Grows w w' → Explains c w → (k : ℕ) → StaysLosing w w' k → (id : ReqId) (o : OpenRead) → ReadOk c w k id o → ReadOk c w' k id o
read_on c w w' g e k stays id o h = record {
  start = elim h.start [
    | inl there ↦ inl (there.0, there.1, there.2, g.chronicle _ there.3)
    | inr loses ↦ inr (stays loses)
  ];
  asked = read_of_on w w' g id o.query o.level h.asked;
  answers = answers_on w w' g o.query o.merged h.answers;
  sees = λ j there. sees_on c w w' g e id j o.query o.merged (was_begun w.past id o.query o.level h.asked) (h.sees j there);
  enough = h.enough;
}

-- a node whose content stays, or reaches more
pub node_on : (c : Setting) (w w' : Scene) → Grows w w' → Explains c w → (k : ℕ) → StaysLosing w w' k → (s : NodeState) → NodeOk c w k s → NodeOk c w' k s
node_on c w w' g e k stays s h = record {
  of = λ p x c. of_on w w' g p _ _ x (λ y r. r) (h.of p x c);
  writes = λ id o c. write_on w w' g k id o (h.writes id o c);
  reads = λ id o there. read_on c w w' g e k stays id o (h.reads id o there);
  hints = λ x there. hint_on w w' g k x (h.hints x there);
}

acked_on : (c : Setting) (w w' : Scene) → Grows w w' → (id : ReqId) (l : Level) (heard : List ℕ) → AckedOk c w id l heard → AckedOk c w' id l heard
acked_on c w w' g id l heard h = record {
  begun = begun_on w w' g id h.begun;
  count = λ m sub. h.count m (sym (g.submissions id h.begun) ∙ sub);
  has = λ j c. has_all_on w w' g j id h.begun (h.has j c);
}

pub entry_on : (c : Setting) (w w' : Scene) → Grows w w' → (e : Entry) → EntryOk c w e → EntryOk c w' e
entry_on c w w' g (Acked id l heard) h = acked_on c w w' g id l heard h
entry_on c w w' g (Submitted id m) h = tt
entry_on c w w' g (Began id q l v) h = read_of_on w w' g id q l h
entry_on c w w' g (Used r keyspace) h = tt
entry_on c w w' g (Asked r) h = tt
entry_on c w w' g (Refused r refusal) h = tt
entry_on c w w' g (Rows r rows more grounds) h = tt
entry_on c w w' g (Marks k alive) h = tt
entry_on c w w' g (Time k t) h = tt
entry_on c w w' g (Turned k refusal) h = tt
entry_on c w w' g (Tables k n) h = tt
entry_on c w w' g (Stopped k) h = tt

-- ---- one entry more

-- an entry that begins a request begins a new one
abbrev pub IsNew : List Deed → Entry → Type 0
IsNew past (Submitted id m) = WasBegun past id → ⊥
IsNew past (Began id q l v) = WasBegun past id → ⊥
IsNew past (Used r keyspace) = Unit {0}
IsNew past (Acked id l heard) = Unit {0}
IsNew past (Asked r) = Unit {0}
IsNew past (Refused r refusal) = Unit {0}
IsNew past (Rows r rows more grounds) = Unit {0}
IsNew past (Marks k alive) = Unit {0}
IsNew past (Time k t) = Unit {0}
IsNew past (Turned k refusal) = Unit {0}
IsNew past (Tables k n) = Unit {0}
IsNew past (Stopped k) = Unit {0}

pub submission_kept : (past : List Deed) (e : Entry) (es : List Entry) (id : ReqId) → IsNew past e → WasBegun past id → submission_of (e ∷ es) id ≡ submission_of es id
submission_kept past (Submitted r m) es id new begun =
    ap (λ (b : Bool). if b then Some m else submission_of es id) (is_not (is_request r id) (λ t. new (subst (λ (x : ReqId). WasBegun past x) (sym (same_request r id t)) begun)))
submission_kept past (Began r q l v) es id new begun = refl
submission_kept past (Used r keyspace) es id new begun = refl
submission_kept past (Acked r l heard) es id new begun = refl
submission_kept past (Asked r) es id new begun = refl
submission_kept past (Refused r refusal) es id new begun = refl
submission_kept past (Rows r rows more grounds) es id new begun = refl
submission_kept past (Marks k alive) es id new begun = refl
submission_kept past (Time k t) es id new begun = refl
submission_kept past (Turned k refusal) es id new begun = refl
submission_kept past (Tables k n) es id new begun = refl
submission_kept past (Stopped k) es id new begun = refl

pub start_kept : (past : List Deed) (x : Entry) (es : List Entry) (id : ReqId) (e : Entry) → IsNew past x → WasBegun past id → StandsBefore (x ∷ es) id e → StandsBefore es id e
start_kept past x es id e new begun (inr h) = h
start_kept past (Began r q l v) es id e new begun (inl h) = absurd (new (subst (λ (x : ReqId). WasBegun past x) (sym h.0) begun))
start_kept past (Used r keyspace) es id e new begun (inl h) = absurd h.0
start_kept past (Submitted r m) es id e new begun (inl h) = absurd h.0
start_kept past (Acked r l heard) es id e new begun (inl h) = absurd h.0
start_kept past (Asked r) es id e new begun (inl h) = absurd h.0
start_kept past (Refused r refusal) es id e new begun (inl h) = absurd h.0
start_kept past (Rows r rows more grounds) es id e new begun (inl h) = absurd h.0
start_kept past (Marks k alive) es id e new begun (inl h) = absurd h.0
start_kept past (Time k t) es id e new begun (inl h) = absurd h.0
start_kept past (Turned k refusal) es id e new begun (inl h) = absurd h.0
start_kept past (Tables k n) es id e new begun (inl h) = absurd h.0
start_kept past (Stopped k) es id e new begun (inl h) = absurd h.0

-- what was submitted last was submitted
submission_cases : (b : Bool) (r id : ReqId) (m : Mutation) (o : Option Mutation) (n : Mutation) → is_request r id ≡ b → (if b then Some m else o) ≡ Some n → ((r ≡ id) × (m ≡ n)) ⊎ (o ≡ Some n)
submission_cases true r id m o n test h = inl (same_request r id test, cc)
submission_cases false r id m o n test h = inr h

pub submission_in : (es : List Entry) (id : ReqId) (m : Mutation) → submission_of es id ≡ Some m → Contains es (Submitted id m)
submission_in [] id m h = cc
submission_in (Submitted r n ∷ es) id m h = elim (submission_cases (is_request r id) r id n (submission_of es id) m refl h) [
  | inl (same, is) ↦ subst (λ (e : Entry). Contains (Submitted r n ∷ es) e) (ap (λ (x : ReqId). Submitted x n) same ∙ ap (λ (x : Mutation). Submitted id x) is) (contains_here (Submitted r n) es)
  | inr rest ↦ contains_there (Submitted r n) es _ (submission_in es id m rest)
]
submission_in (Began r q l v ∷ es) id m h = contains_there (Began r q l v) es _ (submission_in es id m h)
submission_in (Used r keyspace ∷ es) id m h = contains_there (Used r keyspace) es _ (submission_in es id m h)
submission_in (Acked r l heard ∷ es) id m h = contains_there (Acked r l heard) es _ (submission_in es id m h)
submission_in (Asked r ∷ es) id m h = contains_there (Asked r) es _ (submission_in es id m h)
submission_in (Refused r refusal ∷ es) id m h = contains_there (Refused r refusal) es _ (submission_in es id m h)
submission_in (Rows r rows more grounds ∷ es) id m h = contains_there (Rows r rows more grounds) es _ (submission_in es id m h)
submission_in (Marks k alive ∷ es) id m h = contains_there (Marks k alive) es _ (submission_in es id m h)
submission_in (Time k t ∷ es) id m h = contains_there (Time k t) es _ (submission_in es id m h)
submission_in (Turned k refusal ∷ es) id m h = contains_there (Turned k refusal) es _ (submission_in es id m h)
submission_in (Tables k n ∷ es) id m h = contains_there (Tables k n) es _ (submission_in es id m h)
submission_in (Stopped k ∷ es) id m h = contains_there (Stopped k) es _ (submission_in es id m h)

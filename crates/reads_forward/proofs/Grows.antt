-- What is known stays known as a run goes on.
use Rattle.std.proofs.Common.{◌≡◌, ℕ, ◌⊎◌, inl, inr, Some, List, [], ◌∷◌, ◌++◌, refl, sym, subst, Contains}
use Rattle.std.specs.Prelude.{slice_get}
use Rattle.cs_base.specs.declared.ids.ReqId.{ReqId}
use Rattle.cs_base.specs.declared.level.Level.{Level}
use Rattle.cs_base.proofs.Members.{contains_cases, contains_here, contains_there}
use Rattle.changes.specs.declared.Partition.{Partition}
use Rattle.changes.specs.declared.Held.{Held}
use Rattle.changes.specs.declared.Mutation.{Mutation}
use Rattle.changes.specs.declared.Query.{Query}
use Rattle.statement_plan.specs.declared.plan.Columns.{Columns}
use Rattle.peer_messages.specs.declared.message.Body.{Body}
use Rattle.peer_messages.specs.declared.message.Body.TheVariants.{Write, WriteAck, Read, ReadReply, Mend, MendAck, Hint, HintAck}
use Rattle.peer_messages.specs.declared.chronicle.Entry.{Entry}
use Rattle.peer_messages.specs.declared.chronicle.Entry.TheVariants.{Asked, Submitted, Acked, Refused, Used, Began, Rows, Marks, Time, Turned, Tables, Stopped}
use Rattle.peer_messages.specs.declared.setting.Setting.{Setting}
use Rattle.durable_state.specs.State.{changes_of}
use Rattle.node_steps.specs.State.{NodeState, OpenRead}
use Rattle.node_steps.specs.Acts.{Deed}
use Rattle.cluster_runs.specs.Chronicle.{StandsBefore}
use Rattle.cluster_runs.specs.Trace.{Scene}
use Rattle.read_consistency.proofs.Facts.{WasBegun, Reaches}
use Rattle.read_consistency.proofs.Grows.{stands_in}
use Rattle.reads_forward.proofs.Facts.{IsQueryOf, ReachesAll, SeesAnswers, IsFixed, IsMergeAt, HasMerge, ReplyAhead, BodyAhead, ReadAhead, NodeAhead, EntryAhead, Ahead}

-- the node reaches what it reached
abbrev pub Grown : NodeState → NodeState → Type 0
Grown s s' = (p : Partition) (x : Held) → Reaches (changes_of s.content) p x → Reaches (changes_of s'.content) p x

-- a merge that is fixed stays as it is
abbrev pub Follows : OpenRead → OpenRead → Type 0
Follows o u = IsFixed o → IsFixed u × (u.merged ≡ o.merged) × (u.query ≡ o.query)

-- an open read is new, or follows on one that was open
abbrev pub FollowOn : List Deed → List (ReqId × OpenRead) → List (ReqId × OpenRead) → Type 0
FollowOn past xs xs' = (id : ReqId) (u : OpenRead) → Contains xs' (id, u) → (WasBegun past id → ⊥) ⊎ ((o : OpenRead) × Contains xs (id, o) × Follows o u)

pub record Grows (w w' : Scene) : Type 0 where
  pub past : (d : Deed) → Contains w.past d → Contains w'.past d
  pub begins : (id : ReqId) (q : Query) (l : Level) (v : Columns) → WasBegun w.past id → Contains w'.chronicle (Began id q l v) → Contains w.chronicle (Began id q l v)
  pub starts : (id : ReqId) (e : Entry) → WasBegun w.past id → StandsBefore w'.chronicle id e → StandsBefore w.chronicle id e
  pub nodes : (j : ℕ) (s' : NodeState) → slice_get w'.nodes j ≡ Some s' → (s : NodeState) × (slice_get w.nodes j ≡ Some s) × Grown s s' × FollowOn w.past s.reads s'.reads

pub follows_itself : (past : List Deed) (xs : List (ReqId × OpenRead)) → FollowOn past xs xs
follows_itself past xs id u h = inr (u, h, λ fixed. (fixed, refl, refl))

pub begun_on : (w w' : Scene) → Grows w w' → (id : ReqId) → WasBegun w.past id → WasBegun w'.past id
begun_on w w' g id b = (b.0, g.past b.0 b.1, b.2)

pub reaches_on : (w w' : Scene) → Grows w w' → (j : ℕ) (p : Partition) (changes : List Held) → ReachesAll w j p changes → ReachesAll w' j p changes
reaches_on w w' g j p changes h s' at x there = let old = g.nodes j s' at in old.2 p x (h old.0 old.1 x there)

pub query_on : (w w' : Scene) → Grows w w' → (id : ReqId) (q : Query) → WasBegun w.past id → IsQueryOf w.chronicle id q → IsQueryOf w'.chronicle id q
query_on w w' g id q begun h r l v there = h r l v (g.begins id r l v begun there)

pub sees_on : (c : Setting) (w w' : Scene) → Grows w w' → Ahead c w → (read : ReqId) (j : ℕ) (q : Query) (content : List Held) → WasBegun w.past read → SeesAnswers w.chronicle read j q content → SeesAnswers w'.chronicle read j q content
sees_on c w w' g e read j q content begun h first rows more grounds before there asked l v began same x inside in_q =
    let old = g.starts read (Rows first rows more grounds) begun before in
    let answered = e.entries (Rows first rows more grounds) (stands_in w.chronicle read (Rows first rows more grounds) old) in
    h first rows more grounds old there asked l v (g.begins first asked l v answered.0 began) same x inside in_q

pub merge_on : (w w' : Scene) → Grows w w' → (id : ReqId) (m : Mutation) → WasBegun w.past id → IsMergeAt w id m → IsMergeAt w' id m
merge_on w w' g id m begun h k s' at u there =
    let old = g.nodes k s' at in
    elim (old.3 id u there) [
      | inl new ↦ absurd (new begun)
      | inr (o, was, follows) ↦
          let is = h k old.0 old.1 o was in
          let same = follows is.0 in
          (same.0, subst (λ (xs : List Held). xs ≡ m.changes) (sym same.1) is.1, subst (λ (q : Query). q.partition ≡ m.partition) (sym same.2) is.2)
    ]

has_merge_on : (w w' : Scene) → Grows w w' → (j : ℕ) (id : ReqId) → WasBegun w.past id → HasMerge w j id → HasMerge w' j id
has_merge_on w w' g j id begun h k s' at u there =
    let old = g.nodes k s' at in
    elim (old.3 id u there) [
      | inl new ↦ absurd (new begun)
      | inr (o, was, follows) ↦
          let is = h k old.0 old.1 o was in
          let same = follows is.0 in
          (same.0, reaches_on w w' g j u.query.partition u.merged (subst (λ (xs : List Held). ReachesAll w j u.query.partition xs) (sym same.1) (subst (λ (q : Query). ReachesAll w j q.partition o.merged) (sym same.2) is.1)))
    ]

reply_on : (c : Setting) (w w' : Scene) → Grows w w' → Ahead c w → (j : ℕ) (id : ReqId) (content : List Held) → WasBegun w.past id → ReplyAhead w j id content → ReplyAhead w' j id content
reply_on c w w' g e j id content begun h q l v there =
    let old = h q l v (g.begins id q l v begun there) in
    (reaches_on w w' g j q.partition content old.0, sees_on c w w' g e id j q content begun old.1)

pub body_on : (c : Setting) (w w' : Scene) → Grows w w' → Ahead c w → (j : ℕ) (id : ReqId) (b : Body) → BodyAhead w j id b → BodyAhead w' j id b
body_on c w w' g e j id (Read q) (begun, h) = (begun_on w w' g id begun, query_on w w' g id q begun h)
body_on c w w' g e j id (ReadReply content) (begun, h) = (begun_on w w' g id begun, reply_on c w w' g e j id content begun h)
body_on c w w' g e j id (Mend m) (begun, h) = (begun_on w w' g id begun, merge_on w w' g id m begun h)
body_on c w w' g e j id MendAck (begun, h) = (begun_on w w' g id begun, has_merge_on w w' g j id begun h)
body_on c w w' g e j id (Write m) h = tt
body_on c w w' g e j id WriteAck h = tt
body_on c w w' g e j id (Hint number m) h = tt
body_on c w w' g e j id (HintAck number) h = tt

pub read_on : (c : Setting) (w w' : Scene) → Grows w w' → Ahead c w → (k : ℕ) (id : ReqId) (o : OpenRead) → ReadAhead c w k id o → ReadAhead c w' k id o
read_on c w w' g e k id o h = record {
  mine = h.mine;
  begun = begun_on w w' g id h.begun;
  replicas = h.replicas;
  enough = h.enough;
  is = λ q l v there.
      let old = h.is q l v (g.begins id q l v h.begun there) in
      record {
        query = old.query;
        level = old.level;
        replies = λ x there. reaches_on w w' g x.from q.partition x.content (old.replies x there);
        sees = λ j there. sees_on c w w' g e id j q o.merged h.begun (old.sees j there);
        mended = λ ks fixed j there. elim (old.mended ks fixed j there) [ inl waits ↦ inl waits | inr has ↦ inr (reaches_on w w' g j q.partition o.merged has) ];
      };
}

pub node_on : (c : Setting) (w w' : Scene) → Grows w w' → Ahead c w → (k : ℕ) (s : NodeState) → NodeAhead c w k s → NodeAhead c w' k s
node_on c w w' g e k s h = record { distinct = h.distinct; reads = λ id o there. read_on c w w' g e k id o (h.reads id o there) }

pub answer_on : (c : Setting) (w w' : Scene) → Grows w w' → (e : Entry) → EntryAhead c w e → EntryAhead c w' e
answer_on c w w' g (Rows id rows more grounds) (begun, h) = (
  begun_on w w' g id begun,
  λ q l v there.
      let old = h q l v (g.begins id q l v begun there) in
      record { count = old.count; reach = λ j heard. reaches_on w w' g j q.partition grounds.merged (old.reach j heard) },
)
answer_on c w w' g (Began id q l v) h = begun_on w w' g id h
answer_on c w w' g (Acked id l heard) h = tt
answer_on c w w' g (Submitted id m) h = tt
answer_on c w w' g (Used r keyspace) h = tt
answer_on c w w' g (Asked r) h = tt
answer_on c w w' g (Refused r refusal) h = tt
answer_on c w w' g (Marks k alive) h = tt
answer_on c w w' g (Time k t) h = tt
answer_on c w w' g (Turned k refusal) h = tt
answer_on c w w' g (Tables k n) h = tt
answer_on c w w' g (Stopped k) h = tt

-- ---- entries more

-- an entry that begins a read begins a new one
abbrev pub IsNew : List Deed → Entry → Type 0
IsNew past (Began id q l v) = WasBegun past id → ⊥
IsNew past (Rows r rows more grounds) = Unit {0}
IsNew past (Submitted id m) = Unit {0}
IsNew past (Used r keyspace) = Unit {0}
IsNew past (Acked id l heard) = Unit {0}
IsNew past (Asked r) = Unit {0}
IsNew past (Refused r refusal) = Unit {0}
IsNew past (Marks k alive) = Unit {0}
IsNew past (Time k t) = Unit {0}
IsNew past (Turned k refusal) = Unit {0}
IsNew past (Tables k n) = Unit {0}
IsNew past (Stopped k) = Unit {0}

abbrev pub AreNew : List Deed → List Entry → Type 0
AreNew past es = (e : Entry) → Contains es e → IsNew past e

start_kept : (past : List Deed) (x : Entry) (es : List Entry) (id : ReqId) (e : Entry) → IsNew past x → WasBegun past id → StandsBefore (x ∷ es) id e → StandsBefore es id e
start_kept past x es id e new begun (inr h) = h
start_kept past (Began r q l v) es id e new begun (inl h) = absurd (new (subst (λ (x : ReqId). WasBegun past x) (sym h.0) begun))
start_kept past (Used r keyspace) es id e new begun (inl h) = absurd h.0
start_kept past (Submitted r m) es id e new begun (inl h) = absurd h.0
start_kept past (Acked r l heard) es id e new begun (inl h) = absurd h.0
start_kept past (Asked r) es id e new begun (inl h) = absurd h.0
start_kept past (Refused r refusal) es id e new begun (inl h) = absurd h.0
start_kept past (Rows r rows more grounds) es id e new begun (inl h) = absurd h.0
start_kept past (Marks k alive) es id e new begun (inl h) = absurd h.0
start_kept past (Time k t) es id e new begun (inl h) = absurd h.0
start_kept past (Turned k refusal) es id e new begun (inl h) = absurd h.0
start_kept past (Tables k n) es id e new begun (inl h) = absurd h.0
start_kept past (Stopped k) es id e new begun (inl h) = absurd h.0

pub starts_kept : (past : List Deed) (es chronicle : List Entry) (id : ReqId) (e : Entry) → AreNew past es → WasBegun past id → StandsBefore (es ++ chronicle) id e → StandsBefore chronicle id e
starts_kept past [] chronicle id e new begun h = h
starts_kept past (x ∷ es) chronicle id e new begun h =
    starts_kept past es chronicle id e (λ y there. new y (contains_there x es y there)) begun (start_kept past x (es ++ chronicle) id e (new x (contains_here x es)) begun h)

pub begins_kept : (past : List Deed) (es chronicle : List Entry) (id : ReqId) (q : Query) (l : Level) (v : Columns) → AreNew past es → WasBegun past id → Contains (es ++ chronicle) (Began id q l v) → Contains chronicle (Began id q l v)
begins_kept past [] chronicle id q l v new begun h = h
begins_kept past (x ∷ es) chronicle id q l v new begun h = elim (contains_cases x (es ++ chronicle) (Began id q l v) h) [
  | inl here ↦ absurd (subst (λ (e : Entry). IsNew past e) here (new x (contains_here x es)) begun)
  | inr rest ↦ begins_kept past es chronicle id q l v (λ y there. new y (contains_there x es y there)) begun rest
]

-- What is known at each moment of a run: of each node, of each body that was ever made, and of each entry.
use Rattle.std.proofs.Common.{◌≡◌, ℕ, ◌⊎◌, ◌≤◌, Some, List, Contains}
use Rattle.std.specs.Prelude.{slice_get}
use Rattle.cs_base.specs.declared.ids.ReqId.{ReqId}
use Rattle.cs_base.specs.declared.level.Level.{Level}
use Rattle.cs_base.specs.Quorums.{heard_of}
use Rattle.changes.specs.declared.Partition.{Partition}
use Rattle.changes.specs.declared.Held.{Held}
use Rattle.changes.specs.declared.Change.{Change}
use Rattle.changes.specs.declared.Mutation.{Mutation}
use Rattle.changes.specs.declared.Query.{Query}
use Rattle.statement_plan.specs.declared.plan.Columns.{Columns}
use Rattle.changes.specs.Order.{Outranks, IsBeside}
use Rattle.changes.specs.Contents.{IsReachedBy}
use Rattle.changes.specs.Queries.{InQuery}
use Rattle.row_change.specs.declared.entry.Hint as hint
use Rattle.peer_messages.specs.declared.event.Plan.TheVariants as plans
use Rattle.peer_messages.specs.declared.message.Body.{Body}
use Rattle.peer_messages.specs.declared.message.Body.TheVariants.{Write, WriteAck, Read, ReadReply, Mend, MendAck, Hint, HintAck}
use Rattle.peer_messages.specs.declared.chronicle.Entry.{Entry}
use Rattle.peer_messages.specs.declared.chronicle.Entry.TheVariants.{Asked, Submitted, Acked, Refused, Used, Began, Rows, Marks, Time, Turned, Tables, Stopped}
use Rattle.peer_messages.specs.declared.outcome.Outbound.{Outbound}
use Rattle.peer_messages.specs.declared.setting.Setting.{Setting}
use Rattle.peer_messages.specs.Settings.{replicas_of, needed}
use Rattle.durable_state.specs.State.{changes_of, Holds}
use Rattle.node_steps.specs.State.{NodeState, OpenWrite, OpenRead}
use Rattle.node_steps.specs.Hints.{request_of}
use Rattle.node_steps.specs.Acts.{Deed}
use Rattle.node_steps.specs.Reads.{heard_by, replies_of, read_needs}
use Rattle.cluster_runs.specs.Chronicle.{submission_of, StandsBefore}
use Rattle.cluster_runs.specs.Trace.{Scene, IsAskAt}
use Rattle.read_consistency.specs.ReadRight.{ReadRight, HasStart}

-- the request was begun
abbrev pub WasBegun : List Deed → ReqId → Type 0
WasBegun past id = (d : Deed) × Contains past d × IsAskAt id.node id.time d

-- the node holds the change in the partition, or one that outranks it
abbrev pub Reaches : List Change → Partition → Held → Type 0
Reaches content p x = Holds content p x ⊎ ((y : Held) × Holds content p y × Outranks y x)

-- node j reaches all that was submitted under this id
abbrev pub HasAll : Scene → ℕ → ReqId → Type 0
HasAll w j id = (s : NodeState) → slice_get w.nodes j ≡ Some s → (m : Mutation) → submission_of w.chronicle id ≡ Some m → (x : Held) → Contains m.changes x → Reaches (changes_of s.content) m.partition x

-- The request was begun, and asks for the rows of this query at this level. The moves tell it, since of a lost one the
-- chronicle has no start
pub record IsReadOf (past : List Deed) (id : ReqId) (q : Query) (l : Level) : Type 0 where
  pub deed : Deed
  pub there : Contains past deed
  pub at : IsAskAt id.node id.time deed
  pub columns : Columns
  pub asks : at.2.0.plan ≡ plans.Read q columns
  pub level : at.2.0.level ≡ l

-- the change is of a submitted mutation whose changes in its row are reached too
pub record IsOf (chronicle : List Entry) (p : Partition) (Reached : Held → Type 0) (x : Held) : Type 0 where
  pub request : ReqId
  pub mutation : Mutation
  pub submitted : Contains chronicle (Submitted request mutation)
  pub partition : mutation.partition ≡ p
  pub there : Contains mutation.changes x
  pub beside : (y : Held) → Contains mutation.changes y → IsBeside x y → Reached y

abbrev pub ReachedIn : Query → List Held → Held → Type 0
ReachedIn q content y = InQuery q y → IsReachedBy content y

-- the content has what node j was known to have when the read began
abbrev pub Sees : List Entry → ReqId → ℕ → Query → List Held → Type 0
Sees chronicle read j q content =
    (id : ReqId) (l : Level) (heard : List ℕ) → StandsBefore chronicle read (Acked id l heard) → Contains heard j
    → (m : Mutation) → submission_of chronicle id ≡ Some m → m.partition ≡ q.partition → (x : Held) → Contains m.changes x → InQuery q x → IsReachedBy content x

-- a content that answers a query
pub record Answers (chronicle : List Entry) (q : Query) (content : List Held) : Type 0 where
  pub of : (x : Held) → Contains content x → IsOf chronicle q.partition (ReachedIn q content) x
  pub inside : (x : Held) → Contains content x → InQuery q x

-- a reply of node j answers what the read of this id asks
pub record ReplyOk (w : Scene) (j : ℕ) (id : ReqId) (content : List Held) : Type 0 where
  pub query : Query
  pub level : Level
  pub asked : IsReadOf w.past id query level
  pub answers : Answers w.chronicle query content
  pub sees : Sees w.chronicle id j query content

-- each change of a merge is of a submitted mutation whose changes in its row the merge reaches too
abbrev pub MendOk : List Entry → Mutation → Type 0
MendOk chronicle m = (x : Held) → Contains m.changes x → IsOf chronicle m.partition (IsReachedBy m.changes) x

abbrev pub BodyIs : Scene → ℕ → ReqId → Body → Type 0
BodyIs w from id (Write m) = submission_of w.chronicle id ≡ Some m
BodyIs w from id WriteAck = HasAll w from id
BodyIs w from id (Read q) = (l : Level) × IsReadOf w.past id q l
BodyIs w from id (ReadReply content) = ReplyOk w from id content
BodyIs w from id (Mend m) = MendOk w.chronicle m
BodyIs w from id MendAck = Unit {0}
BodyIs w from id (Hint number m) = submission_of w.chronicle id ≡ Some m
BodyIs w from id (HintAck number) = Unit {0}

pub record BodyOk (w : Scene) (from : ℕ) (x : Outbound) : Type 0 where
  pub begun : WasBegun w.past x.request
  pub is : BodyIs w from x.request x.body

-- an open write of node k
pub record WriteOk (w : Scene) (k : ℕ) (id : ReqId) (o : OpenWrite) : Type 0 where
  pub mine : id.node ≡ k
  pub begun : WasBegun w.past id
  pub is : submission_of w.chronicle id ≡ Some o.mutation
  pub heard : (j : ℕ) → Contains o.heard j → HasAll w j id

-- a hint that node k keeps is of a write that it submitted
pub record HintOk (w : Scene) (k : ℕ) (h : hint.Hint) : Type 0 where
  pub begun : WasBegun w.past (request_of k h)
  pub is : submission_of w.chronicle (request_of k h) ≡ Some h.mutation

-- An open read of node k. Its start is in the chronicle, but for one that a lost move began: it is forgotten at the end of the
-- load. Once there is a merge for good, as many have replied as it waits for
pub record ReadOk (c : Setting) (w : Scene) (k : ℕ) (id : ReqId) (o : OpenRead) : Type 0 where
  pub start : HasStart w.chronicle id ⊎ (w.losing ≡ Some k)
  pub asked : IsReadOf w.past id o.query o.level
  pub answers : Answers w.chronicle o.query o.merged
  pub sees : (j : ℕ) → Contains (heard_by o) j → Sees w.chronicle id j o.query o.merged
  pub enough : (ks : List ℕ) → o.mending ≡ Some ks → read_needs c o ≤ replies_of c o

pub record NodeOk (c : Setting) (w : Scene) (k : ℕ) (s : NodeState) : Type 0 where
  pub of : (p : Partition) (x : Held) → Holds (changes_of s.content) p x → IsOf w.chronicle p (Reaches (changes_of s.content) p) x
  pub writes : (id : ReqId) (o : OpenWrite) → Contains s.writes (id, o) → WriteOk w k id o
  pub reads : (id : ReqId) (o : OpenRead) → Contains s.reads (id, o) → ReadOk c w k id o
  pub hints : (h : hint.Hint) → Contains s.hints h → HintOk w k h

-- an acknowledged write was heard of by as many replicas as its level waits for, each of which has it
pub record AckedOk (c : Setting) (w : Scene) (id : ReqId) (l : Level) (heard : List ℕ) : Type 0 where
  pub begun : WasBegun w.past id
  pub count : (m : Mutation) → submission_of w.chronicle id ≡ Some m → needed c l m.partition ≤ heard_of (replicas_of c m.partition) heard
  pub has : (j : ℕ) → Contains heard j → HasAll w j id

abbrev pub EntryOk : Setting → Scene → Entry → Type 0
EntryOk c w (Acked id l heard) = AckedOk c w id l heard
EntryOk c w (Submitted id m) = Unit {0}
EntryOk c w (Began id q l v) = IsReadOf w.past id q l
EntryOk c w (Used r keyspace) = Unit {0}
EntryOk c w (Asked r) = Unit {0}
EntryOk c w (Refused r refusal) = Unit {0}
EntryOk c w (Rows r rows more grounds) = Unit {0}
EntryOk c w (Marks k alive) = Unit {0}
EntryOk c w (Time k t) = Unit {0}
EntryOk c w (Turned k refusal) = Unit {0}
EntryOk c w (Tables k n) = Unit {0}
EntryOk c w (Stopped k) = Unit {0}

pub record Explains (c : Setting) (w : Scene) : Type 0 where
  pub nodes : (k : ℕ) (s : NodeState) → slice_get w.nodes k ≡ Some s → NodeOk c w k s
  pub bodies : (d : Deed) → Contains w.past d → (x : Outbound) → Contains d.effects.sends x → BodyOk w d.node x
  pub entries : (e : Entry) → Contains w.chronicle e → EntryOk c w e
  pub right : ReadRight c w.chronicle

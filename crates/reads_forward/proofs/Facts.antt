-- What is known of reads at each moment of a run: of each open read, of each body that was ever made, and of each entry.
use Rattle.std.proofs.Common.{◌≡◌, ◌≢◌, ℕ, ◌⊎◌, ◌≤◌, Bool, Some, List, [], ◌∷◌, Contains}
use Rattle.std.specs.Prelude.{slice_get}
use Rattle.cs_base.specs.declared.ids.ReqId.{ReqId}
use Rattle.cs_base.specs.declared.level.Level.{Level}
use Rattle.cs_base.specs.Quorums.{heard_of}
use Rattle.changes.specs.declared.Partition.{Partition}
use Rattle.changes.specs.declared.Held.{Held}
use Rattle.changes.specs.declared.Mutation.{Mutation}
use Rattle.changes.specs.declared.Query.{Query}
use Rattle.changes.specs.declared.ShownRow.{ShownRow}
use Rattle.changes.specs.Contents.{IsReachedBy}
use Rattle.changes.specs.Queries.{InQuery}
use Rattle.statement_plan.specs.declared.plan.Columns.{Columns}
use Rattle.peer_messages.specs.declared.message.Body.{Body}
use Rattle.peer_messages.specs.declared.message.Body.TheVariants.{Write, WriteAck, Read, ReadReply, Mend, MendAck, Hint, HintAck}
use Rattle.peer_messages.specs.declared.chronicle.Entry.{Entry}
use Rattle.peer_messages.specs.declared.chronicle.Entry.TheVariants.{Asked, Submitted, Acked, Refused, Used, Began, Rows, Marks, Time, Turned, Tables, Stopped}
use Rattle.peer_messages.specs.declared.chronicle.Grounds.{Grounds}
use Rattle.peer_messages.specs.declared.outcome.Outbound.{Outbound}
use Rattle.peer_messages.specs.declared.setting.Setting.{Setting}
use Rattle.peer_messages.specs.Settings.{replicas_of, needed}
use Rattle.durable_state.specs.State.{changes_of}
use Rattle.node_steps.specs.State.{NodeState, OpenRead, Replied}
use Rattle.node_steps.specs.Acts.{Deed}
use Rattle.node_steps.specs.Reads.{heard_by, replies_of, read_needs}
use Rattle.cluster_runs.specs.Chronicle.{StandsBefore}
use Rattle.cluster_runs.specs.Trace.{Scene}
use Rattle.reads_forward.specs.ReadsForward.{ReadsForward}
use Rattle.read_consistency.proofs.Facts.{Reaches, WasBegun}

-- whatever read began under this id asks this
abbrev pub IsQueryOf : List Entry → ReqId → Query → Type 0
IsQueryOf chronicle id q = (r : Query) (l : Level) (v : Columns) → Contains chronicle (Began id r l v) → r ≡ q

-- node j reaches each of these changes of the partition
abbrev pub ReachesAll : Scene → ℕ → Partition → List Held → Type 0
ReachesAll w j p changes = (s : NodeState) → slice_get w.nodes j ≡ Some s → (x : Held) → Contains changes x → Reaches (changes_of s.content) p x

-- The content reaches what the query asks for of each answer that was given before the read began and for which node j was heard
abbrev pub SeesAnswers : List Entry → ReqId → ℕ → Query → List Held → Type 0
SeesAnswers chronicle read j q content =
    (first : ReqId) (rows : List ShownRow) (more : Bool) (grounds : Grounds) → StandsBefore chronicle read (Rows first rows more grounds) → Contains grounds.heard j
    → (asked : Query) (l : Level) (v : Columns) → Contains chronicle (Began first asked l v) → asked.partition ≡ q.partition → (x : Held) → Contains grounds.merged x → InQuery q x → IsReachedBy content x

-- the merge of the read is fixed: it waits for mends
abbrev pub IsFixed : OpenRead → Type 0
IsFixed o = (ks : List ℕ) × (o.mending ≡ Some ks)

-- Whatever read is open under this id, its merge is fixed, and is this one. It need not be open: a stop makes it forgotten
abbrev pub IsMergeAt : Scene → ReqId → Mutation → Type 0
IsMergeAt w id m = (k : ℕ) (s : NodeState) → slice_get w.nodes k ≡ Some s → (o : OpenRead) → Contains s.reads (id, o) → IsFixed o × (o.merged ≡ m.changes) × (o.query.partition ≡ m.partition)

-- and node j reaches it
abbrev pub HasMerge : Scene → ℕ → ReqId → Type 0
HasMerge w j id = (k : ℕ) (s : NodeState) → slice_get w.nodes k ≡ Some s → (o : OpenRead) → Contains s.reads (id, o) → IsFixed o × ReachesAll w j o.query.partition o.merged

-- a reply of node j to whatever the read of this id asks
abbrev pub ReplyAhead : Scene → ℕ → ReqId → List Held → Type 0
ReplyAhead w j id content = (q : Query) (l : Level) (v : Columns) → Contains w.chronicle (Began id q l v) → ReachesAll w j q.partition content × SeesAnswers w.chronicle id j q content

-- a body that node `from` made under this id
abbrev pub BodyAhead : Scene → ℕ → ReqId → Body → Type 0
BodyAhead w from id (Read q) = WasBegun w.past id × IsQueryOf w.chronicle id q
BodyAhead w from id (ReadReply content) = WasBegun w.past id × ReplyAhead w from id content
BodyAhead w from id (Mend m) = WasBegun w.past id × IsMergeAt w id m
BodyAhead w from id MendAck = WasBegun w.past id × HasMerge w from id
BodyAhead w from id (Write m) = Unit {0}
BodyAhead w from id WriteAck = Unit {0}
BodyAhead w from id (Hint number m) = Unit {0}
BodyAhead w from id (HintAck number) = Unit {0}

-- what is known of an open read, if it began with this
pub record ReadIs (w : Scene) (id : ReqId) (o : OpenRead) (q : Query) (l : Level) : Type 0 where
  pub query : q ≡ o.query
  pub level : l ≡ o.level
  pub replies : (x : Replied) → Contains o.replies x → ReachesAll w x.from q.partition x.content
  pub sees : (j : ℕ) → Contains (heard_by o) j → SeesAnswers w.chronicle id j q o.merged
  -- once the merge is fixed, each that replied is waited for or reaches it
  pub mended : (ks : List ℕ) → o.mending ≡ Some ks → (j : ℕ) → Contains (heard_by o) j → Contains ks j ⊎ ReachesAll w j q.partition o.merged

-- an open read of node k
pub record ReadAhead (c : Setting) (w : Scene) (k : ℕ) (id : ReqId) (o : OpenRead) : Type 0 where
  pub mine : id.node ≡ k
  pub begun : WasBegun w.past id
  pub replicas : (j : ℕ) → Contains (heard_by o) j → Contains (replicas_of c o.query.partition) j
  pub enough : IsFixed o → read_needs c o ≤ replies_of c o
  pub is : (q : Query) (l : Level) (v : Columns) → Contains w.chronicle (Began id q l v) → ReadIs w id o q l

-- one read is open under an id
abbrev pub AreDistinct : List (ReqId × OpenRead) → Type 0
AreDistinct [] = Unit {0}
AreDistinct (e ∷ es) = ((x : ReqId × OpenRead) → Contains es x → x.0 ≢ e.0) × AreDistinct es

pub record NodeAhead (c : Setting) (w : Scene) (k : ℕ) (s : NodeState) : Type 0 where
  pub distinct : AreDistinct s.reads
  pub reads : (id : ReqId) (o : OpenRead) → Contains s.reads (id, o) → ReadAhead c w k id o

-- an answered read was heard of by as many replicas as its level waits for, each of which reaches the merge
pub record AnswerAhead (c : Setting) (w : Scene) (q : Query) (l : Level) (grounds : Grounds) : Type 0 where
  pub count : needed c l q.partition ≤ heard_of (replicas_of c q.partition) grounds.heard
  pub reach : (j : ℕ) → Contains grounds.heard j → ReachesAll w j q.partition grounds.merged

abbrev pub EntryAhead : Setting → Scene → Entry → Type 0
EntryAhead c w (Rows id rows more grounds) = WasBegun w.past id × ((q : Query) (l : Level) (v : Columns) → Contains w.chronicle (Began id q l v) → AnswerAhead c w q l grounds)
EntryAhead c w (Began id q l v) = WasBegun w.past id
EntryAhead c w (Acked id l heard) = Unit {0}
EntryAhead c w (Submitted id m) = Unit {0}
EntryAhead c w (Used r keyspace) = Unit {0}
EntryAhead c w (Asked r) = Unit {0}
EntryAhead c w (Refused r refusal) = Unit {0}
EntryAhead c w (Marks k alive) = Unit {0}
EntryAhead c w (Time k t) = Unit {0}
EntryAhead c w (Turned k refusal) = Unit {0}
EntryAhead c w (Tables k n) = Unit {0}
EntryAhead c w (Stopped k) = Unit {0}

pub record Ahead (c : Setting) (w : Scene) : Type 0 where
  pub nodes : (k : ℕ) (s : NodeState) → slice_get w.nodes k ≡ Some s → NodeAhead c w k s
  pub bodies : (d : Deed) → Contains w.past d → (x : Outbound) → Contains d.effects.sends x → BodyAhead w d.node x.request x.body
  pub entries : (e : Entry) → Contains w.chronicle e → EntryAhead c w e
  pub forward : ReadsForward c w.chronicle

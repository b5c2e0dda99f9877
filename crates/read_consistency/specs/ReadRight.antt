-- Each answered read shows a set of submitted changes that has every acknowledged change that its replicas must meet.
-- After Cassandra's documentation, "Dynamo: Tunable Consistency": a read sees a write where the replicas that they wait for
-- are together more than there are.
use Rattle.std.specs.Prelude.{◌≡◌, ℕ, Bool, Some, List, [], ◌∷◌, Contains, length}
use Rattle.cs_base.specs.declared.level.Level.{Level}
use Rattle.cs_base.specs.declared.ids.ReqId.{ReqId}
use Rattle.cs_base.specs.Levels.{Meets}
use Rattle.changes.specs.declared.Partition.{Partition}
use Rattle.changes.specs.declared.Held.{Held}
use Rattle.changes.specs.declared.Mutation.{Mutation}
use Rattle.changes.specs.declared.Query.{Query}
use Rattle.statement_plan.specs.declared.plan.Columns.{Columns}
use Rattle.changes.specs.declared.ShownRow.{ShownRow}
use Rattle.changes.specs.Order.{IsBeside}
use Rattle.changes.specs.Contents.{IsReachedBy}
use Rattle.changes.specs.Queries.{InQuery}
use Rattle.changes.specs.Shown.{IsShown}
use Rattle.peer_messages.specs.declared.chronicle.Entry.{Entry}
use Rattle.peer_messages.specs.declared.chronicle.Entry.TheVariants.{Asked, Submitted, Acked, Refused, Used, Began, Rows, Marks, Time, Turned, Tables, Stopped}
use Rattle.peer_messages.specs.declared.setting.Setting.{Setting}
use Rattle.peer_messages.specs.Settings.{replicas_of, needed}
use Rattle.cluster_runs.specs.Chronicle.{submission_of, StandsBefore}

-- The set that an answer shows. A change of it is of a mutation that was submitted before; where the query asks for it the
-- merge has it, or a change that outranks it; and the same holds of the changes of that mutation in its row
pub record InSet (earlier : List Entry) (q : Query) (merged : List Held) (x : Held) : Type 0 where
  pub request : ReqId
  pub mutation : Mutation
  pub submitted : Contains earlier (Submitted request mutation)
  pub partition : mutation.partition ≡ q.partition
  pub there : Contains mutation.changes x
  pub beside : (y : Held) → Contains mutation.changes y → IsBeside x y → InQuery q y → IsReachedBy merged y

-- before the read began a change of the partition was acknowledged, by a request that waited for w replicas
pub record IsAcknowledged (c : Setting) (earlier : List Entry) (read : ReqId) (p : Partition) (x : Held) (w : ℕ) : Type 0 where
  pub request : ReqId
  pub level : Level
  pub heard : List ℕ
  pub mutation : Mutation
  pub before : StandsBefore earlier read (Acked request level heard)
  pub submission : submission_of earlier request ≡ Some mutation
  pub partition : mutation.partition ≡ p
  pub there : Contains mutation.changes x
  pub count : w ≡ needed c level p

-- what is right of the answer of a read
pub record IsRight (c : Setting) (earlier : List Entry) (read : ReqId) (q : Query) (level : Level) (merged : List Held) (rows : List ShownRow) (more : Bool) : Type 0 where
  -- the set has what was acknowledged before the read began, where the two wait for more than all of the replicas
  pub acknowledged : (x : Held) (w : ℕ) → IsAcknowledged c earlier read q.partition x w
      → Meets w (needed c level q.partition) (length (replicas_of c q.partition)) → InSet earlier q merged x
  -- of one mutation, the changes in one row are all in it or none is
  pub whole : (x y : Held) (s : InSet earlier q merged x) → Contains s.mutation.changes y → IsBeside x y → InSet earlier q merged y
  -- the rows are those of the set
  pub shown : IsShown (InSet earlier q merged) q rows more

-- the read has its start in the chronicle
abbrev pub HasStart : List Entry → ReqId → Type 0
HasStart earlier read = (q : Query) × (level : Level) × (columns : Columns) × Contains earlier (Began read q level columns)

abbrev pub IsRightEntry : Setting → List Entry → Entry → Type 0
IsRightEntry c earlier (Rows read rows more grounds) =
    HasStart earlier read
    × ((q : Query) (level : Level) (columns : Columns) → Contains earlier (Began read q level columns) → IsRight c earlier read q level grounds.merged rows more)
IsRightEntry c earlier (Asked r) = Unit {0}
IsRightEntry c earlier (Submitted r m) = Unit {0}
IsRightEntry c earlier (Acked r l heard) = Unit {0}
IsRightEntry c earlier (Refused r refusal) = Unit {0}
IsRightEntry c earlier (Used r keyspace) = Unit {0}
IsRightEntry c earlier (Began r q l columns) = Unit {0}
IsRightEntry c earlier (Marks k alive) = Unit {0}
IsRightEntry c earlier (Time k t) = Unit {0}
IsRightEntry c earlier (Turned k refusal) = Unit {0}
IsRightEntry c earlier (Tables k n) = Unit {0}
IsRightEntry c earlier (Stopped k) = Unit {0}

-- each answer of a chronicle, newest first, has its start before it and is right
abbrev pub ReadRight : Setting → List Entry → Type 0
ReadRight c [] = Unit {0}
ReadRight c (e ∷ earlier) = IsRightEntry c earlier e × ReadRight c earlier

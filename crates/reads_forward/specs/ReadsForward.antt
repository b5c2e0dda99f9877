-- Who reads twice never sees a row go back: what an answer showed, each later read shows too, where its replicas must meet those
-- of the first. After Cassandra's documentation, "Read repair" ("Monotonic quorum reads").
use Rattle.std.specs.Prelude.{◌≡◌, Bool, List, [], ◌∷◌, Contains, length}
use Rattle.cs_base.specs.declared.level.Level.{Level}
use Rattle.cs_base.specs.declared.ids.ReqId.{ReqId}
use Rattle.cs_base.specs.Levels.{Meets}
use Rattle.changes.specs.declared.Held.{Held}
use Rattle.changes.specs.declared.Query.{Query}
use Rattle.changes.specs.declared.ShownRow.{ShownRow}
use Rattle.changes.specs.Queries.{InQuery}
use Rattle.statement_plan.specs.declared.plan.Columns.{Columns}
use Rattle.peer_messages.specs.declared.chronicle.Entry.{Entry}
use Rattle.peer_messages.specs.declared.chronicle.Entry.TheVariants.{Asked, Submitted, Acked, Refused, Used, Began, Rows, Marks, Time, Turned, Tables, Stopped}
use Rattle.peer_messages.specs.declared.chronicle.Grounds.{Grounds}
use Rattle.peer_messages.specs.declared.setting.Setting.{Setting}
use Rattle.peer_messages.specs.Settings.{replicas_of, needed}
use Rattle.cluster_runs.specs.Chronicle.{StandsBefore}
use Rattle.read_consistency.specs.ReadRight.{InSet}

-- Before the read began another one of the partition was answered, and the two wait for more than all of the replicas
pub record WasAnswered (c : Setting) (earlier : List Entry) (read : ReqId) (q : Query) (level : Level) : Type 0 where
  pub first : ReqId
  pub rows : List ShownRow
  pub more : Bool
  pub grounds : Grounds
  pub before : StandsBefore earlier read (Rows first rows more grounds)
  -- what it asked
  pub asked : Query
  pub waited : Level
  pub columns : Columns
  pub began : Contains earlier (Began first asked waited columns)
  pub partition : asked.partition ≡ q.partition
  pub meets : Meets (needed c waited q.partition) (needed c level q.partition) (length (replicas_of c q.partition))

-- what both queries ask for of the set of the first answer is in the set of the later one, whose merge this is
abbrev pub ShowsOn : List Entry → Query → List Held → Query → List Held → Type 0
ShowsOn earlier asked first q merged = (x : Held) → InSet earlier asked first x → InQuery asked x → InQuery q x → InSet earlier q merged x

abbrev pub GoesForward : Setting → List Entry → Entry → Type 0
GoesForward c earlier (Rows read rows more grounds) =
    (q : Query) (level : Level) (columns : Columns) → Contains earlier (Began read q level columns)
    → (a : WasAnswered c earlier read q level) → ShowsOn earlier a.asked a.grounds.merged q grounds.merged
GoesForward c earlier (Asked r) = Unit {0}
GoesForward c earlier (Submitted r m) = Unit {0}
GoesForward c earlier (Acked r l heard) = Unit {0}
GoesForward c earlier (Refused r refusal) = Unit {0}
GoesForward c earlier (Used r keyspace) = Unit {0}
GoesForward c earlier (Began r q l columns) = Unit {0}
GoesForward c earlier (Marks k alive) = Unit {0}
GoesForward c earlier (Time k t) = Unit {0}
GoesForward c earlier (Turned k refusal) = Unit {0}
GoesForward c earlier (Tables k n) = Unit {0}
GoesForward c earlier (Stopped k) = Unit {0}

-- each answer of a chronicle, newest first, goes forward from those before its read
abbrev pub ReadsForward : Setting → List Entry → Type 0
ReadsForward c [] = Unit {0}
ReadsForward c (e ∷ earlier) = GoesForward c earlier e × ReadsForward c earlier

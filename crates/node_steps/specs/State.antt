-- A node, plainly: what it keeps through stops; and what it forgets at a stop: its time, the nodes that it takes for dead, which
-- hints it has sent, and the open requests of clients.
use Rattle.std.specs.Prelude.{ℕ, Bool, Option, List, []}
use Rattle.cs_base.specs.declared.level.Level.{Level}
use Rattle.cs_base.specs.declared.ids.ReqId.{ReqId}
use Rattle.changes.specs.declared.Held.{Held}
use Rattle.changes.specs.declared.Mutation.{Mutation}
use Rattle.changes.specs.declared.Query.{Query}
use Rattle.row_change.specs.declared.entry.Hint.{Hint}
use Rattle.row_change.specs.declared.entry.Mark.{Mark}
use Rattle.durable_state.specs.declared.parts.LastNumber.{LastNumber}
use Rattle.durable_state.specs.declared.parts.RowAt.{RowAt}
use Rattle.durable_state.specs.State.{Stored, Durable, formatted}

-- a write that its coordinator began, with the replicas that acknowledged it. It is open on behind its answer, until each
-- replica has acknowledged it or got a hint, or its deadline comes
pub record OpenWrite : Type 0 where
  pub level : Level
  pub mutation : Mutation
  pub heard : List ℕ
  -- those for which a hint was kept at its start
  pub hinted : List ℕ
  pub answered : Bool

-- what a replica replied to a read
pub record Replied : Type 0 where
  pub from : ℕ
  pub content : List Held

-- a read that its coordinator has not answered, with the replies of replicas in the order in which they came, and their merge.
-- Once there are as many as it waits for, the merge went to those whose reply is another: these have not acknowledged it yet
pub record OpenRead : Type 0 where
  pub level : Level
  pub query : Query
  pub replies : List Replied
  pub merged : List Held
  pub mending : Option (List ℕ)

-- the numbers of the hints that went to a peer last and that it has not acknowledged
pub record Batch : Type 0 where
  pub peer : ℕ
  pub waiting : List ℕ

-- Open requests stand by id. Of the step that the node is in, risen is the time to which it rose: what a rule says of node time
-- goes by it. What a node sends carries its time
pub record NodeState : Type 0 where
  -- kept
  pub ceiling : ℕ
  pub content : List Stored
  pub rows : List RowAt
  pub hints : List Hint
  pub numbers : List LastNumber
  pub marks : List Mark
  -- forgotten at a stop
  pub time : ℕ
  pub risen : ℕ
  pub down : List ℕ
  pub batches : List Batch
  pub writes : List (ReqId × OpenWrite)
  pub reads : List (ReqId × OpenRead)

abbrev pub durable_of : NodeState → Durable
durable_of s = record { ceiling = s.ceiling; content = s.content; rows = s.rows; hints = s.hints; numbers = s.numbers; marks = s.marks }

-- what a load makes of what was kept: node time is the ceiling, all others are taken for alive, and no request is open
abbrev pub loaded : Durable → NodeState
loaded d = record {
  ceiling = d.ceiling;
  content = d.content;
  rows = d.rows;
  hints = d.hints;
  numbers = d.numbers;
  marks = d.marks;
  time = d.ceiling;
  risen = d.ceiling;
  down = [];
  batches = [];
  writes = [];
  reads = [];
}

abbrev pub fresh_node : NodeState
fresh_node = loaded formatted

-- One conditional operation on a single copy: its condition is tested on the row, and where it holds its changes are written.
-- A read is answered and writes nothing. This is the sequential specification of conditional updates: an object that takes
-- one operation after another (Herlihy and Wing, "Linearizability: A Correctness Condition for Concurrent Objects"). The
-- conditions and replies are those of the CQL reference, "INSERT", "UPDATE" and "DELETE" with IF.
use Rattle.std.specs.Prelude.{◌≡◌, ℕ, ◌⊎◌, ◌↔◌, Bool, true, false, Option, Some, None, List, [], ◌∷◌, Contains, take}
use Rattle.std.specs.Ordering.{nat_cmp}
use Rattle.std.specs.List.Sorted.{IsStrictlySortedBy}
use Rattle.changes.specs.declared.Draft.{Draft}
use Rattle.changes.specs.declared.Query.{Query}
use Rattle.changes.specs.declared.ShownRow.{ShownRow}
use Rattle.changes.specs.Order.{IsBetween}
use Rattle.changes.specs.Shown.{row_cmp, rows_of, columns_of, in_order}
use Rattle.statement_plan.specs.declared.operation.Test.{Test}
use Rattle.statement_plan.specs.declared.operation.Test.TheVariants as test
use Rattle.statement_plan.specs.declared.operation.ConditionalOperation.{ConditionalOperation}
use Rattle.condition_test.specs.Conditions.{condition_holds}
use Rattle.single_copy.specs.Maps.{PartitionMap, Writes}

-- what an operation is told: whether it was applied, the row as it is where it was not, and the rows of a read
pub record ConditionalReply : Type 0 where
  pub applied : Bool
  pub rows : List ShownRow

-- a row is there where it has its marker or a value
abbrev pub RowStands : PartitionMap → List ℕ → Type 0
RowStands m row = (m.marker row ≡ true) ⊎ ((column : ℕ) × (value : List ℕ) × (m.value row column ≡ Some value))

-- the cells are the row's values, by column
pub record AreCellsOf (m : PartitionMap) (r : ShownRow) : Type 0 where
  pub sorted : IsStrictlySortedBy nat_cmp (columns_of r.cells)
  pub each : (column : ℕ) (value : List ℕ) → Contains r.cells (record { column = column; value = value }) ↔ (m.value r.row column ≡ Some value)

-- the row as it is shown, or None where it is not there
abbrev pub IsRowAt : PartitionMap → List ℕ → Option ShownRow → Type 0
IsRowAt m row None = RowStands m row → ⊥
IsRowAt m row (Some r) = RowStands m row × (r.row ≡ row) × AreCellsOf m r

-- every row within the bounds, in clustering order
pub record AreRowsOf (m : PartitionMap) (q : Query) (rows : List ShownRow) : Type 0 where
  pub sorted : IsStrictlySortedBy row_cmp (rows_of rows)
  pub each : (row : List ℕ) → Contains (rows_of rows) row ↔ (RowStands m row × IsBetween q.from q.upto row)
  pub cells : (r : ShownRow) → Contains rows r → AreCellsOf m r

-- the rows that a query shows: in its order, and up to its limit
abbrev pub ShowsRows : PartitionMap → Query → List ShownRow → Type 0
ShowsRows m q rows = (all : List ShownRow) × AreRowsOf m q all × (rows ≡ take q.limit (in_order q.reversed all))

abbrev pub row_list : Option ShownRow → List ShownRow
row_list None = []
row_list (Some r) = r ∷ []

-- the reply, by whether the condition holds: a refusal shows the row
abbrev pub reply_by : Bool → Option ShownRow → ConditionalReply
reply_by true row = record { applied = true; rows = [] }
reply_by false row = record { applied = false; rows = row_list row }

abbrev pub TestsRow : PartitionMap → ConditionalOperation → ConditionalReply → Type 0
TestsRow m op reply = (row : Option ShownRow) × IsRowAt m op.row row × (reply ≡ reply_by (condition_holds row op.test) row)

abbrev pub AnswersBy : Test → PartitionMap → ConditionalOperation → ConditionalReply → Type 0
AnswersBy (test.Read q) m op reply = (reply.applied ≡ false) × ShowsRows m q reply.rows
AnswersBy test.Absent m op reply = TestsRow m op reply
AnswersBy test.Present m op reply = TestsRow m op reply
AnswersBy (test.Cells tests) m op reply = TestsRow m op reply

-- what the operation is told on this map
abbrev pub Answers : PartitionMap → ConditionalOperation → ConditionalReply → Type 0
Answers m op reply = AnswersBy op.test m op reply

-- what an operation writes that was applied or not
abbrev pub drafts_by : Bool → List Draft → List Draft
drafts_by true drafts = drafts
drafts_by false drafts = []

-- an operation takes the map to m' and is told the reply
abbrev pub ConditionalStep : PartitionMap → ConditionalOperation → PartitionMap → ConditionalReply → Type 0
ConditionalStep m op m' reply = Answers m op reply × Writes (drafts_by reply.applied op.changes) m m'

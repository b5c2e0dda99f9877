-- A content is a single copy: what is shown of it is what the copy has. And a single copy answers in one way.
use Rattle.std.specs.Prelude.{◌≡◌, Bool, Some, None, List, Contains, ℕ}
use Rattle.changes.specs.declared.Held.{Held}
use Rattle.changes.specs.declared.Query.{Query}
use Rattle.changes.specs.declared.ShownRow.{ShownRow}
use Rattle.changes.specs.Contents.{AreApart}
use Rattle.changes.specs.Shown.{ShowsRow, AreShownCells, IsShown}
use Rattle.statement_plan.specs.declared.operation.ConditionalOperation.{ConditionalOperation}
use Rattle.single_copy.specs.Maps.{PartitionMap, IsMapOf}
use Rattle.single_copy.specs.ConditionalStep.{ConditionalReply, ConditionalStep, IsRowAt, ShowsRows}

abbrev pub ContentsHaveMaps : Type 0
ContentsHaveMaps = (content : List Held) → AreApart content → (m : PartitionMap) × IsMapOf content m

abbrev pub MapsAreOne : Type 0
MapsAreOne = (content : List Held) (m m' : PartitionMap) → IsMapOf content m → IsMapOf content m' → m ≡ m'

-- the rows of a query
abbrev pub MapsShowRows : Type 0
MapsShowRows = (content : List Held) (m : PartitionMap) (q : Query) (rows : List ShownRow) (more : Bool) → IsMapOf content m → IsShown (Contains content) q rows more → ShowsRows m q rows

-- one row, if it is there
abbrev pub MapsShowRow : Type 0
MapsShowRow =
    (content : List Held) (m : PartitionMap) (row : List ℕ) → IsMapOf content m
    → ((r : ShownRow) → ShowsRow (Contains content) row → r.row ≡ row → AreShownCells (Contains content) row r.cells → IsRowAt m row (Some r))
    × ((ShowsRow (Contains content) row → ⊥) → IsRowAt m row None)

-- an operation takes a map to one map, and is told one reply
abbrev pub StepsAreOne : Type 0
StepsAreOne = (m : PartitionMap) (op : ConditionalOperation) (a b : PartitionMap) (r s : ConditionalReply) → ConditionalStep m op a r → ConditionalStep m op b s → (a ≡ b) × (r ≡ s)

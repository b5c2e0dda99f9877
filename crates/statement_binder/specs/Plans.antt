-- What a prepared statement asks for with its values (CQL reference, "BATCH", "IF", "SELECT").
use Rattle.std.specs.Prelude.{ℕ, ℤ, pos, negsuc, ◌||◌, not, Bool, true, List, [], ◌∷◌, Option, Some, None, Result, Ok, Err, if◌then◌else◌, fold, flat_map}
use Rattle.std.specs.List.{list_any}
use Rattle.std.specs.Ordering.{is_eq}
use Rattle.changes.specs.Order.{partition_cmp}
use Rattle.changes.specs.declared.Draft.{Draft}
use Rattle.changes.specs.declared.Partition.{Partition}
use Rattle.changes.specs.declared.Query.{Query}
use Rattle.key_restrictions.specs.Rows.{partition_of, bounds_of, is_long}
use Rattle.key_restrictions.specs.declared.rows.RowBounds.{RowBounds}
use Rattle.statement_plan.specs.Faults.{lower, lower_of}
use Rattle.statement_plan.specs.declared.fault.Fault.{Fault}
use Rattle.statement_plan.specs.declared.fault.Fault.TheVariants as fault
use Rattle.statement_plan.specs.declared.fault.Feature.TheVariants as feature
use Rattle.statement_plan.specs.declared.operation.CellTest.{CellTest}
use Rattle.statement_plan.specs.declared.operation.ConditionalOperation.{ConditionalOperation}
use Rattle.statement_plan.specs.declared.operation.Test.{Test}
use Rattle.statement_plan.specs.declared.operation.Test.TheVariants as test
use Rattle.statement_plan.specs.declared.plan.Columns.TheVariants.{Listed}
use Rattle.statement_plan.specs.declared.plan.Plan.{Plan}
use Rattle.statement_plan.specs.declared.plan.Plan.TheVariants as plan
use Rattle.prepared_statement.specs.Prepared.{condition_fault}
use Rattle.prepared_statement.specs.Structure.{is_conditional}
use Rattle.prepared_statement.specs.declared.change.Batch.{Batch}
use Rattle.prepared_statement.specs.declared.change.Change.{Change}
use Rattle.prepared_statement.specs.declared.change.Guard.{Guard}
use Rattle.prepared_statement.specs.declared.change.Guard.TheVariants as guards
use Rattle.prepared_statement.specs.declared.change.Read.{Read}
use Rattle.prepared_statement.specs.declared.prepared.Prepared.{Prepared}
use Rattle.prepared_statement.specs.declared.prepared.Prepared.TheVariants as prepared
use Rattle.prepared_statement.specs.declared.prepared.UseKeyspace.{UseKeyspace}
use Rattle.statement_binder.specs.Changes.{reach_of, size_fault, row_in, is_empty, timestamp_or, drafts_at}
use Rattle.statement_binder.specs.Supplies.{Left, next_filled, behind_next, front_filled, behind_front, rest_excess}
use Rattle.statement_binder.specs.declared.filled.Filled.{Filled}
use Rattle.statement_binder.specs.declared.piece.Aim.{Aim}
use Rattle.statement_binder.specs.declared.piece.Piece.{Piece}
use Rattle.statement_binder.specs.declared.reach.Reach.{Reach}

abbrev pub refused_or : Option Fault → Plan → Result Plan Fault
refused_or None p = Ok p
refused_or (Some f) p = Err f

-- ---- a statement that changes rows

abbrev pub partition_by : Change → Filled → Partition
partition_by c f = partition_of c.table c.columns f.keys

abbrev pub own_fault : Change → Filled → Partition → Reach → Option Fault
own_fault c f partition at = lower c.fault (lower f.fault (size_fault partition at))

abbrev pub piece_at : Option ℤ → Change → Filled → Partition → Reach → Piece
piece_at timestamp c f partition at = record {
  fault = own_fault c f partition at;
  partition = partition;
  drafts = drafts_at c.action (timestamp_or f.timestamp timestamp) at f.cells;
}

abbrev pub piece_of : Option ℤ → Change → Filled → Piece
piece_of timestamp c f = piece_at timestamp c f (partition_by c f) (reach_of c.action c.columns f.keys)

abbrev pub mutation_of : Piece → Plan
mutation_of p = plan.Write (record { partition = p.partition; changes = p.drafts })

-- ---- with a condition it is an operation, and a timestamp of the protocol says nothing

abbrev pub test_of : Guard → List CellTest → Test
test_of guards.Always tests = test.Present
test_of guards.NotExists tests = test.Absent
test_of guards.Exists tests = test.Present
test_of guards.Tests tests = test.Cells tests

-- where an operation acts, and what it shows
abbrev pub aim_at : Change → Filled → Reach → Aim
aim_at c f at = record {
  fault = own_fault c f (partition_by c f) at;
  partition = partition_by c f;
  row = row_in at;
  shown = c.shown;
}

abbrev pub aimed : Aim → List Draft → Test → Option Fault × ConditionalOperation
aimed a changes t = (
  a.fault,
  record { partition = a.partition; row = a.row; test = t; changes = changes; shown = Listed a.shown },
)

abbrev pub operation_at : Change → Filled → Partition → Reach → Option Fault × ConditionalOperation
operation_at c f partition at = (
  own_fault c f partition at,
  record {
    partition = partition;
    row = row_in at;
    test = test_of c.guard f.tests;
    changes = drafts_at c.action None at f.cells;
    shown = Listed c.shown;
  },
)

abbrev pub operation_of : Change → Filled → Option Fault × ConditionalOperation
operation_of c f = operation_at c f (partition_by c f) (reach_of c.action c.columns f.keys)

abbrev pub operation_plan : Option Fault → Option Fault × ConditionalOperation → Result Plan Fault
operation_plan excess o = refused_or (lower o.0 excess) (plan.Conditional o.1)

abbrev pub write_plan : Option Fault → Piece → Result Plan Fault
write_plan excess p = refused_or (lower p.fault excess) (mutation_of p)

-- with the refusal of values that are left over
abbrev pub filled_change : Option ℤ → Change → Filled → Option Fault → Result Plan Fault
filled_change timestamp c f excess =
    if is_conditional c.guard then operation_plan excess (operation_of c f) else write_plan excess (piece_of timestamp c f)

abbrev pub change_plan : Option ℤ → Change → Left → Result Plan Fault
change_plan timestamp c left = filled_change timestamp c (next_filled left c.slots) (rest_excess (behind_next left c.slots))

-- ---- SELECT

-- the greatest int
abbrev pub most_rows : ℕ
most_rows = 2147483647

abbrev pub natural_in : ℤ → ℕ
natural_in (pos n) = n
natural_in (negsuc n) = most_rows

abbrev pub limit_of : Option ℤ → ℕ
limit_of None = most_rows
limit_of (Some n) = natural_in n

abbrev pub read_size_fault : Partition → RowBounds → Option Fault
read_size_fault partition b =
    if is_long partition.key || (is_long b.from.at || is_long b.upto.at) then Some fault.KeyTooLong
    else if is_empty partition.key then Some fault.EmptyKey
    else None

abbrev pub query_of : Read → Filled → Partition → RowBounds → Query
query_of r f partition b = record {
  partition = partition;
  from = b.from;
  upto = b.upto;
  reversed = r.reversed;
  limit = limit_of f.limit;
}

abbrev pub read_at : Read → Filled → Option Fault → Partition → RowBounds → Result Plan Fault
read_at r f excess partition b =
    refused_or (lower (lower r.fault (lower f.fault (read_size_fault partition b))) excess) (plan.Read (query_of r f partition b) r.shown)

abbrev pub filled_read : Read → Filled → Option Fault → Result Plan Fault
filled_read r f excess = read_at r f excess (partition_of r.table r.columns f.keys) (bounds_of r.columns f.keys)

abbrev pub read_plan : Read → Left → Result Plan Fault
read_plan r left = filled_read r (next_filled left r.slots) (rest_excess (behind_next left r.slots))

-- ---- BATCH

-- a statement of a batch wants no condition
abbrev pub in_batch : Guard → Piece → Piece
in_batch guard p = record p { fault = lower (condition_fault guard) p.fault }

abbrev pub batch_piece : Option ℤ → Change → Filled → Piece
batch_piece timestamp c f = in_batch c.guard (piece_of timestamp c f)

-- the statements, one after another; each takes its values from those that are left
abbrev pub pieces_of : Option ℤ → Left → List Change → List Piece
pieces_of timestamp left [] = []
pieces_of timestamp left (c ∷ cs) = batch_piece timestamp c (next_filled left c.slots) ∷ pieces_of timestamp (behind_next left c.slots) cs

abbrev pub behind_change : Left → Change → Left
behind_change left c = behind_next left c.slots

abbrev pub behind_all : Left → List Change → Left
behind_all left cs = fold behind_change left cs

abbrev pub lower_piece : Option Fault → Piece → Option Fault
lower_piece f p = lower f p.fault

abbrev pub pieces_fault : List Piece → Option Fault
pieces_fault ps = fold lower_piece None ps

abbrev pub is_elsewhere : Partition → Piece → Bool
is_elsewhere partition p = not (is_eq (partition_cmp partition p.partition))

-- the changes of a batch are one mutation of one partition
abbrev pub is_scattered : List Piece → Bool
is_scattered [] = true
is_scattered (p ∷ ps) = list_any (is_elsewhere p.partition) ps

abbrev pub scatter_fault : List Piece → Option Fault
scatter_fault ps = if is_scattered ps then Some (fault.NotSupported feature.Batch) else None

abbrev pub batch_fault : Option Fault → Option Fault → List Piece → Option Fault
batch_fault front excess ps = lower (lower front excess) (lower (pieces_fault ps) (scatter_fault ps))

abbrev pub drafts_of : List Piece → List Draft
drafts_of ps = flat_map (λ p. p.drafts) ps

abbrev pub mutation_of_pieces : List Piece → Result Plan Fault
mutation_of_pieces [] = Err (fault.NotSupported feature.Batch)
mutation_of_pieces (p ∷ ps) = Ok (plan.Write (record { partition = p.partition; changes = drafts_of (p ∷ ps) }))

abbrev pub gathered : Option Fault → List Piece → Result Plan Fault
gathered (Some f) ps = Err f
gathered None ps = mutation_of_pieces ps

abbrev pub filled_batch : Option Fault → Option Fault → List Piece → Result Plan Fault
filled_batch front excess ps = gathered (batch_fault front excess ps) ps

abbrev pub batch_behind : Option ℤ → List Change → Filled → Left → Result Plan Fault
batch_behind timestamp cs front left =
    filled_batch front.fault (rest_excess (behind_all left cs)) (pieces_of (timestamp_or front.timestamp timestamp) left cs)

abbrev pub batch_plan : Option ℤ → Batch → Left → Result Plan Fault
batch_plan timestamp x left = batch_behind timestamp x.changes (front_filled left x.slots) (behind_front left x.slots)

-- ---- statements without values

abbrev pub idle_fault : Left → Option Fault
idle_fault left = lower (next_filled left []).fault (rest_excess (behind_next left []))

abbrev pub use_fault : UseKeyspace → Option Fault
use_fault u = if u.is_there then None else Some fault.UnknownKeyspace

abbrev pub use_plan : UseKeyspace → Left → Result Plan Fault
use_plan u left = refused_or (lower (use_fault u) (idle_fault left)) (plan.Use u.name)

abbrev pub refused_before : Option Fault → Fault → Fault
refused_before None f = f
refused_before (Some g) f = lower_of g f

-- ---- all

-- The plan of a statement, with all changes that it asks for, or the lowest refusal that holds but for the length of the
-- mutation. The timestamp is the one that the protocol gives
abbrev pub plan_of : Prepared → Left → Option ℤ → Result Plan Fault
plan_of prepared.Create left timestamp = Err (refused_before (idle_fault left) (fault.NotSupported feature.Create))
plan_of (prepared.Use u) left timestamp = use_plan u left
plan_of (prepared.Change c) left timestamp = change_plan timestamp c left
plan_of (prepared.Read r) left timestamp = read_plan r left
plan_of (prepared.Batch x) left timestamp = batch_plan timestamp x left

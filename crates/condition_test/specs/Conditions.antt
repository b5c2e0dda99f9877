-- Whether the condition of a conditional statement holds of a row (CQL reference, "IF"): a column without a value equals
-- null, and an order of anything with null holds of nothing.
use Rattle.std.specs.Prelude.{ℕ, ◌==◌, not, is_some, Bool, true, false, List, ◌++◌, length, if◌then◌else◌, Option, Some, None}
use Rattle.std.specs.List.{find, list_all}
use Rattle.std.specs.Option.{option_map}
use Rattle.std.specs.Int.{w64, w128, from_be_bytes, to_be_bytes}
use Rattle.std.specs.Ordering.{nat_cmp}
use Rattle.std.specs.Cmp.Lexicographic.{slice_cmp}
use Rattle.std.specs.declared.cmp.Ordering.{Ordering}
use Rattle.std.specs.declared.cmp.Ordering.TheVariants as ordering
use Rattle.changes.specs.declared.ShownRow.{ShownRow}
use Rattle.cql_values.specs.Order.{flip_top}
use Rattle.cql_values.specs.Value.{uuid_time}
use Rattle.statement_plan.specs.declared.operation.CellTest.{CellTest}
use Rattle.statement_plan.specs.declared.operation.Compare.{Compare}
use Rattle.statement_plan.specs.declared.operation.Compare.TheVariants as compare
use Rattle.statement_plan.specs.declared.operation.Test.{Test}
use Rattle.statement_plan.specs.declared.operation.Test.TheVariants as test
use Rattle.statement_plan.specs.declared.operation.ValueOrder.{ValueOrder}
use Rattle.statement_plan.specs.declared.operation.ValueOrder.TheVariants as order

-- the time of a uuid of version 1; bytes that are no uuid have none, which counts as 0
abbrev pub time_of : List ℕ → ℕ
time_of bytes = if length bytes == 16 then uuid_time (from_be_bytes w128 bytes) else 0

-- bytes whose plain order is that of the values
abbrev pub order_key : ValueOrder → List ℕ → List ℕ
order_key order.Signed bytes = flip_top bytes
order_key order.Plain bytes = bytes
order_key order.Time bytes = to_be_bytes w64 (time_of bytes) ++ bytes

abbrev pub value_cmp : ValueOrder → List ℕ → List ℕ → Ordering
value_cmp o a b = slice_cmp nat_cmp (order_key o a) (order_key o b)

abbrev pub holds_at : Compare → Ordering → Bool
holds_at compare.Equal ordering.Less = false
holds_at compare.Equal ordering.Equal = true
holds_at compare.Equal ordering.Greater = false
holds_at compare.NotEqual ordering.Less = true
holds_at compare.NotEqual ordering.Equal = false
holds_at compare.NotEqual ordering.Greater = true
holds_at compare.Less ordering.Less = true
holds_at compare.Less ordering.Equal = false
holds_at compare.Less ordering.Greater = false
holds_at compare.LessOrEqual ordering.Less = true
holds_at compare.LessOrEqual ordering.Equal = true
holds_at compare.LessOrEqual ordering.Greater = false
holds_at compare.Greater ordering.Less = false
holds_at compare.Greater ordering.Equal = false
holds_at compare.Greater ordering.Greater = true
holds_at compare.GreaterOrEqual ordering.Less = false
holds_at compare.GreaterOrEqual ordering.Equal = true
holds_at compare.GreaterOrEqual ordering.Greater = true

-- where one of the two is null, or both are
abbrev pub holds_of_null : Compare → Bool → Bool
holds_of_null compare.Equal both = both
holds_of_null compare.NotEqual both = not both
holds_of_null compare.Less both = false
holds_of_null compare.LessOrEqual both = false
holds_of_null compare.Greater both = false
holds_of_null compare.GreaterOrEqual both = false

abbrev pub holds_between : ValueOrder → Compare → Option (List ℕ) → Option (List ℕ) → Bool
holds_between o c None None = holds_of_null c true
holds_between o c None (Some b) = holds_of_null c false
holds_between o c (Some a) None = holds_of_null c false
holds_between o c (Some a) (Some b) = holds_at c (value_cmp o a b)

-- what a row has in a column; a row that is not there has nothing
abbrev pub value_in : ℕ → Option ShownRow → Option (List ℕ)
value_in column None = None
value_in column (Some r) = option_map (λ c. c.value) (find (λ c. c.column == column) r.cells)

abbrev pub cell_holds : Option ShownRow → CellTest → Bool
cell_holds row t = holds_between t.order t.compare (value_in t.column row) t.value

-- a read is no condition, and lets nothing be written
abbrev pub condition_holds : Option ShownRow → Test → Bool
condition_holds row test.Absent = not (is_some row)
condition_holds row test.Present = is_some row
condition_holds row (test.Cells tests) = list_all (cell_holds row) tests
condition_holds row (test.Read query) = false

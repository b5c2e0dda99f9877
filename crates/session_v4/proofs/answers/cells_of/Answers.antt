use Rattle.std.proofs.Common.{◌++◌, ◌<◌, ◌∙◌, ap, arith, length, List, Option}
use Rattle.cql_values.specs.declared.value.CqlValue.{CqlValue}
use Rattle.session_v4.proofs.CellLaws.{cells_grow}
use Rattle.session_v4.specs.Answers.{cells_at}
use Rattle.session_v4.proofs.answers.cells_of.Goals as goal

pub loop-row-preserved : goal.loop-row-preserved
loop-row-preserved c =
    let below : c.loop-row.row-index < length c.args.rows.now = omega arith in
    let F = λ (values : List (Option CqlValue)). c.loop-row.cells.items ++ cells_at c.args.numbers.now values in
    cells_grow c.args.columns.now c.args.key.now c.args.numbers.now c.args.rows.now c.loop-row.row-index c.row-item.result c.loop-row.cells.items
    c.push_cells.new.cells.items c.in_ok-values.values below c.row-item.is c.loop-row.invariant c.in_ok-values.ensures
    (c.in_ok-push_cells.ensures ∙ ap F c.as_slice.ensures)

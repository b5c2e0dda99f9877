use Rattle.std.proofs.Common.{sym, ◌∙◌, ap, ◌++◌, List}
use Rattle.changes.specs.declared.ShownCell.{ShownCell}
use Rattle.row_select.specs.Rows.{cell_list}
use Rattle.row_select.proofs.RowLaws.{cells_more}
use Rattle.row_select.proofs.rows.cells_of.Goals as goal

pub loop-held-preserved : goal.loop-held-preserved
loop-held-preserved c =
    c.in_ok-add_cell.ensures ∙ ap (λ (l : List ShownCell). l ++ cell_list c.held-item.result) c.loop-held.invariant
    ∙ sym (cells_more c.args.changes.now c.loop-held.held-index c.held-item.result c.loop-held-test.true c.held-item.is)

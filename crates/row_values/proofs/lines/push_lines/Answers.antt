use Rattle.std.proofs.Common.{List, sym, subst, take}
use Rattle.changes.specs.declared.ShownRow.{ShownRow}
use Rattle.row_values.specs.Values.{key_values}
use Rattle.row_values.proofs.TextLaws.{ArePrinted, none_printed, one_printed, rows_more}
use Rattle.row_values.proofs.lines.push_lines.Goals as goal

pub loop-row-init : goal.loop-row-init
loop-row-init c =
    let empty = c.in_ok-literals in
    none_printed c.args.columns.now c.args.key.now c.args.shown.now c.mark-mark.result c.args.out.now.items empty.literals c.push_key_literals.new.literals empty.ensures.text empty.ensures.spans
    c.in_ok-push_key_literals.ensures c.mark-mark.ensures.text c.mark-mark.ensures.spans

pub loop-row-preserved : goal.loop-row-preserved
loop-row-preserved c =
    let columns = c.args.columns.now in
    let key = c.args.key.now in
    let shown = c.args.shown.now in
    let mark = c.mark-mark.result in
    let before = c.args.out.now.items in
    let l = c.loop-row in
    let rows = c.args.rows.now in
    let row = c.row-item.result in
    subst (λ (printed : List ShownRow). ArePrinted columns key shown mark before printed c.push_line.new.literals c.push_line.new.out.items)
    (sym (rows_more rows l.row-index row c.loop-row-test.true c.row-item.is))
    (one_printed columns key shown mark before (take l.row-index rows) row l.literals c.push_line.new.literals l.out.items c.push_line.new.out.items l.invariant
    (c.in_ok-push_line.ensures (key_values columns key) l.invariant.begins))

use Rattle.row_values.proofs.TextLaws.{one_more}
use Rattle.std.proofs.Common.{refl}
use Rattle.row_values.specs.Values.{cell_value}
use Rattle.row_values.proofs.lines.push_cell_literal.Goals as goal

pub returns : goal.returns
returns c =
    one_more (cell_value c.args.cells.now c.args.number c.args.ty) c.args.literals.now (record { text = c.push_cell.new.out; spans = c.args.literals.now.spans }) c.end.new.self
    c.text_len-start.result c.text_len-start.ensures c.in_ok-push_cell.ensures refl c.in_ok-end.ensures.text c.in_ok-end.ensures.spans

use Rattle.std.proofs.Common.{Err, ap, ◌∙◌}
use Rattle.row_values.proofs.Reading.{none_at, none_read, is_short, is_malformed}
use Rattle.row_values.proofs.clustering.order_front.Goals as goal

pub returns-in-Err-Short : goal.returns-in-Err-Short
returns-in-Err-Short c =
    let front = c.none-in-Err-Short in
    none_at c.args.column.now c.args.bytes.now front.result.value front.result.len front.ensures.value front.ensures.len
    (none_read c.args.column.now c.args.bytes.now c.read_order.result _ c.read_order.ensures.only (c.in-Err-Short.is ∙ ap Err c.in-Err-Short.field-0-is) is_short)

pub returns-in-Err-Malformed : goal.returns-in-Err-Malformed
returns-in-Err-Malformed c =
    let front = c.none-in-Err-Malformed in
    none_at c.args.column.now c.args.bytes.now front.result.value front.result.len front.ensures.value front.ensures.len
    (none_read c.args.column.now c.args.bytes.now c.read_order.result _ c.read_order.ensures.only (c.in-Err-Malformed.is ∙ ap Err c.in-Err-Malformed.field-0-is)
    (is_malformed c.in-Err-Malformed.field-0-0))

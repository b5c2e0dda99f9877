use Rattle.std.proofs.Common.{sym, ◌∙◌}
use Rattle.row_values.proofs.PlainLaws.{plain_at}
use Rattle.row_values.proofs.plain.plain_front.Goals as goal

pub returns-then-bytes-len-eq0-2 : goal.returns-then-bytes-len-eq0-2
returns-then-bytes-len-eq0-2 c =
    plain_at c.args.column.now c.args.bytes.now c.plain_len-len.result (sym c.is_text.ensures ∙ c.if-not-is_text.false) c.if-column.false c.plain_len-len.ensures.count c.if-len-bytes.true
    c.if-bytes-len-eq0.true c.if-bytes-len-eq0-2.true

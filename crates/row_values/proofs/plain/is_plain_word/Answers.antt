use Rattle.std.proofs.Common.{sym, ◌∙◌}
use Rattle.row_values.proofs.PlainLaws.{plain_word_of}
use Rattle.row_values.proofs.plain.is_plain_word.Goals as goal

pub returns-then-is_text : goal.returns-then-is_text
returns-then-is_text c whole = plain_word_of c.args.ty c.args.bytes.now c.plain_len.result (sym c.is_text.ensures ∙ c.if-is_text.true) c.plain_len.ensures.count whole

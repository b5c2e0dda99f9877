use Rattle.row_values.proofs.TextLaws.{one_more}
use Rattle.std.proofs.Common.{refl}
use Rattle.row_values.proofs.lines.push_front_literal.Goals as goal

pub returns : goal.returns
returns c =
    let front = c.in_ok-len.ensures in (
      front.0,
      front.1,
      one_more front.0 c.args.literals.now (record { text = c.push_front.new.out; spans = c.args.literals.now.spans }) c.end.new.self c.text_len-start.result c.text_len-start.ensures
          front.2 refl c.in_ok-end.ensures.text c.in_ok-end.ensures.spans,
    )

use Rattle.row_values.proofs.TextLaws.{starts, value_leads, value_ends}
use Rattle.row_values.proofs.lines.push_value_literals.Goals as goal

pub loop-value-init : goal.loop-value-init
loop-value-init c = starts c.args.values.now c.args.literals.now

pub loop-value-preserved : goal.loop-value-preserved
loop-value-preserved c =
    let l = c.loop-value in
    value_leads c.args.values.now c.args.literals.now l.literals c.push_value_literal.new.literals l.value-index c.value-item.result c.loop-value-test.true c.value-item.is l.invariant
    c.in_ok-push_value_literal.ensures

pub returns : goal.returns
returns c = value_ends c.args.values.now c.args.literals.now c.loop-value.literals c.loop-value.value-index c.loop-value-test.false c.loop-value.invariant

use Rattle.cql_tokens.specs.declared.token.TokenKind.TheVariants as kinds
use Rattle.cql_parser.specs.Forms.{symbol}
use Rattle.cql_parser.specs.Grammar as grammar
use Rattle.cql_parser.specs.Reading.{read, starts, firsts, behind}
use Rattle.cql_parser.proofs.Steps.{step, behind_both}
use Rattle.cql_parser.proofs.schema.more_orders.Goals as goal

pub loop-preserved : goal.loop-preserved
loop-preserved c =
    step (starts (firsts (symbol kinds.Comma))) (behind (symbol kinds.Comma) (read grammar.stated_order))
    _ _ c.in_ok-stated_order.field-0 c.left-most.result c.loop.counter c.loop.cursor c.stated_order.new.cursor _ c.loop-test.true c.if-not-take_symbol.ensures.0
    (behind_both (symbol kinds.Comma) (read grammar.stated_order) c.loop.cursor c.take_symbol.new.self c.stated_order.new.cursor c.in_ok-stated_order.field-0 c.if-not-take_symbol.ensures.1 c.in_ok-stated_order.ensures)
    c.in_ok-push.ensures.ok c.loop.invariant

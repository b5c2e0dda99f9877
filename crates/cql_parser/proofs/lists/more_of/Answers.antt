use Rattle.std.proofs.Common.{sym, ◌∙◌}
use Rattle.cql_parser.specs.Gives.{separator_form}
use Rattle.cql_parser.specs.Reading.{starts, firsts, behind}
use Rattle.cql_parser.proofs.Steps.{step}
use Rattle.cql_parser.proofs.lists.more_of.Goals as goal

pub loop-preserved : goal.loop-preserved
loop-preserved g c =
    step (starts (firsts (separator_form c.args.separator))) (behind (separator_form c.args.separator) g.P.Part.reads)
    _ _ _ c.left-most.result c.loop.counter _ _ _ c.loop-test.true (sym c.is_next.ensures ∙ c.if-not-is_next.false) c.in_ok-behind.ensures c.in_ok-push.ensures.ok c.loop.invariant

use Rattle.std.proofs.Common.{sym, ◌∙◌}
use Rattle.cql_parser.specs.Forms.{◌◃◌}
use Rattle.cql_parser.specs.Grammar as grammar
use Rattle.cql_parser.specs.Reading.{read, starts, firsts}
use Rattle.cql_parser.proofs.Steps.{step}
use Rattle.cql_parser.proofs.rows.modifications.Goals as goal

pub loop-preserved : goal.loop-preserved
loop-preserved c =
    step (starts (firsts grammar.modification)) (read (grammar.modification ◃ grammar.semicolon))
    _ _ _ c.left-most.result c.loop.counter _ _ _ c.loop-test.true (sym c.next_is_modification.ensures ∙ c.if-not-next_is_modification.false) c.in_ok-modification.ensures c.in_ok-push.ensures.ok c.loop.invariant

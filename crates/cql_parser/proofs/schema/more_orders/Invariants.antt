use Rattle.std.proofs.Common.{◌≡◌, ◌-◌}
use Rattle.cql_tokens.specs.declared.token.TokenKind.TheVariants as kinds
use Rattle.cql_parser.specs.Forms.{symbol}
use Rattle.cql_parser.specs.Grammar as grammar
use Rattle.cql_parser.specs.Reading.{read, prefixed, more_at}
use Rattle.cql_parser.proofs.schema.more_orders.Given as goal

abbrev pub invariant-loop : goal.invariant-loop
invariant-loop l =
    prefixed l.orders (more_at (symbol kinds.Comma) (read grammar.stated_order) (l.most - l.counter) l.cursor)
    ≡ prefixed l.fn.first (more_at (symbol kinds.Comma) (read grammar.stated_order) l.most l.fn.cursor)

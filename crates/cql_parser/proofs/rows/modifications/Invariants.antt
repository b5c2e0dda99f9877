use Rattle.std.proofs.Common.{◌≡◌, ◌-◌}
use Rattle.cql_parser.specs.Forms.{◌◃◌}
use Rattle.cql_parser.specs.Grammar as grammar
use Rattle.cql_parser.specs.Reading.{read, prefixed, many_at, starts, firsts}
use Rattle.cql_parser.proofs.rows.modifications.Given as goal

abbrev pub invariant-loop : goal.invariant-loop
invariant-loop l =
    prefixed l.modifications (many_at (starts (firsts grammar.modification)) (read (grammar.modification ◃ grammar.semicolon)) (l.most - l.counter) l.cursor)
    ≡ many_at (starts (firsts grammar.modification)) (read (grammar.modification ◃ grammar.semicolon)) l.most l.fn.cursor

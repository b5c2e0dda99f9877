use Rattle.std.proofs.Common.{◌≡◌, ◌-◌}
use Rattle.cql_parser.specs.Gives.{separator_form}
use Rattle.cql_parser.specs.Reading.{prefixed, more_at}
use Rattle.cql_parser.proofs.lists.more_of.Given as goal

abbrev pub invariant-loop : goal.invariant-loop
invariant-loop g l =
    prefixed l.parts (more_at (separator_form l.separator) g.P.Part.reads (l.most - l.counter) l.cursor)
    ≡ prefixed l.fn.first (more_at (separator_form l.separator) g.P.Part.reads l.most l.fn.cursor)

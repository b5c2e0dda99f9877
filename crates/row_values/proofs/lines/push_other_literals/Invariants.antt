use Rattle.row_values.proofs.TextLaws.{OthersLead}
use Rattle.row_values.proofs.lines.push_other_literals.Given as goal

abbrev pub invariant-loop-number : goal.invariant-loop-number
invariant-loop-number l = OthersLead l.columns l.cells l.fn.literals l.number l.literals

use Rattle.std.proofs.Common.{drop}
use Rattle.row_values.proofs.TextLaws.{LeadsTo}
use Rattle.row_values.proofs.lines.push_value_literals.Given as goal

abbrev pub invariant-loop-value : goal.invariant-loop-value
invariant-loop-value l = LeadsTo l.values l.fn.literals (drop l.value-index l.values) l.literals

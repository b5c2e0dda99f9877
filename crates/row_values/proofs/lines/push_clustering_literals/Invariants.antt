use Rattle.row_values.proofs.TextLaws.{Reaches}
use Rattle.row_values.proofs.lines.push_clustering_literals.Given as goal

abbrev pub invariant-loop-column : goal.invariant-loop-column
invariant-loop-column l = Reaches l.columns l.row l.fn.literals l.column-index l.rest l.literals

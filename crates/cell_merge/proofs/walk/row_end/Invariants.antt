use Rattle.cell_merge.specs.Walks.{AllOf}
use Rattle.cell_merge.proofs.walk.row_end.Given as goal

-- those so far are in the row
abbrev pub invariant-loop-i : goal.invariant-loop-i
invariant-loop-i l = AllOf l.row l.changes 0 l.i

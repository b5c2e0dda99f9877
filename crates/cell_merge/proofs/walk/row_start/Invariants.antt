use Rattle.std.proofs.Common.{◌≤◌, length}
use Rattle.cell_merge.specs.Walks.{AllOf}
use Rattle.cell_merge.proofs.walk.row_start.Given as goal

-- those that were passed are in the row
abbrev pub invariant-loop-start : goal.invariant-loop-start
invariant-loop-start l = record { within : l.start ≤ length l.changes; passed : AllOf l.row l.changes l.start (length l.changes) }

abbrev pub decreases-loop-start : goal.decreases-loop-start
decreases-loop-start l = l.start

use Rattle.std.proofs.Common.{take}
use Rattle.session_v4.specs.Answers.{AreCells}
use Rattle.session_v4.proofs.answers.cells_of.Given as goal

abbrev pub invariant-loop-row : goal.invariant-loop-row
invariant-loop-row l = AreCells l.columns l.key l.numbers (take l.row-index l.rows) l.cells.items

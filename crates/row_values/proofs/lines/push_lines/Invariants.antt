use Rattle.std.proofs.Common.{take}
use Rattle.row_values.proofs.TextLaws.{ArePrinted}
use Rattle.row_values.proofs.lines.push_lines.Given as goal

-- the lines of the rows so far
abbrev pub invariant-loop-row : goal.invariant-loop-row
invariant-loop-row l = ArePrinted l.columns l.key l.shown l.mark l.fn.out.items (take l.row-index l.rows) l.literals l.out.items

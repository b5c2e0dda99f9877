use Rattle.std.proofs.Common.{◌≡◌, take}
use Rattle.step_desk.proofs.copies.copy_cells.Given as goal

abbrev pub invariant-loop-cell : goal.invariant-loop-cell
invariant-loop-cell l = l.copy.items ≡ take l.cell-index l.cells

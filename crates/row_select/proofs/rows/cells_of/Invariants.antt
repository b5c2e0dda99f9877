use Rattle.std.proofs.Common.{◌≡◌, take}
use Rattle.row_select.specs.Rows.{cells_of}
use Rattle.row_select.proofs.rows.cells_of.Given as goal

-- the cells of the changes so far
abbrev pub invariant-loop-held : goal.invariant-loop-held
invariant-loop-held l = l.cells ≡ cells_of (take l.held-index l.changes)

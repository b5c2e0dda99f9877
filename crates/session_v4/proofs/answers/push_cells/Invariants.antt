use Rattle.std.proofs.Common.{◌≡◌, ◌++◌, take}
use Rattle.session_v4.specs.Answers.{cells_at}
use Rattle.session_v4.proofs.answers.push_cells.Given as goal

abbrev pub invariant-loop-number : goal.invariant-loop-number
invariant-loop-number l = l.cells.items ≡ l.fn.cells.items ++ cells_at (take l.number-index l.numbers) l.values

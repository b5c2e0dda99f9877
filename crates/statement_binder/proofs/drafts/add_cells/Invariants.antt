use Rattle.std.proofs.Common.{◌≡◌, ◌++◌}
use Rattle.statement_binder.specs.Changes.{cell_drafts}
use Rattle.statement_binder.proofs.drafts.add_cells.Given as goal

abbrev pub invariant-loop-cell : goal.invariant-loop-cell
invariant-loop-cell l = l.drafts.items ≡ l.fn.drafts.items ++ cell_drafts l.timestamp l.row l.yielded

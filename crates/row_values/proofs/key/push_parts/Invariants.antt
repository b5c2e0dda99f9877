use Rattle.std.proofs.Common.{◌≡◌, ◌++◌, drop}
use Rattle.row_values.proofs.Parts.{parts_left}
use Rattle.row_values.proofs.key.push_parts.Given as goal

-- the values so far and those of what is left to look at are all
abbrev pub invariant-loop-column : goal.invariant-loop-column
invariant-loop-column l = l.values.items ++ parts_left l.rest (drop l.column-index l.columns) ≡ l.fn.values.items ++ parts_left l.key l.columns

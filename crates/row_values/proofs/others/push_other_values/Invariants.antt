use Rattle.std.proofs.Common.{◌≡◌, ◌++◌, drop}
use Rattle.row_values.specs.Values.{other_values, others_from}
use Rattle.row_values.proofs.others.push_other_values.Given as goal

-- the values so far and those of what is left to look at are all
abbrev pub invariant-loop-number : goal.invariant-loop-number
invariant-loop-number l = l.values.items ++ others_from l.cells l.number (drop l.number l.columns) ≡ l.fn.values.items ++ other_values l.columns l.cells

use Rattle.std.proofs.Common.{◌≡◌, ◌++◌, drop, flat_map}
use Rattle.row_values.specs.Prints.{next_text, values_text}
use Rattle.row_values.proofs.print.push_values.Given as goal

-- what is printed so far and the texts of what is left are all
abbrev pub invariant-loop-number : goal.invariant-loop-number
invariant-loop-number l = l.out.items ++ flat_map (next_text l.values) (drop l.number-index l.later) ≡ l.fn.out.items ++ values_text l.values l.shown

use Rattle.std.proofs.Common.{◌≡◌, ◌++◌, drop, flat_map}
use Rattle.row_values.specs.Texts.{next_shown, shown_text}
use Rattle.row_values.proofs.lines.push_shown.Given as goal

-- what is printed so far and the texts of what is left are all
abbrev pub invariant-loop-number : goal.invariant-loop-number
invariant-loop-number l = l.out.items ++ flat_map (next_shown l.literals) (drop l.number-index l.later) ≡ l.fn.out.items ++ shown_text l.literals l.shown

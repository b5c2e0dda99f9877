use Rattle.std.proofs.Common.{◌≡◌, ◌++◌, take, map}
use Rattle.script_print.specs.Printed.{schema_line, printed_lines}
use Rattle.script_print.proofs.head.push_statements.Given as goal

-- the lines so far
abbrev pub invariant-loop-text : goal.invariant-loop-text
invariant-loop-text l = l.out.items ≡ l.fn.out.items ++ printed_lines (map schema_line (take l.text-index l.statements))

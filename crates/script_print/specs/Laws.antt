-- What is printed is read as it was.
use Rattle.std.specs.Prelude.{ℕ, ◌≤◌, List, length, Ok}
use Rattle.fault_script.specs.declared.script.Script.{Script}
use Rattle.fault_script.specs.Script.{IsRead, longest_script}
use Rattle.script_print.specs.Printed.{printed}

-- what is printed of a script that a text is read as is read as this script, if it is not too long
abbrev pub ReadingUndoesPrinting : Type 0
ReadingUndoesPrinting = (text : List ℕ) (script : Script) → IsRead text (Ok script) → length (printed script) ≤ longest_script → IsRead (printed script) (Ok script)

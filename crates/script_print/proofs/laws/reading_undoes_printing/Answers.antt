use Rattle.script_print.proofs.ScriptFacts.{script_fits}
use Rattle.script_print.proofs.ScriptBack.{script_back}
use Rattle.script_print.proofs.laws.reading_undoes_printing.Goals as goal

pub returns : goal.returns
returns c = λ text script is short. script_back script (script_fits text script is) (c.statements_are_read.ensures text script is) short

use Rattle.script_program.proofs.KvLaws.{number_stands}
use Rattle.script_program.proofs.statements.number_is_read.Goals as goal

pub returns : goal.returns
returns c = number_stands c.reading_undoes_printing.ensures.value c.args.number c.ranges.number

use Rattle.std.proofs.Common.{subst}
use Rattle.std.specs.Str.{IsUtf8}
use Rattle.script_program.proofs.KvLaws.{text_stands}
use Rattle.script_program.proofs.statements.text_is_read.Goals as goal

pub returns : goal.returns
returns c = text_stands c.reading_undoes_printing.ensures.value c.args.text.now (subst IsUtf8 c.as_bytes.ensures.value c.as_bytes.ensures.utf8)

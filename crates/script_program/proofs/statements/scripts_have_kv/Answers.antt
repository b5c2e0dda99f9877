use Rattle.script_program.proofs.KvLaws.{kv_is_there}
use Rattle.script_program.proofs.statements.scripts_have_kv.Goals as goal

pub returns : goal.returns
returns c = kv_is_there c.scripts_have_their_schema.ensures

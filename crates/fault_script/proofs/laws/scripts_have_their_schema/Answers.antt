use Rattle.fault_script.proofs.ScriptHolds.{script_holds}
use Rattle.fault_script.proofs.laws.scripts_have_their_schema.Goals as goal

pub returns : goal.returns
returns c = λ text script is. (script_holds text script is).schema

use Rattle.fault_script.proofs.ScriptHolds.{script_holds}
use Rattle.fault_script.proofs.laws.scripts_have_an_expiry.Goals as goal

pub returns : goal.returns
returns c = λ text script is. (script_holds text script is).expiry

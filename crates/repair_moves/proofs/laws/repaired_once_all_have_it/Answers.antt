use Rattle.repair_moves.proofs.Known.{repaired_once_all_have_it}
use Rattle.repair_moves.proofs.laws.repaired_once_all_have_it.Goals as goal

pub returns : goal.returns
returns c = repaired_once_all_have_it

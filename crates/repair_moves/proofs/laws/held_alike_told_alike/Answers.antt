use Rattle.repair_moves.proofs.Alike.{told_alike}
use Rattle.repair_moves.proofs.laws.held_alike_told_alike.Goals as goal

pub returns : goal.returns
returns c = told_alike

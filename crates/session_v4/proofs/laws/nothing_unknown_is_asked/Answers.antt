use Rattle.session_v4.proofs.Moves.{nothing_unknown}
use Rattle.session_v4.proofs.laws.nothing_unknown_is_asked.Goals as goal

pub returns : goal.returns
returns c = nothing_unknown

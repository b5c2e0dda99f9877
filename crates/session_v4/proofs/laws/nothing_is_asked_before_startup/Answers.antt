use Rattle.session_v4.proofs.Moves.{nothing_before}
use Rattle.session_v4.proofs.laws.nothing_is_asked_before_startup.Goals as goal

pub returns : goal.returns
returns c = nothing_before

use Rattle.session_v4.proofs.Moves.{starts_once}
use Rattle.session_v4.proofs.laws.connections_start_once.Goals as goal

pub returns : goal.returns
returns c = starts_once

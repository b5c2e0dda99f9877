use Rattle.session_v4.proofs.Moves.{same_asked}
use Rattle.session_v4.proofs.laws.prepared_statements_ask_the_same.Goals as goal

pub returns : goal.returns
returns c = same_asked

use Rattle.session_v4.proofs.Moves.{few_kept}
use Rattle.session_v4.proofs.laws.few_statements_are_kept.Goals as goal

pub returns : goal.returns
returns c = few_kept

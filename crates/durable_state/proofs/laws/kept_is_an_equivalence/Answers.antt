use Rattle.durable_state.proofs.Same.{same_itself, same_back, same_on}
use Rattle.durable_state.proofs.laws.kept_is_an_equivalence.Goals as goal

pub returns : goal.returns
returns c = record { itself = same_itself; back = same_back; passed_on = same_on }

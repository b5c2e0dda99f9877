use Rattle.durable_state.proofs.Together.{taken_together}
use Rattle.durable_state.proofs.laws.data_is_taken_together.Goals as goal

pub returns : goal.returns
returns c = taken_together

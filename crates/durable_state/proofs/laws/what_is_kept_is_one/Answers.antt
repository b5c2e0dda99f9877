use Rattle.durable_state.proofs.Kept.{kept_is_one}
use Rattle.durable_state.proofs.laws.what_is_kept_is_one.Goals as goal

pub returns : goal.returns
returns c = kept_is_one

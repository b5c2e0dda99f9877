use Rattle.durable_state.proofs.Entries.{entries_follow}
use Rattle.durable_state.proofs.laws.entries_follow_each_other.Goals as goal

pub returns : goal.returns
returns c = entries_follow

use Rattle.durable_state.proofs.Making.{each_entry_makes}
use Rattle.durable_state.proofs.laws.each_entry_makes_a_state.Goals as goal

pub returns : goal.returns
returns c = each_entry_makes

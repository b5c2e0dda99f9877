use Rattle.served_theorem.proofs.Formatted.{formatted_left}
use Rattle.served_theorem.proofs.formatted_stores_are_left.Goals as goal

pub returns : goal.returns
returns g c = formatted_left g.R.Replica.stands_for g.met.R.Replica.stand_for_one g.met.R.Replica.begins_empty

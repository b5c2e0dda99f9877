use Rattle.changes.proofs.Best.{best_of_each_place, best_are_determined}
use Rattle.changes.proofs.laws.one_change_of_each_place.Goals as goal

pub returns : goal.returns
returns c = record { each = best_of_each_place; only = best_are_determined }

use Rattle.changes.proofs.Lengths.{lengths_add_up, parts_are_no_longer}
use Rattle.changes.proofs.laws.lengths_add_up.Goals as goal

pub returns : goal.returns
returns c = record { sum = lengths_add_up; part = parts_are_no_longer }

use Rattle.served_seats.proofs.Seated.{same_passes_have_all_seats}
use Rattle.served_seats.proofs.laws.same_passes_have_all_seats.Goals as goal

pub returns : goal.returns
returns g c = same_passes_have_all_seats g.row.N-Entry.Denot

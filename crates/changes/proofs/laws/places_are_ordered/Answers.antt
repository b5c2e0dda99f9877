use Rattle.changes.specs.Totals.{place_total}
use Rattle.changes.proofs.Places.{place_exact}
use Rattle.changes.proofs.laws.places_are_ordered.Goals as goal

pub returns : goal.returns
returns c = (place_total, place_exact)

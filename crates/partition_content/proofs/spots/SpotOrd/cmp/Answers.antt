use Rattle.std.proofs.Common.{◌≡◌, sym, ◌∙◌, ap, subst, ◌∷◌}
use Rattle.std.specs.Ordering.{ordering_reverse}
use Rattle.changes.specs.Order.{bound_signs}
use Rattle.changes.specs.Places.{place_signs}
use Rattle.partition_content.specs.declared.spots.Spot.{Spot}
use Rattle.partition_content.specs.declared.spots.Spot.TheVariants.{At}
use Rattle.partition_content.specs.Spots.{spot_cmp}
use Rattle.partition_content.proofs.SpotLemmas.{reversed}
use Rattle.partition_content.proofs.spots.SpotOrd.cmp.Goals as goal

pub returns-in-At-Edge : goal.returns-in-At-Edge
returns-in-At-Edge c =
    let turned = c.reverse.ensures ∙ ap ordering_reverse c.standing.ensures ∙ reversed ((2, 0) ∷ bound_signs c.in-At-Edge.bound) (place_signs c.in-At-Edge.place) in
    subst (λ (s : Spot). c.reverse.result ≡ spot_cmp s c.args.other.now) (sym c.in-At-Edge.is-0) (subst (λ (s : Spot). c.reverse.result ≡ spot_cmp (At c.in-At-Edge.place) s) (sym c.in-At-Edge.is-1) turned)

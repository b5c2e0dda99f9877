use Rattle.std.proofs.Common.{rules, ◌≡◌, [], ℕ, Some, sym, ap, ◌∙◌}
use Rattle.std.specs.Prelude.{slice_get}
use Rattle.std.proofs.lemmas.Bool.{ltb-true}
use Rattle.std.proofs.lemmas.Option.{slice_get-get_or, slice_get_past}
use Rattle.cluster_model.specs.Sites.{keeper, StopsBy}
use Rattle.cluster_model.specs.declared.seat.Seat.{Seat}
use Rattle.cluster_model.proofs.Going.{at_seat, no_seat}
use Rattle.cluster_model.proofs.parts.crash_at.Goals as goal

pub returns-in-Some : goal.returns-in-Some
returns-in-Some g c =
    let m = keeper g.R.Replica.stands_for g.R.Replica.durable g.R.Replica.disk g.R.Replica.is_whole in
    let seat : Seat g.row.R.Denot = c.in-Some.seat.now in
    let within = ltb-true _ _ (sym c.in-Some.ensures.item.0) in
    let at : slice_get c.args.seats.now.items c.from.result ≡ Some seat = slice_get-get_or c.args.seats.now.items c.from.result seat within ∙ ap Some (sym c.in-Some.ensures.item.1) in
    let number : c.from.result ≡ c.args.node = search rules in
    at_seat (λ (x y : Seat g.row.R.Denot). StopsBy m x.part y.part × (y.clock ≡ x.clock) × (y.told.items ≡ [])) (Unit {0}) c.args.seats.now.items c.args.node c.from.result seat c.stop.new.self number at (c.stop.ensures.part, c.stop.ensures.clock, c.stop.ensures.told)

pub returns-in_default : goal.returns-in_default
returns-in_default g c =
    let m = keeper g.R.Replica.stands_for g.R.Replica.durable g.R.Replica.disk g.R.Replica.is_whole in
    let number : c.from.result ≡ c.args.node = search rules in
    let none = ap (λ (n : ℕ). slice_get c.args.seats.now.items n) (sym number) ∙ slice_get_past c.args.seats.now.items c.from.result (search rules) in
    no_seat (λ (x y : Seat g.row.R.Denot). StopsBy m x.part y.part × (y.clock ≡ x.clock) × (y.told.items ≡ [])) (Unit {0}) c.args.seats.now.items c.args.node none tt

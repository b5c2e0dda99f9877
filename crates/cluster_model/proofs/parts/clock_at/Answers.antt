use Rattle.std.proofs.Common.{rules, ◌≡◌, ℕ, Some, refl, sym, ap, ◌∙◌}
use Rattle.std.specs.Prelude.{slice_get}
use Rattle.std.proofs.lemmas.Bool.{ltb-true}
use Rattle.std.proofs.lemmas.Option.{slice_get-get_or}
use Rattle.cluster_model.specs.Sites.{IsSeat}
use Rattle.cluster_model.specs.declared.seat.Seat.{Seat}
use Rattle.cluster_model.proofs.Going.{at_seat}
use Rattle.cluster_model.proofs.parts.clock_at.Goals as goal

pub returns-clause-seats : goal.returns-clause-seats
returns-clause-seats g c =
    let seat : Seat g.row.R.Denot = c.in_ok-seat.seat.now in
    let within = ltb-true _ _ (sym c.in_ok-seat.ensures.item.0) in
    let at : slice_get c.args.seats.now.items c.from.result ≡ Some seat = slice_get-get_or c.args.seats.now.items c.from.result seat within ∙ ap Some (sym c.in_ok-seat.ensures.item.1) in
    let number : c.from.result ≡ c.args.node = search rules in
    let now : c.replace.new.dest ≡ c.args.micros = search rules in
    at_seat (λ (x y : Seat g.row.R.Denot). IsSeat x.part c.args.micros x.told.items y) (Unit {0}) c.args.seats.now.items c.args.node c.from.result seat (record { part = seat.part; clock = c.replace.new.dest; told = seat.told }) number at (refl, now, refl)

pub returns-clause-before : goal.returns-clause-before
returns-clause-before g c =
    let seat : Seat g.row.R.Denot = c.in_ok-seat.seat.now in
    let within = ltb-true _ _ (sym c.in_ok-seat.ensures.item.0) in
    let at : slice_get c.args.seats.now.items c.from.result ≡ Some seat = slice_get-get_or c.args.seats.now.items c.from.result seat within ∙ ap Some (sym c.in_ok-seat.ensures.item.1) in
    let number : c.from.result ≡ c.args.node = search rules in
    let was : seat.clock ≡ c.replace.result = search rules in
    (seat, ap (λ (n : ℕ). slice_get c.args.seats.now.items n) (sym number) ∙ at, was)

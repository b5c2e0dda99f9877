use Rattle.std.proofs.Common.{rules, ◌≡◌, ◌++◌, [], ◌∷◌, ℕ, Some, sym, ap, ◌∙◌}
use Rattle.std.specs.Prelude.{slice_get}
use Rattle.std.proofs.lemmas.Bool.{ltb-true}
use Rattle.std.proofs.lemmas.Option.{slice_get-get_or, slice_get_past}
use Rattle.cluster_model.specs.Sites.{keeper, IsSeat, TellsBy}
use Rattle.cluster_model.specs.declared.seat.Seat.{Seat}
use Rattle.cluster_model.proofs.Going.{ok_at_seat, err_at_seat, no_seat, ok_parts, err_parts}
use Rattle.cluster_model.proofs.parts.tell_at.Goals as goal

pub returns-in-Some-clause-ok : goal.returns-in-Some-clause-ok
returns-in-Some-clause-ok g c =
    let m = keeper g.R.Replica.stands_for g.R.Replica.durable g.R.Replica.disk g.R.Replica.is_whole in
    let seat : Seat g.row.R.Denot = c.in-Some.seat.now in
    let within = ltb-true _ _ (sym c.in-Some.ensures.item.0) in
    let at : slice_get c.args.seats.now.items c.from.result ≡ Some seat = slice_get-get_or c.args.seats.now.items c.from.result seat within ∙ ap Some (sym c.in-Some.ensures.item.1) in
    let number : c.from.result ≡ c.args.node = search rules in
    ok_at_seat c.tell.result (λ (x y : Seat g.row.R.Denot). TellsBy m c.args.fault x.part y.part × (y.clock ≡ x.clock) × (y.told.items ≡ x.told.items ++ c.args.fault ∷ [])) (Unit {0}) c.args.seats.now.items c.args.node c.from.result seat c.tell.new.self number at
    (ok_parts c.tell.result (TellsBy m c.args.fault seat.part c.tell.new.self.part) (c.tell.new.self.clock ≡ seat.clock) (c.tell.new.self.told.items ≡ seat.told.items ++ c.args.fault ∷ []) c.tell.ensures.part c.tell.ensures.clock c.tell.ensures.told)

pub returns-in-Some-clause-err : goal.returns-in-Some-clause-err
returns-in-Some-clause-err g c =
    let seat : Seat g.row.R.Denot = c.in-Some.seat.now in
    let within = ltb-true _ _ (sym c.in-Some.ensures.item.0) in
    let at : slice_get c.args.seats.now.items c.from.result ≡ Some seat = slice_get-get_or c.args.seats.now.items c.from.result seat within ∙ ap Some (sym c.in-Some.ensures.item.1) in
    let number : c.from.result ≡ c.args.node = search rules in
    err_at_seat c.tell.result (λ (x y : Seat g.row.R.Denot). IsSeat x.part x.clock x.told.items y) (Unit {0}) c.args.seats.now.items c.args.node c.from.result seat c.tell.new.self number at
    (err_parts c.tell.result (c.tell.new.self.part ≡ seat.part) (c.tell.new.self.clock ≡ seat.clock) (c.tell.new.self.told.items ≡ seat.told.items) c.tell.ensures.err c.tell.ensures.clock)

pub returns-in-None-clause-ok : goal.returns-in-None-clause-ok
returns-in-None-clause-ok g c =
    let m = keeper g.R.Replica.stands_for g.R.Replica.durable g.R.Replica.disk g.R.Replica.is_whole in
    let number : c.from.result ≡ c.args.node = search rules in
    let none = ap (λ (n : ℕ). slice_get c.args.seats.now.items n) (sym number) ∙ slice_get_past c.args.seats.now.items c.from.result (search rules) in
    no_seat (λ (x y : Seat g.row.R.Denot). TellsBy m c.args.fault x.part y.part × (y.clock ≡ x.clock) × (y.told.items ≡ x.told.items ++ c.args.fault ∷ [])) (Unit {0}) c.args.seats.now.items c.args.node none tt

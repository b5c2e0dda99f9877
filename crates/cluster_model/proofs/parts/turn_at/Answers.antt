use Rattle.std.proofs.Common.{rules, ◌≡◌, Some, sym, ap, ◌∙◌}
use Rattle.std.specs.List.{range_with_len}
use Rattle.std.specs.Prelude.{slice_get, slice_set}
use Rattle.std.proofs.lemmas.Bool.{ltb-true}
use Rattle.std.proofs.lemmas.Option.{slice_get-get_or}
use Rattle.cluster_model.specs.Sites.{keeper, StaysAt, Turns, TurnsAt}
use Rattle.cluster_model.specs.Takes.{event_at}
use Rattle.cluster_model.specs.declared.turn.Turn.{Turn}
use Rattle.cluster_model.specs.declared.turn.Turn.TheVariants.{NoNode}
use Rattle.cluster_model.specs.declared.seat.Seat.{Seat}
use Rattle.cluster_model.proofs.Going.{at_seat, err_at_seat, if_ok}
use Rattle.cluster_model.proofs.parts.turn_at.Goals as goal

pub returns-clause-err : goal.returns-clause-err
returns-clause-err g c =
    let m = keeper g.R.Replica.stands_for g.R.Replica.durable g.R.Replica.disk g.R.Replica.is_whole in
    let seat : Seat g.row.R.Denot = c.in-Some.seat.now in
    let within = ltb-true _ _ (sym c.in-Some.ensures.item.0) in
    let at : slice_get c.args.seats.now.items c.from.result ≡ Some seat = slice_get-get_or c.args.seats.now.items c.from.result seat within ∙ ap Some (sym c.in-Some.ensures.item.1) in
    let number : c.from.result ≡ c.args.node = search rules in
    err_at_seat c.take.result (StaysAt m) (Unit {0}) c.args.seats.now.items c.args.node c.from.result seat c.take.new.self number at c.take.ensures.err

pub returns-clause-ok : goal.returns-clause-ok
returns-clause-ok g c =
    let m = keeper g.R.Replica.stands_for g.R.Replica.durable g.R.Replica.disk g.R.Replica.is_whole in
    let seat : Seat g.row.R.Denot = c.in-Some.seat.now in
    let within = ltb-true _ _ (sym c.in-Some.ensures.item.0) in
    let at : slice_get c.args.seats.now.items c.from.result ≡ Some seat = slice_get-get_or c.args.seats.now.items c.from.result seat within ∙ ap Some (sym c.in-Some.ensures.item.1) in
    let number : c.from.result ≡ c.args.node = search rules in
    if_ok c.take.result
    (λ (turn : Turn). Turns m (range_with_len 0 c.args.nodes) seat (event_at seat.clock c.args.what) turn c.take.new.self)
    (λ (turn : Turn). TurnsAt m (range_with_len 0 c.args.nodes) c.args.seats.now.items c.args.node c.args.what turn (slice_set c.args.seats.now.items c.from.result c.take.new.self))
    c.take.ensures.ok
    (λ turn h. at_seat (λ (x y : Seat g.row.R.Denot). Turns m (range_with_len 0 c.args.nodes) x (event_at x.clock c.args.what) turn y) (turn ≡ NoNode) c.args.seats.now.items c.args.node c.from.result seat c.take.new.self number at h)

pub take-requires-clause-part : goal.take-requires-clause-part
take-requires-clause-part g c =
    let seat : Seat g.row.R.Denot = c.in-Some.seat.now in
    let within = ltb-true _ _ (sym c.in-Some.ensures.item.0) in
    c.requires.seats c.from.result seat (slice_get-get_or c.args.seats.now.items c.from.result seat within ∙ ap Some (sym c.in-Some.ensures.item.1))

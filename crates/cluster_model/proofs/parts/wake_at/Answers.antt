use Rattle.std.proofs.Common.{rules, ◌≡◌, Some, Bool, true, sym, ap, ◌∙◌}
use Rattle.std.specs.Prelude.{slice_get, slice_set}
use Rattle.std.proofs.lemmas.Bool.{ltb-true}
use Rattle.std.proofs.lemmas.Option.{slice_get-get_or}
use Rattle.cluster_model.specs.Sites.{keeper, AtSeat, WakesBy, SleepsBy}
use Rattle.cluster_model.specs.declared.seat.Seat.{Seat}
use Rattle.cluster_model.proofs.Going.{at_seat, err_at_seat, if_ok}
use Rattle.cluster_model.proofs.parts.wake_at.Goals as goal

pub returns-clause-err : goal.returns-clause-err
returns-clause-err g c =
    let m = keeper g.R.Replica.stands_for g.R.Replica.durable g.R.Replica.disk g.R.Replica.is_whole in
    let seat : Seat g.row.R.Denot = c.in-Some.seat.now in
    let within = ltb-true _ _ (sym c.in-Some.ensures.item.0) in
    let at : slice_get c.args.seats.now.items c.from.result ≡ Some seat = slice_get-get_or c.args.seats.now.items c.from.result seat within ∙ ap Some (sym c.in-Some.ensures.item.1) in
    let number : c.from.result ≡ c.args.node = search rules in
    err_at_seat c.wake.result (λ (x y : Seat g.row.R.Denot). SleepsBy m x x.part y) (Unit {0}) c.args.seats.now.items c.args.node c.from.result seat c.wake.new.self number at c.wake.ensures.err

pub returns-clause-ok : goal.returns-clause-ok
returns-clause-ok g c =
    let m = keeper g.R.Replica.stands_for g.R.Replica.durable g.R.Replica.disk g.R.Replica.is_whole in
    let seat : Seat g.row.R.Denot = c.in-Some.seat.now in
    let within = ltb-true _ _ (sym c.in-Some.ensures.item.0) in
    let at : slice_get c.args.seats.now.items c.from.result ≡ Some seat = slice_get-get_or c.args.seats.now.items c.from.result seat within ∙ ap Some (sym c.in-Some.ensures.item.1) in
    let number : c.from.result ≡ c.args.node = search rules in
    if_ok c.wake.result
    (λ (ok : Bool). WakesBy m c.args.setting c.args.node seat seat.part ok c.wake.new.self)
    (λ (ok : Bool). AtSeat (λ (x y : Seat g.row.R.Denot). WakesBy m c.args.setting c.args.node x x.part ok y) (ok ≡ true) c.args.seats.now.items c.args.node (slice_get c.args.seats.now.items c.args.node) (slice_set c.args.seats.now.items c.from.result c.wake.new.self))
    c.wake.ensures.ok
    (λ ok h. at_seat (λ (x y : Seat g.row.R.Denot). WakesBy m c.args.setting c.args.node x x.part ok y) (ok ≡ true) c.args.seats.now.items c.args.node c.from.result seat c.wake.new.self number at h)

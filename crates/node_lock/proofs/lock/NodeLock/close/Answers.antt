use Rattle.std.proofs.Common.{sym, refl, subst}
use Rattle.std.specs.Option.{IsSome}
use Rattle.node_lock.specs.Rules.{Slot}
use Rattle.node_lock.proofs.Seats.{closes_with, closed_at}
use Rattle.node_lock.proofs.lock.NodeLock.close.Goals as goal

pub unwrap-held-requires : goal.unwrap-held-requires
unwrap-held-requires g c =
    let key = c.args.self.table.shared.key in let seat = c.args.pass.rest.seat in
    let t = closes_with g.N.Stepper.steps key.state.value key.seats seat.id seat.me.0 _ _ c.take.result c.args.pass.rest.at_rest.1 c.requires.1 c.close_with-closed.ensures.values.2 c.take.ensures.value in
    subst (λ (x : Slot g.row.N.Denot g.row.N-Entry.Denot). IsSome x) (sym t.1) refl

pub returns-clause-replays : goal.returns-clause-replays
returns-clause-replays g c =
    let key = c.args.self.table.shared.key in let seat = c.args.pass.rest.seat in
    let t = closed_at g.N.Stepper.steps key.state.value key.seats seat.id seat.me.0 _ _ c.take.result c.unwrap-held.result c.args.pass.rest.at_rest.1 c.requires.1 c.close_with-closed.ensures.values.2 c.take.ensures.value c.unwrap-held.ensures in
    t.0.replays

pub returns-clause-most : goal.returns-clause-most
returns-clause-most g c =
    let key = c.args.self.table.shared.key in let seat = c.args.pass.rest.seat in
    let t = closed_at g.N.Stepper.steps key.state.value key.seats seat.id seat.me.0 _ _ c.take.result c.unwrap-held.result c.args.pass.rest.at_rest.1 c.requires.1 c.close_with-closed.ensures.values.2 c.take.ensures.value c.unwrap-held.ensures in
    t.0.few

pub returns-clause-seen : goal.returns-clause-seen
returns-clause-seen g c =
    let key = c.args.self.table.shared.key in let seat = c.args.pass.rest.seat in
    let t = closed_at g.N.Stepper.steps key.state.value key.seats seat.id seat.me.0 _ _ c.take.result c.unwrap-held.result c.args.pass.rest.at_rest.1 c.requires.1 c.close_with-closed.ensures.values.2 c.take.ensures.value c.unwrap-held.ensures in
    t.1

pub returns-clause-calls : goal.returns-clause-calls
returns-clause-calls g c =
    let key = c.args.self.table.shared.key in let seat = c.args.pass.rest.seat in
    let t = closed_at g.N.Stepper.steps key.state.value key.seats seat.id seat.me.0 _ _ c.take.result c.unwrap-held.result c.args.pass.rest.at_rest.1 c.requires.1 c.close_with-closed.ensures.values.2 c.take.ensures.value c.unwrap-held.ensures in
    t.2

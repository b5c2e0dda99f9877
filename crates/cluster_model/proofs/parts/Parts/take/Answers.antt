use Rattle.std.proofs.Common.{rules, ◌≡◌, ℕ, Bool, subst, length}
use Rattle.std.specs.List.{range_with_len}
use Rattle.cluster_model.specs.Annals.{Enters}
use Rattle.cluster_model.specs.Sites.{keeper, TurnsAt}
use Rattle.cluster_model.proofs.Fits.{may_take}
use Rattle.cluster_model.proofs.Going.{on_err}
use Rattle.cluster_model.proofs.Whole.{took, kept_staying}
use Rattle.cluster_model.proofs.parts.Parts.take.Goals as goal

pub turn_at-requires-clause-seats : goal.turn_at-requires-clause-seats
turn_at-requires-clause-seats g c =
    let m = keeper g.R.Replica.stands_for g.R.Replica.durable g.R.Replica.disk g.R.Replica.is_whole in
    let p = c.args.self.now in
    λ k seat at. may_take m p.setting p.seats.items c.requires.holds.run.world.standing c.requires.holds.run.nodes k seat at

pub returns-in_err-turn-clause-holds : goal.returns-in_err-turn-clause-holds
returns-in_err-turn-clause-holds g c =
    let m = keeper g.R.Replica.stands_for g.R.Replica.durable g.R.Replica.disk g.R.Replica.is_whole in
    (kept_staying m c.args.self.now c.make_room.new.self c.turn_at.new.seats c.args.node c.requires.holds c.make_room.ensures.same c.in_err-turn.ensures.err).holds

pub returns-in_err-turn-clause-err : goal.returns-in_err-turn-clause-err
returns-in_err-turn-clause-err g c =
    let m = keeper g.R.Replica.stands_for g.R.Replica.durable g.R.Replica.disk g.R.Replica.is_whole in
    on_err _ _ (kept_staying m c.args.self.now c.make_room.new.self c.turn_at.new.seats c.args.node c.requires.holds c.make_room.ensures.same c.in_err-turn.ensures.err).state

pub returns-clause-ok : goal.returns-clause-ok
returns-clause-ok g c =
    let m = keeper g.R.Replica.stands_for g.R.Replica.durable g.R.Replica.disk g.R.Replica.is_whole in
    let p = c.args.self.now in
    let all : c.nodes-nodes.result ≡ length p.setting.ring = search rules in
    let turns = subst (λ (count : ℕ). TurnsAt m (range_with_len 0 count) p.seats.items c.args.node c.args.what c.in_ok-turn.turn c.turn_at.new.seats.items) all c.in_ok-turn.ensures.ok in
    let enters = subst (λ (b : Bool). Enters c.args.node b c.in_ok-turn.turn c.make_room.new.self c.enter.new.self) c.is_ask-is_ask.ensures c.enter.ensures in
    (took m p c.make_room.new.self c.enter.new.self c.turn_at.new.seats c.args.node c.args.what c.in_ok-turn.turn c.requires.holds c.make_room.ensures.same c.requires.sent turns enters).comes

pub returns-clause-holds : goal.returns-clause-holds
returns-clause-holds g c =
    let m = keeper g.R.Replica.stands_for g.R.Replica.durable g.R.Replica.disk g.R.Replica.is_whole in
    let p = c.args.self.now in
    let all : c.nodes-nodes.result ≡ length p.setting.ring = search rules in
    let turns = subst (λ (count : ℕ). TurnsAt m (range_with_len 0 count) p.seats.items c.args.node c.args.what c.in_ok-turn.turn c.turn_at.new.seats.items) all c.in_ok-turn.ensures.ok in
    let enters = subst (λ (b : Bool). Enters c.args.node b c.in_ok-turn.turn c.make_room.new.self c.enter.new.self) c.is_ask-is_ask.ensures c.enter.ensures in
    (took m p c.make_room.new.self c.enter.new.self c.turn_at.new.seats c.args.node c.args.what c.in_ok-turn.turn c.requires.holds c.make_room.ensures.same c.requires.sent turns enters).holds

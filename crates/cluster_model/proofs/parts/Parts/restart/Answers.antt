use Rattle.cluster_model.specs.Sites.{keeper}
use Rattle.cluster_model.proofs.Fits.{may_wake}
use Rattle.cluster_model.proofs.Changing.{Laws}
use Rattle.cluster_model.proofs.Going.{on_err}
use Rattle.cluster_model.proofs.Whole.{kept_sleeping, woke_not, woke_well}
use Rattle.cluster_model.proofs.parts.Parts.restart.Goals as goal

pub wake_at-requires : goal.wake_at-requires
wake_at-requires g c =
    let m = keeper g.R.Replica.stands_for g.R.Replica.durable g.R.Replica.disk g.R.Replica.is_whole in
    λ k seat at. may_wake m c.args.self.now.setting c.args.self.now.seats.items c.requires.run.world.standing c.requires.run.nodes k seat at

pub returns-in_err-wake_at-clause-holds : goal.returns-in_err-wake_at-clause-holds
returns-in_err-wake_at-clause-holds g c =
    let m = keeper g.R.Replica.stands_for g.R.Replica.durable g.R.Replica.disk g.R.Replica.is_whole in
    (kept_sleeping m c.args.self.now c.make_room.new.self c.wake_at.new.seats c.args.node c.requires c.make_room.ensures.same c.in_err-wake_at.ensures.err).holds

pub returns-in_err-wake_at-clause-err : goal.returns-in_err-wake_at-clause-err
returns-in_err-wake_at-clause-err g c =
    let m = keeper g.R.Replica.stands_for g.R.Replica.durable g.R.Replica.disk g.R.Replica.is_whole in
    on_err c.from_residual-in_err-wake_at.result _ (kept_sleeping m c.args.self.now c.make_room.new.self c.wake_at.new.seats c.args.node c.requires c.make_room.ensures.same c.in_err-wake_at.ensures.err).state

pub returns-then-not-branch-clause-ok : goal.returns-then-not-branch-clause-ok
returns-then-not-branch-clause-ok g c =
    let m = keeper g.R.Replica.stands_for g.R.Replica.durable g.R.Replica.disk g.R.Replica.is_whole in
    let laws : Laws m = record { safe = λ r whole. g.met.R.Replica.is_safe r tt whole; one = λ files a b. g.met.R.Replica.stand_for_one files a b } in
    (woke_not m laws c.args.self.now c.make_room.new.self c.enter_failure.new.self c.wake_at.new.seats c.args.node c.in_ok-wake_at.field-0 c.in_ok-setting.setting c.requires c.make_room.ensures.same c.if-not-branch.true c.in_ok-setting.ensures c.in_ok-wake_at.ensures.ok c.enter_failure.ensures.entries c.enter_failure.ensures.mail).restarts

pub returns-then-not-branch-clause-holds : goal.returns-then-not-branch-clause-holds
returns-then-not-branch-clause-holds g c =
    let m = keeper g.R.Replica.stands_for g.R.Replica.durable g.R.Replica.disk g.R.Replica.is_whole in
    let laws : Laws m = record { safe = λ r whole. g.met.R.Replica.is_safe r tt whole; one = λ files a b. g.met.R.Replica.stand_for_one files a b } in
    (woke_not m laws c.args.self.now c.make_room.new.self c.enter_failure.new.self c.wake_at.new.seats c.args.node c.in_ok-wake_at.field-0 c.in_ok-setting.setting c.requires c.make_room.ensures.same c.if-not-branch.true c.in_ok-setting.ensures c.in_ok-wake_at.ensures.ok c.enter_failure.ensures.entries c.enter_failure.ensures.mail).holds

pub returns-else-not-branch-clause-ok : goal.returns-else-not-branch-clause-ok
returns-else-not-branch-clause-ok g c =
    let m = keeper g.R.Replica.stands_for g.R.Replica.durable g.R.Replica.disk g.R.Replica.is_whole in
    let laws : Laws m = record { safe = λ r whole. g.met.R.Replica.is_safe r tt whole; one = λ files a b. g.met.R.Replica.stand_for_one files a b } in
    (woke_well m laws c.args.self.now c.make_room.new.self c.wake_at.new.seats c.args.node c.in_ok-wake_at.field-0 c.in_ok-setting.setting c.requires c.make_room.ensures.same c.if-not-branch.false c.in_ok-setting.ensures c.in_ok-wake_at.ensures.ok).restarts

pub returns-else-not-branch-clause-holds : goal.returns-else-not-branch-clause-holds
returns-else-not-branch-clause-holds g c =
    let m = keeper g.R.Replica.stands_for g.R.Replica.durable g.R.Replica.disk g.R.Replica.is_whole in
    let laws : Laws m = record { safe = λ r whole. g.met.R.Replica.is_safe r tt whole; one = λ files a b. g.met.R.Replica.stand_for_one files a b } in
    (woke_well m laws c.args.self.now c.make_room.new.self c.wake_at.new.seats c.args.node c.in_ok-wake_at.field-0 c.in_ok-setting.setting c.requires c.make_room.ensures.same c.if-not-branch.false c.in_ok-setting.ensures c.in_ok-wake_at.ensures.ok).holds

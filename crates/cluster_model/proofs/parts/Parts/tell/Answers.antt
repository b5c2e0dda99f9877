use Rattle.std.proofs.Common.{rules, ◌≡◌}
use Rattle.cluster_model.specs.Sites.{keeper}
use Rattle.cluster_model.specs.Holding.{state_of}
use Rattle.cluster_model.proofs.Changing.{none_told}
use Rattle.cluster_model.proofs.Whole.{told_state, untold_state, told_holds}
use Rattle.cluster_model.proofs.parts.Parts.tell.Goals as goal

pub returns-then-call-eq0-clause-ok : goal.returns-then-call-eq0-clause-ok
returns-then-call-eq0-clause-ok g c =
    let m = keeper g.R.Replica.stands_for g.R.Replica.durable g.R.Replica.disk g.R.Replica.is_whole in
    let none : c.args.call ≡ 0 = search rules in
    none_told (state_of m c.args.self.now) c.args.node c.args.call c.args.fault none

pub returns-clause-ok : goal.returns-clause-ok
returns-clause-ok g c =
    let m = keeper g.R.Replica.stands_for g.R.Replica.durable g.R.Replica.disk g.R.Replica.is_whole in
    let some : c.args.call ≡ 0 → ⊥ = search rules in
    told_state m c.args.self.now c.tell_at.result c.tell_at.new.seats c.args.node c.args.call c.args.fault c.requires some c.tell_at.ensures.ok

pub returns-clause-holds : goal.returns-clause-holds
returns-clause-holds g c =
    let m = keeper g.R.Replica.stands_for g.R.Replica.durable g.R.Replica.disk g.R.Replica.is_whole in
    let some : c.args.call ≡ 0 → ⊥ = search rules in
    told_holds m c.args.self.now c.tell_at.result c.tell_at.new.seats c.args.node c.args.call c.args.fault c.requires some c.tell_at.ensures.ok c.tell_at.ensures.err

pub returns-clause-err : goal.returns-clause-err
returns-clause-err g c =
    let m = keeper g.R.Replica.stands_for g.R.Replica.durable g.R.Replica.disk g.R.Replica.is_whole in
    untold_state m c.args.self.now c.tell_at.result c.tell_at.new.seats c.args.node c.requires c.tell_at.ensures.err

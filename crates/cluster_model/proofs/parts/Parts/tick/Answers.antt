use Rattle.std.proofs.Common.{refl}
use Rattle.cluster_model.specs.Sites.{keeper}
use Rattle.cluster_model.specs.Holding.{state_of}
use Rattle.cluster_model.proofs.Changing.{clock_back, clock_none}
use Rattle.cluster_model.proofs.parts.Parts.tick.Goals as goal

pub returns-in-Some-clause-err : goal.returns-in-Some-clause-err
returns-in-Some-clause-err g c =
    let m = keeper g.R.Replica.stands_for g.R.Replica.durable g.R.Replica.disk g.R.Replica.is_whole in
    let p = c.args.self.now in
    clock_back m p.seats.items (state_of m p) (state_of m c.put_clock-before.new.self) (state_of m c.take.new.self) (state_of m c.put_clock.new.self) c.args.node c.args.micros c.in-Some.before refl c.put_clock-before.ensures.state c.in-Err.ensures.err c.put_clock.ensures.state c.in-Some.ensures.before

pub returns-in_default-before-clause-err : goal.returns-in_default-before-clause-err
returns-in_default-before-clause-err g c =
    let m = keeper g.R.Replica.stands_for g.R.Replica.durable g.R.Replica.disk g.R.Replica.is_whole in
    let p = c.args.self.now in
    clock_none m p.seats.items (state_of m p) (state_of m c.put_clock-before.new.self) (state_of m c.take.new.self) c.args.node c.args.micros refl c.put_clock-before.ensures.state c.in-Err.ensures.err c.in_default-before.ensures.before

use Rattle.std.proofs.Common.{refl, sym, subst}
use Rattle.cluster_model.specs.Sites.{keeper, TellsBy}
use Rattle.cluster_model.specs.declared.seat.Part.{Part}
use Rattle.cluster_model.specs.declared.seat.Part.TheVariants.{Runs}
use Rattle.cluster_model.proofs.seat.Seat.tell.Goals as goal

pub returns-in-Runs-clause-part : goal.returns-in-Runs-clause-part
returns-in-Runs-clause-part g c =
    let m = keeper g.R.Replica.stands_for g.R.Replica.durable g.R.Replica.disk g.R.Replica.is_whole in
    subst (λ (p : Part g.row.R.Denot). TellsBy m c.args.fault p (Runs (record { core = c.in-Runs.node.core; replica = c.tell.new.replica }))) (sym c.in-Runs.is)
    (record { core = c.in-Runs.node.core; replica = c.tell.new.replica }, refl, refl, c.tell.ensures.durable, c.tell.ensures.whole, c.tell.ensures.plan)

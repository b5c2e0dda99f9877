use Rattle.std.proofs.Common.{◌∙◌, subst, sym}
use Rattle.cluster_model.specs.Sites.{keeper, StopsBy}
use Rattle.cluster_model.specs.declared.seat.Part.{Part}
use Rattle.cluster_model.proofs.seat.fall_in.Goals as goal

pub returns-in-Runs : goal.returns-in-Runs
returns-in-Runs g c =
    let m = keeper g.R.Replica.stands_for g.R.Replica.durable g.R.Replica.disk g.R.Replica.is_whole in
    subst (λ (p : Part g.row.R.Denot). StopsBy m p c.replace-in-Runs.new.dest) (sym c.in-Runs.is ∙ c.replace.ensures.value) (c.fallen-store.result.0, c.replace-in-Runs.ensures.after, c.fallen-store.ensures)

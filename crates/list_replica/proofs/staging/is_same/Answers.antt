use Rattle.std.proofs.Common.{◌∙◌, sym}
use Rattle.changes.specs.Totals.{partition_ties}
use Rattle.list_replica.proofs.Looking.{same_partition, is_itself}
use Rattle.list_replica.proofs.staging.is_same.Goals as goal

pub returns : goal.returns
returns c = (
  λ t. same_partition c.args.a.now c.args.b.now (sym (partition_ties c.args.a.now c.args.b.now) ∙ sym c.eq.ensures ∙ t),
  λ e. c.eq.ensures ∙ partition_ties c.args.a.now c.args.b.now ∙ is_itself c.args.a.now c.args.b.now e,
)

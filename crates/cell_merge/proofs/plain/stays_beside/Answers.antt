use Rattle.changes.specs.Order.{Outranks}
use Rattle.cell_merge.proofs.Parts.{told_by}
use Rattle.cell_merge.proofs.plain.stays_beside.Goals as goal

pub returns : goal.returns
returns c = told_by c.outranks.result (Outranks c.args.x.now c.args.y.now) c.outranks.ensures

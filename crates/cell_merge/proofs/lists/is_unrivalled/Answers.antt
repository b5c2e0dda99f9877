use Rattle.cell_merge.specs.Parts.{IsOutrankedBy}
use Rattle.cell_merge.proofs.Parts.{told_by}
use Rattle.cell_merge.proofs.lists.is_unrivalled.Goals as goal

pub returns : goal.returns
returns c = told_by c.outranks.result (IsOutrankedBy c.args.ranking.now c.args.x.now) c.outranks.ensures

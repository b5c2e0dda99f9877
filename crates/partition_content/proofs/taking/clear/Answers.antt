use Rattle.std.proofs.Common.{arith}
use Rattle.partition_content.proofs.RowLemmas.{nothing_cleared}
use Rattle.partition_content.proofs.LossLemmas.{lost_alone}
use Rattle.partition_content.specs.Slots.{helds_in}
use Rattle.partition_content.proofs.taking.clear.Goals as goal

pub returns-else-lost-ne0-clause-left : goal.returns-else-lost-ne0-clause-left
returns-else-lost-ne0-clause-left c = λ a h. h

pub returns-else-lost-ne0-clause-cleared : goal.returns-else-lost-ne0-clause-cleared
returns-else-lost-ne0-clause-cleared c = nothing_cleared c.args.x.now (helds_in c.args.slots.now.entries) c.args.lost (lost_alone c.args.x.now (helds_in c.args.slots.now.entries) c.args.lost c.requires.lost) (omega arith)

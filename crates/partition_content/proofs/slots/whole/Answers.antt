use Rattle.std.proofs.Common.{◌∙◌}
use Rattle.partition_content.proofs.OrderLemmas.{between_whole}
use Rattle.partition_content.proofs.slots.whole.Goals as goal

pub returns : goal.returns
returns c = c.range.ensures.between tt ∙ between_whole c.args.slots.now.entries

use Rattle.std.proofs.Common.{◌∙◌}
use Rattle.partition_content.specs.Slots.{helds_of}
use Rattle.partition_content.proofs.HeldLemmas.{changes_still}
use Rattle.partition_content.proofs.OrderLemmas.{good_still}
use Rattle.partition_content.proofs.memory.give_back_at.Goals as goal

pub loop-at-preserved : goal.loop-at-preserved
loop-at-preserved c = record {
  stored = c.drop_unused.ensures.stored ∙ c.loop-at.invariant.stored;
  good = good_still (helds_of c.loop-at.slots) (helds_of c.drop_unused.new.slots) c.loop-at.invariant.good (changes_still c.loop-at.slots.entries c.drop_unused.new.slots.entries c.drop_unused.ensures.stored) c.drop_unused.ensures.filed c.drop_unused.ensures.sorted;
}

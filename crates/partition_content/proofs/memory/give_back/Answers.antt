use Rattle.std.proofs.Common.{◌∙◌}
use Rattle.partition_content.specs.Slots.{helds_of}
use Rattle.partition_content.proofs.HeldLemmas.{changes_still}
use Rattle.partition_content.proofs.OrderLemmas.{good_still}
use Rattle.partition_content.proofs.memory.give_back.Goals as goal

pub loop-own-preserved : goal.loop-own-preserved
loop-own-preserved c = record {
  stored = c.drop_unused.ensures.stored ∙ c.loop-own.invariant.stored;
  good = good_still (helds_of c.loop-own.slots) (helds_of c.drop_unused.new.slots) c.loop-own.invariant.good (changes_still c.loop-own.slots.entries c.drop_unused.new.slots.entries c.drop_unused.ensures.stored) c.drop_unused.ensures.filed c.drop_unused.ensures.sorted;
}

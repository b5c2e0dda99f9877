use Rattle.partition_content.specs.Slots.{helds_of}
use Rattle.partition_content.proofs.HeldLemmas.{changes_still}
use Rattle.partition_content.proofs.OrderLemmas.{good_still}
use Rattle.partition_content.proofs.memory.take_one.Goals as goal

pub returns-clause-good : goal.returns-clause-good
returns-clause-good c = good_still (helds_of c.args.slots.now) (helds_of c.make_slot.new.slots) c.requires (changes_still c.args.slots.now.entries c.make_slot.new.slots.entries c.make_slot.ensures.stored) c.make_slot.ensures.filed c.make_slot.ensures.sorted

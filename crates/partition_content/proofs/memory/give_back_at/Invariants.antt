use Rattle.std.proofs.Common.{◌≡◌}
use Rattle.partition_content.specs.Slots.{stored_of, helds_of, IsGood}
use Rattle.partition_content.proofs.memory.give_back_at.Given as goal

abbrev pub invariant-loop-at : goal.invariant-loop-at
invariant-loop-at l = record {
  stored : stored_of l.slots.entries ≡ stored_of l.fn.slots.entries;
  good : IsGood (helds_of l.slots);
}

use Rattle.std.proofs.Common.{◌≡◌, map, take}
use Rattle.partition_content.specs.Keys.{keys_for}
use Rattle.partition_content.specs.Slots.{stored_of, helds_of, IsGood}
use Rattle.partition_content.specs.Partition.{place_of, AreSlotsFor}
use Rattle.partition_content.proofs.memory.take_each.Given as goal

-- memory is taken for the changes so far
abbrev pub invariant-loop-x : goal.invariant-loop-x
invariant-loop-x l = record {
  stored : stored_of l.slots.entries ≡ stored_of l.fn.slots.entries;
  good : IsGood (helds_of l.slots);
  keys : l.keys.items ≡ map (keys_for l.bare) (map place_of (take l.x-index l.changes));
  there : AreSlotsFor (helds_of l.slots) (take l.x-index l.changes);
}

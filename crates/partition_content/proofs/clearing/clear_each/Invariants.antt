use Rattle.std.proofs.Common.{◌≡◌, drop}
use Rattle.partition_content.specs.Slots.{helds_in, helds_of, spots_in, AreLeft, AreOutrankedAmong}
use Rattle.partition_content.proofs.SweepLemmas.{ClearsOn}
use Rattle.partition_content.proofs.clearing.clear_each.Given as goal

-- what is left to clear is at the other keys
abbrev pub invariant-loop-at : goal.invariant-loop-at
invariant-loop-at l = record {
  clears : ClearsOn l.x (helds_in l.fn.slots.entries) (helds_in l.slots.entries);
  left : AreLeft l.fn.slots.entries l.slots.entries;
  same : spots_in (helds_of l.slots) ≡ spots_in (helds_of l.fn.slots);
  among : AreOutrankedAmong l.x (helds_in l.slots.entries) (drop l.at-index l.keys);
}

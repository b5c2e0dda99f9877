use Rattle.partition_content.specs.Reading.{wide_of}
use Rattle.partition_content.proofs.ReachLemmas.{HasPassed, AreAmong}
use Rattle.partition_content.specs.Slots.{helds_in}
use Rattle.partition_content.proofs.taking.is_outranked_by_wide.Given as goal

-- nothing that the walk has passed outranks the change
abbrev pub invariant-loop-slot : goal.invariant-loop-slot
invariant-loop-slot l = record {
  passed : HasPassed l.x (wide_of (helds_in l.slots.entries)) (helds_in l.slot-iterator);
  among : AreAmong (helds_in l.slot-iterator) (helds_in l.slots.entries);
}

use Rattle.partition_content.proofs.ReadLemmas.{Copies}
use Rattle.partition_content.proofs.SliceLemmas.{StaysInOrder}
use Rattle.partition_content.specs.Slots.{helds_in}
use Rattle.partition_content.proofs.reading.copy_met.Given as goal

-- what is copied so far, and what is to come
abbrev pub invariant-loop-slot : goal.invariant-loop-slot
invariant-loop-slot l = record {
  met : Copies l.fn.onto.items l.onto.items (helds_in l.fn.walk) (helds_in l.slot-iterator) l.from l.upto;
  ordered : StaysInOrder l.fn.onto.items l.onto.items (helds_in l.fn.walk) (helds_in l.slot-iterator);
}

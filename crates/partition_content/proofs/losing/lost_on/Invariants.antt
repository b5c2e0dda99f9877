use Rattle.std.proofs.Common.{◌+◌, ◌≤◌}
use Rattle.std.specs.List.{sum_by}
use Rattle.changes.specs.Lengths.{held_length}
use Rattle.partition_content.specs.Slots.{changes_of, helds_in, IsNewlyOutranked}
use Rattle.partition_content.proofs.ClearLemmas.{LostSoFar}
use Rattle.partition_content.proofs.losing.lost_on.Given as goal

-- what is lost so far
abbrev pub invariant-loop-slot : goal.invariant-loop-slot
invariant-loop-slot l = record {
  lost : LostSoFar (IsNewlyOutranked l.others l.x) (helds_in l.fn.walk) (helds_in l.slot-iterator) l.lost;
  most : l.lost + sum_by held_length (changes_of (helds_in l.slot-iterator)) ≤ sum_by held_length (changes_of (helds_in l.fn.walk));
}

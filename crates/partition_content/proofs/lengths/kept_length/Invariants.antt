use Rattle.std.proofs.Common.{◌≡◌, take}
use Rattle.partition_content.specs.Slots.{helds_in}
use Rattle.partition_content.proofs.PartLemmas.{AreKept}
use Rattle.partition_content.proofs.lengths.kept_length.Given as goal

-- what none of those so far outranks is kept
abbrev pub invariant-loop-x : goal.invariant-loop-x
invariant-loop-x l = record {
  count : l.at ≡ l.x-index;
  kept : AreKept (take l.x-index l.changes) (helds_in l.slots.entries) l.kept;
}

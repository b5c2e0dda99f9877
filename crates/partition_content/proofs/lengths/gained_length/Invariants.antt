use Rattle.std.proofs.Common.{◌≡◌, take}
use Rattle.changes.specs.Contents.{IsReachedBy}
use Rattle.partition_content.specs.Slots.{changes_of, helds_in}
use Rattle.partition_content.specs.Lengths.{IsPartLength}
use Rattle.partition_content.proofs.lengths.gained_length.Given as goal

abbrev pub invariant-loop-x : goal.invariant-loop-x
invariant-loop-x l = record {
  count : l.at ≡ l.x-index;
  gained : IsPartLength (IsReachedBy (changes_of (helds_in l.slots.entries))) (take l.x-index l.changes) l.gained;
}

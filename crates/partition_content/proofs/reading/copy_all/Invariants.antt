use Rattle.std.proofs.Common.{◌≡◌, ◌++◌, ◌+◌, ◌≤◌, length, vec_len, vec_capacity}
use Rattle.partition_content.specs.Slots.{changes_of, helds_in}
use Rattle.partition_content.proofs.reading.copy_all.Given as goal

-- the changes so far, and those to come, for which there is room
abbrev pub invariant-loop-slot : goal.invariant-loop-slot
invariant-loop-slot l = record {
  copied : l.all.items ++ changes_of (helds_in l.slot-iterator) ≡ changes_of (helds_in l.slots.entries);
  room : vec_len l.all + length l.slot-iterator ≤ vec_capacity l.all;
}

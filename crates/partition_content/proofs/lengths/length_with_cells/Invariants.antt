use Rattle.std.proofs.Common.{◌≡◌, ◌+◌, ◌<◌, ◌^◌, take, drop}
use Rattle.std.specs.List.{sum_by}
use Rattle.changes.specs.Lengths.{held_length}
use Rattle.partition_content.proofs.ToldLemmas.{IsForetold}
use Rattle.partition_content.specs.Slots.{helds_of}
use Rattle.partition_content.proofs.lengths.length_with_cells.Given as goal

-- the length with the changes so far is told
abbrev pub invariant-loop-x : goal.invariant-loop-x
invariant-loop-x l = record {
  count : l.at ≡ l.x-index;
  told : IsForetold (helds_of l.slots) (take l.x-index l.changes) l.length;
  fits : l.length + sum_by held_length (drop l.x-index l.changes) < 2 ^ 64;
}

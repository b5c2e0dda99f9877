use Rattle.std.proofs.Common.{◌≡◌, ◌+◌, map, take}
use Rattle.std.specs.List.{sum_by}
use Rattle.changes.specs.Lengths.{held_length}
use Rattle.partition_content.specs.Arrivals.{held_of}
use Rattle.partition_content.proofs.runs.length_of.Given as goal

abbrev pub invariant-loop-x : goal.invariant-loop-x
invariant-loop-x l = l.length ≡ 4 + sum_by held_length (map held_of (take l.x-index l.run))

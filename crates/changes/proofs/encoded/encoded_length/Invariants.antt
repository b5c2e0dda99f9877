use Rattle.std.proofs.Common.{◌≡◌, ◌+◌, ◌-◌, ◌^◌, min, take}
use Rattle.std.specs.List.{sum_by}
use Rattle.changes.specs.Lengths.{held_length}
use Rattle.changes.proofs.encoded.encoded_length.Given as goal

abbrev pub invariant-loop-change : goal.invariant-loop-change
invariant-loop-change l = l.length ≡ min (4 + sum_by held_length (take l.change-index l.changes)) (2 ^ 64 - 1)

use Rattle.std.proofs.Common.{◌≡◌, ◌+◌, ◌-◌, ◌^◌, min, take}
use Rattle.std.specs.List.{sum_by}
use Rattle.row_change.specs.Lengths.{item_length}
use Rattle.row_change.proofs.entry.LogEntry.encoded_length.Given as goal

abbrev pub invariant-loop-item : goal.invariant-loop-item
invariant-loop-item l = l.length ≡ min (4 + sum_by item_length (take l.item-index l.item-items)) (2 ^ 64 - 1)

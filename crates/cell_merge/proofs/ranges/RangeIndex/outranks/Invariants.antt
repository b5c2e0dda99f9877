use Rattle.std.proofs.Common.{◌≤◌, length}
use Rattle.cell_merge.proofs.RangeLaws.{NoneFrom}
use Rattle.cell_merge.proofs.ranges.RangeIndex.outranks.Given as goal

-- none that was passed outranks the change
abbrev pub invariant-loop-end : goal.invariant-loop-end
invariant-loop-end l = record { within : l.end ≤ length l.wide; passed : NoneFrom l.wide l.x l.end }

abbrev pub decreases-loop-end : goal.decreases-loop-end
decreases-loop-end l = l.end

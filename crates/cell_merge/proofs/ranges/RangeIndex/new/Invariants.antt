use Rattle.std.proofs.Common.{◌≡◌, length}
use Rattle.cell_merge.specs.Ranges.{AreBlocks}
use Rattle.cell_merge.proofs.ranges.RangeIndex.new.Given as goal

-- the blocks so far
abbrev pub invariant-loop-last : goal.invariant-loop-last
invariant-loop-last l = record { count : length l.blocks.items ≡ l.last; each : AreBlocks l.wide l.last l.blocks.items }

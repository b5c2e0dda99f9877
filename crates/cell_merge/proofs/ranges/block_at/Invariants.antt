use Rattle.cell_merge.specs.Ranges.{IsBlockAt}
use Rattle.cell_merge.proofs.ranges.block_at.Given as goal

abbrev pub invariant-loop-block : goal.invariant-loop-block
invariant-loop-block l = IsBlockAt l.wide l.last l.block

abbrev pub decreases-loop-block : goal.decreases-loop-block
decreases-loop-block l = l.block.start

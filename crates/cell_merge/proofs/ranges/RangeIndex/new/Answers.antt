use Rattle.std.proofs.Common.{◌+◌, ◌∷◌, [], ap, arith, length, length-append, subst, sym}
use Rattle.cell_merge.specs.Ranges.{AreBlocks}
use Rattle.cell_merge.proofs.RangeLaws.{blocks_more}
use Rattle.cell_merge.proofs.ranges.RangeIndex.new.Goals as goal

pub loop-last-preserved : goal.loop-last-preserved
loop-last-preserved c =
    let more = ap length c.in_ok-push.ensures.items in
    let one = length-append c.loop-last.blocks.items (c.block_at-block.result ∷ []) in
    let count = c.loop-last.invariant.count in
    record {
      count = omega (arith, more, one, count);
      each = subst (AreBlocks c.args.wide.now (c.loop-last.last + 1)) (sym c.in_ok-push.ensures.items) (blocks_more c.args.wide.now c.loop-last.last c.loop-last.blocks.items c.block_at-block.result count c.loop-last.invariant.each c.block_at-block.ensures);
    }

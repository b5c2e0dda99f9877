use Rattle.std.proofs.Common.{sym, ◌∙◌, arith, ◌-◌, ◌+◌, ◌≡◌, subst}
use Rattle.std.proofs.lemmas.Bool.{false≢true}
use Rattle.cell_merge.proofs.RangeLaws.{NoneFrom, block_read, none_behind, none_in_block, none_at}
use Rattle.cell_merge.proofs.ranges.RangeIndex.outranks.Goals as goal

pub loop-end-init : goal.loop-end-init
loop-end-init c = record {
  within = c.beginnings-end.ensures.bound;
  passed = none_behind c.args.wide.now c.args.x.now c.beginnings-end.result c.requires.wide c.beginnings-end.ensures.point;
}

pub loop-end-preserved-then-not-reaches_to_end : goal.loop-end-preserved-then-not-reaches_to_end
loop-end-preserved-then-not-reaches_to_end c =
    let block = block_read c.args.wide.now c.args.self.now (c.loop-end.end - 1) c.index-block.result.now c.requires.index (omega arith) c.index-block.ensures in
    record {
      within = omega (arith, block.start);
      passed = none_in_block c.args.wide.now c.args.x.now c.index-wide-block.result c.loop-end.end c.index-block.result.now c.requires.wide (omega arith) c.loop-end.invariant.within block c.index-wide-block.is
          (sym c.reaches_to_end.ensures ∙ c.if-not-reaches_to_end.true) c.loop-end.invariant.passed;
    }

pub loop-end-preserved : goal.loop-end-preserved
loop-end-preserved c =
    let next : c.loop-end.end ≡ c.loop-end.end - 1 + 1 = omega arith in
    record {
      within = omega arith;
      passed = none_at c.args.wide.now c.args.x.now c.index-wide-end.result (c.loop-end.end - 1) (omega arith) c.index-wide-end.is (λ over. false≢true (sym c.if-outranks.false ∙ c.outranks.ensures.1 over))
          (subst (NoneFrom c.args.wide.now c.args.x.now) next c.loop-end.invariant.passed);
    }

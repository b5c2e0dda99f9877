use Rattle.std.proofs.lemmas.Bool.{false≢true}
use Rattle.cell_merge.proofs.Decided.{differ_at, same_more}
use Rattle.cell_merge.proofs.lists.are_same.Goals as goal

pub returns-then-not-is_same : goal.returns-then-not-is_same
returns-then-not-is_same c = (
  λ t. absurd (false≢true t),
  λ e. absurd (differ_at c.args.xs.now c.args.ys.now c.loop-i.i c.index-xs-i.result c.index-ys-i.result c.is_same.result c.loop-i-test.true c.if-xs-ys.false c.index-xs-i.is c.index-ys-i.is c.is_same.ensures c.if-not-is_same.true e),
)

pub loop-i-preserved : goal.loop-i-preserved
loop-i-preserved c =
    same_more c.args.xs.now c.args.ys.now c.loop-i.i c.index-xs-i.result c.index-ys-i.result c.loop-i-test.true c.if-xs-ys.false c.index-xs-i.is c.index-ys-i.is (c.is_same.ensures.0 c.if-not-is_same.false) c.loop-i.invariant

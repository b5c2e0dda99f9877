use Rattle.std.proofs.Common.{Less, Equal, Greater, refl}
use Rattle.changes.specs.Places.{bound_cmp}
use Rattle.changes.proofs.Places.{ranges_by_bounds}
use Rattle.changes.proofs.order.wide_order.Goals as goal

pub returns-in-Equal : goal.returns-in-Equal
returns-in-Equal c =
    let arm = c.in-RangeGone-RangeGone in
    ranges_by_bounds c.args.a.now c.args.b.now arm.from arm.upto arm.start arm.end Equal c.cmp-in-Equal.result c.cmp-in-Equal.result arm.is-0 arm.is-1 c.in-Equal.ensures c.cmp-in-Equal.ensures refl

pub returns-in-Less : goal.returns-in-Less
returns-in-Less c =
    let arm = c.in-RangeGone-RangeGone in
    ranges_by_bounds c.args.a.now c.args.b.now arm.from arm.upto arm.start arm.end Less (bound_cmp arm.upto arm.end) Less arm.is-0 arm.is-1 c.in-Less.ensures refl refl

pub returns-in-Greater : goal.returns-in-Greater
returns-in-Greater c =
    let arm = c.in-RangeGone-RangeGone in
    ranges_by_bounds c.args.a.now c.args.b.now arm.from arm.upto arm.start arm.end Greater (bound_cmp arm.upto arm.end) Greater arm.is-0 arm.is-1 c.in-Greater.ensures refl refl

use Rattle.std.proofs.Common.{Less, Equal, Greater, refl, sym, ap}
use Rattle.std.specs.Ordering.{nat_cmp}
use Rattle.changes.specs.Order.{row_of}
use Rattle.changes.specs.Tests.{step_of}
use Rattle.changes.proofs.Places.{rows_by_steps}
use Rattle.changes.proofs.order.PlaceOrd.cmp.Goals as goal

pub returns-in-Equal : goal.returns-in-Equal
returns-in-Equal c =
    let arm = c.in-Cell-Cell in
    rows_by_steps c.args.self.now c.args.other.now arm.row arm.beside (2, arm.column) (2, arm.facing) Equal c.cmp-in-Equal.result c.cmp-in-Equal.result
    (ap row_of arm.is-0) (ap row_of arm.is-1) (sym (ap step_of arm.is-0)) (sym (ap step_of arm.is-1)) c.in-Equal.ensures c.cmp-in-Equal.ensures refl

-- where the rows are apart they decide
pub returns-in-Less : goal.returns-in-Less
returns-in-Less c =
    let arm = c.in-Cell-Cell in
    rows_by_steps c.args.self.now c.args.other.now arm.row arm.beside (2, arm.column) (2, arm.facing) Less (nat_cmp arm.column arm.facing) Less
    (ap row_of arm.is-0) (ap row_of arm.is-1) (sym (ap step_of arm.is-0)) (sym (ap step_of arm.is-1)) c.in-Less.ensures refl refl

pub returns-in-Greater : goal.returns-in-Greater
returns-in-Greater c =
    let arm = c.in-Cell-Cell in
    rows_by_steps c.args.self.now c.args.other.now arm.row arm.beside (2, arm.column) (2, arm.facing) Greater (nat_cmp arm.column arm.facing) Greater
    (ap row_of arm.is-0) (ap row_of arm.is-1) (sym (ap step_of arm.is-0)) (sym (ap step_of arm.is-1)) c.in-Greater.ensures refl refl

use Rattle.std.proofs.Common.{Less, Equal, Greater, refl, sym}
use Rattle.changes.specs.Order.{sign_cmp}
use Rattle.changes.specs.Tests.{step_of}
use Rattle.changes.proofs.Places.{rows_by_steps}
use Rattle.changes.proofs.order.mixed_order.Goals as goal

pub returns-in-Equal : goal.returns-in-Equal
returns-in-Equal c =
    let arm = c.in-Some-Some in
    rows_by_steps c.args.a.now c.args.b.now arm.row.now arm.beside.now c.step.result c.step-in-Equal.result Equal c.cmp-in-Equal.result c.cmp-in-Equal.result (sym arm.ensures) (sym arm.ensures') c.step.ensures
    c.step-in-Equal.ensures c.in-Equal.ensures c.cmp-in-Equal.ensures refl

-- where the rows are apart they decide
pub returns-in-Less : goal.returns-in-Less
returns-in-Less c =
    let p = c.args.a.now in
    let q = c.args.b.now in
    let arm = c.in-Some-Some in
    rows_by_steps p q arm.row.now arm.beside.now (step_of p) (step_of q) Less (sign_cmp (step_of p) (step_of q)) Less (sym arm.ensures) (sym arm.ensures') refl refl c.in-Less.ensures refl refl

pub returns-in-Greater : goal.returns-in-Greater
returns-in-Greater c =
    let p = c.args.a.now in
    let q = c.args.b.now in
    let arm = c.in-Some-Some in
    rows_by_steps p q arm.row.now arm.beside.now (step_of p) (step_of q) Greater (sign_cmp (step_of p) (step_of q)) Greater (sym arm.ensures) (sym arm.ensures') refl refl c.in-Greater.ensures refl refl

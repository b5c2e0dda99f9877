use Rattle.std.proofs.Common.{subst}
use Rattle.changes.specs.Places.{AreInOrder}
use Rattle.changes.proofs.Best.{ordered_is_best}
use Rattle.changes.proofs.storing.in_order.Goals as goal

pub returns-then-are_in_order : goal.returns-then-are_in_order
returns-then-are_in_order c = ordered_is_best c.args.changes.items (subst AreInOrder c.deref.ensures.value (c.are_in_order.ensures.0 c.if-are_in_order.true))

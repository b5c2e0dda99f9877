use Rattle.std.proofs.Common.{◌≡◌, drop}
use Rattle.prepared_statement.specs.Orders.{is_order}
use Rattle.prepared_statement.proofs.orders.is_order.Given as goal

-- what is left to look at
abbrev pub invariant-loop-order : goal.invariant-loop-order
invariant-loop-order l = is_order l.reversed l.fn.columns l.orders ≡ is_order l.reversed l.left (drop l.order-index l.orders)

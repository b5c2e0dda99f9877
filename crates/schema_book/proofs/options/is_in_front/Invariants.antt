use Rattle.std.proofs.Common.{◌≡◌, drop}
use Rattle.schema_book.specs.Names.{is_front}
use Rattle.schema_book.specs.Options.{order_names}
use Rattle.schema_book.proofs.options.is_in_front.Given as goal

-- what is left to look at
abbrev pub invariant-loop-order : goal.invariant-loop-order
invariant-loop-order l = is_front (order_names l.orders) l.fn.names ≡ is_front (order_names (drop l.order-index l.orders)) l.left

use Rattle.node_core.proofs.Ordered.{order_is}
use Rattle.node_core.proofs.fits.in_order.Goals as goal

pub returns : goal.returns
returns c = order_is c.are_in_order.result c.args.changes.now c.are_in_order.ensures

use Rattle.row_values.proofs.OrderLaws.{values_are_determined}
use Rattle.row_values.proofs.laws.values_are_determined.Goals as goal

pub returns : goal.returns
returns c = values_are_determined c.order_bytes_keep_the_order.ensures c.clustering_values_compare.ensures

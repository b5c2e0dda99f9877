use Rattle.row_values.proofs.OrderLaws.{clustering_values_come_back}
use Rattle.row_values.proofs.laws.clustering_values_come_back.Goals as goal

pub returns : goal.returns
returns c = clustering_values_come_back c.order_bytes_keep_the_order.ensures c.clustering_values_compare.ensures

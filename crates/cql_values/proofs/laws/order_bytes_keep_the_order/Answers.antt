use Rattle.cql_values.proofs.OrderLaws.{keeps_order}
use Rattle.cql_values.proofs.laws.order_bytes_keep_the_order.Goals as goal

pub returns : goal.returns
returns c = keeps_order

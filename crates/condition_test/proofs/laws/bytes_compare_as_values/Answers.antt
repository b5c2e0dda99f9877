use Rattle.condition_test.proofs.ValueOrders.{compares}
use Rattle.condition_test.proofs.laws.bytes_compare_as_values.Goals as goal

pub returns : goal.returns
returns c = compares c.order_bytes_keep_the_order.ensures c.decoding_undoes_encoding.ensures.value

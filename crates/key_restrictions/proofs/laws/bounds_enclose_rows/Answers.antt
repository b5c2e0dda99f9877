use Rattle.key_restrictions.proofs.Enclosure.{bounds_enclose_rows}
use Rattle.key_restrictions.proofs.laws.bounds_enclose_rows.Goals as goal

pub returns : goal.returns
returns c = bounds_enclose_rows c.order_bytes_keep_the_order.ensures c.clustering_values_compare.ensures

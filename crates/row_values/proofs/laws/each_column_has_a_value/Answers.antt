use Rattle.row_values.proofs.Counts.{each_column_has_a_value}
use Rattle.row_values.proofs.laws.each_column_has_a_value.Goals as goal

pub returns : goal.returns
returns c = each_column_has_a_value

use Rattle.row_values.proofs.TypeLaws.{values_are_of_types}
use Rattle.row_values.proofs.laws.values_are_of_types.Goals as goal

pub returns : goal.returns
returns c = values_are_of_types

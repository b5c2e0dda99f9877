use Rattle.schema_book.proofs.Runs.{columns_are_in_order}
use Rattle.schema_book.proofs.laws.columns_are_in_order.Goals as goal

pub returns : goal.returns
returns c = columns_are_in_order

use Rattle.schema_book.proofs.Runs.{columns_are_few}
use Rattle.schema_book.proofs.laws.columns_are_few.Goals as goal

pub returns : goal.returns
returns c = columns_are_few

use Rattle.schema_book.proofs.Runs.{tables_are_numbered}
use Rattle.schema_book.proofs.laws.tables_are_numbered.Goals as goal

pub returns : goal.returns
returns c = tables_are_numbered

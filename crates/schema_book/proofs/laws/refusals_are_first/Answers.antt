use Rattle.schema_book.proofs.Runs.{refusals_are_first}
use Rattle.schema_book.proofs.laws.refusals_are_first.Goals as goal

pub returns : goal.returns
returns c = refusals_are_first

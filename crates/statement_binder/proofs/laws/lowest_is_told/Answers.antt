use Rattle.statement_binder.proofs.RefusalLaws.{lowest_is_told}
use Rattle.statement_binder.proofs.laws.lowest_is_told.Goals as goal

pub returns : goal.returns
returns c = lowest_is_told c.kept_are_one.ensures

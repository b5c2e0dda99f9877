use Rattle.mutation_drafts.proofs.OneLaws.{kept_are_one}
use Rattle.mutation_drafts.proofs.laws.kept_are_one.Goals as goal

pub returns : goal.returns
returns c = kept_are_one

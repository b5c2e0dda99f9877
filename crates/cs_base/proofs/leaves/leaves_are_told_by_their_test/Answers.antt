use Rattle.cs_base.proofs.LeafSets.{told}
use Rattle.cs_base.proofs.leaves.leaves_are_told_by_their_test.Goals as goal

pub returns : goal.returns
returns c = told

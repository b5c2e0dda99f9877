use Rattle.cs_base.proofs.LeafSets.{zeros_hold_none}
use Rattle.cs_base.proofs.leaves.LeafSet.new.Goals as goal

pub returns : goal.returns
returns c = zeros_hold_none

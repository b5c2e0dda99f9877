use Rattle.std.proofs.Common.{arith, ◌∙◌}
use Rattle.cs_base.proofs.LeafSets.{contains_is}
use Rattle.cs_base.proofs.leaves.LeafSet.contains.Goals as goal

pub returns : goal.returns
returns c = c.is_set.ensures ∙ contains_is c.self.inside.bits c.args.self.now c.args.leaf (omega arith) c.self.view_is

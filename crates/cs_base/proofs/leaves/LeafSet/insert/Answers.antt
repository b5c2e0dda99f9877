use Rattle.std.proofs.Common.{arith}
use Rattle.cs_base.proofs.LeafSets.{with_bit_long, with_bit_small, with_bit_leaves}
use Rattle.cs_base.proofs.leaves.LeafSet.insert.Goals as goal

pub invariant_of-self : goal.invariant_of-self
invariant_of-self c = (
  with_bit_long c.self.inside.bits c.from.result c.args.leaf c.self.invariant.0,
  with_bit_small c.self.inside.bits c.from.result c.args.leaf c.self.invariant.0 (omega arith) c.self.invariant.1,
)

pub returns : goal.returns
returns c = with_bit_leaves c.self.inside.bits c.args.self.now c.from.result c.args.leaf c.self.invariant.0 (omega arith) c.from.ensures c.self.view_is

use Rattle.std.proofs.Common.{refl}
use Rattle.token_ring.proofs.ByNumber.{replicas_more, length_more}
use Rattle.token_ring.proofs.ring.Ring.replicas_by_number.Goals as goal

pub loop-node-preserved : goal.loop-node-preserved
loop-node-preserved c = (
  replicas_more _ _ _ _ c.loop-node.out c.add_replica.new.out c.loop-node.node _ c.tokens-tokens.ensures.value c.loop-node.invariant.0 c.add_replica.ensures refl,
  length_more c.loop-node.out _ _ c.loop-node.node c.add_replica.ensures c.loop-node.invariant.1,
)

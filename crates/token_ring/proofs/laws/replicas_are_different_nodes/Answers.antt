use Rattle.token_ring.proofs.Rings.{replicas_count, replicas_distinct, replicas_within}
use Rattle.token_ring.proofs.laws.replicas_are_different_nodes.Goals as goal

pub returns : goal.returns
returns c = record { count = replicas_count; distinct = replicas_distinct; within = replicas_within }

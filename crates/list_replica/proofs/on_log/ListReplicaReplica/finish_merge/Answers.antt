use Rattle.std.proofs.Common.{refl, arith}
use Rattle.list_replica.proofs.on_log.ListReplicaReplica.finish_merge.Goals as goal

pub returns-clause-whole : goal.returns-clause-whole
returns-clause-whole g c = λ whole. absurd (whole c.new-in-Err.result refl)

pub returns-clause-surely : goal.returns-clause-surely
returns-clause-surely g c = λ all. cc ((c.in-Err.ensures.surely 4 0 (omega arith) (all 4)).0)

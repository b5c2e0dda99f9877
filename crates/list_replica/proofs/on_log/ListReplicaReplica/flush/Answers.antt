use Rattle.std.proofs.Common.{arith}
use Rattle.list_replica.proofs.on_log.ListReplicaReplica.flush.Goals as goal

pub returns-in_err-commit-clause-surely : goal.returns-in_err-commit-clause-surely
returns-in_err-commit-clause-surely g c = λ all. cc ((c.in_err-commit.ensures.surely 4 0 (omega arith) (all 4)).0)

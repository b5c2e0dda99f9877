use Rattle.std.proofs.lemmas.Result.{IfOk-weaker}
use Rattle.list_replica.proofs.in_memory.MemListReplicaReplica.finish_merge.Goals as goal

pub returns-clause-ok : goal.returns-clause-ok
returns-clause-ok c = IfOk-weaker c.finish_merge.result _ _ (λ purges committed honest. let h = committed honest in record { keeps = h.keeps; safe = h.safe; leaves = h.leaves }) c.finish_merge.ensures.ok

pub returns-clause-stale : goal.returns-clause-stale
returns-clause-stale c = λ f is honest. let h = c.finish_merge.ensures.stale f is honest in record { keeps = h.keeps; safe = h.safe; leaves = h.leaves }

pub returns-clause-no_memory : goal.returns-clause-no_memory
returns-clause-no_memory c = λ is honest. let h = c.finish_merge.ensures.no_memory is honest in record { same = h.same; leaves = h.leaves }

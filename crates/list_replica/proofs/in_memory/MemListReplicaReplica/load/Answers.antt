use Rattle.replica.specs.declared.error.LoadError.TheVariants.{Failed, Damaged, NoMemory}
use Rattle.list_replica.proofs.Refusing.{refused_as, ok_is_none}
use Rattle.list_replica.proofs.in_memory.MemListReplicaReplica.load.Goals as goal

pub returns-in-Ok-clause-surely : goal.returns-in-Ok-clause-surely
returns-in-Ok-clause-surely c = λ all. (λ s failed. ok_is_none _ (Failed s) failed, (c.in-Ok.ensures.surely all).1)

pub returns-in-Err-clause-any_moment_failed : goal.returns-in-Err-clause-any_moment_failed
returns-in-Err-clause-any_moment_failed c = λ s is. c.in-Err.ensures.any_moment_failed s (refused_as c.in-Err.error (Failed s) is)

pub returns-in-Err-clause-any_moment_no_memory : goal.returns-in-Err-clause-any_moment_no_memory
returns-in-Err-clause-any_moment_no_memory c = λ s is. c.in-Err.ensures.any_moment_no_memory s (refused_as c.in-Err.error (NoMemory s) is)

pub returns-in-Err-clause-damaged : goal.returns-in-Err-clause-damaged
returns-in-Err-clause-damaged c = λ s f p is. c.in-Err.ensures.damaged s f p (refused_as c.in-Err.error (Damaged s f p) is)

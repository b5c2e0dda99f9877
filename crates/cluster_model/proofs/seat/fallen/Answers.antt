use Rattle.std.proofs.Common.{subst}
use Rattle.cs_store.specs.declared.mem.MemStore.{MemStore}
use Rattle.cluster_model.specs.Sites.{Crashed}
use Rattle.cluster_model.proofs.Stores.{crashed_on}
use Rattle.cluster_model.proofs.seat.fallen.Goals as goal

pub returns : goal.returns
returns g c = subst (λ (s : MemStore). Crashed s c.reopened.result) c.release-store.ensures (crashed_on 0 c.release-store.result c.is_halted-is_stopped.new.store c.reopened.result c.is_halted-is_stopped.ensures c.reopened.ensures)

use Rattle.paxos_acceptor.proofs.Promises.{promise_rises, promises_are_kept}
use Rattle.paxos_acceptor.proofs.laws.promises_rise.Goals as goal

pub returns : goal.returns
returns c = record { rise = promise_rises; kept = promises_are_kept }

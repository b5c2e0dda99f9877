use Rattle.paxos_acceptor.proofs.Promises.{nothing_below}
use Rattle.paxos_acceptor.proofs.laws.nothing_below_a_promise_is_taken.Goals as goal

pub returns : goal.returns
returns c = nothing_below

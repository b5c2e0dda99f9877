use Rattle.paxos_acceptor.proofs.Refusals.{refused_is_not_accepted}
use Rattle.paxos_acceptor.proofs.laws.refused_is_not_accepted.Goals as goal

pub returns : goal.returns
returns c = refused_is_not_accepted

use Rattle.paxos_acceptor.proofs.Votes.{due, only_due}
use Rattle.paxos_acceptor.proofs.laws.votes_have_causes.Goals as goal

pub returns : goal.returns
returns c = record { due = due; determined = only_due }

use Rattle.paxos_acceptor.proofs.Votes.{prepares_are_steps, votes_are_steps}
use Rattle.paxos_acceptor.proofs.laws.messages_make_steps.Goals as goal

pub returns : goal.returns
returns c = record { prepares = prepares_are_steps; votes = votes_are_steps }

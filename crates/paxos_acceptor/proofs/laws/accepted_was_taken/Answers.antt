use Rattle.paxos_acceptor.proofs.Acceptances.{accepted_was_taken, repeated_was_taken}
use Rattle.paxos_acceptor.proofs.laws.accepted_was_taken.Goals as goal

pub returns : goal.returns
returns c = record { rows = accepted_was_taken; repeats = repeated_was_taken }

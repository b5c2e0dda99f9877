use Rattle.paxos_acceptor.proofs.Acceptances.{promises_tell}
use Rattle.paxos_acceptor.proofs.laws.promises_tell_what_was_taken.Goals as goal

pub returns : goal.returns
returns c = promises_tell

use Rattle.paxos_acceptor.proofs.Worked.{run_is_lawful}
use Rattle.paxos_acceptor.proofs.laws.worked_run_is_lawful.Goals as goal

pub returns : goal.returns
returns c = run_is_lawful

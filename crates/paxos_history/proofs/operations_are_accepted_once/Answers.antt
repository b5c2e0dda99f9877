use Rattle.paxos_history.proofs.OwnProposals.{once}
use Rattle.paxos_history.proofs.operations_are_accepted_once.Goals as goal

pub returns : goal.returns
returns c' = λ w h r a b ok f g p q. once w a f.0 r f.1 b g.0 g.1 p.0 q.0 f.2 g.2 h ok f.3 g.3 p.1 q.1

use Rattle.paxos_history.proofs.Acceptors.{accepted_below}
use Rattle.paxos_history.proofs.OwnProposals.{refused_never}
use Rattle.paxos_history.proofs.replicas_keep_promises.Goals as goal

pub returns : goal.returns
returns c = record {
  accepted = λ w h n b ok was. accepted_below w n b h ok was;
  refused = λ w h n b ok r a. refused_never w n b h ok r a;
}

use Rattle.paxos_acceptor.proofs.Acceptances.{taken_is_kept, repeats_are_accepted}
use Rattle.paxos_acceptor.proofs.laws.taken_is_kept.Goals as goal

pub returns : goal.returns
returns c = record { kept = taken_is_kept; repeats = repeats_are_accepted }

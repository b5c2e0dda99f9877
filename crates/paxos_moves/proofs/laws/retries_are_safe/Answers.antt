use Rattle.paxos_moves.proofs.StoryLaws.{safe}
use Rattle.paxos_moves.proofs.laws.retries_are_safe.Goals as goal

pub returns : goal.returns
returns c = safe

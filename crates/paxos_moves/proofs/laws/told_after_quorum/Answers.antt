use Rattle.paxos_moves.proofs.StoryLaws.{told}
use Rattle.paxos_moves.proofs.laws.told_after_quorum.Goals as goal

pub returns : goal.returns
returns c = told

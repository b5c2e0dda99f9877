use Rattle.paxos_moves.proofs.StoryLaws.{rise}
use Rattle.paxos_moves.proofs.laws.ballots_rise.Goals as goal

pub returns : goal.returns
returns c = rise

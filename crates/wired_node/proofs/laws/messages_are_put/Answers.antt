use Rattle.wired_node.proofs.Histories.{all_put}
use Rattle.wired_node.proofs.laws.messages_are_put.Goals as goal

pub returns : goal.returns
returns g c = all_put _ _ _ _ _ _ _

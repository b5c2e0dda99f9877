use Rattle.wired_node.proofs.Failing.{all_counted}
use Rattle.wired_node.proofs.laws.failures_are_counted.Goals as goal

pub returns : goal.returns
returns g c = all_counted _ _ _ _ _ _ _

use Rattle.wired_node.proofs.Given.{given_once}
use Rattle.wired_node.proofs.laws.answers_are_given_once.Goals as goal

pub returns : goal.returns
returns g c = given_once _ _ _ _ _ _ _

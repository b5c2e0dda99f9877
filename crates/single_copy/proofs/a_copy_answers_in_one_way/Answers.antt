use Rattle.single_copy.proofs.OneCopy.{steps_are_one}
use Rattle.single_copy.proofs.a_copy_answers_in_one_way.Goals as goal

pub returns : goal.returns
returns c = steps_are_one

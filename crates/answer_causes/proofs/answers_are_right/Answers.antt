use Rattle.answer_causes.proofs.Right.{all_right}
use Rattle.answer_causes.proofs.answers_are_right.Goals as goal

pub returns : goal.returns
returns c = all_right

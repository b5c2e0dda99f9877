use Rattle.answer_causes.proofs.Numbering.{numbers_told}
use Rattle.answer_causes.proofs.timeouts_tell_numbers.Goals as goal

pub returns : goal.returns
returns c = numbers_told

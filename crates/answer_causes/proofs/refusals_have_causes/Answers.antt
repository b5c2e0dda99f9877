use Rattle.answer_causes.proofs.Refusing.{refusals_told}
use Rattle.answer_causes.proofs.refusals_have_causes.Goals as goal

pub returns : goal.returns
returns c = refusals_told

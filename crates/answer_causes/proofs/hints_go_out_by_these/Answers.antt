use Rattle.answer_causes.proofs.Sending.{hints_sent}
use Rattle.answer_causes.proofs.hints_go_out_by_these.Goals as goal

pub returns : goal.returns
returns c = hints_sent

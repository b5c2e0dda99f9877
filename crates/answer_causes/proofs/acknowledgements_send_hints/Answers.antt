use Rattle.answer_causes.proofs.Batching.{next_sent}
use Rattle.answer_causes.proofs.acknowledgements_send_hints.Goals as goal

pub returns : goal.returns
returns c = next_sent

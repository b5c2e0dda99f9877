use Rattle.node_steps.proofs.Answering.{answered_at_once}
use Rattle.node_steps.proofs.replicas_answer_at_once.Goals as goal

pub returns : goal.returns
returns c = answered_at_once

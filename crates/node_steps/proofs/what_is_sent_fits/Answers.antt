use Rattle.node_steps.proofs.Written.{sent_written}
use Rattle.node_steps.proofs.what_is_sent_fits.Goals as goal

pub returns : goal.returns
returns c = sent_written

use Rattle.cluster_runs.proofs.Sent.{sent_fits}
use Rattle.cluster_runs.proofs.what_was_sent_fits.Goals as goal

pub returns : goal.returns
returns c = sent_fits

use Rattle.node_steps.proofs.Written.{held_written, kept_written}
use Rattle.node_steps.proofs.what_is_kept_fits.Goals as goal

pub returns : goal.returns
returns c = record { kept = kept_written; held = held_written }

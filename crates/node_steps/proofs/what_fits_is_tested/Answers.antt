use Rattle.node_steps.proofs.Fitting.{changes_tested, mutations_tested}
use Rattle.node_steps.proofs.what_fits_is_tested.Goals as goal

pub returns : goal.returns
returns c = record { changes = changes_tested; mutations = mutations_tested }

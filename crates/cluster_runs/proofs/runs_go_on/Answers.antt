use Rattle.cluster_runs.proofs.Runs.{run_on}
use Rattle.cluster_runs.proofs.runs_go_on.Goals as goal

pub returns : goal.returns
returns c = run_on

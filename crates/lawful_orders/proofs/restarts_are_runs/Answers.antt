use Rattle.lawful_orders.proofs.Restarting.{restart_run}
use Rattle.lawful_orders.proofs.restarts_are_runs.Goals as goal

pub returns : goal.returns
returns c = restart_run

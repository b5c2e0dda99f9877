use Rattle.lawful_orders.proofs.Running.{lawful_run}
use Rattle.lawful_orders.proofs.lawful_orders_are_runs.Goals as goal

pub returns : goal.returns
returns c = lawful_run

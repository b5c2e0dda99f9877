use Rattle.lawful_orders.proofs.Merging.{histories_merge}
use Rattle.lawful_orders.proofs.OneOrder.{merged_one}
use Rattle.lawful_orders.proofs.Sorting.{merged_lawful, merged_run}
use Rattle.lawful_orders.proofs.merged_is_a_run.Goals as goal

pub returns-clause-there : goal.returns-clause-there
returns-clause-there c = histories_merge

pub returns-clause-one : goal.returns-clause-one
returns-clause-one c = merged_one

pub returns-clause-lawful : goal.returns-clause-lawful
returns-clause-lawful c = merged_lawful

pub returns-clause-run : goal.returns-clause-run
returns-clause-run c = merged_run

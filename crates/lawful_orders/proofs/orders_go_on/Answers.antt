use Rattle.lawful_orders.proofs.Running.{order_on, order_lawful}
use Rattle.lawful_orders.proofs.orders_go_on.Goals as goal

pub returns-clause-run : goal.returns-clause-run
returns-clause-run c = order_on

pub returns-clause-lawful : goal.returns-clause-lawful
returns-clause-lawful c = order_lawful

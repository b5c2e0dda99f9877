use Rattle.lawful_orders.proofs.Ticks.{ahead_known, ahead_ticks}
use Rattle.lawful_orders.proofs.ahead_is_a_tick.Goals as goal

pub returns-clause-known : goal.returns-clause-known
returns-clause-known c = ahead_known

pub returns-clause-steps : goal.returns-clause-steps
returns-clause-steps c = ahead_ticks

use Rattle.paxos_history.proofs.Example.{racing_inserts}
use Rattle.paxos_history.proofs.racing_inserts_stand_in_one_order.Goals as goal

pub returns : goal.returns
returns c = racing_inserts

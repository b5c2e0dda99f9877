use Rattle.paxos_acceptor.proofs.Acceptances.{fresh_in_order, rows_stay_in_order}
use Rattle.paxos_acceptor.proofs.laws.rows_stay_in_order.Goals as goal

pub returns : goal.returns
returns c = record { fresh = fresh_in_order; stay = rows_stay_in_order }

use Rattle.std.proofs.Common.{◌≡◌, length}
use Rattle.prepared_statement.specs.Orders.{behind_partition}
use Rattle.prepared_statement.proofs.orders.behind_partition.Given as goal

abbrev pub invariant-loop-rest : goal.invariant-loop-rest
invariant-loop-rest l = behind_partition l.columns ≡ behind_partition l.rest

abbrev pub decreases-loop-rest : goal.decreases-loop-rest
decreases-loop-rest l = length l.rest

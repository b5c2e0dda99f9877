use Rattle.client_desk.specs.Asks.{IsAwaited}
use Rattle.node_workers.proofs.tests.looks.Given as goal

abbrev pub invariant-loop : goal.invariant-loop
invariant-loop g l = IsAwaited (g.D.Desk.asks l.desk) l.request

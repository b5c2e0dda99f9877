use Rattle.storage_tests.proofs.replica_calls.held.Given as goal

abbrev pub invariant-loop-range : goal.invariant-loop-range
invariant-loop-range g l = g.R.Replica.is_whole l.replica

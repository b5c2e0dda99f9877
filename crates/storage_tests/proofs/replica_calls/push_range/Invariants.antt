use Rattle.storage_tests.proofs.replica_calls.push_range.Given as goal

abbrev pub invariant-loop-partition : goal.invariant-loop-partition
invariant-loop-partition g l = g.R.Replica.is_whole l.replica

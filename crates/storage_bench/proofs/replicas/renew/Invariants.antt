use Rattle.storage_bench.proofs.replicas.renew.Given as goal

abbrev pub invariant-loop-at : goal.invariant-loop-at
invariant-loop-at g l = g.R.Replica.is_whole l.replica

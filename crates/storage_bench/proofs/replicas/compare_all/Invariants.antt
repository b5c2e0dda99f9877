use Rattle.storage_bench.proofs.replicas.compare_all.Given as goal

abbrev pub invariant-loop-partition : goal.invariant-loop-partition
invariant-loop-partition g l = g.R.Replica.is_whole l.replica

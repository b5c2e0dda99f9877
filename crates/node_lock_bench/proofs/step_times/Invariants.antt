use Rattle.node_lock.specs.Passes.{IsPassOf}
use Rattle.node_lock_bench.proofs.step_times.Given as goal

abbrev pub invariant-loop : goal.invariant-loop
invariant-loop g l = IsPassOf l.lock l.pass

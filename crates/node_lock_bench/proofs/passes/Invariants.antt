use Rattle.std.proofs.Common.{All}
use Rattle.node_lock.specs.Passes.{IsPassOf}
use Rattle.node_lock_bench.proofs.passes.Given as goal

abbrev pub invariant-loop : goal.invariant-loop
invariant-loop l = record { first : IsPassOf l.lock l.first; passes : All (λ p. IsPassOf l.lock p) l.passes.items }

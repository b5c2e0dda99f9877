use Rattle.std.proofs.Common.{◌≡◌}
use Rattle.node_lock.specs.Passes.{IsPassOf, view_of}
use Rattle.thread_tests.proofs.locked_steps.add_numbers.Given as goal

abbrev pub invariant-loop-amount : goal.invariant-loop-amount
invariant-loop-amount g l = record { pass : IsPassOf l.lock l.pass; seats : (view_of l.pass).seats ≡ (view_of l.initial.pass).seats }

use Rattle.std.proofs.Common.{◌≡◌}
use Rattle.node_lock.specs.Passes.{IsPassOf, view_of}
use Rattle.thread_tests.proofs.relayed_messages.step_all.Given as goal

abbrev pub invariant-loop-message : goal.invariant-loop-message
invariant-loop-message g l = record { pass : IsPassOf l.lock l.pass; seats : (view_of l.pass).seats ≡ (view_of l.initial.pass).seats }

use Rattle.std.proofs.Common.{◌≡◌, ◌++◌}
use Rattle.node_core.proofs.work.add_each.Given as goal

abbrev pub invariant-loop-entry : goal.invariant-loop-entry
invariant-loop-entry l = l.all ≡ l.fn.all ++ l.yielded

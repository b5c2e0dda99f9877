use Rattle.std.proofs.Common.{◌≡◌}
use Rattle.cluster_program.specs.Heads.{listening_lines}
use Rattle.cluster_program.proofs.head.opening_lines.Given as goal

abbrev pub invariant-loop-node : goal.invariant-loop-node
invariant-loop-node l = l.text.items ≡ listening_lines l.port l.node

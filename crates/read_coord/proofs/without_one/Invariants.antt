use Rattle.std.proofs.Common.{◌≡◌, take}
use Rattle.node_steps.specs.Reads.{without_one}
use Rattle.read_coord.proofs.without_one.Given as goal

abbrev pub invariant-loop-node : goal.invariant-loop-node
invariant-loop-node l = l.left ≡ without_one (take l.node-index l.nodes) l.from

use Rattle.std.proofs.Common.{◌≡◌, take}
use Rattle.read_coord.specs.Keeping.{replies_with, differing_from}
use Rattle.read_coord.proofs.ReadCoord.differing.Given as goal

abbrev pub invariant-loop-node : goal.invariant-loop-node
invariant-loop-node l = l.nodes ≡ differing_from l.merged (replies_with l.self l.from l.content) (take l.node-index l.replicas)

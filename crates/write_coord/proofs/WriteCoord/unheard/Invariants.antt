use Rattle.std.proofs.Common.{◌≡◌, filter, take}
use Rattle.std.specs.Prelude.{not}
use Rattle.node_steps.specs.Writes.{is_served}
use Rattle.write_coord.proofs.WriteCoord.unheard.Given as goal

abbrev pub invariant-loop-node : goal.invariant-loop-node
invariant-loop-node l = l.nodes ≡ filter (λ k. not (is_served l.self k)) (take l.node-index l.node-items)

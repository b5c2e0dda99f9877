use Rattle.std.proofs.Common.{◌≡◌, filter, take}
use Rattle.cs_base.specs.Quorums.{is_in}
use Rattle.node_steps.specs.Hints.{with_room}
use Rattle.node_core.proofs.asks.hinted_of.Given as goal

abbrev pub invariant-loop-node : goal.invariant-loop-node
invariant-loop-node l = l.hinted ≡ with_room l.hints.now (filter (λ k. is_in l.down k) (take l.node-index l.replicas))

use Rattle.std.proofs.Common.{◌≡◌, ◌≤◌, length}
use Rattle.std.specs.Prelude.{slice_get, filter}
use Rattle.std.specs.List.{range_with_len}
use Rattle.cs_base.specs.Ring.{is_replica_at}
use Rattle.token_ring.proofs.ring.Ring.replicas_by_number.Given as goal

abbrev pub invariant-loop-node : goal.invariant-loop-node
invariant-loop-node l =
    (l.out ≡ filter (λ k. is_replica_at l.fn.self l.fn.rf l.fn.token (slice_get l.fn.self k)) (range_with_len 0 l.node)) × (length l.out ≤ l.node)

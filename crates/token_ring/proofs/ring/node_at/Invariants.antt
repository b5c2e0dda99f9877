use Rattle.std.proofs.Common.{◌≡◌, ℕ, ◌<◌, ℤ, Some}
use Rattle.std.specs.Prelude.{slice_get}
use Rattle.cs_base.specs.Ring.{place_of}
use Rattle.token_ring.proofs.ring.node_at.Given as goal

abbrev pub invariant-loop-node : goal.invariant-loop-node
invariant-loop-node l = (k : ℕ) (t : ℤ) → k < l.node → slice_get l.tokens k ≡ Some t → place_of l.tokens l.token t ≡ l.place → ⊥

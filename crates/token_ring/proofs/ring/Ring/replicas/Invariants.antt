use Rattle.std.proofs.Common.{◌≡◌, ℕ, length, Some}
use Rattle.std.specs.Prelude.{slice_get}
use Rattle.token_ring.specs.Placement.{IsAtPlace}
use Rattle.token_ring.proofs.ring.Ring.replicas.Given as goal

abbrev pub invariant-loop-place : goal.invariant-loop-place
invariant-loop-place l = (length l.out ≡ l.place) × ((i k : ℕ) → slice_get l.out i ≡ Some k → IsAtPlace l.tokens l.token i k)

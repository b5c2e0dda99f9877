-- Stores that are formatted.
use Rattle.std.proofs.Common.{◌≡◌, ◌<◌, ℕ, zero, suc, Some, List, subst, arith, length, replicate}
use Rattle.std.specs.Prelude.{slice_get}
use Rattle.cs_base.proofs.Slots.{some_one}
use Rattle.cs_store.specs.Images.{formatted_bytes}
use Rattle.durable_state.specs.State.{Durable, IsSameKept, formatted}
use Rattle.node_steps.specs.State.{fresh_node}
use Rattle.cluster_runs.specs.World.{Standing, Running}
use Rattle.cluster_runs.specs.Run.RunFrom.{begun}
use Rattle.lawful_orders.specs.Restarts.{IsFound}
use Rattle.served_theorem.specs.Laws.{FormattedStoresAreLeft}

one_of : {X : Type 0} (x : X) (count n : ℕ) (y : X) → slice_get (replicate count x) n ≡ Some y → (n < count) × (x ≡ y)
one_of x zero n y at = cc
one_of x (suc count) zero y at = (omega arith, some_one at)
one_of x (suc count) (suc n) y at = let rest = one_of x count n y at in let less = rest.0 in (omega (arith, less), rest.1)

pub formatted_left : (stands_for : (ℕ → List ℕ) → Durable → Type 0)
    → ((files : ℕ → List ℕ) (a b : Durable) → stands_for files a → stands_for files b → IsSameKept a b)
    → ((files : ℕ → List ℕ) → ((k : ℕ) → files k ≡ formatted_bytes k) → stands_for files formatted)
    → FormattedStoresAreLeft stands_for
formatted_left stands_for alone empty c holds are = (
  begun,
  λ n x at d stands.
      let one = one_of (Running fresh_node) (length c.ring) n x at in
      subst (λ (y : Standing). IsFound y d) one.1 (alone (holds n) formatted d (empty (holds n) (are n one.0)) stands),
)

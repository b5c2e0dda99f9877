-- Nodes of a cluster, none of them twice: so they are seven at most.
use Rattle.std.specs.Prelude.{◌≡◌, ℕ, ◌<◌, nat_eq, true, List}
use Rattle.std.specs.List.{list_any, IsDistinct}

pub record AreNodes (nodes : List ℕ) : Type 0 where
  pub distinct : IsDistinct nat_eq nodes
  pub below : (k : ℕ) → list_any (nat_eq k) nodes ≡ true → k < 7

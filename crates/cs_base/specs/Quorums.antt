-- Counts of the replicas that were heard of, and what two such counts have in common.
use Rattle.std.specs.Prelude.{◌≡◌, ℕ, ◌==◌, Bool, true, List, Contains, length, count_by}
use Rattle.std.specs.List.{list_any}
use Rattle.cs_base.specs.Levels.{Meets}

-- whether the node is among those heard of
abbrev pub is_in : List ℕ → ℕ → Bool
is_in heard k = list_any (λ j. j == k) heard

-- how many of the replicas were heard of: another node, and a node that is heard of again, count for nothing
abbrev pub heard_of : List ℕ → List ℕ → ℕ
heard_of replicas heard = count_by (is_in heard) replicas

-- of tests that meet among the replicas, some replica passes both
abbrev pub MeetingTestsShare : Type 0
MeetingTestsShare =
    (replicas : List ℕ) (p q : ℕ → Bool) → Meets (count_by p replicas) (count_by q replicas) (length replicas)
    → (k : ℕ) × Contains replicas k × (p k ≡ true) × (q k ≡ true)

-- two sets of nodes that meet among the replicas share a replica
abbrev pub MeetingNodesShare : Type 0
MeetingNodesShare =
    (replicas first second : List ℕ) → Meets (heard_of replicas first) (heard_of replicas second) (length replicas)
    → (k : ℕ) × Contains replicas k × Contains first k × Contains second k

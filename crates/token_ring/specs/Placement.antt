-- Where a partition's replicas lie, as Cassandra's SimpleStrategy places them: on the nodes whose tokens come first,
-- clockwise from the partition's token.
use Rattle.std.specs.Prelude.{◌≡◌, ◌≢◌, ◌↔◌, ℕ, ◌<◌, ◌≤◌, ℤ, FitsSigned, Bool, true, List, length, count_by, Some, slice_get, AllPairs, Contains}
use Rattle.std.specs.Int.{w64}
use Rattle.cs_base.specs.declared.range.Range.{Range}
use Rattle.cs_base.specs.Ring.{clockwise, place_of, is_replica_at, replicas_at, in_range, IsRing, IsOwnRange}

-- node j's token comes before node k's, clockwise from the token
abbrev pub IsNearer : List ℤ → ℤ → ℕ → ℕ → Type 0
IsNearer ring token j k = (t u : ℤ) → slice_get ring j ≡ Some t → slice_get ring k ≡ Some u → clockwise token t < clockwise token u

-- these nodes, in this order, are the replicas of a token at a factor
pub record AreReplicas (ring : List ℤ) (rf : ℕ) (token : ℤ) (nodes : List ℕ) : Type 0 where
  pub members : (k : ℕ) → Contains nodes k ↔ (is_replica_at ring rf token (slice_get ring k) ≡ true)
  pub nearer_first : AllPairs (IsNearer ring token) nodes

-- the node's token is the one before which so many come, clockwise from the token
pub record IsAtPlace (ring : List ℤ) (token : ℤ) (place node : ℕ) : Type 0 where
  pub own : ℤ
  pub there : slice_get ring node ≡ Some own
  pub before : place_of ring token own ≡ place

-- ---- laws

-- replicas are different nodes of the ring, as many as the factor says
pub record ReplicasAreNodes : Type 0 where
  pub count : (ring : List ℤ) (rf : ℕ) (token : ℤ) (nodes : List ℕ) → IsRing ring → FitsSigned w64 token → rf ≤ length ring → AreReplicas ring rf token nodes → length nodes ≡ rf
  pub distinct : (ring : List ℤ) (rf : ℕ) (token : ℤ) (nodes : List ℕ) → AreReplicas ring rf token nodes → AllPairs (λ j k. j ≢ k) nodes
  pub within : (ring : List ℤ) (rf : ℕ) (token : ℤ) (nodes : List ℕ) → AreReplicas ring rf token nodes → (k : ℕ) → Contains nodes k → k < length ring

-- the same nodes by rising number
pub record ReplicasByNumber : Type 0 where
  pub count : (ring : List ℤ) (rf : ℕ) (token : ℤ) → IsRing ring → FitsSigned w64 token → rf ≤ length ring → length (replicas_at ring rf token) ≡ rf
  pub members : (ring : List ℤ) (rf : ℕ) (token : ℤ) (nodes : List ℕ) → AreReplicas ring rf token nodes → (k : ℕ) → Contains nodes k ↔ Contains (replicas_at ring rf token) k
  pub counts : (ring : List ℤ) (rf : ℕ) (token : ℤ) (nodes : List ℕ) → AreReplicas ring rf token nodes → (p : ℕ → Bool) → count_by p nodes ≡ count_by p (replicas_at ring rf token)

-- each token is in the range of just one node
abbrev pub RangesShareOut : Type 0
RangesShareOut =
    (ring : List ℤ) (token : ℤ) → IsRing ring → FitsSigned w64 token
    → (k : ℕ) × (k < length ring) × ((j : ℕ) (r : Range) → IsOwnRange ring j r → (in_range r token ≡ true) ↔ (j ≡ k))

-- and that node is the first replica
abbrev pub FirstReplicaOwns : Type 0
FirstReplicaOwns =
    (ring : List ℤ) (rf : ℕ) (token : ℤ) (nodes : List ℕ) (j : ℕ) (r : Range) → IsRing ring → FitsSigned w64 token → 1 ≤ rf
    → AreReplicas ring rf token nodes → IsOwnRange ring j r → (in_range r token ≡ true) ↔ (slice_get nodes 0 ≡ Some j)

-- Leaves that are being hashed.
use Rattle.std.specs.Prelude.{◌≡◌, ◌≢◌, ℕ, ◌≤◌, ◌++◌, List, Some, slice_get}
use Rattle.cs_base.specs.declared.range.Range.{Range}
use Rattle.changes.specs.declared.Mutation.{Mutation}
use Rattle.sha2.specs.Hashers.{Holds256}
use Rattle.sha2.specs.Sha256.{sha256}
use Rattle.sha2.specs.declared.Sha256.{Sha256}
use Rattle.merkle_tree.specs.Digests.{hashed_bytes, parts_of_leaf}

-- a range, and a hasher for each of its leaves by the leaf's number
pub record Hashing : Type 0 where
  pub range : Range
  pub hashers : List Sha256

-- by leaf, each hasher holds these bytes
abbrev pub HoldEach : (ℕ → List ℕ) → List Sha256 → Type 0
HoldEach bytes hashers = (leaf : ℕ) (hasher : Sha256) → slice_get hashers leaf ≡ Some hasher → Holds256 hasher (bytes leaf)

-- these partitions were added, in this order: each hasher was fed with the bytes of just those of its leaf
pub record HasTaken (h : Hashing) (parts : List Mutation) : Type 0 where
  pub each : HoldEach (λ leaf. hashed_bytes (parts_of_leaf h.range leaf parts)) h.hashers

-- ---- parts of the code

-- the bytes go to the hasher of this leaf, and nothing to the others
pub record IsFedAt (leaf : ℕ) (bytes : List ℕ) (old new : List Sha256) : Type 0 where
  pub here : (before after : Sha256) (m : List ℕ) → slice_get old leaf ≡ Some before → slice_get new leaf ≡ Some after → Holds256 before m → Holds256 after (m ++ bytes)
  pub others : (k : ℕ) → k ≢ leaf → slice_get new k ≡ slice_get old k

-- each digest from this leaf on is that of what the leaf's hasher holds
abbrev pub AreDigestsFrom : ℕ → List Sha256 → List (List ℕ) → Type 0
AreDigestsFrom first hashers digests =
    (leaf : ℕ) (hasher : Sha256) (m : List ℕ) → first ≤ leaf → slice_get hashers leaf ≡ Some hasher → Holds256 hasher m → slice_get digests leaf ≡ Some (sha256 m)

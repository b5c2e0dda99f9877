-- What replicas compare of a range: its tokens are shared out to 256 leaves, and of each leaf there is one digest of all that is
-- held there. Two replicas that tell the same digest of a leaf hold the same there, unless SHA-256 has a collision. This is the
-- lowest row of the Merkle trees by which Cassandra's repair compares replicas.
use Rattle.std.specs.Prelude.{◌≡◌, ℕ, ◌<◌, Bool, not, ◌&&◌, ◌==◌, List, [], filter, length, slice_get, slice_index_or, Some}
use Rattle.std.specs.List.{flat_map}
use Rattle.std.specs.Cmp.Lexicographic.{pointwise}
use Rattle.cs_base.specs.declared.range.Range.{Range}
use Rattle.cs_base.specs.Leaves.{leaves_where}
use Rattle.cs_base.specs.Ring.{in_range, leaf_of}
use Rattle.changes.specs.declared.Held.{Held}
use Rattle.changes.specs.declared.Mutation.{Mutation}
use Rattle.changes.specs.declared.Partition.{Partition}
use Rattle.stored_changes.specs.Spelling.{mutation}
use Rattle.sha2.specs.Sha256.{sha256}

-- a partition with all that is held of it
abbrev pub part : Partition → List Held → Mutation
part p changes = record { partition = p; changes = changes }

-- the partition's token is in the range, and in this leaf of it
abbrev pub is_in_leaf : Range → ℕ → Mutation → Bool
is_in_leaf r leaf m = in_range r m.partition.token && (leaf_of r m.partition.token == leaf)

-- those of a leaf, in the order in which they stand among all
abbrev pub parts_of_leaf : Range → ℕ → List Mutation → List Mutation
parts_of_leaf r leaf parts = filter (is_in_leaf r leaf) parts

-- what is hashed: each partition with its changes as a mutation of them is stored, one after another, with nothing between
abbrev pub hashed_bytes : List Mutation → List ℕ
hashed_bytes parts = flat_map mutation parts

-- SHA-256 of these bytes (FIPS 180-4)
abbrev pub digest_of : List Mutation → List ℕ
digest_of parts = sha256 (hashed_bytes parts)

-- the digest of a leaf
abbrev pub leaf_digest : Range → List Mutation → ℕ → List ℕ
leaf_digest r parts leaf = digest_of (parts_of_leaf r leaf parts)

-- one digest for each leaf of the range, by the leaf's number
pub record AreLeafDigests (r : Range) (parts : List Mutation) (digests : List (List ℕ)) : Type 0 where
  pub count : length digests ≡ 256
  pub each : (leaf : ℕ) → leaf < 256 → slice_get digests leaf ≡ Some (leaf_digest r parts leaf)

-- ---- what two trees differ in

-- whether the two have different digests of a leaf
abbrev pub differ_at : List (List ℕ) → List (List ℕ) → ℕ → Bool
differ_at a b leaf = not (pointwise ◌==◌ (slice_index_or a leaf []) (slice_index_or b leaf []))

-- the leaves whose digests differ
abbrev pub differing : List (List ℕ) → List (List ℕ) → List ℕ
differing a b = leaves_where (differ_at a b)

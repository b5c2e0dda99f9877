-- What holds of leaves and of their digests.
use Rattle.std.specs.Prelude.{◌≡◌, ◌↔◌, ℕ, ◌<◌, ◌≤◌, ℤ, true, List, [], ◌∷◌, Contains, map}
use Rattle.std.specs.List.{AllByRecursion}
use Rattle.std.specs.List.Sorted.{IsStrictlySortedBy}
use Rattle.cs_base.specs.declared.range.Range.{Range}
use Rattle.cs_base.specs.Ring.{clockwise, leaf_of}
use Rattle.changes.specs.declared.Mutation.{Mutation}
use Rattle.changes.specs.declared.Partition.{Partition}
use Rattle.changes.specs.Order.{partition_cmp}
use Rattle.stored_changes.specs.Spelling.{MutationHasWord}
use Rattle.merkle_tree.specs.Digests.{is_in_leaf, parts_of_leaf, hashed_bytes, leaf_digest}
use Rattle.merkle_tree.specs.Ranges.{HasTokens, IsWithin}

-- each token of a range is in one of its 256 leaves
abbrev pub LeavesShareOut : Type 0
LeavesShareOut = (r : Range) (token : ℤ) → HasTokens r → IsWithin r token → leaf_of r token < 256

-- on the way through a range from its lower end clockwise, the leaves rise: of two tokens, the one that has no less of the way
-- before it is in no later leaf
abbrev pub LeavesRise : Type 0
LeavesRise =
    (r : Range) (s t : ℤ) → HasTokens r → IsWithin r s → IsWithin r t → clockwise t r.upto ≤ clockwise s r.upto → leaf_of r s ≤ leaf_of r t

-- ---- digests

-- the digest of no bytes
abbrev pub empty_digest : List ℕ
empty_digest =
    0xE3 ∷ 0xB0 ∷ 0xC4 ∷ 0x42 ∷ 0x98 ∷ 0xFC ∷ 0x1C ∷ 0x14 ∷ 0x9A ∷ 0xFB ∷ 0xF4 ∷ 0xC8 ∷ 0x99 ∷ 0x6F ∷ 0xB9 ∷ 0x24 ∷
    0x27 ∷ 0xAE ∷ 0x41 ∷ 0xE4 ∷ 0x64 ∷ 0x9B ∷ 0x93 ∷ 0x4C ∷ 0xA4 ∷ 0x95 ∷ 0x99 ∷ 0x1B ∷ 0x78 ∷ 0x52 ∷ 0xB8 ∷ 0x55 ∷ []

abbrev pub EmptyLeavesHaveTheEmptyDigest : Type 0
EmptyLeavesHaveTheEmptyDigest = (r : Range) (leaf : ℕ) (parts : List Mutation) → parts_of_leaf r leaf parts ≡ [] → leaf_digest r parts leaf ≡ empty_digest

abbrev pub partitions_of : List Mutation → List Partition
partitions_of parts = map (λ m. m.partition) parts

-- in the order of partitions, each once
abbrev pub AreByPartition : List Mutation → Type 0
AreByPartition parts = IsStrictlySortedBy partition_cmp (partitions_of parts)

-- partitions that stand in order stand so in each leaf
abbrev pub LeavesKeepTheOrder : Type 0
LeavesKeepTheOrder = (r : Range) (leaf : ℕ) (parts : List Mutation) → AreByPartition parts → AreByPartition (parts_of_leaf r leaf parts)

-- both have the same partitions with the same changes in this leaf
abbrev pub AreSameInLeaf : Range → ℕ → List Mutation → List Mutation → Type 0
AreSameInLeaf r leaf a b = (m : Mutation) → is_in_leaf r leaf m ≡ true → Contains a m ↔ Contains b m

-- equal contents of a leaf have equal digests
abbrev pub EqualContentsHaveEqualDigests : Type 0
EqualContentsHaveEqualDigests =
    (r : Range) (leaf : ℕ) (a b : List Mutation) → AreByPartition a → AreByPartition b → AreSameInLeaf r leaf a b → leaf_digest r a leaf ≡ leaf_digest r b leaf

-- different contents are hashed as different bytes: so where their digests are equal, SHA-256 has a collision
abbrev pub BytesTellTheParts : Type 0
BytesTellTheParts = (a b : List Mutation) → AllByRecursion MutationHasWord a → AllByRecursion MutationHasWord b → hashed_bytes a ≡ hashed_bytes b → a ≡ b

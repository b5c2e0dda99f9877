-- Sets of the 256 leaves of a range, as the lists of their numbers, and the four words of bits that hold one.
use Rattle.std.specs.Prelude.{◌≡◌, ℕ, zero, suc, ◌+◌, ◌*◌, ◌/◌, ◌%◌, ◌^◌, ◌<◌, Bool, ◌==◌, ◌||◌, if◌then◌else◌, List, [], ◌∷◌, filter, map, slice_index}
use Rattle.std.specs.List.{range_with_len}
use Rattle.cs_base.specs.Quorums.{is_in}

-- those of the 256 leaves that pass, by rising number
unfoldable pub leaves_where : (ℕ → Bool) → List ℕ
leaves_where test = filter test (range_with_len 0 256)

-- leaf i is bit i % 64 of word i / 64
abbrev pub is_leaf_of : List ℕ → ℕ → Bool
is_leaf_of words i = ((slice_index words (i / 64) / 2 ^ (i % 64)) % 2) == 1

abbrev pub leaves_of_bits : List ℕ → List ℕ
leaves_of_bits words = leaves_where (is_leaf_of words)

-- the number of that many bits whose bit k is set where the test passes k
unfoldable pub word_where : (ℕ → Bool) → ℕ → ℕ
word_where test zero = 0
word_where test (suc k) = word_where test k + (if test k then 2 ^ k else 0)

-- the words whose bits are these leaves
abbrev pub bits_of_leaves : List ℕ → List ℕ
bits_of_leaves leaves = map (λ w. word_where (λ k. is_in leaves (64 * w + k)) 64) (0 ∷ 1 ∷ 2 ∷ 3 ∷ [])

-- the leaves, and this one
abbrev pub with_leaf : List ℕ → ℕ → List ℕ
with_leaf leaves leaf = leaves_where (λ i. (i == leaf) || is_in leaves i)

-- what is in such a set, and when two are the same
pub record LeavesAreTold : Type 0 where
  pub among : (test : ℕ → Bool) (i : ℕ) → i < 256 → is_in (leaves_where test) i ≡ test i
  pub same : (p q : ℕ → Bool) → ((i : ℕ) → i < 256 → p i ≡ q i) → leaves_where p ≡ leaves_where q

-- The words of a set of leaves are given back by its leaves.
use Rattle.std.proofs.Common.{◌≡◌, ℕ, zero, suc, ◌+◌, ◌*◌, ◌/◌, ◌%◌, ◌^◌, ◌<◌, ◌≤◌, Bool, true, false, cond, refl, sym, ap, ◌∙◌, arith, List, [], ◌∷◌, length, filter, eqb}
use Rattle.std.proofs.lemmas.Bool.{eqb-true, eqb-false, ne_eqb}
use Rattle.std.proofs.lemmas.Nat.{pow_pos}
use Rattle.std.proofs.Math.Nat.{mod-eq_of_lt, mod-one, pow-suc, mul_comm}
use Rattle.std.proofs.Math.Arith.{mod-mul}
use Rattle.std.specs.List.{range_with_len}
use Rattle.std.specs.Prelude.{slice_index}
use Rattle.cs_base.specs.Quorums.{is_in}
use Rattle.cs_base.specs.Leaves.{leaves_where, is_leaf_of, leaves_of_bits, word_where, bits_of_leaves}

-- no number below the first is among those that pass
none_below : (test : ℕ → Bool) (a n i : ℕ) → i < a → is_in (filter test (range_with_len a n)) i ≡ false
none_below test a zero i h = refl
none_below test a (suc n) i h =
    elim (test a) as (λ t. is_in (cond t (a ∷ filter test (range_with_len (a + 1) n)) (filter test (range_with_len (a + 1) n))) i ≡ false) [
      | true ↦ rw (ne_eqb a i (λ s. omega arith)) (none_below test (a + 1) n i (omega arith))
      | false ↦ none_below test (a + 1) n i (omega arith)
    ]

among_at : (test : ℕ → Bool) (a n i : ℕ) (t same : Bool) → test a ≡ t → eqb a i ≡ same → a ≤ i
    → (a < i → is_in (filter test (range_with_len (a + 1) n)) i ≡ test i)
    → is_in (cond t (a ∷ filter test (range_with_len (a + 1) n)) (filter test (range_with_len (a + 1) n))) i ≡ test i
among_at test a n i true true e f low later = rw f (sym e ∙ ap test (eqb-true a i f))
among_at test a n i false true e f low later = none_below test (a + 1) n i (let s = eqb-true a i f in omega arith) ∙ sym e ∙ ap test (eqb-true a i f)
among_at test a n i true false e f low later = rw f (later (let s = eqb-false a i f in omega arith))
among_at test a n i false false e f low later = later (let s = eqb-false a i f in omega arith)

-- a number of the range is among those that pass if it passes
among : (test : ℕ → Bool) (a n i : ℕ) → a ≤ i → i < a + n → is_in (filter test (range_with_len a n)) i ≡ test i
among test a zero i low high = absurd (omega arith)
among test a (suc n) i low high = among_at test a n i (test a) (eqb a i) refl refl low (λ h. among test (a + 1) n i (omega arith) (omega arith))

pub among_leaves : (test : ℕ → Bool) (i : ℕ) → i < 256 → is_in (leaves_where test) i ≡ test i
unfolding leaves_where
among_leaves test i h = among test 0 256 i (omega arith) (omega arith)

-- ---- words from bits

-- the words' leaf, by the word and the bit in it
leaf_at : (words : List ℕ) (w k : ℕ) → k < 64 → is_leaf_of words (64 * w + k) ≡ eqb ((slice_index words w / 2 ^ k) % 2) 1
leaf_at words w k h =
    let word : (64 * w + k) / 64 ≡ w = div_is w k h in
    let bit : (64 * w + k) % 64 ≡ k = mod_is w k h in
    rw (word, bit) refl
  where
    div_is : (w k : ℕ) → k < 64 → (64 * w + k) / 64 ≡ w
    div_is w k h = omega arith

    mod_is : (w k : ℕ) → k < 64 → (64 * w + k) % 64 ≡ k
    mod_is w k h = omega arith

-- a bit's worth
worth : (b v : ℕ) → b < 2 → cond (eqb b 1) v 0 ≡ b * v
worth zero v h = omega arith
worth (suc zero) v h = omega arith
worth (suc (suc b)) v h = absurd (omega arith)

-- a number's low bits, from its bits
low_bits : (test : ℕ → Bool) (n m : ℕ) → ((k : ℕ) → k < m → test k ≡ eqb ((n / 2 ^ k) % 2) 1) → word_where test m ≡ n % 2 ^ m
unfolding word_where
low_bits test n zero h = sym (mod-one n)
low_bits test n (suc m) h =
    let front : word_where test m ≡ n % 2 ^ m = low_bits test n m (λ k below. h k (omega arith)) in
    let bit : cond (test m) (2 ^ m) 0 ≡ (n / 2 ^ m % 2) * 2 ^ m = ap (λ t. cond t (2 ^ m) 0) (h m (omega arith)) ∙ worth (n / 2 ^ m % 2) (2 ^ m) (omega arith) in
    let parts : n % (2 * 2 ^ m) ≡ (n / 2 ^ m % 2) * 2 ^ m + n % 2 ^ m = mod-mul n (omega arith) (pow_pos m) in
    let double : 2 ^ suc m ≡ 2 * 2 ^ m = pow-suc 2 m ∙ mul_comm (2 ^ m) 2 in
    let whole : n % 2 ^ suc m ≡ n % (2 * 2 ^ m) = ap (λ (x : ℕ). n % x) double in
    omega arith

-- a word, from its bits
word_back : (words : List ℕ) (w : ℕ) → w < 4 → slice_index words w < 2 ^ 64 → word_where (λ k. is_in (leaves_of_bits words) (64 * w + k)) 64 ≡ slice_index words w
word_back words w low small =
    low_bits (λ k. is_in (leaves_of_bits words) (64 * w + k)) (slice_index words w) 64 (λ k h. among_leaves (is_leaf_of words) (64 * w + k) (omega arith) ∙ leaf_at words w k h)
    ∙ mod-eq_of_lt small

pub words_back : (words : List ℕ) → length words ≡ 4 → ((w : ℕ) → slice_index words w < 2 ^ 64) → bits_of_leaves (leaves_of_bits words) ≡ words
words_back [] four small = absurd (omega arith)
words_back (a ∷ []) four small = absurd (omega arith)
words_back (a ∷ b ∷ []) four small = absurd (omega arith)
words_back (a ∷ b ∷ c ∷ []) four small = absurd (omega arith)
words_back (a ∷ b ∷ c ∷ d ∷ []) four small =
    let words = a ∷ b ∷ c ∷ d ∷ [] in
    rw (word_back words 0 (omega arith) (small 0), word_back words 1 (omega arith) (small 1), word_back words 2 (omega arith) (small 2), word_back words 3 (omega arith) (small 3)) refl
words_back (a ∷ b ∷ c ∷ d ∷ e ∷ rest) four small = absurd (omega arith)

-- Sets of leaves, by their tests and by their bits.
use Rattle.std.proofs.Common.{◌≡◌, ◌≢◌, ℕ, zero, suc, ◌+◌, ◌*◌, ◌/◌, ◌%◌, ◌^◌, ◌<◌, Bool, true, false, cond, refl, sym, ap, ◌∙◌, arith, List, [], ◌∷◌, length, filter, eqb, get_or, set, bit_or, w64, get_or-set_same, get_or-set_other, add-zero}
use Rattle.std.specs.List.{range_with_len}
use Rattle.std.specs.Prelude.{slice_index, ◌||◌}
use Rattle.std.proofs.lemmas.Bool.{eqb-true, eqb-false}
use Rattle.std.proofs.lemmas.List.{length-set}
use Rattle.std.proofs.lemmas.Nat.{or_lt}
use Rattle.std.proofs.Math.Nat.{zero-div, add_comm}
use Rattle.std.proofs.lemmas.Nat.Bits.{bit_at_set_same, bit_at_set_other}
use Rattle.cs_base.specs.Quorums.{is_in}
use Rattle.cs_base.specs.Leaves.{leaves_where, is_leaf_of, leaves_of_bits, word_where, bits_of_leaves, with_leaf, LeavesAreTold}
use Rattle.cs_base.specs.LeafBits.{among_leaves, words_back}

-- ---- by their tests

same_filter : (p q : ℕ → Bool) (a n : ℕ) → ((i : ℕ) → i < a + n → p i ≡ q i) → filter p (range_with_len a n) ≡ filter q (range_with_len a n)
same_filter p q a zero h = refl
same_filter p q a (suc n) h =
    ap (λ t. cond t (a ∷ filter p (range_with_len (a + 1) n)) (filter p (range_with_len (a + 1) n))) (h a (omega arith))
    ∙ ap (λ xs. cond (q a) (a ∷ xs) xs) (same_filter p q (a + 1) n (λ i below. h i (omega arith)))

pub same_leaves : (p q : ℕ → Bool) → ((i : ℕ) → i < 256 → p i ≡ q i) → leaves_where p ≡ leaves_where q
unfolding leaves_where
same_leaves p q h = same_filter p q 0 256 (λ i below. h i (omega arith))

pub told : LeavesAreTold
told = record { among = among_leaves; same = same_leaves }

none_of : (a n : ℕ) → filter (λ i. false) (range_with_len a n) ≡ []
none_of a zero = refl
none_of a (suc n) = none_of (a + 1) n

pub no_leaves : leaves_where (λ i. false) ≡ []
unfolding leaves_where
no_leaves = none_of 0 256

-- ---- by their bits

pub contains_is : (words leaves : List ℕ) (leaf : ℕ) → leaf < 256 → leaves_of_bits words ≡ leaves → is_leaf_of words leaf ≡ is_in leaves leaf
contains_is words leaves leaf below view = sym (among_leaves (is_leaf_of words) leaf below) ∙ ap (λ xs. is_in xs leaf) view

-- the words with the leaf's bit set
abbrev pub with_bit : List ℕ → ℕ → ℕ → List ℕ
with_bit words at leaf = set words at (bit_or (get_or words at 0) (1 * 2 ^ (leaf % 64) % 2 ^ 64))

pub with_bit_long : (words : List ℕ) (at leaf : ℕ) → length words ≡ 4 → length (with_bit words at leaf) ≡ 4
with_bit_long words at leaf four = length-set words at (bit_or (get_or words at 0) (1 * 2 ^ (leaf % 64) % 2 ^ 64)) ∙ four

pub with_bit_small : (words : List ℕ) (at leaf : ℕ) → length words ≡ 4 → at < 4 → ((w : ℕ) → slice_index words w < 2 ^ 64) → (w : ℕ) → slice_index (with_bit words at leaf) w < 2 ^ 64
with_bit_small words at leaf four low small w =
    small_at (eqb w at) refl
  where
    small_at : (same : Bool) → eqb w at ≡ same → slice_index (with_bit words at leaf) w < 2 ^ 64
    small_at true e =
        let here : slice_index (with_bit words at leaf) w ≡ bit_or (get_or words at 0) (1 * 2 ^ (leaf % 64) % 2 ^ 64) =
        ap (λ i. slice_index (with_bit words at leaf) i) (eqb-true w at e) ∙ get_or-set_same words at (bit_or (get_or words at 0) (1 * 2 ^ (leaf % 64) % 2 ^ 64)) 0 (omega arith) in
        let fits : bit_or (get_or words at 0) (1 * 2 ^ (leaf % 64) % 2 ^ 64) < 2 ^ 64 = or_lt 64 (get_or words at 0) (1 * 2 ^ (leaf % 64) % 2 ^ 64) (small at) (omega arith) in
        omega arith
    small_at false e =
        let other : slice_index (with_bit words at leaf) w ≡ slice_index words w = get_or-set_other words at w (bit_or (get_or words at 0) (1 * 2 ^ (leaf % 64) % 2 ^ 64)) 0 (eqb-false w at e) in
        let fits = small w in
        omega arith

bit_here : (words : List ℕ) (at leaf : ℕ) → length words ≡ 4 → leaf < 256 → at ≡ leaf / 64 → is_leaf_of (with_bit words at leaf) leaf ≡ true
bit_here words at leaf four below place =
    let word : slice_index (with_bit words at leaf) (leaf / 64) ≡ bit_or (get_or words at 0) (1 * 2 ^ (leaf % 64) % 2 ^ 64) =
    ap (λ i. slice_index (with_bit words at leaf) i) (sym place) ∙ get_or-set_same words at (bit_or (get_or words at 0) (1 * 2 ^ (leaf % 64) % 2 ^ 64)) 0 (omega arith) in
    ap (λ n. eqb (n / 2 ^ (leaf % 64) % 2) 1) word
    ∙ ap (λ b. eqb b 1) (bit_at_set_same w64 (get_or words at 0) (leaf % 64) (omega arith))

bit_there : (words : List ℕ) (at leaf i : ℕ) → length words ≡ 4 → leaf < 256 → at ≡ leaf / 64 → i ≢ leaf → (same : Bool) → eqb (i / 64) at ≡ same → is_leaf_of (with_bit words at leaf) i ≡ is_leaf_of words i
bit_there words at leaf i four below place other true e =
    let here : i / 64 ≡ at = eqb-true (i / 64) at e in
    let apart : i % 64 ≢ leaf % 64 = λ s. other (omega arith) in
    let word : slice_index (with_bit words at leaf) (i / 64) ≡ bit_or (get_or words at 0) (1 * 2 ^ (leaf % 64) % 2 ^ 64) =
    ap (λ w. slice_index (with_bit words at leaf) w) here ∙ get_or-set_same words at (bit_or (get_or words at 0) (1 * 2 ^ (leaf % 64) % 2 ^ 64)) 0 (omega arith) in
    ap (λ n. eqb (n / 2 ^ (i % 64) % 2) 1) word
    ∙ ap (λ b. eqb b 1) (bit_at_set_other w64 (get_or words at 0) (leaf % 64) (omega arith) (i % 64) apart)
    ∙ ap (λ w. eqb (slice_index words w / 2 ^ (i % 64) % 2) 1) (sym here)
bit_there words at leaf i four below place other false e =
    ap (λ n. eqb (n / 2 ^ (i % 64) % 2) 1) (get_or-set_other words at (i / 64) (bit_or (get_or words at 0) (1 * 2 ^ (leaf % 64) % 2 ^ 64)) 0 (eqb-false (i / 64) at e))

with_bit_at : (words leaves : List ℕ) (at leaf i : ℕ) → length words ≡ 4 → leaf < 256 → i < 256 → at ≡ leaf / 64 → leaves_of_bits words ≡ leaves → (same : Bool) → eqb i leaf ≡ same
    → is_leaf_of (with_bit words at leaf) i ≡ (same || is_in leaves i)
with_bit_at words leaves at leaf i four below within place view true e = ap (is_leaf_of (with_bit words at leaf)) (eqb-true i leaf e) ∙ bit_here words at leaf four below place
with_bit_at words leaves at leaf i four below within place view false e =
    bit_there words at leaf i four below place (eqb-false i leaf e) (eqb (i / 64) at) refl ∙ contains_is words leaves i within view

-- to set a leaf's bit is to add the leaf
pub with_bit_leaves : (words leaves : List ℕ) (at leaf : ℕ) → length words ≡ 4 → leaf < 256 → at ≡ leaf / 64 → leaves_of_bits words ≡ leaves → leaves_of_bits (with_bit words at leaf) ≡ with_leaf leaves leaf
with_bit_leaves words leaves at leaf four below place view =
    same_leaves (is_leaf_of (with_bit words at leaf)) (λ i. eqb i leaf || is_in leaves i) (λ i within. with_bit_at words leaves at leaf i four below within place view (eqb i leaf) refl)

-- ---- no leaf

no_bit : (i : ℕ) → is_leaf_of (0 ∷ 0 ∷ 0 ∷ 0 ∷ []) i ≡ false
no_bit i = ap (λ n. eqb (n / 2 ^ (i % 64) % 2) 1) (zeros (i / 64)) ∙ ap (λ n. eqb (n % 2) 1) (zero-div (2 ^ (i % 64)))
  where
    zeros : (w : ℕ) → slice_index (0 ∷ 0 ∷ 0 ∷ 0 ∷ []) w ≡ 0
    zeros zero = refl
    zeros (suc zero) = refl
    zeros (suc (suc zero)) = refl
    zeros (suc (suc (suc zero))) = refl
    zeros (suc (suc (suc (suc w)))) = refl

-- four zeros hold no leaf
pub zeros_hold_none : leaves_of_bits (0 ∷ 0 ∷ 0 ∷ 0 ∷ []) ≡ []
zeros_hold_none = same_leaves (is_leaf_of (0 ∷ 0 ∷ 0 ∷ 0 ∷ [])) (λ i. false) (λ i within. no_bit i) ∙ no_leaves

no_word : (m : ℕ) → word_where (λ k. false) m ≡ 0
unfolding word_where
no_word zero = refl
no_word (suc m) = ap (λ n. n + 0) (no_word m)

-- words that hold no leaf are zeros
pub zeros_from_none : (words : List ℕ) → length words ≡ 4 → ((w : ℕ) → slice_index words w < 2 ^ 64) → leaves_of_bits words ≡ [] → words ≡ 0 ∷ 0 ∷ 0 ∷ 0 ∷ []
zeros_from_none words four small none = sym (words_back words four small) ∙ ap bits_of_leaves none ∙ ap (λ n. n ∷ n ∷ n ∷ n ∷ []) (no_word 64)

-- ---- how many

cond_length : (t : Bool) (x : ℕ) (xs : List ℕ) → length (cond t (x ∷ xs) xs) ≡ cond t 1 0 + length xs
cond_length true x xs = omega arith
cond_length false x xs = omega arith

-- one more number of the range
pub one_more : (test : ℕ → Bool) (a n : ℕ) → length (filter test (range_with_len a (n + 1))) ≡ length (filter test (range_with_len a n)) + cond (test (a + n)) 1 0
one_more test a zero = rw add-zero (cond_length (test a) a [] ∙ add_comm (cond (test a) 1 0) 0)
one_more test a (suc n) =
    let more : length (filter test (range_with_len (a + 1) (n + 1))) ≡ length (filter test (range_with_len (a + 1) n)) + cond (test (a + suc n)) 1 0 =
    one_more test (a + 1) n ∙ ap (λ i. length (filter test (range_with_len (a + 1) n)) + cond (test i) 1 0) (let e : a + 1 + n ≡ a + suc n = omega arith in e) in
    let whole = cond_length (test a) a (filter test (range_with_len (a + 1) (n + 1))) in
    let front = cond_length (test a) a (filter test (range_with_len (a + 1) n)) in
    rw (let e : suc n + 1 ≡ suc (n + 1) = omega arith in e) (omega arith)

pub count_all : (words leaves : List ℕ) → leaves_of_bits words ≡ leaves → length (filter (is_leaf_of words) (range_with_len 0 256)) ≡ length leaves
unfolding leaves_where
count_all words leaves view = ap length view

-- the count goes on by one leaf
pub count_more : (words : List ℕ) (leaf count : ℕ) (count' : ℕ) (t : Bool) → t ≡ is_leaf_of words leaf → count ≡ length (filter (is_leaf_of words) (range_with_len 0 leaf)) → count' ≡ count + cond t 1 0
    → count' ≡ length (filter (is_leaf_of words) (range_with_len 0 (leaf + 1)))
count_more words leaf count count' t e so_far next =
    next ∙ ap (λ n. n + cond t 1 0) so_far ∙ ap (λ b. length (filter (is_leaf_of words) (range_with_len 0 leaf)) + cond b 1 0) e ∙ sym (one_more (is_leaf_of words) 0 leaf ∙ ap (λ i. length (filter (is_leaf_of words) (range_with_len 0 leaf)) + cond (is_leaf_of words i) 1 0) (let z : 0 + leaf ≡ leaf = omega arith in z))

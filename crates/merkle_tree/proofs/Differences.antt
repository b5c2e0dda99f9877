-- The leaves in which two lists of digests differ, found one after another.
use Rattle.std.proofs.Common.{◌≡◌, ℕ, ◌+◌, ◌<◌, ◌≤◌, ◌↔◌, Bool, true, false, not, ltb, eqb, refl, sym, ap, ◌∙◌, arith, List, [], length, get_or, Some}
use Rattle.std.specs.Prelude.{◌&&◌, ◌||◌, ◌==◌, slice_get}
use Rattle.std.specs.Cmp.Lexicographic.{pointwise, bytes_decides}
use Rattle.std.proofs.lemmas.Bool.{eqb-true, eqb-false, lt-ltb, le-ltb, ltb-true, ltb-false}
use Rattle.std.proofs.lemmas.Option.{slice_get-get_or}
use Rattle.cs_base.specs.Quorums.{is_in}
use Rattle.cs_base.specs.Leaves.{leaves_where, with_leaf}
use Rattle.cs_base.specs.LeafBits.{among_leaves}
use Rattle.cs_base.proofs.LeafSets.{same_leaves, no_leaves}
use Rattle.merkle_tree.specs.Digests.{differ_at, differing}

-- those of the first n leaves that pass
abbrev pub passing_below : (ℕ → Bool) → ℕ → List ℕ
passing_below test n = leaves_where (λ i. ltb i n && test i)

pub none_yet : (test : ℕ → Bool) → [] ≡ passing_below test 0
none_yet test = sym (same_leaves (λ i. ltb i 0 && test i) (λ i. false) (λ i low. ap (λ t. t && test i) (le-ltb i 0 (omega arith))) ∙ no_leaves)

-- away from n, below n and up to n are the same
apart_from : (n i : ℕ) → eqb i n ≡ false → (t : Bool) → ltb i n ≡ t → t ≡ ltb i (n + 1)
apart_from n i e true low = let below = ltb-true i n low in sym (lt-ltb i (n + 1) (omega arith))
apart_from n i e false high =
    let above = ltb-false i n high in
    let other = eqb-false i n e in
    sym (le-ltb i (n + 1) (omega arith))

passes_here : (test : ℕ → Bool) (n i : ℕ) → test n ≡ true → (same : Bool) → eqb i n ≡ same → (same || (ltb i n && test i)) ≡ (ltb i (n + 1) && test i)
passes_here test n i passes true e =
    let here = eqb-true i n e in
    sym (ap (λ t. t && test i) (lt-ltb i (n + 1) (omega arith)) ∙ ap test here ∙ passes)
passes_here test n i passes false e = ap (λ t. t && test i) (apart_from n i e (ltb i n) refl)

pub one_more : (test : ℕ → Bool) (n : ℕ) (found : List ℕ) → found ≡ passing_below test n → test n ≡ true → with_leaf found n ≡ passing_below test (n + 1)
one_more test n found is passes =
    same_leaves (λ i. eqb i n || is_in found i) (λ i. ltb i (n + 1) && test i)
    (λ i low. ap (λ t. eqb i n || t) (ap (λ (xs : List ℕ). is_in xs i) is ∙ among_leaves (λ j. ltb j n && test j) i low) ∙ passes_here test n i passes (eqb i n) refl)

fails_here : (test : ℕ → Bool) (n i : ℕ) → test n ≡ false → (same : Bool) → eqb i n ≡ same → (ltb i n && test i) ≡ (ltb i (n + 1) && test i)
fails_here test n i fails true e =
    let here = eqb-true i n e in
    let off : test i ≡ false = ap test here ∙ fails in
    ap (λ t. t && test i) (le-ltb i n (omega arith)) ∙ sym (ap (λ t. t && test i) (lt-ltb i (n + 1) (omega arith)) ∙ off)
fails_here test n i fails false e = ap (λ t. t && test i) (apart_from n i e (ltb i n) refl)

pub none_more : (test : ℕ → Bool) (n : ℕ) (found : List ℕ) → found ≡ passing_below test n → test n ≡ false → found ≡ passing_below test (n + 1)
none_more test n found is fails = is ∙ same_leaves (λ i. ltb i n && test i) (λ i. ltb i (n + 1) && test i) (λ i low. fails_here test n i fails (eqb i n) refl)

pub all_passing : (test : ℕ → Bool) (n : ℕ) → 256 ≤ n → passing_below test n ≡ leaves_where test
all_passing test n all = same_leaves (λ i. ltb i n && test i) test (λ i low. ap (λ t. t && test i) (lt-ltb i n (omega arith)))

-- ---- what it means

same_at : (x y : List ℕ) → (not (pointwise ◌==◌ x y) ≡ false) ↔ (x ≡ y)
same_at x y = (λ h. (bytes_decides x y).0 (twice (pointwise ◌==◌ x y) h), λ e. ap not ((bytes_decides x y).1 e))
  where
    twice : (b : Bool) → not b ≡ false → b ≡ true
    twice true h = refl
    twice false h = absurd cc

-- a leaf is not found where the two have the same digest
pub found_where_different : (a b : List (List ℕ)) → length a ≡ 256 → length b ≡ 256 → (leaf : ℕ) → leaf < 256 → (is_in (differing a b) leaf ≡ false) ↔ (slice_get a leaf ≡ slice_get b leaf)
found_where_different a b a_long b_long leaf low =
    let found : is_in (differing a b) leaf ≡ differ_at a b leaf = among_leaves (differ_at a b) leaf low in
    let first : slice_get a leaf ≡ Some (get_or a leaf []) = slice_get-get_or a leaf [] (omega arith) in
    let second : slice_get b leaf ≡ Some (get_or b leaf []) = slice_get-get_or b leaf [] (omega arith) in
    let same = same_at (get_or a leaf []) (get_or b leaf []) in (
      λ h. first ∙ ap (λ (x : List ℕ). Some x) (same.0 (sym found ∙ h)) ∙ sym second,
      λ e. found ∙ same.1 (let equal : Some (get_or a leaf []) ≡ Some (get_or b leaf []) = sym first ∙ e ∙ second in cc),
    )

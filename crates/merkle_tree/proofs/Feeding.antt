-- What hashers hold as partitions come, and what their digests are.
use Rattle.std.proofs.Common.{◌≡◌, ◌≢◌, inl, inr, ℕ, Bool, true, false, cond, eqb, refl, sym, ap, ◌∙◌, subst, arith, List, [], ◌∷◌, ◌++◌, length}
use Rattle.std.specs.Prelude.{◌&&◌, Some, slice_get}
use Rattle.std.proofs.lemmas.Bool.{eqb-true, eqb-false}
use Rattle.std.proofs.lemmas.List.{append-nil}
use Rattle.std.proofs.lemmas.List.Concat.{flat_map-append}
use Rattle.std.proofs.lemmas.List.Elements.{filter-append}
use Rattle.std.proofs.lemmas.Option.{slice_get_cases, slice_get_within}
use Rattle.cs_base.specs.declared.range.Range.{Range}
use Rattle.cs_base.specs.Ring.{in_range, leaf_of}
use Rattle.changes.specs.declared.Mutation.{Mutation}
use Rattle.stored_changes.specs.Spelling.{mutation}
use Rattle.sha2.specs.Hashers.{Holds256}
use Rattle.sha2.specs.declared.Sha256.{Sha256}
use Rattle.merkle_tree.specs.Digests.{is_in_leaf, parts_of_leaf, hashed_bytes, AreLeafDigests}
use Rattle.merkle_tree.specs.Hashing.{Hashing, HoldEach, HasTaken, IsFedAt, AreDigestsFrom}

-- the bytes of each leaf of these partitions
abbrev leaf_bytes : Range → List Mutation → ℕ → List ℕ
leaf_bytes r parts leaf = hashed_bytes (parts_of_leaf r leaf parts)

-- ---- a partition more

bytes_if : (b : Bool) (m : Mutation) → hashed_bytes (cond b (m ∷ []) []) ≡ cond b (mutation m) []
bytes_if true m = append-nil (mutation m)
bytes_if false m = refl

-- to the bytes of its leaf it adds its own, and nothing to those of another one
bytes_more : (r : Range) (leaf : ℕ) (parts : List Mutation) (m : Mutation) (b : Bool) → is_in_leaf r leaf m ≡ b → leaf_bytes r (parts ++ m ∷ []) leaf ≡ leaf_bytes r parts leaf ++ cond b (mutation m) []
bytes_more r leaf parts m b is =
    ap hashed_bytes (filter-append (is_in_leaf r leaf) parts (m ∷ []))
    ∙ flat_map-append mutation (parts_of_leaf r leaf parts) (cond (is_in_leaf r leaf m) (m ∷ []) [])
    ∙ ap (λ (t : Bool). leaf_bytes r parts leaf ++ hashed_bytes (cond t (m ∷ []) [])) is
    ∙ ap (λ (bytes : List ℕ). leaf_bytes r parts leaf ++ bytes) (bytes_if b m)

one_leaf : (r : Range) (leaf : ℕ) (m : Mutation) (same : Bool) → in_range r m.partition.token ≡ true → eqb (leaf_of r m.partition.token) leaf ≡ same → is_in_leaf r leaf m ≡ same
one_leaf r leaf m same inside e = ap (λ t. t && eqb (leaf_of r m.partition.token) leaf) inside ∙ e

fed_at : (r : Range) (m : Mutation) (parts : List Mutation) (old new : List Sha256) → in_range r m.partition.token ≡ true → length new ≡ length old → IsFedAt (leaf_of r m.partition.token) (mutation m) old new → HoldEach (leaf_bytes r parts) old
    → (leaf : ℕ) (hasher : Sha256) → slice_get new leaf ≡ Some hasher → (same : Bool) → eqb (leaf_of r m.partition.token) leaf ≡ same → Holds256 hasher (leaf_bytes r (parts ++ m ∷ []) leaf)
fed_at r m parts old new inside long fed before leaf hasher at true e =
    let here : leaf_of r m.partition.token ≡ leaf = eqb-true (leaf_of r m.partition.token) leaf e in
    let low = slice_get_within new leaf hasher at in
    elim (slice_get_cases old leaf).1 [
      | inl (x, within, there, read) ↦
          subst (λ (bytes : List ℕ). Holds256 hasher bytes) (sym (bytes_more r leaf parts m true (one_leaf r leaf m true inside e)))
          (fed.here x hasher (leaf_bytes r parts leaf) (ap (slice_get old) here ∙ there) (ap (slice_get new) here ∙ at) (before leaf x there))
      | inr (past, none) ↦ absurd (omega arith)
    ]
fed_at r m parts old new inside long fed before leaf hasher at false e =
    let apart : leaf ≢ leaf_of r m.partition.token = λ s. eqb-false (leaf_of r m.partition.token) leaf e (sym s) in
    subst (λ (bytes : List ℕ). Holds256 hasher bytes) (sym (bytes_more r leaf parts m false (one_leaf r leaf m false inside e) ∙ append-nil (leaf_bytes r parts leaf)))
    (before leaf hasher (sym (fed.others leaf apart) ∙ at))

pub taken_more : (r : Range) (m : Mutation) (parts : List Mutation) (leaf : ℕ) (bytes : List ℕ) (old fed new : List Sha256)
    → in_range r m.partition.token ≡ true → leaf ≡ leaf_of r m.partition.token → bytes ≡ mutation m → fed ≡ old → length new ≡ length fed → IsFedAt leaf bytes fed new
    → HasTaken (record { range = r; hashers = old }) parts → HasTaken (record { range = r; hashers = new }) (parts ++ m ∷ [])
taken_more r m parts leaf bytes old fed new inside number spelled same long feeds taken =
    let here : IsFedAt (leaf_of r m.partition.token) bytes fed new = subst (λ (k : ℕ). IsFedAt k bytes fed new) number feeds in
    let written : IsFedAt (leaf_of r m.partition.token) (mutation m) fed new = subst (λ (b : List ℕ). IsFedAt (leaf_of r m.partition.token) b fed new) spelled here in
    let before : HoldEach (leaf_bytes r parts) fed = subst (λ (hashers : List Sha256). HoldEach (leaf_bytes r parts) hashers) (sym same) taken.each in
    record { each = λ k hasher at. fed_at r m parts fed new inside long written before k hasher at (eqb (leaf_of r m.partition.token) k) refl }

-- ---- the digests

pub leaf_digests : (h : Hashing) (parts : List Mutation) (digests : List (List ℕ)) → length h.hashers ≡ 256 → length digests ≡ 256 → AreDigestsFrom 0 h.hashers digests → HasTaken h parts → AreLeafDigests h.range parts digests
leaf_digests h parts digests hashers_long long are taken = record {
  count = long;
  each = λ leaf low.
      elim (slice_get_cases h.hashers leaf).1 [
        | inl (x, within, there, read) ↦ are leaf x (leaf_bytes h.range parts leaf) (omega arith) there (taken.each leaf x there)
        | inr (past, none) ↦ absurd (omega arith)
      ];
}

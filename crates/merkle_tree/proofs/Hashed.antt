-- What a leaf's bytes, and so its digest, tell of what is held there.
use Rattle.std.proofs.Common.{◌≡◌, ℕ, refl, sym, ap, ◌∙◌, arith, List, [], ◌∷◌, ◌++◌, length, map, Ok}
use Rattle.std.specs.Cmp.{IsTotalOrder}
use Rattle.std.specs.List.{AllByRecursion}
use Rattle.std.specs.List.Sorted.{IsStrictlySortedBy}
use Rattle.std.specs.declared.cmp.Ordering.{Ordering}
use Rattle.std.specs.declared.cmp.Ordering.TheVariants.{Less}
use Rattle.std.proofs.lemmas.Cmp.{on_total}
use Rattle.std.proofs.lemmas.List.{length-append}
use Rattle.std.proofs.lemmas.List.Kept.{IsStrictlySortedBy-filter}
use Rattle.cs_base.proofs.Members.{contains_filter, contains_from_filter}
use Rattle.changes.specs.declared.Mutation.{Mutation}
use Rattle.changes.specs.Order.{partition_cmp}
use Rattle.changes.specs.Totals.{partition_total}
use Rattle.changes.proofs.Sorted.{sorted_one}
use Rattle.stored_fields.proofs.Words.{ok_is}
use Rattle.stored_changes.specs.Reading.{mutation_at}
use Rattle.stored_changes.specs.Spelling.{MutationHasWord, mutation}
use Rattle.stored_changes.proofs.Lengths.{length-mutation}
use Rattle.stored_changes.proofs.Spelled.{mutation_spells}
use Rattle.stored_changes.proofs.Words.{mutation_agrees}
use Rattle.sha2.specs.Sha256.{compress, digest_bytes, first_words, hash_after, rounds, schedule, sha256}
use Rattle.merkle_tree.specs.Digests.{is_in_leaf, parts_of_leaf, hashed_bytes, digest_of}
use Rattle.merkle_tree.specs.Laws.{empty_digest, AreByPartition, BytesTellTheParts, EmptyLeavesHaveTheEmptyDigest, EqualContentsHaveEqualDigests, LeavesKeepTheOrder}

-- ---- in order by what is looked at

all_seen : {X K : Type 0} (f : X → K) (P : K → Type 0) (xs : List X) → AllByRecursion P (map f xs) → AllByRecursion (λ x. P (f x)) xs
all_seen f P [] h = h
all_seen f P (x ∷ xs) h = (h.0, all_seen f P xs h.1)

all_shown : {X K : Type 0} (f : X → K) (P : K → Type 0) (xs : List X) → AllByRecursion (λ x. P (f x)) xs → AllByRecursion P (map f xs)
all_shown f P [] h = h
all_shown f P (x ∷ xs) h = (h.0, all_shown f P xs h.1)

seen_in_order : {X K : Type 0} (f : X → K) (c : K → K → Ordering) (xs : List X) → IsStrictlySortedBy c (map f xs) → IsStrictlySortedBy (λ x y. c (f x) (f y)) xs
unfolding IsStrictlySortedBy
seen_in_order f c [] h = h
seen_in_order f c (x ∷ xs) h = (all_seen f (λ y. c (f x) y ≡ Less) xs h.0, seen_in_order f c xs h.1)

shown_in_order : {X K : Type 0} (f : X → K) (c : K → K → Ordering) (xs : List X) → IsStrictlySortedBy (λ x y. c (f x) (f y)) xs → IsStrictlySortedBy c (map f xs)
unfolding IsStrictlySortedBy
shown_in_order f c [] h = h
shown_in_order f c (x ∷ xs) h = (all_shown f (λ y. c (f x) y ≡ Less) xs h.0, shown_in_order f c xs h.1)

abbrev part_cmp : Mutation → Mutation → Ordering
part_cmp a b = partition_cmp a.partition b.partition

part_total : IsTotalOrder part_cmp
part_total = on_total (λ (m : Mutation). m.partition) partition_total

by_partition : (parts : List Mutation) → AreByPartition parts → IsStrictlySortedBy part_cmp parts
by_partition parts h = seen_in_order (λ (m : Mutation). m.partition) partition_cmp parts h

pub order_kept : LeavesKeepTheOrder
order_kept r leaf parts h =
    shown_in_order (λ (m : Mutation). m.partition) partition_cmp (parts_of_leaf r leaf parts) (IsStrictlySortedBy-filter part_cmp (is_in_leaf r leaf) parts (by_partition parts h))

-- ---- equal contents

pub equal_digests : EqualContentsHaveEqualDigests
equal_digests r leaf a b a_order b_order same =
    ap digest_of
    (sorted_one part_total (parts_of_leaf r leaf a) (parts_of_leaf r leaf b)
    (IsStrictlySortedBy-filter part_cmp (is_in_leaf r leaf) a (by_partition a a_order))
    (IsStrictlySortedBy-filter part_cmp (is_in_leaf r leaf) b (by_partition b b_order))
    (λ m at. let from = contains_from_filter (is_in_leaf r leaf) a m at in contains_filter (is_in_leaf r leaf) b m ((same m from.1).0 from.0) from.1)
    (λ m at. let from = contains_from_filter (is_in_leaf r leaf) b m at in contains_filter (is_in_leaf r leaf) a m ((same m from.1).1 from.0) from.1))

empty_is : sha256 [] ≡ empty_digest
unfolding first_words schedule rounds compress hash_after digest_bytes sha256
empty_is = refl

pub empty_leaves : EmptyLeavesHaveTheEmptyDigest
empty_leaves r leaf parts none = ap digest_of none ∙ empty_is

-- ---- different contents

-- a partition with its changes is read back from the front of bytes
read_back : (m : Mutation) (rest : List ℕ) → MutationHasWord m → mutation_at (mutation m ++ rest) ≡ Ok (m, rest)
read_back m rest fits = mutation_agrees.is_read (mutation m ++ rest) m rest (mutation_spells.is_word m rest fits)

not_nothing : (m : Mutation) (rest : List ℕ) → [] ≡ mutation m ++ rest → ⊥
not_nothing m rest e = let long = ap length e in omega (arith, length-append (mutation m) rest, length-mutation m)

pub parts_told : BytesTellTheParts
parts_told [] [] a_fit b_fit e = refl
parts_told [] (n ∷ ns) a_fit b_fit e = absurd (not_nothing n (hashed_bytes ns) e)
parts_told (m ∷ ms) [] a_fit b_fit e = absurd (not_nothing m (hashed_bytes ms) (sym e))
parts_told (m ∷ ms) (n ∷ ns) a_fit b_fit e =
    let same : (m, hashed_bytes ms) ≡ (n, hashed_bytes ns) =
    ok_is (m, hashed_bytes ms) (n, hashed_bytes ns) (sym (read_back m (hashed_bytes ms) a_fit.0) ∙ ap mutation_at e ∙ read_back n (hashed_bytes ns) b_fit.0) in
    ap (λ (x : Mutation). x ∷ ms) (ap (λ (q : Mutation × List ℕ). q.0) same)
    ∙ ap (λ (xs : List Mutation). n ∷ xs) (parts_told ms ns a_fit.1 b_fit.1 (ap (λ (q : Mutation × List ℕ). q.1) same))

-- Replies to a read that are the same or not, and what one more makes of their merge.
use Rattle.std.proofs.Common.{◌≡◌, ◌↔◌, inl, inr, ℕ, Bool, true, false, ◌||◌, IsTrue, refl, sym, ap, ◌∙◌, subst, List, [], ◌∷◌, ◌++◌, map, filter, Contains}
use Rattle.std.specs.Prelude.{◌==◌, ◌&&◌, not, Option, Some, None}
use Rattle.std.proofs.lemmas.Bool.{both_ways, false_from_ne_true, and_parts, and_from, and_left, or_from, and_right}
use Rattle.std.proofs.lemmas.List.Folds.{list_all-append, list_any-append}
use Rattle.cs_base.specs.Quorums.{is_in}
use Rattle.cs_base.proofs.Members.{contains_nil}
use Rattle.cs_base.specs.declared.level.Level.{Level}
use Rattle.changes.specs.declared.Held.{Held}
use Rattle.changes.specs.declared.Query.{Query}
use Rattle.changes.specs.Contents.{Either}
use Rattle.cell_merge.specs.Settled.{IsSettled}
use Rattle.node_steps.specs.State.{OpenRead, Replied}
use Rattle.node_steps.specs.Reads.{differs, is_same, replied_from, IsMergedInOrder}
use Rattle.node_steps.proofs.Mends.{is_same_exact}
use Rattle.read_coord.specs.Keeping.{is_among, replies_with, with_reply, Keeps, differs_from, differing_in}
use Rattle.read_coord.specs.Merges.{first_content, begins_with, merged_of, agrees, IsKept}

pub among_those : (xs : List Replied) (k : ℕ) → is_among xs k ≡ is_in (map replied_from xs) k
among_those [] k = refl
among_those (x ∷ xs) k = ap (λ (b : Bool). (x.from == k) || b) (among_those xs k)

-- ---- the test of contents

one_test : (P : Type 0) (a b : Bool) → IsTrue a ↔ P → IsTrue b ↔ P → a ≡ b
one_test P true true a_is b_is = refl
one_test P true false a_is b_is = sym (b_is.1 (a_is.0 refl))
one_test P false true a_is b_is = a_is.1 (b_is.0 refl)
one_test P false false a_is b_is = refl

pub same_test : (a b : List Held) (t : Bool) → IsTrue t ↔ (a ≡ b) → t ≡ is_same a b
same_test a b t exact = one_test (a ≡ b) t (is_same a b) exact (is_same_exact a b)

same_itself : (a : List Held) → is_same a a ≡ true
same_itself a = (is_same_exact a a).1 refl

same_is : (a b : List Held) → is_same a b ≡ true → a ≡ b
same_is a b t = (is_same_exact a b).0 t

-- ---- replies that are the same

-- with one more
agrees_more : (xs : List Replied) (x : Replied) (a : List Held) → agrees xs a ≡ true → is_same x.content a ≡ true → agrees (xs ++ x ∷ []) a ≡ true
agrees_more xs x a all one =
    list_all-append (λ (y : Replied). is_same y.content a) xs (x ∷ []) ∙ and_from (agrees xs a) (is_same x.content a && true) all (and_from (is_same x.content a) true one refl)

agreed_before : (xs : List Replied) (x : Replied) (a : List Held) → agrees (xs ++ x ∷ []) a ≡ true → (agrees xs a ≡ true) × (is_same x.content a ≡ true)
agreed_before xs x a all =
    let parts = and_parts (agrees xs a) (is_same x.content a && true) (sym (list_all-append (λ (y : Replied). is_same y.content a) xs (x ∷ [])) ∙ all) in
    (parts.0, (and_parts (is_same x.content a) true parts.1).0)

-- the first of them is the content that all are
agreed_first : (y : Replied) (ys : List Replied) (a : List Held) → agrees (y ∷ ys) a ≡ true → y.content ≡ a
agreed_first y ys a all = same_is y.content a (and_parts (is_same y.content a) (agrees ys a) all).0

first_with : (xs : List Replied) (from : ℕ) (a : List Held) → agrees xs a ≡ true → first_content (xs ++ record { from = from; content = a } ∷ []) ≡ a
first_with [] from a all = refl
first_with (y ∷ ys) from a all = agreed_first y ys a all

-- where the first is the same as this content all are, and else not all
by_first : (y : Replied) (ys : List Replied) (a : List Held) (b : Bool) → agrees (y ∷ ys) y.content ≡ true → b ≡ is_same y.content a → b ≡ agrees (y ∷ ys) a
by_first y ys a true all test = sym (subst (λ (content : List Held). agrees (y ∷ ys) content ≡ true) (same_is y.content a (sym test)) all)
by_first y ys a false all test = sym (and_left (is_same y.content a) (agrees ys a) (sym test))

by_first_kept : (xs : List Replied) (a : List Held) (b : Bool) → IsKept None xs → b ≡ begins_with xs a → b ≡ agrees xs a
by_first_kept [] a b kept test = test
by_first_kept (y ∷ ys) a b kept test = by_first y ys a b kept test

pub agrees_by_first : (own : Option (List Held)) (xs : List Replied) (r : OpenRead) (a : List Held) (b : Bool) → xs ≡ r.replies → IsKept own xs → own ≡ None → b ≡ begins_with xs a
    → b ≡ agrees r.replies a
agrees_by_first own xs r a b is kept none test =
    by_first_kept xs a b (subst (λ (o : Option (List Held)). IsKept o xs) none kept) test ∙ ap (λ (zs : List Replied). agrees zs a) is

-- ---- what is kept of the merge

-- a reply that is the same as all before
kept_same : (own : Option (List Held)) (xs : List Replied) (from : ℕ) (a : List Held) → IsKept own xs → agrees xs a ≡ true → IsKept own (xs ++ record { from = from; content = a } ∷ [])
kept_same None xs from a kept all =
    let x : Replied = record { from = from; content = a } in
    subst (λ (content : List Held). agrees (xs ++ x ∷ []) content ≡ true) (sym (first_with xs from a all)) (agrees_more xs x a all (same_itself a))
kept_same (Some m) xs from a kept all = absurd (both_ways (agrees xs a) (kept a) all)

merged_same : (own : Option (List Held)) (xs : List Replied) (from : ℕ) (a : List Held) → IsKept own xs → agrees xs a ≡ true → merged_of own (xs ++ record { from = from; content = a } ∷ []) ≡ a
merged_same None xs from a kept all = first_with xs from a all
merged_same (Some m) xs from a kept all = absurd (both_ways (agrees xs a) (kept a) all)

-- a reply that is not
never_more : (xs : List Replied) (from : ℕ) (content a : List Held) → agrees xs content ≡ false → agrees (xs ++ record { from = from; content = content } ∷ []) a ≡ true → ⊥
never_more xs from content a other all =
    let parts = agreed_before xs (record { from = from; content = content }) a all in
    both_ways (agrees xs content) other (subst (λ (c : List Held). agrees xs c ≡ true) (sym (same_is content a parts.1)) parts.0)

kept_other : (m : List Held) (xs : List Replied) (from : ℕ) (content : List Held) → agrees xs content ≡ false → IsKept (Some m) (xs ++ record { from = from; content = content } ∷ [])
kept_other m xs from content other a = false_from_ne_true (agrees (xs ++ record { from = from; content = content } ∷ []) a) (λ all. never_more xs from content a other all)

-- ---- merges

of_both : (a m : List Held) (x : Held) → ((x : Held) → Contains a x → Contains m x) → Either (Contains a) (Contains m) x → Contains m x
of_both a m x part (inl of_a) = part x of_a
of_both a m x part (inr of_m) = of_m

-- what has all of the other is the merge
merge_of_part : (a m : List Held) → IsSettled m → ((x : Held) → Contains a x → Contains m x) → IsMergedInOrder m a m
merge_of_part a m settled part =
    (record { within = λ x kept. inr kept; reached = λ x either. inl (of_both a m x part either); apart = settled.apart }, settled.ordered)

merge_of_none : (m : List Held) → IsSettled m → IsMergedInOrder m [] m
merge_of_none m settled = merge_of_part [] m settled (λ x nowhere. absurd (contains_nil x nowhere))

merge_of_same : (a m : List Held) → a ≡ m → IsSettled m → IsMergedInOrder m a m
merge_of_same a m same settled = merge_of_part a m settled (λ x of_a. subst (λ (l : List Held). Contains l x) same of_a)

-- a content that is the same as each before is the merge with them
merge_of_agreed : (own : Option (List Held)) (xs : List Replied) (a : List Held) → IsKept own xs → agrees xs a ≡ true → IsSettled a → IsMergedInOrder a (merged_of own xs) a
merge_of_agreed None [] a kept all settled = merge_of_none a settled
merge_of_agreed None (y ∷ ys) a kept all settled = merge_of_same y.content a (agreed_first y ys a all) settled
merge_of_agreed (Some m) xs a kept all settled = absurd (both_ways (agrees xs a) (kept a) all)

-- ---- replies that differ from the merge

pub differs_more : (r : OpenRead) (from : ℕ) (content merged : List Held) (k : ℕ)
    → differs_from merged (replies_with r from content) k ≡ (differs_from merged r.replies k || ((from == k) && not (is_same content merged)))
differs_more r from content merged k =
    list_any-append (λ (x : Replied). (x.from == k) && not (is_same x.content merged)) r.replies (record { from = from; content = content } ∷ [])
    ∙ ap (λ (b : Bool). differs_from merged r.replies k || b) (or_none ((from == k) && not (is_same content merged)))
  where
    or_none : (b : Bool) → (b || false) ≡ b
    or_none true = refl
    or_none false = refl

none_differs : (xs : List Replied) (a : List Held) (k : ℕ) → agrees xs a ≡ true → differs_from a xs k ≡ false
none_differs [] a k all = refl
none_differs (x ∷ xs) a k all =
    let parts = and_parts (is_same x.content a) (agrees xs a) all in
    or_from ((x.from == k) && not (is_same x.content a)) (differs_from a xs k) (and_right (x.from == k) (not (is_same x.content a)) (ap not parts.0)) (none_differs xs a k parts.1)

none_of : (p : ℕ → Bool) (ks : List ℕ) → ((k : ℕ) → p k ≡ false) → filter p ks ≡ []
none_of p [] fails = refl
none_of p (k ∷ ks) fails = rw (fails k) (none_of p ks fails)

pub none_differing : (replicas : List ℕ) (r : OpenRead) (from : ℕ) (a : List Held) → agrees r.replies a ≡ true → differing_in replicas (with_reply r from a a) ≡ []
none_differing replicas r from a all =
    let more : agrees (replies_with r from a) a ≡ true = agrees_more r.replies (record { from = from; content = a }) a all (same_itself a) in
    none_of (λ k. differs (with_reply r from a a) k) replicas (λ k. none_differs (replies_with r from a) a k more)

-- ---- a read with a reply more

abbrev read_of : Level → Query → Option (List Held) → List Replied → Option (List ℕ) → OpenRead
read_of level q own xs mending = record { level = level; query = q; replies = xs; merged = merged_of own xs; mending = mending }

pub keeps_same : (level : Level) (q : Query) (own : Option (List Held)) (xs ys : List Replied) (mending : Option (List ℕ)) (from : ℕ) (content : List Held) (r : OpenRead)
    → read_of level q own xs mending ≡ r → ys ≡ xs ++ record { from = from; content = content } ∷ [] → IsKept own xs → agrees r.replies content ≡ true → IsSettled content
    → Keeps from content r (read_of level q own ys mending)
keeps_same level q own xs ys mending from content r is more kept all settled =
    let before : agrees xs content ≡ true = subst (λ (s : OpenRead). agrees s.replies content ≡ true) (sym is) all in
    let last : List Replied = xs ++ record { from = from; content = content } ∷ [] in
    let merge : IsMergedInOrder (merged_of own last) (merged_of own xs) content =
    subst (λ (m : List Held). IsMergedInOrder m (merged_of own xs) content) (sym (merged_same own xs from content kept before)) (merge_of_agreed own xs content kept before settled) in
    let keeps : Keeps from content (read_of level q own xs mending) (read_of level q own last mending) = record { next_is = refl; merge = merge } in
    subst (λ (s : OpenRead). Keeps from content s (read_of level q own ys mending)) is
    (subst (λ (zs : List Replied). Keeps from content (read_of level q own xs mending) (read_of level q own zs mending)) (sym more) keeps)

pub still_kept : (own : Option (List Held)) (xs ys : List Replied) (from : ℕ) (content : List Held) (r : OpenRead) → xs ≡ r.replies → ys ≡ xs ++ record { from = from; content = content } ∷ []
    → IsKept own xs → agrees r.replies content ≡ true → IsKept own ys
still_kept own xs ys from content r is more kept all =
    subst (λ (zs : List Replied). IsKept own zs) (sym more) (kept_same own xs from content kept (subst (λ (zs : List Replied). agrees zs content ≡ true) (sym is) all))

pub now_kept : (m : List Held) (xs ys : List Replied) (from : ℕ) (content : List Held) (r : OpenRead) → xs ≡ r.replies → ys ≡ xs ++ record { from = from; content = content } ∷ []
    → agrees r.replies content ≡ false → IsKept (Some m) ys
now_kept m xs ys from content r is more other =
    subst (λ (zs : List Replied). IsKept (Some m) zs) (sym more) (kept_other m xs from content (subst (λ (zs : List Replied). agrees zs content ≡ false) (sym is) other))

pub merge_of_same_all : (own : Option (List Held)) (xs : List Replied) (content : List Held) (r : OpenRead) → xs ≡ r.replies → merged_of own xs ≡ r.merged → IsKept own xs → IsSettled content
    → agrees r.replies content ≡ true → IsMergedInOrder content r.merged content
merge_of_same_all own xs content r is merged kept settled all =
    subst (λ (m : List Held). IsMergedInOrder content m content) merged
    (merge_of_agreed own xs content kept (subst (λ (zs : List Replied). agrees zs content ≡ true) (sym is) all) settled)

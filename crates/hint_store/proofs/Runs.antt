-- Runs of a table's keys: those of a peer, those of a number, and those of a birth before a time.
use Rattle.std.proofs.Common.{◌≡◌, ℕ, ◌<◌, Bool, true, false, List, [], ◌∷◌, filter, length, refl, sym, ap, subst, ◌∙◌, arith, Contains}
use Rattle.std.specs.Prelude.{◌==◌, ◌&&◌, not, nat_lt, if◌then◌else◌}
use Rattle.std.specs.declared.cmp.Ordering.{Ordering}
use Rattle.std.specs.declared.cmp.Ordering.TheVariants.{Less, Equal, Greater}
use Rattle.std.specs.declared.ops.Bound.TheVariants.{Included, Excluded, Unbounded}
use Rattle.std.specs.Ordering.{nat_cmp, ordering_then, is_eq, is_le, is_gt, MatchOrdering}
use Rattle.std.specs.List.{list_any}
use Rattle.std.specs.List.Sorted.{IsStrictlySortedBy}
use Rattle.std.specs.Map.{keys_of, values_of}
use Rattle.std.specs.BTreeMap.Range.{range_contains}
use Rattle.std.proofs.lemmas.Bool.{lt-ltb, le-ltb, and_parts, eqb-true}
use Rattle.std.proofs.lemmas.Cmp.{ranked}
use Rattle.cs_base.proofs.Members.{contains_here, contains_from_filter, some_passes}
use Rattle.row_change.specs.declared.entry.Hint.{Hint}
use Rattle.hint_store.specs.Tables.{place_cmp, number_cmp, age_cmp, number_key, is_place, is_hint, AreFiled, passing, Indexes, IsAt}
use Rattle.hint_store.proofs.Keys.{none_from_count}
use Rattle.hint_store.proofs.Places.{eq_test, filed_at, place_is}
use Rattle.hint_store.proofs.Indexing.{at_number}

-- ---- orders

low_if : (o : Ordering) (s : ℕ) → MatchOrdering o (0 < s) (0 ≡ s) (s < 0) → is_le o ≡ true
low_if Less s h = refl
low_if Equal s h = refl
low_if Greater s h = absurd (omega (arith, h))

pub low : (s : ℕ) → is_le (nat_cmp 0 s) ≡ true
low s = low_if (nat_cmp 0 s) s (ranked 0 s (nat_cmp 0 s) refl)

high_if : (o : Ordering) (next s : ℕ) → s < next → MatchOrdering o (next < s) (next ≡ s) (s < next) → is_le o ≡ false
high_if Less next s below h = absurd (omega (arith, below, h))
high_if Equal next s below h = absurd (omega (arith, below, h))
high_if Greater next s below h = refl

pub high : (next s : ℕ) → s < next → is_le (nat_cmp next s) ≡ false
high next s below = high_if (nat_cmp next s) next s below (ranked next s (nat_cmp next s) refl)

both_ends : (a b : Bool) → a ≡ true → b ≡ false → (a && not b) ≡ true
both_ends true false h k = refl
both_ends true true h k = cc
both_ends false b h k = cc

place_if : (o from upto : Ordering) → is_le from ≡ true → is_le upto ≡ false → (is_le (ordering_then o from) && not (is_le (ordering_then o upto))) ≡ is_eq o
place_if Less from upto h k = refl
place_if Equal from upto h k = both_ends (is_le from) (is_le upto) h k
place_if Greater from upto h k = refl

pub in_places : (peer next : ℕ) (x : ℕ × ℕ) → x.1 < next → range_contains place_cmp (Included (peer, 0)) (Excluded (peer, next)) x ≡ (x.0 == peer)
in_places peer next x below = place_if (nat_cmp peer x.0) (nat_cmp 0 x.1) (nat_cmp next x.1) (low x.1) (high next x.1 below) ∙ eq_test peer x.0

number_if : (o p from upto : Ordering) → is_le from ≡ true → is_le upto ≡ false
    → (is_le (ordering_then (ordering_then o p) from) && not (is_le (ordering_then (ordering_then o p) upto))) ≡ (is_eq o && is_eq p)
number_if Less p from upto h k = refl
number_if Equal Less from upto h k = refl
number_if Equal Equal from upto h k = both_ends (is_le from) (is_le upto) h k
number_if Equal Greater from upto h k = refl
number_if Greater p from upto h k = refl

pub in_numbers : (peer number next : ℕ) (k : ℕ × ℕ × ℕ) → k.2 < next → range_contains number_cmp (Included (peer, number, 0)) (Excluded (peer, number, next)) k ≡ ((k.0 == peer) && (k.1 == number))
in_numbers peer number next k below =
    number_if (nat_cmp peer k.0) (nat_cmp number k.1) (nat_cmp 0 k.2) (nat_cmp next k.2) (low k.2) (high next k.2 below)
    ∙ ap (λ (b : Bool). b && is_eq (nat_cmp number k.1)) (eq_test peer k.0)
    ∙ ap (λ (b : Bool). (k.0 == peer) && b) (eq_test number k.1)

le_then : (o p : Ordering) → is_le o ≡ true → is_le p ≡ true → is_le (ordering_then o p) ≡ true
le_then Less p h k = refl
le_then Equal p h k = k
le_then Greater p h k = h

age_if : (o a b d : Ordering) → is_le a ≡ true → is_le b ≡ true → is_le d ≡ true → not (is_le (ordering_then (ordering_then (ordering_then o a) b) d)) ≡ is_gt o
age_if Less a b d h k l = refl
age_if Equal a b d h k l = ap not (le_then (ordering_then a b) d (le_then a b h k) l)
age_if Greater a b d h k l = refl

gt_if : (o : Ordering) (t b : ℕ) → MatchOrdering o (t < b) (t ≡ b) (b < t) → is_gt o ≡ nat_lt b t
gt_if Less t b h = sym (le-ltb b t (omega (arith, h)))
gt_if Equal t b h = sym (le-ltb b t (omega (arith, h)))
gt_if Greater t b h = sym (lt-ltb b t h)

pub in_ages : (time : ℕ) (k : ℕ × ℕ × ℕ × ℕ) → range_contains age_cmp Unbounded (Excluded (time, 0, 0, 0)) k ≡ nat_lt k.0 time
in_ages time k =
    age_if (nat_cmp time k.0) (nat_cmp 0 k.1) (nat_cmp 0 k.2) (nat_cmp 0 k.3) (low k.1) (low k.2) (low k.3)
    ∙ gt_if (nat_cmp time k.0) time k.0 (ranked time k.0 (nat_cmp time k.0) refl)

-- ---- tests that agree on what is filed

agree_if : (b d : Bool) (e : (ℕ × ℕ) × Hint) (xs ys : List ((ℕ × ℕ) × Hint)) → b ≡ d → xs ≡ ys → (if b then e ∷ xs else xs) ≡ (if d then e ∷ ys else ys)
agree_if b d e xs ys same rest = ap (λ (z : Bool). if z then e ∷ xs else xs) same ∙ ap (λ (zs : List ((ℕ × ℕ) × Hint)). if d then e ∷ zs else zs) rest

pub agree : (next : ℕ) (p q : (ℕ × ℕ) × Hint → Bool) → ((e : (ℕ × ℕ) × Hint) → e.0.0 ≡ e.1.peer → e.0.1 < next → p e ≡ q e) → (es : List ((ℕ × ℕ) × Hint)) → AreFiled next es → filter p es ≡ filter q es
agree next p q same [] filed = refl
agree next p q same (e ∷ es) filed = agree_if (p e) (q e) e (filter p es) (filter q es) (same e filed.0 filed.1) (agree next p q same es filed.2)

-- ---- those of a number

pub of_number : (next peer number : ℕ) (es : List ((ℕ × ℕ) × Hint)) (ks : List (ℕ × ℕ × ℕ)) → AreFiled next es → Indexes number_key es ks
    → passing (range_contains number_cmp (Included (peer, number, 0)) (Excluded (peer, number, next))) ks ≡ passing (λ e. is_hint peer number e.1) es
of_number next peer number es ks filed index =
    index (range_contains number_cmp (Included (peer, number, 0)) (Excluded (peer, number, next)))
    ∙ ap (λ (xs : List ((ℕ × ℕ) × Hint)). length xs)
    (agree next (λ e. range_contains number_cmp (Included (peer, number, 0)) (Excluded (peer, number, next)) (number_key e)) (λ e. is_hint peer number e.1) (λ e home below. in_numbers peer number next (number_key e) below) es filed)

values_if : (b : Bool) (e : (ℕ × ℕ) × Hint) (es : List ((ℕ × ℕ) × Hint)) → values_of (if b then e ∷ es else es) ≡ (if b then e.1 ∷ values_of es else values_of es)
values_if true e es = refl
values_if false e es = refl

-- a test of the hints alone
pub values_filter : (q : Hint → Bool) (es : List ((ℕ × ℕ) × Hint)) → values_of (filter (λ e. q e.1) es) ≡ filter q (values_of es)
values_filter q [] = refl
values_filter q (e ∷ es) = values_if (q e.1) e (filter (λ x. q x.1) es) ∙ ap (λ (hs : List Hint). if q e.1 then e.1 ∷ hs else hs) (values_filter q es)

length_values : (es : List ((ℕ × ℕ) × Hint)) → length (values_of es) ≡ length es
length_values [] = refl
length_values (e ∷ es) = let rest = length_values es in omega (arith, rest)

pub counted : (next peer number : ℕ) (es : List ((ℕ × ℕ) × Hint)) (ks : List (ℕ × ℕ × ℕ)) → AreFiled next es → Indexes number_key es ks
    → length (filter (range_contains number_cmp (Included (peer, number, 0)) (Excluded (peer, number, next))) ks) ≡ length (filter (is_hint peer number) (values_of es))
counted next peer number es ks filed index =
    of_number next peer number es ks filed index
    ∙ sym (length_values (filter (λ e. is_hint peer number e.1) es))
    ∙ ap (λ (hs : List Hint). length hs) (values_filter (is_hint peer number) es)

pub none_of_number : (next peer number : ℕ) (es : List ((ℕ × ℕ) × Hint)) (ks : List (ℕ × ℕ × ℕ)) → AreFiled next es → Indexes number_key es ks
    → filter (range_contains number_cmp (Included (peer, number, 0)) (Excluded (peer, number, next))) ks ≡ [] → list_any (λ e. is_hint peer number e.1) es ≡ false
none_of_number next peer number es ks filed index none =
    none_from_count (λ e. is_hint peer number e.1) es (sym (of_number next peer number es ks filed index) ∙ ap (λ (xs : List (ℕ × ℕ × ℕ)). length xs) none)

-- the first key of a run tells where its hint stands
pub front_of_number : (next peer number : ℕ) (es : List ((ℕ × ℕ) × Hint)) (ks : List (ℕ × ℕ × ℕ)) (run rest : List (ℕ × ℕ × ℕ)) (k : ℕ × ℕ × ℕ) → IsStrictlySortedBy place_cmp (keys_of es) → AreFiled next es → Indexes number_key es ks
    → run ≡ filter (range_contains number_cmp (Included (peer, number, 0)) (Excluded (peer, number, next))) ks → run ≡ k ∷ rest → IsAt peer number k.2 es
front_of_number next peer number es ks run rest k sorted filed index is front =
    let there = contains_from_filter (range_contains number_cmp (Included (peer, number, 0)) (Excluded (peer, number, next))) ks k (subst (λ (xs : List (ℕ × ℕ × ℕ)). Contains xs k) (sym front ∙ is) (contains_here k rest)) in
    let at : IsAt k.0 k.1 k.2 es = at_number next k.0 k.1 k.2 es ks sorted filed index there.0 in
    let found : (e : (ℕ × ℕ) × Hint) × Contains es e × (is_place (k.0, k.2) e.0 ≡ true) = some_passes (λ e. is_place (k.0, k.2) e.0) es at.some in
    let numbered_so = ap (λ (p : ℕ × ℕ). p.1) (place_is (k.0, k.2) found.0.0 found.2) in
    let below = (filed_at next es filed found.0 found.1).1 in
    let inside = sym (in_numbers peer number next k (omega (arith, numbered_so, below))) ∙ there.1 in
    let parts = and_parts (k.0 == peer) (k.1 == number) inside in
    subst (λ (n : ℕ). IsAt peer n k.2 es) (eqb-true k.1 number parts.1) (subst (λ (p : ℕ). IsAt p k.1 k.2 es) (eqb-true k.0 peer parts.0) at)

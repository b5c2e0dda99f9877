-- Hints by age: those that are not gone, each once, the oldest first.
use Rattle.std.proofs.Common.{◌≡◌, ℕ, ◌<◌, ◌≤◌, ◌⊎◌, ◌↔◌, inl, inr, Bool, true, false, List, [], ◌∷◌, Option, Some, None, filter, length, refl, sym, ap, subst, ◌∙◌, arith, Contains}
use Rattle.std.specs.Prelude.{◌==◌, ◌&&◌, ◌||◌, not, nat_lt, if◌then◌else◌, slice_get}
use Rattle.std.specs.declared.cmp.Ordering.{Ordering}
use Rattle.std.specs.declared.cmp.Ordering.TheVariants.{Less, Equal, Greater}
use Rattle.std.specs.declared.ops.Bound.TheVariants.{Excluded, Unbounded}
use Rattle.std.specs.Ordering.{nat_cmp, ordering_then, is_eq, is_lt, is_gt, MatchOrdering}
use Rattle.std.specs.Cmp.{IsTotalOrder}
use Rattle.std.specs.List.{All, list_any, AllByRecursion}
use Rattle.std.specs.List.Sorted.{IsStrictlySortedBy}
use Rattle.std.specs.Map.{values_of}
use Rattle.std.specs.BTreeMap.{is_at}
use Rattle.std.specs.BTreeMap.Range.{range_contains}
use Rattle.std.proofs.lemmas.Bool.{or_parts, or_from, or_left, or_right, not-true, lt-ltb, le-ltb, ltb-true, eq-eqb, eqb-true, and_from, and_parts}
use Rattle.std.proofs.lemmas.Cmp.{ranked, tied_itself, then_total, on_total, nat_cmp_total}
use Rattle.std.proofs.lemmas.List.Elements.{All-head, All-tail}
use Rattle.std.proofs.lemmas.List.Kept.{IsStrictlySortedBy-filter}
use Rattle.std.proofs.lemmas.Map.Keys.{sorted_head, sorted_tail}
use Rattle.cs_base.proofs.Members.{contains_nil, contains_cases, contains_here, contains_there, contains_filter, contains_from_filter, contains_map, contains_from_map, some_passes}
use Rattle.row_change.specs.declared.entry.Hint.{Hint}
use Rattle.hint_store.specs.declared.aging.Expired.{Expired}
use Rattle.hint_store.specs.Tables.{age_cmp, age_key, AreFiled, passing, Indexes}
use Rattle.hint_store.specs.Stores.{is_gone, is_added, hints_now}
use Rattle.hint_store.specs.Expiry.{expired_of, expired_cmp, AreOldestFirst, expired_at, is_last, expired_in}
use Rattle.hint_store.proofs.Keys.{some_from_count, none_from_count, count_from_some, count_from_none, then_equal, nat_equal, age_exact, age_total}
use Rattle.hint_store.proofs.Places.{is_equal}
use Rattle.hint_store.proofs.Indexing.{some_key, its_entry}
use Rattle.hint_store.proofs.Runs.{in_ages, agree, values_filter}

-- ---- whether there is one

same_if : {X Y : Type 0} (b : Bool) (q : X → Bool) (xs : List X) (r : Y → Bool) (ys : List Y) → list_any q xs ≡ b → passing q xs ≡ passing r ys → b ≡ list_any r ys
same_if true q xs r ys is same = let many = count_from_some q xs is in sym (some_from_count r ys (omega (arith, many, same)))
same_if false q xs r ys is same = sym (none_from_count r ys (sym same ∙ count_from_none q xs is))

any_same : {X Y : Type 0} (q : X → Bool) (xs : List X) (r : Y → Bool) (ys : List Y) → passing q xs ≡ passing r ys → list_any q xs ≡ list_any r ys
any_same q xs r ys same = same_if (list_any q xs) q xs r ys refl same

filter_if : {X : Type 0} (b : Bool) (q : X → Bool) (x : X) (xs : List X) → filter q (if b then x ∷ xs else xs) ≡ (if b && q x then x ∷ filter q xs else filter q xs)
filter_if true q x xs = refl
filter_if false q x xs = refl

pub filter_both : {X : Type 0} (p q : X → Bool) (xs : List X) → filter q (filter p xs) ≡ filter (λ x. p x && q x) xs
filter_both p q [] = refl
filter_both {X} p q (x ∷ xs) = filter_if (p x) q x (filter p xs) ∙ ap (λ (ys : List X). if p x && q x then x ∷ ys else ys) (filter_both p q xs)

length_values : (es : List ((ℕ × ℕ) × Hint)) → length (values_of es) ≡ length es
length_values [] = refl
length_values (e ∷ es) = let rest = length_values es in omega (arith, rest)

and_swap : (a b : Bool) → (a && b) ≡ (b && a)
and_swap true true = refl
and_swap true false = refl
and_swap false true = refl
and_swap false false = refl

pub any_older : (next time : ℕ) (gone : List (ℕ × ℕ)) (es : List ((ℕ × ℕ) × Hint)) (ks : List (ℕ × ℕ × ℕ × ℕ)) → AreFiled next es → Indexes age_key es ks
    → list_any (λ k. not (is_added gone (k.1, k.2))) (filter (range_contains age_cmp Unbounded (Excluded (time, 0, 0, 0))) ks) ≡ list_any (λ h. nat_lt h.born time) (hints_now gone es)
any_older next time gone es ks filed index =
    any_same (λ k. not (is_added gone (k.1, k.2))) (filter (range_contains age_cmp Unbounded (Excluded (time, 0, 0, 0))) ks) (λ h. nat_lt h.born time) (hints_now gone es)
    (ap (λ (xs : List (ℕ × ℕ × ℕ × ℕ)). length xs) (filter_both (range_contains age_cmp Unbounded (Excluded (time, 0, 0, 0))) (λ k. not (is_added gone (k.1, k.2))) ks)
    ∙ index (λ k. range_contains age_cmp Unbounded (Excluded (time, 0, 0, 0)) k && not (is_added gone (k.1, k.2)))
    ∙ ap (λ (xs : List ((ℕ × ℕ) × Hint)). length xs)
    (agree next (λ e. range_contains age_cmp Unbounded (Excluded (time, 0, 0, 0)) (age_key e) && not (is_added gone (e.1.peer, e.1.number))) (λ e. not (is_gone gone e.1) && nat_lt e.1.born time)
    (λ e home below. ap (λ (b : Bool). b && not (is_added gone (e.1.peer, e.1.number))) (in_ages time (age_key e)) ∙ and_swap (nat_lt e.1.born time) (not (is_added gone (e.1.peer, e.1.number)))) es filed)
    ∙ ap (λ (xs : List ((ℕ × ℕ) × Hint)). length xs) (sym (filter_both (λ e. not (is_gone gone e.1)) (λ e. nat_lt e.1.born time) es))
    ∙ sym (length_values (filter (λ e. nat_lt e.1.born time) (filter (λ e. not (is_gone gone e.1)) es)))
    ∙ ap (λ (hs : List Hint). length hs) (values_filter (λ h. nat_lt h.born time) (filter (λ e. not (is_gone gone e.1)) es)))

-- ---- which there are

in_if : (b : Bool) (gone : List (ℕ × ℕ)) (last : Option Expired) (k : ℕ × ℕ × ℕ × ℕ) (ks : List (ℕ × ℕ × ℕ × ℕ)) (x : Expired) → (is_added gone (k.1, k.2) || is_last last k) ≡ b
    → (Contains (expired_in gone last ks) x → (j : ℕ × ℕ × ℕ × ℕ) × Contains ks j × (is_added gone (j.1, j.2) ≡ false) × (expired_at j ≡ x))
    → (Contains (expired_in gone (Some (expired_at k)) ks) x → (j : ℕ × ℕ × ℕ × ℕ) × Contains ks j × (is_added gone (j.1, j.2) ≡ false) × (expired_at j ≡ x))
    → Contains (if b then expired_in gone last ks else expired_at k ∷ expired_in gone (Some (expired_at k)) ks) x → (j : ℕ × ℕ × ℕ × ℕ) × Contains (k ∷ ks) j × (is_added gone (j.1, j.2) ≡ false) × (expired_at j ≡ x)
in_if true gone last k ks x is on anew h = let r = on h in (r.0, contains_there k ks r.0 r.1, r.2, r.3)
in_if false gone last k ks x is on anew h = elim (contains_cases (expired_at k) (expired_in gone (Some (expired_at k)) ks) x h) [
  | inl here ↦ (k, contains_here k ks, (or_parts (is_added gone (k.1, k.2)) (is_last last k) is).0, here)
  | inr rest ↦ let r = anew rest in (r.0, contains_there k ks r.0 r.1, r.2, r.3)
]

pub in_expired : (gone : List (ℕ × ℕ)) (last : Option Expired) (ks : List (ℕ × ℕ × ℕ × ℕ)) (x : Expired) → Contains (expired_in gone last ks) x
    → (j : ℕ × ℕ × ℕ × ℕ) × Contains ks j × (is_added gone (j.1, j.2) ≡ false) × (expired_at j ≡ x)
in_expired gone last [] x h = absurd (contains_nil x h)
in_expired gone last (k ∷ ks) x h =
    in_if (is_added gone (k.1, k.2) || is_last last k) gone last k ks x refl (in_expired gone last ks x) (in_expired gone (Some (expired_at k)) ks x) h

last_is : (last : Option Expired) (k : ℕ × ℕ × ℕ × ℕ) → is_last last k ≡ true → last ≡ Some (expired_at k)
last_is None k h = cc
last_is (Some x) k h =
    let parts = and_parts ((x.born == k.0) && (x.peer == k.1)) (x.number == k.2) h in
    let front = and_parts (x.born == k.0) (x.peer == k.1) parts.0 in
    ap (λ (e : Expired). Some e)
    (ap (λ (n : ℕ). record x { born = n }) (eqb-true x.born k.0 front.0)
    ∙ ap (λ (n : ℕ). record { born = k.0; peer = n; number = x.number }) (eqb-true x.peer k.1 front.1)
    ∙ ap (λ (n : ℕ). record { born = k.0; peer = k.1; number = n }) (eqb-true x.number k.2 parts.1))

some_same : (x y : Expired) → Some x ≡ Some y → x ≡ y
some_same x y e = cc

either_last : (a b : Bool) (last : Option Expired) (k : ℕ × ℕ × ℕ × ℕ) → a ≡ false → (a || is_last last k) ≡ true → last ≡ Some (expired_at k)
either_last true b last k h is = cc
either_last false b last k h is = last_is last k is

all_if : (b : Bool) (gone : List (ℕ × ℕ)) (last : Option Expired) (k : ℕ × ℕ × ℕ × ℕ) (ks : List (ℕ × ℕ × ℕ × ℕ)) (j : ℕ × ℕ × ℕ × ℕ) → (is_added gone (k.1, k.2) || is_last last k) ≡ b → is_added gone (j.1, j.2) ≡ false
    → (Contains ks j → Contains (expired_in gone last ks) (expired_at j) ⊎ (last ≡ Some (expired_at j)))
    → (Contains ks j → Contains (expired_in gone (Some (expired_at k)) ks) (expired_at j) ⊎ (Some (expired_at k) ≡ Some (expired_at j)))
    → (k ≡ j) ⊎ Contains ks j
    → Contains (if b then expired_in gone last ks else expired_at k ∷ expired_in gone (Some (expired_at k)) ks) (expired_at j) ⊎ (last ≡ Some (expired_at j))
all_if true gone last k ks j is left on anew (inl here) =
    inr (either_last (is_added gone (k.1, k.2)) true last k (ap (λ (i : ℕ × ℕ × ℕ × ℕ). is_added gone (i.1, i.2)) here ∙ left) is ∙ ap (λ (i : ℕ × ℕ × ℕ × ℕ). Some (expired_at i)) here)
all_if true gone last k ks j is left on anew (inr rest) = on rest
all_if false gone last k ks j is left on anew (inl here) =
    inl (subst (λ (i : ℕ × ℕ × ℕ × ℕ). Contains (expired_at k ∷ expired_in gone (Some (expired_at k)) ks) (expired_at i)) here (contains_here (expired_at k) (expired_in gone (Some (expired_at k)) ks)))
all_if false gone last k ks j is left on anew (inr rest) = elim (anew rest) [
  | inl there ↦ inl (contains_there (expired_at k) (expired_in gone (Some (expired_at k)) ks) (expired_at j) there)
  | inr same ↦ inl (subst (λ (x : Expired). Contains (expired_at k ∷ expired_in gone (Some (expired_at k)) ks) x) (some_same (expired_at k) (expired_at j) same) (contains_here (expired_at k) (expired_in gone (Some (expired_at k)) ks)))
]

all_expired : (gone : List (ℕ × ℕ)) (last : Option Expired) (ks : List (ℕ × ℕ × ℕ × ℕ)) (j : ℕ × ℕ × ℕ × ℕ) → Contains ks j → is_added gone (j.1, j.2) ≡ false
    → Contains (expired_in gone last ks) (expired_at j) ⊎ (last ≡ Some (expired_at j))
all_expired gone last [] j h left = absurd (contains_nil j h)
all_expired gone last (k ∷ ks) j h left =
    all_if (is_added gone (k.1, k.2) || is_last last k) gone last k ks j refl left (λ c. all_expired gone last ks j c left) (λ c. all_expired gone (Some (expired_at k)) ks j c left) (contains_cases k ks j h)

none_is_none : (x : Expired) → None ≡ Some x → ⊥
none_is_none x e = cc

pub each_expired : (gone : List (ℕ × ℕ)) (ks : List (ℕ × ℕ × ℕ × ℕ)) (j : ℕ × ℕ × ℕ × ℕ) → Contains ks j → is_added gone (j.1, j.2) ≡ false → Contains (expired_in gone None ks) (expired_at j)
each_expired gone ks j h left = elim (all_expired gone None ks j h left) [ inl there ↦ there | inr none ↦ absurd (none_is_none (expired_at j) none) ]

-- a key and its entry
key_there : (es : List ((ℕ × ℕ) × Hint)) (ks : List (ℕ × ℕ × ℕ × ℕ)) → Indexes age_key es ks → (e : (ℕ × ℕ) × Hint) → Contains es e → Contains ks (age_key e)
key_there es ks index e h =
    let found = some_passes (is_at (age_cmp (age_key e))) ks (some_key age_key es ks (is_at (age_cmp (age_key e))) index e h (ap is_eq (tied_itself age_total (age_key e)))) in
    subst (λ (k : ℕ × ℕ × ℕ × ℕ). Contains ks k) (sym (age_exact (age_key e) found.0 (is_equal (age_cmp (age_key e) found.0) found.2))) found.1

any_there : (q : ℕ × ℕ × ℕ × ℕ → Bool) (ks : List (ℕ × ℕ × ℕ × ℕ)) (k : ℕ × ℕ × ℕ × ℕ) → Contains ks k → q k ≡ true → list_any q ks ≡ true
any_there q [] k h t = absurd (contains_nil k h)
any_there q (y ∷ ys) k h t = elim (contains_cases y ys k h) [
  | inl here ↦ or_left (q y) (list_any q ys) (ap q here ∙ t)
  | inr rest ↦ or_right (q y) (list_any q ys) (any_there q ys k rest t)
]

entry_there : (es : List ((ℕ × ℕ) × Hint)) (ks : List (ℕ × ℕ × ℕ × ℕ)) → Indexes age_key es ks → (k : ℕ × ℕ × ℕ × ℕ) → Contains ks k → (e : (ℕ × ℕ) × Hint) × Contains es e × (age_key e ≡ k)
entry_there es ks index k h =
    let found : (e : (ℕ × ℕ) × Hint) × Contains es e × (is_at (age_cmp k) (age_key e) ≡ true) = its_entry age_key es ks (is_at (age_cmp k)) index (any_there (is_at (age_cmp k)) ks k h (ap is_eq (tied_itself age_total k))) in
    (found.0, found.1, sym (age_exact k (age_key found.0) (is_equal (age_cmp k (age_key found.0)) found.2)))

pub older_are : (time : ℕ) (gone : List (ℕ × ℕ)) (es : List ((ℕ × ℕ) × Hint)) (ks : List (ℕ × ℕ × ℕ × ℕ)) → Indexes age_key es ks → (x : Expired)
    → Contains (expired_in gone None (filter (range_contains age_cmp Unbounded (Excluded (time, 0, 0, 0))) ks)) x ↔ ((h : Hint) × Contains (hints_now gone es) h × (h.born < time) × (x ≡ expired_of h))
older_are time gone es ks index x = (
  λ there.
      let inside = in_expired gone None (filter (range_contains age_cmp Unbounded (Excluded (time, 0, 0, 0))) ks) x there in
      let key = contains_from_filter (range_contains age_cmp Unbounded (Excluded (time, 0, 0, 0))) ks inside.0 inside.1 in
      let entry = entry_there es ks index inside.0 key.0 in
      let e : (ℕ × ℕ) × Hint = entry.0 in
      let born : nat_lt e.1.born time ≡ true = ap (λ (k : ℕ × ℕ × ℕ × ℕ). nat_lt k.0 time) entry.2 ∙ sym (in_ages time inside.0) ∙ key.1 in
      let left : not (is_gone gone e.1) ≡ true = ap (λ (k : ℕ × ℕ × ℕ × ℕ). not (is_added gone (k.1, k.2))) entry.2 ∙ ap not inside.2 in
      (e.1, contains_map (λ (y : (ℕ × ℕ) × Hint). y.1) (filter (λ y. not (is_gone gone y.1)) es) e (contains_filter (λ y. not (is_gone gone y.1)) es e entry.1 left), ltb-true e.1.born time born, sym inside.3 ∙ ap expired_at (sym entry.2)),
  λ (h, there, born, is).
      let from = contains_from_map (λ (y : (ℕ × ℕ) × Hint). y.1) (filter (λ y. not (is_gone gone y.1)) es) h there in
      let e : (ℕ × ℕ) × Hint = from.0 in
      let kept = contains_from_filter (λ y. not (is_gone gone y.1)) es e from.1 in
      let before : nat_lt e.1.born time ≡ true = lt-ltb e.1.born time (subst (λ (g : Hint). g.born < time) (sym from.2) born) in
      let key = contains_filter (range_contains age_cmp Unbounded (Excluded (time, 0, 0, 0))) ks (age_key e) (key_there es ks index e kept.0) (in_ages time (age_key e) ∙ before) in
      let found = each_expired gone (filter (range_contains age_cmp Unbounded (Excluded (time, 0, 0, 0))) ks) (age_key e) key (not-true (is_gone gone e.1) kept.1) in
      subst (λ (y : Expired). Contains (expired_in gone None (filter (range_contains age_cmp Unbounded (Excluded (time, 0, 0, 0))) ks)) y) (ap expired_of from.2 ∙ sym is) found,
)

-- ---- their order

expired_total : IsTotalOrder expired_cmp
expired_total = then_total (on_total (λ (x : Expired). x.born) nat_cmp_total) (then_total (on_total (λ (x : Expired). x.peer) nat_cmp_total) (on_total (λ (x : Expired). x.number) nat_cmp_total))

front_if : (o p q r : Ordering) → ordering_then (ordering_then (ordering_then o p) q) r ≡ Less → is_gt (ordering_then o (ordering_then p q)) ≡ false
front_if Less p q r h = refl
front_if Equal Less q r h = refl
front_if Equal Equal Less r h = refl
front_if Equal Equal Equal r h = refl
front_if Equal Equal Greater r h = cc
front_if Equal Greater q r h = cc
front_if Greater p q r h = cc

not_after : (j k : ℕ × ℕ × ℕ × ℕ) → age_cmp j k ≡ Less → is_gt (expired_cmp (expired_at j) (expired_at k)) ≡ false
not_after j k h = front_if (nat_cmp j.0 k.0) (nat_cmp j.1 k.1) (nat_cmp j.2 k.2) (nat_cmp j.3 k.3) h

less_if : (o : Ordering) → is_gt o ≡ false → (o ≡ Equal → ⊥) → o ≡ Less
less_if Less h apart = refl
less_if Equal h apart = absurd (apart refl)
less_if Greater h apart = cc

is_last_from : (x : Expired) (k : ℕ × ℕ × ℕ × ℕ) → expired_cmp x (expired_at k) ≡ Equal → is_last (Some x) k ≡ true
is_last_from x k e =
    let parts = then_equal (nat_cmp x.born k.0) (ordering_then (nat_cmp x.peer k.1) (nat_cmp x.number k.2)) e in
    let back = then_equal (nat_cmp x.peer k.1) (nat_cmp x.number k.2) parts.1 in
    and_from ((x.born == k.0) && (x.peer == k.1)) (x.number == k.2)
    (and_from (x.born == k.0) (x.peer == k.1) (eq-eqb x.born k.0 (nat_equal x.born k.0 parts.0)) (eq-eqb x.peer k.1 (nat_equal x.peer k.1 back.0)))
    (eq-eqb x.number k.2 (nat_equal x.number k.2 back.1))

true_is_false : {P : Type 0} (b : Bool) → b ≡ false → b ≡ true → P
true_is_false true h k = cc
true_is_false false h k = cc

abbrev NoneBefore : Expired → List (ℕ × ℕ × ℕ × ℕ) → Type 0
NoneBefore x ks = AllByRecursion (λ k. is_gt (expired_cmp x (expired_at k)) ≡ false) ks

none_before : (j : ℕ × ℕ × ℕ × ℕ) (ks : List (ℕ × ℕ × ℕ × ℕ)) → AllByRecursion (λ k. age_cmp j k ≡ Less) ks → NoneBefore (expired_at j) ks
none_before j [] later = tt
none_before j (k ∷ ks) later = (not_after j k later.0, none_before j ks later.1)

after_if : (b : Bool) (gone : List (ℕ × ℕ)) (x : Expired) (k : ℕ × ℕ × ℕ × ℕ) (ks : List (ℕ × ℕ × ℕ × ℕ)) → (is_added gone (k.1, k.2) || is_last (Some x) k) ≡ b → is_gt (expired_cmp x (expired_at k)) ≡ false
    → ((y : Expired) → Contains (expired_in gone (Some x) ks) y → expired_cmp x y ≡ Less) → ((y : Expired) → Contains (expired_in gone (Some (expired_at k)) ks) y → expired_cmp (expired_at k) y ≡ Less)
    → (y : Expired) → Contains (if b then expired_in gone (Some x) ks else expired_at k ∷ expired_in gone (Some (expired_at k)) ks) y → expired_cmp x y ≡ Less
after_if true gone x k ks is from on anew y h = on y h
after_if false gone x k ks is from on anew y h =
    let less : expired_cmp x (expired_at k) ≡ Less =
    less_if (expired_cmp x (expired_at k)) from (λ e. true_is_false (is_last (Some x) k) (or_parts (is_added gone (k.1, k.2)) (is_last (Some x) k) is).1 (is_last_from x k e)) in
    elim (contains_cases (expired_at k) (expired_in gone (Some (expired_at k)) ks) y h) [
      | inl here ↦ subst (λ (z : Expired). expired_cmp x z ≡ Less) here less
      | inr rest ↦ expired_total.trans x (expired_at k) y less (anew y rest)
    ]

all_after : (gone : List (ℕ × ℕ)) (x : Expired) (ks : List (ℕ × ℕ × ℕ × ℕ)) → NoneBefore x ks → IsStrictlySortedBy age_cmp ks → (y : Expired) → Contains (expired_in gone (Some x) ks) y → expired_cmp x y ≡ Less
all_after gone x [] from sorted y h = absurd (contains_nil y h)
all_after gone x (k ∷ ks) from sorted y h =
    after_if (is_added gone (k.1, k.2) || is_last (Some x) k) gone x k ks refl from.0 (all_after gone x ks from.1 (sorted_tail age_cmp k ks sorted))
    (all_after gone (expired_at k) ks (none_before k ks (sorted_head age_cmp k ks sorted)) (sorted_tail age_cmp k ks sorted)) y h

order_if : (b : Bool) (gone : List (ℕ × ℕ)) (last : Option Expired) (k : ℕ × ℕ × ℕ × ℕ) (ks : List (ℕ × ℕ × ℕ × ℕ)) → AreOldestFirst (expired_in gone last ks)
    → ((y : Expired) → Contains (expired_in gone (Some (expired_at k)) ks) y → expired_cmp (expired_at k) y ≡ Less) → AreOldestFirst (expired_in gone (Some (expired_at k)) ks)
    → AreOldestFirst (if b then expired_in gone last ks else expired_at k ∷ expired_in gone (Some (expired_at k)) ks)
order_if true gone last k ks on after anew = on
order_if false gone last k ks on after anew = (after, anew)

in_order : (gone : List (ℕ × ℕ)) (last : Option Expired) (ks : List (ℕ × ℕ × ℕ × ℕ)) → IsStrictlySortedBy age_cmp ks → AreOldestFirst (expired_in gone last ks)
in_order gone last [] sorted = tt
in_order gone last (k ∷ ks) sorted =
    order_if (is_added gone (k.1, k.2) || is_last last k) gone last k ks (in_order gone last ks (sorted_tail age_cmp k ks sorted))
    (all_after gone (expired_at k) ks (none_before k ks (sorted_head age_cmp k ks sorted)) (sorted_tail age_cmp k ks sorted))
    (in_order gone (Some (expired_at k)) ks (sorted_tail age_cmp k ks sorted))

pub older_in_order : (time : ℕ) (gone : List (ℕ × ℕ)) (ks : List (ℕ × ℕ × ℕ × ℕ)) → IsStrictlySortedBy age_cmp ks → AreOldestFirst (expired_in gone None (filter (range_contains age_cmp Unbounded (Excluded (time, 0, 0, 0))) ks))
older_in_order time gone ks sorted =
    in_order gone None (filter (range_contains age_cmp Unbounded (Excluded (time, 0, 0, 0))) ks) (IsStrictlySortedBy-filter age_cmp (range_contains age_cmp Unbounded (Excluded (time, 0, 0, 0))) ks sorted)

-- ---- where the first one is not older than a time

lead : (o p q r : Ordering) → is_gt (ordering_then (ordering_then (ordering_then o p) q) r) ≡ false → is_gt o ≡ false
lead Less p q r h = refl
lead Equal p q r h = refl
lead Greater p q r h = h

upto_if : (o : Ordering) (a b : ℕ) → MatchOrdering o (a < b) (a ≡ b) (b < a) → is_gt o ≡ false → a ≤ b
upto_if Less a b h upto = omega (arith, h)
upto_if Equal a b h upto = omega (arith, h)
upto_if Greater a b h upto = cc

not_older : (first k : ℕ × ℕ × ℕ × ℕ) (time : ℕ) → is_gt (age_cmp first k) ≡ false → time ≤ first.0 → nat_lt k.0 time ≡ false
not_older first k time upto late =
    let born = upto_if (nat_cmp first.0 k.0) first.0 k.0 (ranked first.0 k.0 (nat_cmp first.0 k.0) refl) (lead (nat_cmp first.0 k.0) (nat_cmp first.1 k.1) (nat_cmp first.2 k.2) (nat_cmp first.3 k.3) upto) in
    le-ltb k.0 time (omega (arith, born, late))

none_from_first : (first : ℕ × ℕ × ℕ × ℕ) (time : ℕ) (ks : List (ℕ × ℕ × ℕ × ℕ)) → All (λ k. is_gt (age_cmp first k) ≡ false) ks → time ≤ first.0 → list_any (λ k. nat_lt k.0 time) ks ≡ false
none_from_first first time [] upto late = refl
none_from_first first time (k ∷ ks) upto late =
    or_from (nat_lt k.0 time) (list_any (λ x. nat_lt x.0 time) ks) (not_older first k time (All-head (λ x. is_gt (age_cmp first x) ≡ false) k ks upto) late)
    (none_from_first first time ks (All-tail (λ x. is_gt (age_cmp first x) ≡ false) k ks upto) late)

pub none_from_empty : (time : ℕ) (ks : List (ℕ × ℕ × ℕ × ℕ)) → (0 < length ks → false ≡ true) → list_any (λ k. nat_lt k.0 time) ks ≡ false
none_from_empty time [] empty = refl
none_from_empty time (k ∷ ks) empty = let clash : false ≡ true = empty (omega arith) in cc

early_if : (o : Ordering) (a b : ℕ) → MatchOrdering o (a < b) (a ≡ b) (b < a) → is_lt o ≡ true → a < b
early_if Less a b h early = h
early_if Equal a b h early = cc
early_if Greater a b h early = cc

is_early : (a b : ℕ) → is_lt (nat_cmp a b) ≡ true → a < b
is_early a b early = early_if (nat_cmp a b) a b (ranked a b (nat_cmp a b) refl) early

late_if : (o : Ordering) (a b : ℕ) → MatchOrdering o (a < b) (a ≡ b) (b < a) → is_lt o ≡ false → b ≤ a
late_if Less a b h late = cc
late_if Equal a b h late = omega (arith, h)
late_if Greater a b h late = omega (arith, h)

is_late : (a b : ℕ) → is_lt (nat_cmp a b) ≡ false → b ≤ a
is_late a b late = late_if (nat_cmp a b) a b (ranked a b (nat_cmp a b) refl) late

first_there : (q : ℕ × ℕ × ℕ × ℕ → Bool) (ks : List (ℕ × ℕ × ℕ × ℕ)) (k : ℕ × ℕ × ℕ × ℕ) → slice_get ks 0 ≡ Some k → q k ≡ true → list_any q ks ≡ true
first_there q [] k is t = cc
first_there q (x ∷ xs) k is t = let same : x ≡ k = cc in or_left (q x) (list_any q xs) (ap q same ∙ t)

pub first_tells : (b : Bool) (first : ℕ × ℕ × ℕ × ℕ) (time : ℕ) (ks : List (ℕ × ℕ × ℕ × ℕ)) → b ≡ is_lt (nat_cmp first.0 time) → slice_get ks 0 ≡ Some first → All (λ k. is_gt (age_cmp first k) ≡ false) ks → b ≡ list_any (λ k. nat_lt k.0 time) ks
first_tells true first time ks is there upto = sym (first_there (λ k. nat_lt k.0 time) ks first there (lt-ltb first.0 time (is_early first.0 time (sym is))))
first_tells false first time ks is there upto = sym (none_from_first first time ks upto (is_late first.0 time (sym is)))

less_if_left : (b : Bool) (q : Hint → Bool) (e : (ℕ × ℕ) × Hint) (xs : List ((ℕ × ℕ) × Hint)) → q e.1 ≡ false → list_any q (values_of xs) ≡ false → list_any q (values_of (if b then e ∷ xs else xs)) ≡ false
less_if_left true q e xs none rest = or_from (q e.1) (list_any q (values_of xs)) none rest
less_if_left false q e xs none rest = rest

none_left : (q : Hint → Bool) (p : (ℕ × ℕ) × Hint → Bool) (es : List ((ℕ × ℕ) × Hint)) → list_any (λ e. q e.1) es ≡ false → list_any q (values_of (filter p es)) ≡ false
none_left q p [] none = refl
none_left q p (e ∷ es) none =
    let parts = or_parts (q e.1) (list_any (λ x. q x.1) es) none in
    less_if_left (p e) q e (filter p es) parts.0 (none_left q p es parts.1)

pub none_older : (time : ℕ) (gone : List (ℕ × ℕ)) (es : List ((ℕ × ℕ) × Hint)) (ks : List (ℕ × ℕ × ℕ × ℕ)) → Indexes age_key es ks → list_any (λ k. nat_lt k.0 time) ks ≡ false → list_any (λ h. nat_lt h.born time) (hints_now gone es) ≡ false
none_older time gone es ks index none =
    none_left (λ h. nat_lt h.born time) (λ e. not (is_gone gone e.1)) es
    (none_from_count (λ e. nat_lt e.1.born time) es (sym (index (λ k. nat_lt k.0 time)) ∙ count_from_none (λ k. nat_lt k.0 time) ks none))

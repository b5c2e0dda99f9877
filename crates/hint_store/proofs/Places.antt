-- Hints by place: those of a peer stand in the order of their sequences.
use Rattle.std.proofs.Common.{◌≡◌, ℕ, ◌+◌, ◌<◌, ◌⊎◌, inl, inr, Bool, true, false, List, [], ◌∷◌, ◌++◌, Option, Some, append-nil, filter, refl, sym, ap, subst, ◌∙◌, arith, Contains}
use Rattle.std.specs.Prelude.{◌==◌, ◌&&◌, ◌||◌, not, if◌then◌else◌}
use Rattle.std.specs.declared.cmp.Ordering.{Ordering}
use Rattle.std.specs.declared.cmp.Ordering.TheVariants.{Less, Equal, Greater}
use Rattle.std.specs.Ordering.{nat_cmp, ordering_then, is_eq, match_ordering, MatchOrdering}
use Rattle.std.specs.List.{list_any, AllByRecursion}
use Rattle.std.specs.List.Sorted.{IsStrictlySortedBy}
use Rattle.std.specs.Map.{keys_of, values_of, lookup, remove_entry}
use Rattle.std.specs.BTreeMap.{is_at, insert_entry}
use Rattle.std.proofs.lemmas.Bool.{and_parts, eqb-true, eq-eqb}
use Rattle.std.proofs.lemmas.Cmp.{ranked, tied_itself}
use Rattle.std.proofs.lemmas.Map.Keys.{sorted_head, sorted_tail}
use Rattle.cs_base.proofs.Members.{contains_nil, contains_cases}
use Rattle.row_change.specs.declared.entry.Hint.{Hint}
use Rattle.durable_state.specs.State.{hints_of}
use Rattle.node_steps.proofs.HintLists.{same_number, append_both}
use Rattle.hint_store.specs.Tables.{place_cmp, is_place, AreFiled, passing, one_if, IsVacant, IsPushed}
use Rattle.hint_store.proofs.Keys.{passing_cons, place_exact, place_total}

-- ---- places

pub is_place_itself : (x : ℕ × ℕ) → is_place x x ≡ true
is_place_itself x = ap (λ (b : Bool). b && (x.1 == x.1)) (same_number x.0) ∙ same_number x.1

eq_at : (o : Ordering) (x y : ℕ) → MatchOrdering o (x < y) (x ≡ y) (y < x) → is_eq o ≡ (y == x)
eq_at Less x y h = grind (arith, eq-eqb, eqb-true)
eq_at Equal x y h = sym (eq-eqb y x (sym h))
eq_at Greater x y h = grind (arith, eq-eqb, eqb-true)

pub eq_test : (x y : ℕ) → is_eq (nat_cmp x y) ≡ (y == x)
eq_test x y = eq_at (nat_cmp x y) x y (ranked x y (nat_cmp x y) refl)

pub eq_then : (a b : Ordering) → is_eq (ordering_then a b) ≡ (is_eq a && is_eq b)
eq_then Less b = refl
eq_then Equal b = refl
eq_then Greater b = refl

-- a search for a place finds that place
pub at_place : (x y : ℕ × ℕ) → is_at (place_cmp x) y ≡ is_place x y
at_place x y =
    eq_then (nat_cmp x.0 y.0) (nat_cmp x.1 y.1)
    ∙ ap (λ (b : Bool). b && is_eq (nat_cmp x.1 y.1)) (eq_test x.0 y.0)
    ∙ ap (λ (b : Bool). (y.0 == x.0) && b) (eq_test x.1 y.1)

pub place_is : (x y : ℕ × ℕ) → is_place x y ≡ true → y ≡ x
place_is x y h =
    let parts = and_parts (y.0 == x.0) (y.1 == x.1) h in
    ap (λ (a : ℕ). (a, y.1)) (eqb-true y.0 x.0 parts.0) ∙ ap (λ (a : ℕ). (x.0, a)) (eqb-true y.1 x.1 parts.1)

-- ---- what is filed

pub filed_at : (next : ℕ) (es : List ((ℕ × ℕ) × Hint)) → AreFiled next es → (e : (ℕ × ℕ) × Hint) → Contains es e → (e.0.0 ≡ e.1.peer) × (e.0.1 < next)
filed_at next [] filed e h = absurd (contains_nil e h)
filed_at next (x ∷ xs) filed e h = elim (contains_cases x xs e h) [
  | inl here ↦ subst (λ (y : (ℕ × ℕ) × Hint). (y.0.0 ≡ y.1.peer) × (y.0.1 < next)) here (filed.0, filed.1)
  | inr rest ↦ filed_at next xs filed.2 e rest
]

pub filed_on : (next : ℕ) (es : List ((ℕ × ℕ) × Hint)) → AreFiled next es → AreFiled (next + 1) es
filed_on next [] filed = tt
filed_on next (e ∷ es) filed = let below = filed.1 in (filed.0, omega (arith, below), filed_on next es filed.2)

filed_in_at : (o : Ordering) (next sequence : ℕ) (h : Hint) (e : (ℕ × ℕ) × Hint) (es ins : List ((ℕ × ℕ) × Hint)) → sequence < next → AreFiled next (e ∷ es) → AreFiled next ins → o ≡ Equal ⊎ (o ≡ Less ⊎ o ≡ Greater)
    → (is_eq o ≡ true → e.0.0 ≡ h.peer) → AreFiled next (match_ordering o (((h.peer, sequence), h) ∷ e ∷ es) ((e.0, h) ∷ es) (e ∷ ins))
filed_in_at Less next sequence h e es ins below filed rest which same = (refl, below, filed)
filed_in_at Equal next sequence h e es ins below filed rest which same = (same refl, filed.1, filed.2)
filed_in_at Greater next sequence h e es ins below filed rest which same = (filed.0, filed.1, rest)

any_ordering : (o : Ordering) → o ≡ Equal ⊎ (o ≡ Less ⊎ o ≡ Greater)
any_ordering Less = inr (inl refl)
any_ordering Equal = inl refl
any_ordering Greater = inr (inr refl)

pub is_equal : (o : Ordering) → is_eq o ≡ true → o ≡ Equal
is_equal Less h = cc
is_equal Equal h = refl
is_equal Greater h = cc

pub filed_in : (next sequence : ℕ) (h : Hint) (es : List ((ℕ × ℕ) × Hint)) → sequence < next → AreFiled next es → AreFiled next (insert_entry place_cmp es (h.peer, sequence) h)
filed_in next sequence h [] below filed = (refl, below, tt)
filed_in next sequence h (e ∷ es) below filed =
    filed_in_at (place_cmp (h.peer, sequence) e.0) next sequence h e es (insert_entry place_cmp es (h.peer, sequence) h) below filed (filed_in next sequence h es below filed.2) (any_ordering (place_cmp (h.peer, sequence) e.0))
    (λ same. sym (ap (λ (x : ℕ × ℕ). x.0) (place_exact (h.peer, sequence) e.0 (is_equal (place_cmp (h.peer, sequence) e.0) same))))

filed_out_at : (b : Bool) (next : ℕ) (e : (ℕ × ℕ) × Hint) (es left : List ((ℕ × ℕ) × Hint)) → AreFiled next (e ∷ es) → AreFiled next left → AreFiled next (if b then e ∷ left else left)
filed_out_at true next e es left filed rest = (filed.0, filed.1, rest)
filed_out_at false next e es left filed rest = rest

pub filed_filter : (q : (ℕ × ℕ) × Hint → Bool) (next : ℕ) (es : List ((ℕ × ℕ) × Hint)) → AreFiled next es → AreFiled next (filter q es)
filed_filter q next [] filed = tt
filed_filter q next (e ∷ es) filed = filed_out_at (q e) next e es (filter q es) filed (filed_filter q next es filed.2)

-- ---- the sequence that comes next is free

below_is_free : (next : ℕ) (peer : ℕ) (x : ℕ × ℕ) → x.1 < next → (b : Bool) → is_place (peer, next) x ≡ b → b ≡ false
below_is_free next peer x below false h = refl
below_is_free next peer x below true h = let same = ap (λ (y : ℕ × ℕ). y.1) (place_is (peer, next) x h) in absurd (omega (arith, below, same))

or_false : (a b : Bool) → a ≡ false → b ≡ false → (a || b) ≡ false
or_false true b h k = h
or_false false b h k = k

pub next_is_free : (next peer : ℕ) (es : List ((ℕ × ℕ) × Hint)) → AreFiled next es → IsVacant (peer, next) es
next_is_free next peer [] filed = refl
next_is_free next peer (e ∷ es) filed =
    or_false (is_place (peer, next) e.0) (list_any (λ x. is_place (peer, next) x.0) es) (below_is_free next peer e.0 filed.1 (is_place (peer, next) e.0) refl) (next_is_free next peer es filed.2)

-- ---- a hint comes

-- of those that pass a test, a peer's own
abbrev pub shown : ((ℕ × ℕ) × Hint → Bool) → ℕ → List ((ℕ × ℕ) × Hint) → List Hint
shown q peer es = hints_of (values_of (filter q es)) peer

front_if : (b : Bool) (h : Hint) (hs : List Hint) → (if b then h ∷ hs else hs) ≡ (if b then h ∷ [] else []) ++ hs
front_if true h hs = refl
front_if false h hs = refl

shown_if : (b : Bool) (peer : ℕ) (e : (ℕ × ℕ) × Hint) (es : List ((ℕ × ℕ) × Hint))
    → hints_of (values_of (if b then e ∷ es else es)) peer ≡ hints_of (values_of (if b then e ∷ [] else [])) peer ++ hints_of (values_of es) peer
shown_if true peer e es = front_if (e.1.peer == peer) e.1 (hints_of (values_of es) peer)
shown_if false peer e es = refl

pub shown_cons : (q : (ℕ × ℕ) × Hint → Bool) (peer : ℕ) (e : (ℕ × ℕ) × Hint) (es : List ((ℕ × ℕ) × Hint)) → shown q peer (e ∷ es) ≡ shown q peer (e ∷ []) ++ shown q peer es
shown_cons q peer e es = shown_if (q e) peer e (filter q es)

-- what is of another peer is not shown
other_if : (b : Bool) (peer : ℕ) (e : (ℕ × ℕ) × Hint) → (e.1.peer == peer) ≡ false → hints_of (values_of (if b then e ∷ [] else [])) peer ≡ []
other_if true peer e away = ap (λ (c : Bool). if c then e.1 ∷ [] else []) away
other_if false peer e away = refl

shown_other : (q : (ℕ × ℕ) × Hint → Bool) (peer : ℕ) (e : (ℕ × ℕ) × Hint) → (e.1.peer == peer) ≡ false → shown q peer (e ∷ []) ≡ []
shown_other q peer e away = other_if (q e) peer e away

-- behind the last sequence there are hints of others alone
later_if : (o p : Ordering) (a b sequence x : ℕ) → MatchOrdering p (sequence < x) (sequence ≡ x) (x < sequence) → MatchOrdering o (a < b) (a ≡ b) (b < a) → x < sequence → ordering_then o p ≡ Less → a < b
later_if Less p a b sequence x h k below less = k
later_if Equal Less a b sequence x h k below less = absurd (omega (arith, h, below))
later_if Equal Equal a b sequence x h k below less = cc
later_if Equal Greater a b sequence x h k below less = cc
later_if Greater p a b sequence x h k below less = cc

later_peer : (place x : ℕ × ℕ) → x.1 < place.1 → place_cmp place x ≡ Less → place.0 < x.0
later_peer place x below less =
    later_if (nat_cmp place.0 x.0) (nat_cmp place.1 x.1) place.0 x.0 place.1 x.1 (ranked place.1 x.1 (nat_cmp place.1 x.1) refl) (ranked place.0 x.0 (nat_cmp place.0 x.0) refl) below less

not_same : (a b : ℕ) → a < b → (c : Bool) → (b == a) ≡ c → c ≡ false
not_same a b less false h = refl
not_same a b less true h = let same = eqb-true b a h in absurd (omega (arith, less, same))

none_later : (q : (ℕ × ℕ) × Hint → Bool) (peer next : ℕ) (es : List ((ℕ × ℕ) × Hint)) → AreFiled next es → AllByRecursion (λ y. place_cmp (peer, next) y ≡ Less) (keys_of es) → shown q peer es ≡ []
none_later q peer next [] filed later = refl
none_later q peer next (e ∷ es) filed later =
    let above : peer < e.1.peer = subst (λ (k : ℕ). peer < k) filed.0 (later_peer (peer, next) e.0 filed.1 later.0) in
    shown_cons q peer e es
    ∙ ap (λ (hs : List Hint). hs ++ shown q peer es) (shown_other q peer e (not_same peer e.1.peer above (e.1.peer == peer) refl))
    ∙ none_later q peer next es filed.2 later.1

less_on : (place x : ℕ × ℕ) (ks : List (ℕ × ℕ)) → place_cmp place x ≡ Less → AllByRecursion (λ y. place_cmp x y ≡ Less) ks → AllByRecursion (λ y. place_cmp place y ≡ Less) ks
less_on place x [] less later = tt
less_on place x (k ∷ ks) less later = (place_total.trans place x k less later.0, less_on place x ks less later.1)

-- it comes behind those of its peer, or beside those of others
comes_before : (q : (ℕ × ℕ) × Hint → Bool) (peer next : ℕ) (h : Hint) (es : List ((ℕ × ℕ) × Hint)) → (b : Bool) → (h.peer == peer) ≡ b → AreFiled next es → AllByRecursion (λ y. place_cmp (h.peer, next) y ≡ Less) (keys_of es)
    → shown q peer (((h.peer, next), h) ∷ es) ≡ shown q peer es ++ shown q peer (((h.peer, next), h) ∷ [])
comes_before q peer next h es true mine filed later =
    let same = eqb-true h.peer peer mine in
    let none : shown q peer es ≡ [] = none_later q peer next es filed (subst (λ (k : ℕ). AllByRecursion (λ y. place_cmp (k, next) y ≡ Less) (keys_of es)) same later) in
    shown_cons q peer ((h.peer, next), h) es
    ∙ ap (λ (hs : List Hint). shown q peer (((h.peer, next), h) ∷ []) ++ hs) none
    ∙ append-nil (shown q peer (((h.peer, next), h) ∷ []))
    ∙ ap (λ (hs : List Hint). hs ++ shown q peer (((h.peer, next), h) ∷ [])) (sym none)
comes_before q peer next h es false mine filed later =
    let none : shown q peer (((h.peer, next), h) ∷ []) ≡ [] = shown_other q peer ((h.peer, next), h) mine in
    shown_cons q peer ((h.peer, next), h) es
    ∙ ap (λ (hs : List Hint). hs ++ shown q peer es) none
    ∙ sym (append-nil (shown q peer es))
    ∙ ap (λ (hs : List Hint). shown q peer es ++ hs) (sym none)

behind_at : (o : Ordering) (q : (ℕ × ℕ) × Hint → Bool) (peer next : ℕ) (h : Hint) (e : (ℕ × ℕ) × Hint) (es ins : List ((ℕ × ℕ) × Hint)) → place_cmp (h.peer, next) e.0 ≡ o → AreFiled next (e ∷ es)
    → AllByRecursion (λ y. place_cmp e.0 y ≡ Less) (keys_of es) → shown q peer ins ≡ shown q peer es ++ shown q peer (((h.peer, next), h) ∷ [])
    → shown q peer (match_ordering o (((h.peer, next), h) ∷ e ∷ es) ((e.0, h) ∷ es) (e ∷ ins)) ≡ shown q peer (e ∷ es) ++ shown q peer (((h.peer, next), h) ∷ [])
behind_at Less q peer next h e es ins is filed later rest = comes_before q peer next h (e ∷ es) (h.peer == peer) refl filed (is, less_on (h.peer, next) e.0 (keys_of es) is later)
behind_at Equal q peer next h e es ins is filed later rest =
    let same = ap (λ (x : ℕ × ℕ). x.1) (place_exact (h.peer, next) e.0 is) in
    let below = filed.1 in
    absurd (omega (arith, same, below))
behind_at Greater q peer next h e es ins is filed later rest =
    shown_cons q peer e ins
    ∙ ap (λ (hs : List Hint). shown q peer (e ∷ []) ++ hs) rest
    ∙ append_both (shown q peer (e ∷ [])) (shown q peer es) (shown q peer (((h.peer, next), h) ∷ []))
    ∙ ap (λ (hs : List Hint). hs ++ shown q peer (((h.peer, next), h) ∷ [])) (sym (shown_cons q peer e es))

behind_them : (q : (ℕ × ℕ) × Hint → Bool) (peer next : ℕ) (h : Hint) (es : List ((ℕ × ℕ) × Hint)) → AreFiled next es → IsStrictlySortedBy place_cmp (keys_of es)
    → shown q peer (insert_entry place_cmp es (h.peer, next) h) ≡ shown q peer es ++ shown q peer (((h.peer, next), h) ∷ [])
behind_them q peer next h [] filed sorted = refl
behind_them q peer next h (e ∷ es) filed sorted =
    behind_at (place_cmp (h.peer, next) e.0) q peer next h e es (insert_entry place_cmp es (h.peer, next) h) refl filed (sorted_head place_cmp e.0 (keys_of es) sorted)
    (behind_them q peer next h es filed.2 (sorted_tail place_cmp e.0 (keys_of es) sorted))

others_at : (o : Ordering) (q : (ℕ × ℕ) × Hint → Bool) (place : ℕ × ℕ) (h : Hint) (e : (ℕ × ℕ) × Hint) (es ins : List ((ℕ × ℕ) × Hint)) → (o ≡ Equal → ⊥) → q (place, h) ≡ false → filter q ins ≡ filter q es
    → filter q (match_ordering o ((place, h) ∷ e ∷ es) ((e.0, h) ∷ es) (e ∷ ins)) ≡ filter q (e ∷ es)
others_at Less q place h e es ins apart not_it rest = ap (λ (b : Bool). if b then (place, h) ∷ filter q (e ∷ es) else filter q (e ∷ es)) not_it
others_at Equal q place h e es ins apart not_it rest = absurd (apart refl)
others_at Greater q place h e es ins apart not_it rest = ap (λ (xs : List ((ℕ × ℕ) × Hint)). if q e then e ∷ xs else xs) rest

apart_from : (next peer : ℕ) (x : ℕ × ℕ) → x.1 < next → place_cmp (peer, next) x ≡ Equal → ⊥
apart_from next peer x below is = let same = ap (λ (y : ℕ × ℕ). y.1) (place_exact (peer, next) x is) in absurd (omega (arith, same, below))

others_stay : (q : (ℕ × ℕ) × Hint → Bool) (next : ℕ) (h : Hint) (es : List ((ℕ × ℕ) × Hint)) → AreFiled next es → q ((h.peer, next), h) ≡ false → filter q (insert_entry place_cmp es (h.peer, next) h) ≡ filter q es
others_stay q next h [] filed not_it = ap (λ (b : Bool). if b then ((h.peer, next), h) ∷ [] else []) not_it
others_stay q next h (e ∷ es) filed not_it =
    others_at (place_cmp (h.peer, next) e.0) q (h.peer, next) h e es (insert_entry place_cmp es (h.peer, next) h) (apart_from next h.peer e.0 filed.1) not_it (others_stay q next h es filed.2 not_it)

pub pushed : (next : ℕ) (h : Hint) (es : List ((ℕ × ℕ) × Hint)) → AreFiled next es → IsStrictlySortedBy place_cmp (keys_of es) → IsPushed es (h.peer, next) h (insert_entry place_cmp es (h.peer, next) h)
pushed next h es filed sorted = record {
  behind = λ q peer. behind_them q peer next h es filed sorted;
  others = λ q not_it. others_stay q next h es filed not_it;
}

-- and is counted
entry_at : (o : Ordering) (q : (ℕ × ℕ) × Hint → Bool) (place : ℕ × ℕ) (h : Hint) (e : (ℕ × ℕ) × Hint) (es ins : List ((ℕ × ℕ) × Hint)) → (o ≡ Equal → ⊥) → passing q ins ≡ one_if (q (place, h)) + passing q es
    → passing q (match_ordering o ((place, h) ∷ e ∷ es) ((e.0, h) ∷ es) (e ∷ ins)) ≡ one_if (q (place, h)) + passing q (e ∷ es)
entry_at Less q place h e es ins apart rest = passing_cons q (place, h) (e ∷ es)
entry_at Equal q place h e es ins apart rest = absurd (apart refl)
entry_at Greater q place h e es ins apart rest =
    let now = passing_cons q e ins in
    let was = passing_cons q e es in
    omega (arith, now, was, rest)

pub gains_entry : (q : (ℕ × ℕ) × Hint → Bool) (next : ℕ) (h : Hint) (es : List ((ℕ × ℕ) × Hint)) → AreFiled next es → passing q (insert_entry place_cmp es (h.peer, next) h) ≡ one_if (q ((h.peer, next), h)) + passing q es
gains_entry q next h [] filed = passing_cons q ((h.peer, next), h) []
gains_entry q next h (e ∷ es) filed =
    entry_at (place_cmp (h.peer, next) e.0) q (h.peer, next) h e es (insert_entry place_cmp es (h.peer, next) h) (apart_from next h.peer e.0 filed.1) (gains_entry q next h es filed.2)

-- ---- a hint goes

less_is_other : (place x : ℕ × ℕ) → place_cmp place x ≡ Less → is_place place x ≡ false
less_is_other place x less = sym (at_place place x) ∙ ap is_eq less

keep_if : (b : Bool) (e : (ℕ × ℕ) × Hint) (es left : List ((ℕ × ℕ) × Hint)) → b ≡ false → left ≡ es → (if not b then e ∷ left else left) ≡ e ∷ es
keep_if true e es left away rest = cc
keep_if false e es left away rest = ap (λ (xs : List ((ℕ × ℕ) × Hint)). e ∷ xs) rest

all_stay : (place : ℕ × ℕ) (es : List ((ℕ × ℕ) × Hint)) → AllByRecursion (λ y. place_cmp place y ≡ Less) (keys_of es) → filter (λ e. not (is_place place e.0)) es ≡ es
all_stay place [] later = refl
all_stay place (e ∷ es) later = keep_if (is_place place e.0) e es (filter (λ x. not (is_place place x.0)) es) (less_is_other place e.0 later.0) (all_stay place es later.1)

goes_at : (b : Bool) (place : ℕ × ℕ) (e : (ℕ × ℕ) × Hint) (es left kept : List ((ℕ × ℕ) × Hint)) → (b ≡ true → kept ≡ es) → left ≡ kept → (if b then es else e ∷ left) ≡ (if not b then e ∷ kept else kept)
goes_at true place e es left kept here rest = sym (here refl)
goes_at false place e es left kept here rest = ap (λ (xs : List ((ℕ × ℕ) × Hint)). e ∷ xs) rest

pub removed : (place : ℕ × ℕ) (es : List ((ℕ × ℕ) × Hint)) → IsStrictlySortedBy place_cmp (keys_of es) → remove_entry (is_at (place_cmp place)) es ≡ filter (λ e. not (is_place place e.0)) es
removed place [] sorted = refl
removed place (e ∷ es) sorted =
    ap (λ (b : Bool). if b then es else e ∷ remove_entry (is_at (place_cmp place)) es) (at_place place e.0)
    ∙ goes_at (is_place place e.0) place e es (remove_entry (is_at (place_cmp place)) es) (filter (λ x. not (is_place place x.0)) es)
    (λ here. all_stay place es (subst (λ (p : ℕ × ℕ). AllByRecursion (λ y. place_cmp p y ≡ Less) (keys_of es)) (place_is place e.0 here) (sorted_head place_cmp e.0 (keys_of es) sorted)))
    (removed place es (sorted_tail place_cmp e.0 (keys_of es) sorted))

some_injective : (x y : Hint) → Some x ≡ Some y → x ≡ y
some_injective x y e = cc

entry_goes : (o : Ordering) (q : (ℕ × ℕ) × Hint → Bool) (place : ℕ × ℕ) (h : Hint) (e : (ℕ × ℕ) × Hint) (es left : List ((ℕ × ℕ) × Hint)) (found : Option Hint) → (o ≡ Equal → place ≡ e.0)
    → (if is_eq o then Some e.1 else found) ≡ Some h → (found ≡ Some h → passing q es ≡ one_if (q (place, h)) + passing q left)
    → passing q (e ∷ es) ≡ one_if (q (place, h)) + passing q (if is_eq o then es else e ∷ left)
entry_goes Equal q place h e es left found exact there rest =
    passing_cons q e es ∙ ap (λ (x : (ℕ × ℕ) × Hint). one_if (q x) + passing q es) (ap (λ (p : ℕ × ℕ). (p, e.1)) (sym (exact refl)) ∙ ap (λ (g : Hint). (place, g)) (some_injective e.1 h there))
entry_goes Less q place h e es left found exact there rest =
    let now = passing_cons q e left in
    let was = passing_cons q e es in
    let more = rest there in
    omega (arith, now, was, more)
entry_goes Greater q place h e es left found exact there rest =
    let now = passing_cons q e left in
    let was = passing_cons q e es in
    let more = rest there in
    omega (arith, now, was, more)

pub loses_entry : (q : (ℕ × ℕ) × Hint → Bool) (place : ℕ × ℕ) (h : Hint) (es : List ((ℕ × ℕ) × Hint)) → lookup (is_at (place_cmp place)) es ≡ Some h
    → passing q es ≡ one_if (q (place, h)) + passing q (remove_entry (is_at (place_cmp place)) es)
loses_entry q place h [] there = cc
loses_entry q place h (e ∷ es) there =
    entry_goes (place_cmp place e.0) q place h e es (remove_entry (is_at (place_cmp place)) es) (lookup (is_at (place_cmp place)) es) (place_exact place e.0) there (loses_entry q place h es)

-- ---- one place, one hint

ahead : (place x : ℕ × ℕ) → place_cmp place x ≡ Less → (e : x ≡ place) → ⊥
ahead place x less e =
    let itself : place_cmp place x ≡ Equal = subst (λ (y : ℕ × ℕ). place_cmp place y ≡ Equal) (sym e) (tied_itself place_total place) in
    let clash : Less ≡ Equal = sym less ∙ itself in
    cc

later_at : (place : ℕ × ℕ) (es : List ((ℕ × ℕ) × Hint)) (e : (ℕ × ℕ) × Hint) → AllByRecursion (λ y. place_cmp place y ≡ Less) (keys_of es) → Contains es e → place_cmp place e.0 ≡ Less
later_at place [] e later h = absurd (contains_nil e h)
later_at place (x ∷ xs) e later h = elim (contains_cases x xs e h) [
  | inl here ↦ subst (λ (y : (ℕ × ℕ) × Hint). place_cmp place y.0 ≡ Less) here later.0
  | inr rest ↦ later_at place xs e later.1 rest
]

pub only_one : (es : List ((ℕ × ℕ) × Hint)) (x y : (ℕ × ℕ) × Hint) → IsStrictlySortedBy place_cmp (keys_of es) → Contains es x → Contains es y → x.0 ≡ y.0 → x ≡ y
only_one [] x y sorted hx hy same = absurd (contains_nil x hx)
only_one (e ∷ es) x y sorted hx hy same =
    let later = sorted_head place_cmp e.0 (keys_of es) sorted in
    elim (contains_cases e es x hx) [
      | inl x_here ↦ elim (contains_cases e es y hy) [
        | inl y_here ↦ sym x_here ∙ y_here
        | inr y_later ↦ absurd (ahead e.0 y.0 (later_at e.0 es y later y_later) (sym same ∙ ap (λ (z : (ℕ × ℕ) × Hint). z.0) (sym x_here)))
      ]
      | inr x_later ↦ elim (contains_cases e es y hy) [
        | inl y_here ↦ absurd (ahead e.0 x.0 (later_at e.0 es x later x_later) (same ∙ ap (λ (z : (ℕ × ℕ) × Hint). z.0) (sym y_here)))
        | inr y_later ↦ only_one es x y (sorted_tail place_cmp e.0 (keys_of es) sorted) x_later y_later same
      ]
    ]

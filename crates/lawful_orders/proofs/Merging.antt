-- Histories are merged by node time: entry by entry, each where its time comes.
use Rattle.std.proofs.Common.{◌≡◌, ◌≢◌, ◌⊎◌, ℕ, zero, suc, ◌+◌, ◌<◌, ◌≤◌, inl, inr, Bool, true, false, Some, List, [], ◌∷◌, Contains, length, map, refl, sym, ap, subst, ◌∙◌, arith, ltb-true, ltb-false, leb-true, leb-false}
use mathlib.Core.Logic.{dite}
use native.Mathlib.Decide.{ℕ_discrete}
use Rattle.std.specs.Prelude.{if◌then◌else◌, nat_le, nat_lt, slice_get}
use Rattle.peer_messages.specs.declared.setting.Setting.{Setting}
use Rattle.node_steps.specs.State.{NodeState}
use Rattle.cs_base.proofs.Members.{contains_cases, contains_here, contains_nil, contains_there}
use Rattle.cs_base.proofs.Slots.{some_one}
use Rattle.lawful_orders.specs.Histories.{Taken, AllStepThrough}
use Rattle.lawful_orders.specs.Orders.{Placed, history_in}
use Rattle.lawful_orders.specs.Ahead.{all_seen}
use Rattle.lawful_orders.specs.Merged.{IsByTime, IsNoLater}
use Rattle.lawful_orders.specs.Laws.{HistoriesMerge}
use Rattle.lawful_orders.proofs.Orders.{history_away, history_here}
use Rattle.lawful_orders.proofs.Places.{get_below, get_within}
use Rattle.lawful_orders.proofs.Sorting.{seen_steps}
use Rattle.lawful_orders.proofs.Times.{AreRising, history_rises}

-- p comes before q
abbrev is_first : Placed → Placed → Bool
is_first p q = if nat_lt p.taken.outputs.time q.taken.outputs.time then true else (if nat_lt q.taken.outputs.time p.taken.outputs.time then false else nat_le p.node q.node)

abbrev put : Placed → List Placed → List Placed
put p [] = p ∷ []
put p (q ∷ qs) = if is_first p q then p ∷ q ∷ qs else q ∷ put p qs

abbrev put_if : Bool → Placed → Placed → List Placed → List Placed
put_if b p q qs = if b then p ∷ q ∷ qs else q ∷ put p qs

abbrev put_all : ℕ → List Taken → List Placed → List Placed
put_all k [] ps = ps
put_all k (t ∷ ts) ps = put (record { node = k; taken = t }) (put_all k ts ps)

abbrev merged_from : ℕ → List (List Taken) → List Placed
merged_from k [] = []
merged_from k (h ∷ hs) = put_all k h (merged_from (k + 1) hs)

-- ---- what is in it

put_has_if : (p q : Placed) (qs : List Placed) (x : Placed) (b : Bool) → (Contains (put p qs) x → (p ≡ x) ⊎ Contains qs x) → Contains (put_if b p q qs) x → (p ≡ x) ⊎ Contains (q ∷ qs) x
put_has_if p q qs x true more h = contains_cases p (q ∷ qs) x h
put_has_if p q qs x false more h = elim (contains_cases q (put p qs) x h) [
  | inl same ↦ inr (subst (λ (y : Placed). Contains (q ∷ qs) y) same (contains_here q qs))
  | inr rest ↦ elim (more rest) [ inl is ↦ inl is | inr old ↦ inr (contains_there q qs x old) ]
]

put_has : (p : Placed) (ps : List Placed) (x : Placed) → Contains (put p ps) x → (p ≡ x) ⊎ Contains ps x
put_has p [] x h = contains_cases p [] x h
put_has p (q ∷ qs) x h = put_has_if p q qs x (is_first p q) (λ rest. put_has p qs x rest) h

put_all_has : (k : ℕ) (ts : List Taken) (ps : List Placed) (x : Placed) → Contains (put_all k ts ps) x → (x.node ≡ k) ⊎ Contains ps x
put_all_has k [] ps x h = inr h
put_all_has k (t ∷ ts) ps x h = elim (put_has (record { node = k; taken = t }) (put_all k ts ps) x h) [
  | inl same ↦ inl (sym (ap (λ (y : Placed). y.node) same))
  | inr rest ↦ put_all_has k ts ps x rest
]

merged_within : (k : ℕ) (hs : List (List Taken)) (x : Placed) → Contains (merged_from k hs) x → (k ≤ x.node) × (x.node < k + length hs)
merged_within k [] x h = absurd (contains_nil x h)
merged_within k (ts ∷ hs) x h = elim (put_all_has k ts (merged_from (k + 1) hs) x h) [
  | inl same ↦ (omega (arith, same), omega (arith, same))
  | inr rest ↦ let more = merged_within (k + 1) hs x rest in let low = more.0 in let high = more.1 in (omega (arith, low), omega (arith, high))
]

-- ---- it is in order

first_no_later : (p q : Placed) → is_first p q ≡ true → IsNoLater p q
first_no_later p q h = by (nat_lt p.taken.outputs.time q.taken.outputs.time) (nat_lt q.taken.outputs.time p.taken.outputs.time) refl refl h
  where
    by : (a b : Bool) → nat_lt p.taken.outputs.time q.taken.outputs.time ≡ a → nat_lt q.taken.outputs.time p.taken.outputs.time ≡ b → (if a then true else (if b then false else nat_le p.node q.node)) ≡ true → IsNoLater p q
    by true b less test h = inl (ltb-true p.taken.outputs.time q.taken.outputs.time less)
    by false true less more h = cc
    by false false less more h =
        let x = ltb-false p.taken.outputs.time q.taken.outputs.time less in
        let y = ltb-false q.taken.outputs.time p.taken.outputs.time more in
        inr (omega (arith, x, y), leb-true p.node q.node h)

not_first_later : (p q : Placed) → is_first p q ≡ false → IsNoLater q p
not_first_later p q h = by (nat_lt p.taken.outputs.time q.taken.outputs.time) (nat_lt q.taken.outputs.time p.taken.outputs.time) refl refl h
  where
    by : (a b : Bool) → nat_lt p.taken.outputs.time q.taken.outputs.time ≡ a → nat_lt q.taken.outputs.time p.taken.outputs.time ≡ b → (if a then true else (if b then false else nat_le p.node q.node)) ≡ false → IsNoLater q p
    by true b less test h = cc
    by false true less more h = inl (ltb-true q.taken.outputs.time p.taken.outputs.time more)
    by false false less more h =
        let x = ltb-false p.taken.outputs.time q.taken.outputs.time less in
        let y = ltb-false q.taken.outputs.time p.taken.outputs.time more in
        let z = leb-false p.node q.node h in
        inr (omega (arith, x, y), omega (arith, z))

no_later_on : (p q r : Placed) → IsNoLater p q → IsNoLater q r → IsNoLater p r
no_later_on p q r (inl a) (inl b) = inl (omega (arith, a, b))
no_later_on p q r (inl a) (inr (b, m)) = inl (omega (arith, a, b))
no_later_on p q r (inr (a, n)) (inl b) = inl (omega (arith, a, b))
no_later_on p q r (inr (a, n)) (inr (b, m)) = inr (a ∙ b, omega (arith, n, m))

not_later_too : (p q : Placed) → p.taken.outputs.time < q.taken.outputs.time → IsNoLater q p → ⊥
not_later_too p q less (inl more) = omega (arith, less, more)
not_later_too p q less (inr (same, node)) = omega (arith, less, same)

put_in_order_if : (p q : Placed) (qs : List Placed) (b : Bool) → is_first p q ≡ b → IsByTime (q ∷ qs) → IsByTime (put p qs) → IsByTime (put_if b p q qs)
put_in_order_if p q qs true test sorted more = (
  (λ x h. elim (contains_cases q qs x h) [
    | inl same ↦ subst (λ (y : Placed). IsNoLater p y) same (first_no_later p q test)
    | inr rest ↦ no_later_on p q x (first_no_later p q test) (sorted.0 x rest)
  ]),
  sorted,
)
put_in_order_if p q qs false test sorted more = (
  (λ x h. elim (put_has p qs x h) [
    | inl same ↦ subst (λ (y : Placed). IsNoLater q y) same (not_first_later p q test)
    | inr rest ↦ sorted.0 x rest
  ]),
  more,
)

put_in_order : (p : Placed) (ps : List Placed) → IsByTime ps → IsByTime (put p ps)
put_in_order p [] sorted = ((λ x h. absurd (contains_nil x h)), tt)
put_in_order p (q ∷ qs) sorted = put_in_order_if p q qs (is_first p q) refl sorted (put_in_order p qs sorted.1)

all_in_order : (k : ℕ) (ts : List Taken) (ps : List Placed) → IsByTime ps → IsByTime (put_all k ts ps)
all_in_order k [] ps sorted = sorted
all_in_order k (t ∷ ts) ps sorted = put_in_order (record { node = k; taken = t }) (put_all k ts ps) (all_in_order k ts ps sorted)

merged_in_order : (k : ℕ) (hs : List (List Taken)) → IsByTime (merged_from k hs)
merged_in_order k [] = tt
merged_in_order k (h ∷ hs) = all_in_order k h (merged_from (k + 1) hs) (merged_in_order (k + 1) hs)

-- ---- each node's order is kept

-- an entry of another node is put in
away_if : (k : ℕ) (p q : Placed) (qs : List Placed) (b : Bool) → p.node ≢ k → history_in k (put p qs) ≡ history_in k qs → history_in k (put_if b p q qs) ≡ history_in k (q ∷ qs)
away_if k p q qs true other more = history_away k p (q ∷ qs) other
away_if k p q qs false other more = dite (ℕ_discrete q.node k)
    (λ same. history_here k q (put p qs) same ∙ ap (λ (ts : List Taken). q.taken ∷ ts) more ∙ sym (history_here k q qs same))
    (λ differ. history_away k q (put p qs) differ ∙ more ∙ sym (history_away k q qs differ))

put_away : (k : ℕ) (p : Placed) (ps : List Placed) → p.node ≢ k → history_in k (put p ps) ≡ history_in k ps
put_away k p [] other = history_away k p [] other
put_away k p (q ∷ qs) other = away_if k p q qs (is_first p q) other (put_away k p qs other)

all_away : (j k : ℕ) (ts : List Taken) (ps : List Placed) → k ≢ j → history_in j (put_all k ts ps) ≡ history_in j ps
all_away j k [] ps other = refl
all_away j k (t ∷ ts) ps other = put_away j (record { node = k; taken = t }) (put_all k ts ps) other ∙ all_away j k ts ps other

-- an entry is put in that is earlier than those of its node
abbrev IsEarliest : Placed → List Placed → Type 0
IsEarliest p ps = (t : Taken) → Contains (history_in p.node ps) t → p.taken.outputs.time < t.outputs.time

here_if : (p q : Placed) (qs : List Placed) (b : Bool) → is_first p q ≡ b → IsEarliest p (q ∷ qs) → (IsEarliest p qs → history_in p.node (put p qs) ≡ p.taken ∷ history_in p.node qs) → history_in p.node (put_if b p q qs) ≡ p.taken ∷ history_in p.node (q ∷ qs)
here_if p q qs true test early more = history_here p.node p (q ∷ qs) refl
here_if p q qs false test early more = dite (ℕ_discrete q.node p.node)
    (λ same.
    let less = early q.taken (subst (λ (ts : List Taken). Contains ts q.taken) (sym (history_here p.node q qs same)) (contains_here q.taken (history_in p.node qs))) in
    absurd (not_later_too p q less (not_first_later p q test)))
    (λ differ.
    let rest : IsEarliest p qs = λ t h. early t (subst (λ (ts : List Taken). Contains ts t) (sym (history_away p.node q qs differ)) h) in
    history_away p.node q (put p qs) differ ∙ more rest ∙ ap (λ (ts : List Taken). p.taken ∷ ts) (sym (history_away p.node q qs differ)))

put_here : (p : Placed) (ps : List Placed) → IsEarliest p ps → history_in p.node (put p ps) ≡ p.taken ∷ history_in p.node ps
put_here p [] early = history_here p.node p [] refl
put_here p (q ∷ qs) early = here_if p q qs (is_first p q) refl early (λ rest. put_here p qs rest)

all_here : (k : ℕ) (ts : List Taken) (ps : List Placed) → history_in k ps ≡ [] → AreRising ts → history_in k (put_all k ts ps) ≡ ts
all_here k [] ps none rising = none
all_here k (t ∷ ts) ps none rising =
    let rest = all_here k ts ps none rising.1 in
    put_here (record { node = k; taken = t }) (put_all k ts ps) (λ u h. rising.0 u (subst (λ (us : List Taken). Contains us u) rest h)) ∙ ap (λ (us : List Taken). t ∷ us) rest

none_of : (k : ℕ) (ps : List Placed) → ((p : Placed) → Contains ps p → p.node ≢ k) → history_in k ps ≡ []
none_of k [] other = refl
none_of k (p ∷ ps) other = history_away k p ps (other p (contains_here p ps)) ∙ none_of k ps (λ q h. other q (contains_there p ps q h))

merged_each : (k : ℕ) (hs : List (List Taken)) → ((i : ℕ) (h : List Taken) → slice_get hs i ≡ Some h → AreRising h) → (i : ℕ) (h : List Taken) → slice_get hs i ≡ Some h → history_in (k + i) (merged_from k hs) ≡ h
merged_each k [] rising i h at = cc
merged_each k (ts ∷ hs) rising zero h at =
    let none = none_of k (merged_from (k + 1) hs) (λ p there same. let low = (merged_within (k + 1) hs p there).0 in omega (arith, low, same)) in
    let same : k + 0 ≡ k = omega arith in
    subst (λ (j : ℕ). history_in j (merged_from k (ts ∷ hs)) ≡ h) (sym same) (all_here k ts (merged_from (k + 1) hs) none (rising 0 ts refl) ∙ some_one at)
merged_each k (ts ∷ hs) rising (suc i) h at =
    let same : k + suc i ≡ (k + 1) + i = omega arith in
    subst (λ (j : ℕ). history_in j (merged_from k (ts ∷ hs)) ≡ h) (sym same)
    (all_away ((k + 1) + i) k ts (merged_from (k + 1) hs) (omega arith) ∙ merged_each (k + 1) hs (λ j g there. rising (suc j) g there) i h at)

-- ---- histories that nodes went through

all_rise : (c : Setting) (starts ends : List NodeState) (histories : List (List Taken)) → AllStepThrough c starts histories ends → (i : ℕ) (h : List Taken) → slice_get histories i ≡ Some h → AreRising h
all_rise c starts ends histories steps i h at =
    let below = get_within histories i h at in
    let first = get_below starts i (subst (λ (n : ℕ). i < n) steps.as_many below) in
    let last = get_below ends i (subst (λ (n : ℕ). i < n) (steps.as_many ∙ sym steps.as_many_ends) below) in
    history_rises c i first.0 last.0 h (steps.each i first.0 last.0 h first.1 at last.1)

pub histories_merge : HistoriesMerge
histories_merge c starts ends histories steps =
    let seen = map all_seen histories in
    let rising = all_rise c starts ends seen (seen_steps c starts ends histories steps) in (
      merged_from 0 seen,
      record {
        is_order = record {
          within = λ p h. let high = (merged_within 0 seen p h).1 in omega (arith, high);
          each = λ k h at. let same : 0 + k ≡ k = omega arith in subst (λ (j : ℕ). history_in j (merged_from 0 seen) ≡ h) same (merged_each 0 seen rising k h at);
        };
        by_time = merged_in_order 0 seen;
      },
    )

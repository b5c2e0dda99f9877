-- Which hints stand where: those that come are of one write, those that are left were there, and those that are sent are kept.
use Rattle.std.proofs.Common.{◌≡◌, ℕ, zero, suc, ◌⊎◌, inl, inr, Bool, true, false, List, [], ◌∷◌, filter, refl, subst, Contains}
use Rattle.std.specs.Prelude.{◌==◌, ◌&&◌, not, if◌then◌else◌, take}
use Rattle.std.proofs.lemmas.List.Elements.{Contains-append_cases}
use Rattle.cs_base.proofs.Members.{contains_nil, contains_cases, contains_here, contains_there, contains_one, contains_from_map, contains_from_filter}
use Rattle.changes.specs.declared.Mutation.{Mutation}
use Rattle.row_change.specs.declared.entry.Hint as hint
use Rattle.peer_messages.specs.declared.outcome.Outbound.{Outbound}
use Rattle.peer_messages.specs.declared.setting.Setting.{Setting}
use Rattle.durable_state.specs.Keeping.{without_hint}
use Rattle.node_steps.specs.State.{NodeState}
use Rattle.node_steps.specs.Fitting.{is_table}
use Rattle.node_steps.specs.Hints.{KeptHints, is_full, next_hint, with_hint, push_hint, pushed_hint, push_hints, pushed_hints, is_kept, drop_hint, first_hints, send_hint, sends_hints}

-- ---- hints that are sent

in_front : {X : Type 0} (n : ℕ) (xs : List X) (x : X) → Contains (take n xs) x → Contains xs x
in_front {X} zero xs x h = absurd (contains_nil x h)
in_front {X} (suc n) [] x h = h
in_front {X} (suc n) (y ∷ ys) x h = elim (contains_cases y (take n ys) x h) [
  | inl here ↦ subst (λ (z : X). Contains (y ∷ ys) z) here (contains_here y ys)
  | inr there ↦ contains_there y ys x (in_front n ys x there)
]

pub first_from : (c : Setting) (s : NodeState) (peer : ℕ) (h : hint.Hint) → Contains (first_hints c s peer) h → Contains s.hints h × (is_table c h.mutation.partition ≡ true) × ((h.peer == peer) ≡ true)
first_from c s peer h there =
    let front = in_front 64 (filter (λ y. is_table c y.mutation.partition) (filter (λ y. y.peer == peer) s.hints)) h there in
    let tabled = contains_from_filter (λ y. is_table c y.mutation.partition) (filter (λ y. y.peer == peer) s.hints) h front in
    let mine = contains_from_filter (λ y. y.peer == peer) s.hints h tabled.0 in
    (mine.0, tabled.1, mine.1)

pub sent_from : (c : Setting) (me : ℕ) (s : NodeState) (peer : ℕ) (x : Outbound) → Contains (sends_hints c me s peer) x
    → (h : hint.Hint) × Contains s.hints h × (is_table c h.mutation.partition ≡ true) × (send_hint me h ≡ x)
sent_from c me s peer x there =
    let made = contains_from_map (send_hint me) (first_hints c s peer) x there in
    let from = first_from c s peer made.0 made.1 in
    (made.0, from.0, from.1, made.2)

-- ---- hints that are left

dropped_if : (b : Bool) (peer number : ℕ) (k : KeptHints) (h : hint.Hint) → Contains (if b then record k { hints = without_hint k.hints peer number } else k).hints h → Contains k.hints h
dropped_if true peer number k h there = (contains_from_filter (λ x. not ((x.peer == peer) && (x.number == number))) k.hints h there).0
dropped_if false peer number k h there = there

pub dropped_from : (peer number : ℕ) (k : KeptHints) (h : hint.Hint) → Contains (drop_hint peer number k).hints h → Contains k.hints h
dropped_from peer number k h there = dropped_if (is_kept k peer number) peer number k h there

-- ---- hints that come

-- the hint is of this write
abbrev pub IsOfWrite : ℕ → Mutation → hint.Hint → Type 0
IsOfWrite born m h = (h.born ≡ born) × (h.mutation ≡ m)

pushed_if : (full : Bool) (k : KeptHints) (new h : hint.Hint) → Contains (if full then k else with_hint new k).hints h → Contains k.hints h ⊎ (new ≡ h)
pushed_if true k new h there = inl there
pushed_if false k new h there = elim (Contains-append_cases k.hints (new ∷ []) h there) [ inl old ↦ inl old | inr here ↦ inr (contains_one new h here) ]

is_next : (p born : ℕ) (m : Mutation) (k : KeptHints) (h : hint.Hint) → next_hint p born m k ≡ h → IsOfWrite born m h
is_next p born m k h is = subst (λ (x : hint.Hint). IsOfWrite born m x) is (refl, refl)

pub pushed_from : (ps : List ℕ) (born : ℕ) (m : Mutation) (k : KeptHints) (h : hint.Hint) → Contains (push_hints ps born m k).hints h → Contains k.hints h ⊎ IsOfWrite born m h
pushed_from [] born m k h there = inl there
pushed_from (p ∷ ps) born m k h there = elim (pushed_from ps born m (push_hint p born m k) h there) [
  | inl before ↦ elim (pushed_if (is_full k p) k (next_hint p born m k) h before) [ inl old ↦ inl old | inr here ↦ inr (is_next p born m k h here) ]
  | inr new ↦ inr new
]

made_if : (full : Bool) (new h : hint.Hint) → Contains (if full then [] else new ∷ []) h → new ≡ h
made_if true new h there = absurd (contains_nil h there)
made_if false new h there = contains_one new h there

pub made_from : (ps : List ℕ) (born : ℕ) (m : Mutation) (k : KeptHints) (h : hint.Hint) → Contains (pushed_hints ps born m k) h → IsOfWrite born m h
made_from [] born m k h there = absurd (contains_nil h there)
made_from (p ∷ ps) born m k h there = elim (Contains-append_cases (pushed_hint p born m k) (pushed_hints ps born m (push_hint p born m k)) h there) [
  | inl first ↦ is_next p born m k h (made_if (is_full k p) (next_hint p born m k) h first)
  | inr rest ↦ made_from ps born m (push_hint p born m k) h rest
]

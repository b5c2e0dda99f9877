-- What the moves of a step make of the open requests of its node, one after another.
use Rattle.std.proofs.Common.{◌≡◌, ◌≢◌, ℕ, zero, suc, inl, inr, ◌⊎◌, ◌≤◌, ◌<◌, ◌+◌, Bool, true, false, List, [], ◌∷◌, ◌++◌, append-nil, refl, sym, ap, subst, ◌∙◌, arith, Contains}
use Rattle.std.specs.Prelude.{◌↔◌, if◌then◌else◌, flat_map}
use Rattle.std.proofs.lemmas.Grind.{flat_map-append}
use Rattle.std.proofs.lemmas.List.Elements.{Contains-append_cases, Contains-append_left, Contains-append_right}
use Rattle.cs_base.specs.declared.ids.ReqId.{ReqId}
use Rattle.cs_base.specs.Requests.{is_request}
use Rattle.cs_base.proofs.Members.{contains_nil, contains_here, contains_one}
use Rattle.peer_messages.specs.declared.chronicle.Entry.{Entry}
use Rattle.peer_messages.specs.declared.setting.Setting.{Setting}
use Rattle.node_steps.specs.State.{NodeState}
use Rattle.node_steps.specs.Effects.{Effects}
use Rattle.node_steps.specs.Acts.{Act, Deed, Does, request_at}
use Rattle.node_steps.specs.Steps.{entries_of}
use Rattle.cluster_runs.proofs.Submissions.{same_request, itself}
use Rattle.answer_causes.specs.Story.{answers_to, one_if}
use Rattle.answer_causes.proofs.Entries.{same_or_other}
use Rattle.answer_causes.proofs.Turns.{IsOpen, IsHere, IsNeat, Turn, Turns, Begun, IsAsk, open_here, does_turns}
use Rattle.answer_causes.proofs.Turns.Turn.{still, told, opens, refuses}

-- ---- counting

pub answers_append : (xs ys : List Entry) (q : ReqId) → answers_to (xs ++ ys) q ≡ answers_to xs q + answers_to ys q
answers_append [] ys q = omega arith
answers_append (x ∷ xs) ys q = let rest = answers_append xs ys q in omega (arith, rest)

abbrev pub Told : List Deed → ReqId → ℕ
Told deeds q = answers_to (flat_map entries_of deeds) q

told_push : (deeds : List Deed) (d : Deed) (q : ReqId) → Told (deeds ++ d ∷ []) q ≡ Told deeds q + answers_to d.effects.entries q
told_push deeds d q =
    ap (λ (xs : List Entry). answers_to xs q) (flat_map-append entries_of deeds (d ∷ []) ∙ ap (λ (xs : List Entry). flat_map entries_of deeds ++ xs) (append-nil d.effects.entries))
    ∙ answers_append (flat_map entries_of deeds) d.effects.entries q

one_most : (b : Bool) → one_if b + 0 ≤ 1
one_most true = omega arith
one_most false = omega arith

both_true : (a b : Bool) → (if a then b else false) ≡ true → (a ≡ true) × (b ≡ true)
both_true true b h = (refl, h)
both_true false b h = cc

-- ---- the request that a step begins

abbrev pub AskedIn : List Deed → Type 0
AskedIn deeds = (d : Deed) × Contains deeds d × IsAsk d.act

abbrev pub NewAt : ℕ → ℕ → List Deed → ReqId → Type 0
NewAt k t deeds q = Begun (AskedIn deeds) (request_at k t) q

new_more : (k t : ℕ) (deeds : List Deed) (d : Deed) (q : ReqId) → NewAt k t deeds q → NewAt k t (deeds ++ d ∷ []) q
new_more k t deeds d q h = ((h.0.0, Contains-append_left deeds (d ∷ []) h.0.0 h.0.1, h.0.2), h.1)

new_split : (k t : ℕ) (deeds : List Deed) (d : Deed) (q : ReqId) → NewAt k t (deeds ++ d ∷ []) q → NewAt k t deeds q ⊎ Begun (IsAsk d.act) (request_at k t) q
new_split k t deeds d q h = elim (Contains-append_cases deeds (d ∷ []) h.0.0 h.0.1) [
  | inl old ↦ inl ((h.0.0, old, h.0.2), h.1)
  | inr last ↦ inr (subst (λ (x : Deed). IsAsk x.act) (sym (contains_one d h.0.0 last)) h.0.2, h.1)
]

new_last : (k t : ℕ) (deeds : List Deed) (d : Deed) (q : ReqId) → Begun (IsAsk d.act) (request_at k t) q → NewAt k t (deeds ++ d ∷ []) q
new_last k t deeds d q h = ((d, Contains-append_right deeds (d ∷ []) d (contains_here d []), h.0), h.1)

-- ---- so far

-- by these moves from s node k has come to mid, at time t of a step: what was open or begun and is not answered is open
pub record Facts (k t : ℕ) (s : NodeState) (deeds : List Deed) (mid : NodeState) : Type 0 where
  pub neat : IsNeat mid
  pub here : (q : ReqId) → IsHere mid q → IsHere s q ⊎ NewAt k t deeds q
  pub opened : (q : ReqId) → IsOpen mid q ↔ ((IsOpen s q ⊎ NewAt k t deeds q) × (Told deeds q ≡ 0))
  pub once : (q : ReqId) → Told deeds q ≤ 1
  pub from : (q : ReqId) → Told deeds q ≢ 0 → IsOpen s q ⊎ NewAt k t deeds q

-- the requests of a state began before this time
abbrev pub AreOld : ℕ → NodeState → Type 0
AreOld t s = (q : ReqId) → IsHere s q → q.time < t

not_both : (n : ℕ) → (n ≡ 0) ⊎ (n ≢ 0)
not_both zero = inl refl
not_both (suc n) = inr (λ e. omega (arith, e))

old_not_new : (k t : ℕ) (s : NodeState) (q : ReqId) → AreOld t s → IsOpen s q → q ≡ request_at k t → ⊥
old_not_new k t s q old h is =
    let before = old q (open_here s q h) in
    let time : q.time ≡ t = ap (λ (x : ReqId). x.time) is in
    omega (arith, before, time)

-- what was answered before is not the one that is begun now
fresh_count : (k t : ℕ) (s : NodeState) (deeds : List Deed) (mid : NodeState) (q : ReqId) → Facts k t s deeds mid → AreOld t s → (AskedIn deeds → ⊥) → q ≡ request_at k t → Told deeds q ≡ 0
fresh_count k t s deeds mid q f old fresh is = elim (not_both (Told deeds q)) [
  | inl none ↦ none
  | inr some ↦ elim (f.from q some) [ inl was ↦ absurd (old_not_new k t s q old was is) | inr new ↦ absurd (fresh new.0) ]
]

count_other_by : (b : Bool) (id q : ReqId) → is_request id q ≡ b → q ≢ id → one_if b + 0 ≡ 0
count_other_by true id q is other = absurd (other (sym (same_request id q is)))
count_other_by false id q is other = omega arith

count_other : (id q : ReqId) → q ≢ id → one_if (is_request id q) + 0 ≡ 0
count_other id q other = count_other_by (is_request id q) id q refl other

count_same : (id q : ReqId) → q ≡ id → one_if (is_request id q) + 0 ≡ 1
count_same id q is = ap (λ (x : ReqId). one_if (is_request id x) + 0) is ∙ (ap (λ (b : Bool). one_if b + 0) (itself id) ∙ (let e : 1 + 0 ≡ 1 = omega arith in e))

-- ---- one move more

abbrev pub deed_of : ℕ → Act → NodeState → NodeState → Effects → Deed
deed_of k a mid s' o = record { node = k; act = a; before = mid; after = s'; effects = o }

pub record Coming (k t : ℕ) (s : NodeState) (deeds : List Deed) (mid : NodeState) (a : Act) : Type 0 where
  pub facts : Facts k t s deeds mid
  pub time : IsAsk a → mid.risen ≡ t
  pub fresh : IsAsk a → AskedIn deeds → ⊥
  pub old : AreOld t s

to_t : (k t n : ℕ) (B : Type 0) (q : ReqId) → (B → n ≡ t) → Begun B (request_at k n) q → Begun B (request_at k t) q
to_t k t n B q time h = (h.0, h.1 ∙ ap (λ (x : ℕ). request_at k x) (time h.0))

from_t : (k t n : ℕ) (B : Type 0) (q : ReqId) → (B → n ≡ t) → Begun B (request_at k t) q → Begun B (request_at k n) q
from_t k t n B q time h = (h.0, h.1 ∙ ap (λ (x : ℕ). request_at k x) (sym (time h.0)))

widen : (k t : ℕ) (s : NodeState) (deeds : List Deed) (d : Deed) (q : ReqId) → IsOpen s q ⊎ NewAt k t deeds q → IsOpen s q ⊎ NewAt k t (deeds ++ d ∷ []) q
widen k t s deeds d q h = elim h [ inl l ↦ inl l | inr r ↦ inr (new_more k t deeds d q r) ]

sum_none : (n m x : ℕ) → x ≡ n + m → n ≡ 0 → m ≡ 0 → x ≡ 0
sum_none n m x is a b = omega (arith, is, a, b)

left_none : (n m x : ℕ) → x ≡ n + m → x ≡ 0 → n ≡ 0
left_none n m x is a = omega (arith, is, a)

right_none : (n m x : ℕ) → x ≡ n + m → x ≡ 0 → m ≡ 0
right_none n m x is a = omega (arith, is, a)

left_some : (n m x : ℕ) → x ≡ n + m → m ≡ 0 → x ≢ 0 → n ≢ 0
left_some n m x is b some e = some (omega (arith, is, b, e))

sum_left : (n m x : ℕ) → x ≡ n + m → m ≡ 0 → n ≤ 1 → x ≤ 1
sum_left n m x is b most = omega (arith, is, b, most)

sum_right : (n m x : ℕ) → x ≡ n + m → n ≡ 0 → m ≡ 1 → x ≤ 1
sum_right n m x is a b = omega (arith, is, a, b)

one_not_none : (n : ℕ) → n ≡ 1 → n ≡ 0 → ⊥
one_not_none n a b = omega (arith, a, b)

here_on : (k t : ℕ) (s : NodeState) (deeds : List Deed) (mid : NodeState) (a : Act) (o : Effects) (s' : NodeState) → Coming k t s deeds mid a → Turns (Begun (IsAsk a) (request_at k mid.risen)) mid o s' → (q : ReqId) → IsHere s' q
    → IsHere s q ⊎ NewAt k t (deeds ++ deed_of k a mid s' o ∷ []) q
here_on k t s deeds mid a o s' x h q there = elim (h.here q there) [
  | inl was ↦ elim (x.facts.here q was) [ inl first ↦ inl first | inr new ↦ inr (new_more k t deeds (deed_of k a mid s' o) q new) ]
  | inr now ↦ inr (new_last k t deeds (deed_of k a mid s' o) q (to_t k t mid.risen (IsAsk a) q x.time now))
]

-- where the move begins nothing, what is begun by the moves was begun before
narrow : (k t : ℕ) (s : NodeState) (deeds : List Deed) (d : Deed) (q : ReqId) → (Begun (IsAsk d.act) (request_at k t) q → ⊥) → IsOpen s q ⊎ NewAt k t (deeds ++ d ∷ []) q → IsOpen s q ⊎ NewAt k t deeds q
narrow k t s deeds d q not_now h = elim h [ inl l ↦ inl l | inr r ↦ elim (new_split k t deeds d q r) [ inl old ↦ inr old | inr now ↦ absurd (not_now now) ] ]

turn_on : (k t : ℕ) (s : NodeState) (deeds : List Deed) (mid : NodeState) (a : Act) (o : Effects) (s' : NodeState) → Coming k t s deeds mid a → Turns (Begun (IsAsk a) (request_at k mid.risen)) mid o s' → Turn (Begun (IsAsk a) (request_at k mid.risen)) mid o s'
    → Facts k t s (deeds ++ deed_of k a mid s' o ∷ []) s'
turn_on k t s deeds mid a o s' x h (still never f g) =
    let d = deed_of k a mid s' o in
    let p : (q : ReqId) → Told (deeds ++ d ∷ []) q ≡ Told deeds q + answers_to o.entries q = told_push deeds d in
    record {
      neat = h.neat;
      here = here_on k t s deeds mid a o s' x h;
      opened = λ q. (
        λ y. let was = (x.facts.opened q).0 ((f q).0 y) in (widen k t s deeds d q was.0, sum_none _ _ _ (p q) was.1 (g q)),
        λ y. (f q).1 ((x.facts.opened q).1 (narrow k t s deeds d q (λ now. never q (from_t k t mid.risen (IsAsk a) q x.time now)) y.0, left_none _ _ _ (p q) y.1)),
      );
      once = λ q. sum_left _ _ _ (p q) (g q) (x.facts.once q);
      from = λ q some. widen k t s deeds d q (x.facts.from q (left_some _ _ _ (p q) (g q) some));
    }
turn_on k t s deeds mid a o s' x h (told never id was f g) =
    let d = deed_of k a mid s' o in
    let p : (q : ReqId) → Told (deeds ++ d ∷ []) q ≡ Told deeds q + answers_to o.entries q = told_push deeds d in
    let other : (q : ReqId) → q ≢ id → answers_to o.entries q ≡ 0 = λ q away. g q ∙ count_other id q away in
    let first = (x.facts.opened id).0 was in
    record {
      neat = h.neat;
      here = here_on k t s deeds mid a o s' x h;
      opened = λ q. (
        λ y.
            let there = (f q).0 y in
            let old = (x.facts.opened q).0 there.0 in
            (widen k t s deeds d q old.0, sum_none _ _ _ (p q) old.1 (other q there.1)),
        λ y. (f q).1 (
          (x.facts.opened q).1 (narrow k t s deeds d q (λ now. never q (from_t k t mid.risen (IsAsk a) q x.time now)) y.0, left_none _ _ _ (p q) y.1),
          λ same. one_not_none _ (g q ∙ count_same id q same) (right_none _ _ _ (p q) y.1),
        ),
      );
      once = λ q. elim (same_or_other id q) [
        | inl same ↦ sum_right _ _ _ (p q) (subst (λ (r : ReqId). Told deeds r ≡ 0) (sym same) first.1) (g q ∙ count_same id q same)
        | inr away ↦ sum_left _ _ _ (p q) (other q away) (x.facts.once q)
      ];
      from = λ q some. elim (same_or_other id q) [
        | inl same ↦ widen k t s deeds d q (subst (λ (r : ReqId). IsOpen s r ⊎ NewAt k t deeds r) (sym same) first.0)
        | inr away ↦ widen k t s deeds d q (x.facts.from q (left_some _ _ _ (p q) (other q away) some))
      ];
    }
turn_on k t s deeds mid a o s' x h (opens f g) =
    let d = deed_of k a mid s' o in
    let p : (q : ReqId) → Told (deeds ++ d ∷ []) q ≡ Told deeds q + answers_to o.entries q = told_push deeds d in
    record {
      neat = h.neat;
      here = here_on k t s deeds mid a o s' x h;
      opened = λ q. (
        λ y. elim ((f q).0 y) [
          | inl there ↦ let was = (x.facts.opened q).0 there in (widen k t s deeds d q was.0, sum_none _ _ _ (p q) was.1 (g q))
          | inr now ↦
              let new = to_t k t mid.risen (IsAsk a) q x.time now in
              (inr (new_last k t deeds d q new), sum_none _ _ _ (p q) (fresh_count k t s deeds mid q x.facts x.old (x.fresh now.0) new.1) (g q))
        ],
        λ y. elim y.0 [
          | inl was ↦ (f q).1 (inl ((x.facts.opened q).1 (inl was, left_none _ _ _ (p q) y.1)))
          | inr new ↦ elim (new_split k t deeds d q new) [
            | inl old ↦ (f q).1 (inl ((x.facts.opened q).1 (inr old, left_none _ _ _ (p q) y.1)))
            | inr now ↦ (f q).1 (inr (from_t k t mid.risen (IsAsk a) q x.time now))
          ]
        ],
      );
      once = λ q. sum_left _ _ _ (p q) (g q) (x.facts.once q);
      from = λ q some. widen k t s deeds d q (x.facts.from q (left_some _ _ _ (p q) (g q) some));
    }
turn_on k t s deeds mid a o s' x h (refuses id new f g) =
    let d = deed_of k a mid s' o in
    let p : (q : ReqId) → Told (deeds ++ d ∷ []) q ≡ Told deeds q + answers_to o.entries q = told_push deeds d in
    let other : (q : ReqId) → q ≢ id → answers_to o.entries q ≡ 0 = λ q away. g q ∙ count_other id q away in
    let at = (to_t k t mid.risen (IsAsk a) id x.time new).1 in
    let none : (q : ReqId) → q ≡ id → Told deeds q ≡ 0 = λ q same. fresh_count k t s deeds mid q x.facts x.old (x.fresh new.0) (same ∙ at) in
    record {
      neat = h.neat;
      here = here_on k t s deeds mid a o s' x h;
      opened = λ q. (
        λ y.
            let was = (x.facts.opened q).0 ((f q).0 y) in
            let away : q ≢ id = λ same. elim was.0 [ inl first ↦ old_not_new k t s q x.old first (same ∙ at) | inr earlier ↦ x.fresh new.0 earlier.0 ] in
            (widen k t s deeds d q was.0, sum_none _ _ _ (p q) was.1 (other q away)),
        λ y.
            let away : q ≢ id = λ same. one_not_none _ (g q ∙ count_same id q same) (right_none _ _ _ (p q) y.1) in
            (f q).1 ((x.facts.opened q).1 (narrow k t s deeds d q (λ now. away (now.1 ∙ sym at)) y.0, left_none _ _ _ (p q) y.1)),
      );
      once = λ q. elim (same_or_other id q) [
        | inl same ↦ sum_right _ _ _ (p q) (none q same) (g q ∙ count_same id q same)
        | inr away ↦ sum_left _ _ _ (p q) (other q away) (x.facts.once q)
      ];
      from = λ q some. elim (same_or_other id q) [
        | inl same ↦ inr (new_last k t deeds d q (new.0, same ∙ at))
        | inr away ↦ widen k t s deeds d q (x.facts.from q (left_some _ _ _ (p q) (other q away) some))
      ];
    }

pub facts_on : (c : Setting) (k t : ℕ) (s : NodeState) (deeds : List Deed) (mid : NodeState) (a : Act) (o : Effects) (s' : NodeState) → Coming k t s deeds mid a → Does c k mid a o s' → Facts k t s (deeds ++ deed_of k a mid s' o ∷ []) s'
facts_on c k t s deeds mid a o s' x does =
    let new : IsAsk a → IsHere mid (request_at k mid.risen) → ⊥ =
    λ ask there. elim (x.facts.here (request_at k mid.risen) there) [
      | inl first ↦ (let before = x.old (request_at k mid.risen) first in let time = x.time ask in let e : mid.risen < t = before in omega (arith, e, time))
      | inr earlier ↦ x.fresh ask earlier.0
    ] in
    let h = does_turns c k mid a o s' x.facts.neat new does in
    turn_on k t s deeds mid a o s' x h h.turn

pub first_facts : (k t : ℕ) (s : NodeState) → IsNeat s → Facts k t s [] s
first_facts k t s neat = record {
  neat = neat;
  here = λ q h. inl h;
  opened = λ q. (λ h. (inl h, refl), λ h. elim h.0 [ inl was ↦ was | inr new ↦ absurd (contains_nil new.0.0 new.0.1) ]);
  once = λ q. omega arith;
  from = λ q some. absurd (some refl);
}

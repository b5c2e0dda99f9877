-- The moves of a whole step: what is due, and then the event's own matter.
use Rattle.std.proofs.Common.{◌≡◌, ℕ, inl, inr, ◌⊎◌, Bool, true, false, List, [], ◌∷◌, ◌++◌, refl, sym, ap, subst, ◌∙◌, Contains}
use Rattle.std.specs.Prelude.{◌==◌, if◌then◌else◌}
use Rattle.std.proofs.lemmas.List.Elements.{Contains-append_cases, Contains-append_left, Contains-append_right}
use Rattle.cs_base.proofs.Members.{contains_nil, contains_here, contains_there, contains_cases, contains_one}
use Rattle.peer_messages.specs.declared.outcome.Outbound.{Outbound}
use Rattle.peer_messages.specs.declared.setting.Setting.{Setting}
use Rattle.node_steps.specs.State.{NodeState}
use Rattle.node_steps.specs.Effects.{Effects}
use Rattle.node_steps.specs.Acts.{Act, Rises, Hears, Asks, Marks, DeadlineComes, HintExpires, Deed, Does, Chain, own_sends}
use Rattle.node_steps.specs.Acts.Chain.{begun, own, matter}
use Rattle.cluster_runs.proofs.Times.{IsSteady, IsAtOnce, does_at_once}
use Rattle.answer_causes.proofs.Turns.{IsNeat, IsAsk}
use Rattle.answer_causes.proofs.Steps.{AskedIn, Facts, AreOld, deed_of, facts_on, first_facts}

-- ---- what a node sends to itself it hears

abbrev pub IsHeard : Act → Type 0
IsHeard (Hears m) = Unit {0}
IsHeard (Rises t) = ⊥
IsHeard (Asks ask) = ⊥
IsHeard (Marks peer up) = ⊥
IsHeard (DeadlineComes id) = ⊥
IsHeard (HintExpires peer number) = ⊥

heard_first : (b : Bool) (a : Act) (xs : List Act) → IsHeard a → ((x : Act) → Contains xs x → IsHeard x) → (x : Act) → Contains (if b then a ∷ xs else xs) x → IsHeard x
heard_first true a xs first rest x h = elim (contains_cases a xs x h) [ inl here ↦ subst (λ (y : Act). IsHeard y) here first | inr more ↦ rest x more ]
heard_first false a xs first rest x h = rest x h

own_heard : (k : ℕ) (xs : List Outbound) (x : Act) → Contains (own_sends k xs) x → IsHeard x
own_heard k [] x h = absurd (contains_nil x h)
own_heard k (y ∷ ys) x h = heard_first (y.upto == k) (Hears (record { from = k; born = y.born; request = y.request; body = y.body })) (own_sends k ys) tt (own_heard k ys) x h

heard_not_ask : (a : Act) → IsHeard a → IsAsk a → ⊥
heard_not_ask a h ask = subst (λ (x : Act). IsHeard x) ask.1 h

heard_steady : (a : Act) → IsHeard a → IsSteady a
heard_steady (Hears m) h = tt
heard_steady (Rises t) h = absurd h
heard_steady (Asks ask) h = absurd h
heard_steady (Marks peer up) h = absurd h
heard_steady (DeadlineComes id) h = absurd h
heard_steady (HintExpires peer number) h = absurd h

-- ---- the matters of a step: time rises once, and a request is the last

abbrev pub IsLastAsk : List Act → Type 0
IsLastAsk [] = Unit {0}
IsLastAsk (Rises t ∷ ms) = ⊥
IsLastAsk (Asks ask ∷ ms) = ms ≡ []
IsLastAsk (Hears m ∷ ms) = IsLastAsk ms
IsLastAsk (Marks peer up ∷ ms) = IsLastAsk ms
IsLastAsk (DeadlineComes id ∷ ms) = IsLastAsk ms
IsLastAsk (HintExpires peer number ∷ ms) = IsLastAsk ms

last_steady : (a : Act) (ms : List Act) → IsLastAsk (a ∷ ms) → IsSteady a
last_steady (Rises t) ms h = absurd h
last_steady (Asks ask) ms h = tt
last_steady (Hears m) ms h = tt
last_steady (Marks peer up) ms h = tt
last_steady (DeadlineComes id) ms h = tt
last_steady (HintExpires peer number) ms h = tt

last_rest : (a : Act) (ms : List Act) → IsLastAsk (a ∷ ms) → IsLastAsk ms
last_rest (Rises t) ms h = absurd h
last_rest (Asks ask) ms h = subst (λ (xs : List Act). IsLastAsk xs) (sym h) tt
last_rest (Hears m) ms h = h
last_rest (Marks peer up) ms h = h
last_rest (DeadlineComes id) ms h = h
last_rest (HintExpires peer number) ms h = h

last_none : (a : Act) (ms : List Act) → IsLastAsk (a ∷ ms) → IsAsk a → ms ≡ []
last_none a ms h ask = subst (λ (x : Act). IsLastAsk (x ∷ ms)) ask.1 h

abbrev pub HasAsk : List Act → Type 0
HasAsk ms = (a : Act) × Contains ms a × IsAsk a

-- node time has risen to this, in this step
pub record IsAt (t : ℕ) (s : NodeState) : Type 0 where
  pub time : s.time ≡ t
  pub risen : s.risen ≡ t

at_on : (t : ℕ) (s s' : NodeState) → IsAtOnce s s' → IsAt t s → IsAt t s'
at_on t s s' h at = record { time = h.time ∙ at.time; risen = h.risen ∙ at.risen }

pub data Stage (t : ℕ) (ms : List Act) (s : NodeState) : List Deed → NodeState → List Act → List Act → Type 0 where
  at_start : Stage t ms s [] s [] (Rises t ∷ ms)
  going : (deeds : List Deed) (s' : NodeState) (pending left : List Act) → IsAt t s' → IsLastAsk left → (HasAsk left → AskedIn deeds → ⊥) → Stage t ms s deeds s' pending left

pub record Sofar (k t : ℕ) (ms : List Act) (s : NodeState) (deeds : List Deed) (s' : NodeState) (pending left : List Act) : Type 0 where
  pub facts : Facts k t s deeds s'
  pub heard : (a : Act) → Contains pending a → IsHeard a
  pub stage : Stage t ms s deeds s' pending left

asked_push : (deeds : List Deed) (d : Deed) → (IsAsk d.act → ⊥) → AskedIn (deeds ++ d ∷ []) → AskedIn deeds
asked_push deeds d none h = elim (Contains-append_cases deeds (d ∷ []) h.0 h.1) [
  | inl old ↦ (h.0, old, h.2)
  | inr last ↦ absurd (none (subst (λ (x : Deed). IsAsk x.act) (sym (contains_one d h.0 last)) h.2))
]

nil_cons : {X : Type 0} (x : X) (xs : List X) → [] ≡ x ∷ xs → ⊥
nil_cons x xs e = cc

heads : (a b : Act) (xs ys : List Act) → a ∷ xs ≡ b ∷ ys → (a ≡ b) × (xs ≡ ys)
heads a b xs ys e = (cc, cc)

rises_not : (t : ℕ) → IsAsk (Rises t) → ⊥
rises_not t h = let e : Rises t ≡ Asks h.0 = h.1 in cc

-- a move of its own
own_on : (c : Setting) (k t : ℕ) (ms : List Act) (s : NodeState) (deeds : List Deed) (mid s' : NodeState) (a : Act) (p pending left : List Act) (o : Effects) → AreOld t s → Stage t ms s deeds mid p left → p ≡ a ∷ pending → Facts k t s deeds mid → IsHeard a
    → Does c k mid a o s' → Facts k t s (deeds ++ deed_of k a mid s' o ∷ []) s' × Stage t ms s (deeds ++ deed_of k a mid s' o ∷ []) s' (pending ++ own_sends k o.sends) left
own_on c k t ms s _ _ s' a _ pending _ o old at_start e f heard does = absurd (nil_cons a pending e)
own_on c k t ms s _ _ s' a _ pending _ o old (going deeds mid p left time last fresh) e f heard does = (
  facts_on c k t s deeds mid a o s' (record { facts = f; time = λ ask. time.risen; fresh = λ ask. absurd (heard_not_ask a heard ask); old = old }) does,
  going (deeds ++ deed_of k a mid s' o ∷ []) s' (pending ++ own_sends k o.sends) left (at_on t mid s' (does_at_once c k mid a o s' (heard_steady a heard) does) time) last
      (λ has asked. fresh has (asked_push deeds (deed_of k a mid s' o) (heard_not_ask a heard) asked)),
)

-- a matter
matter_on : (c : Setting) (k t : ℕ) (ms : List Act) (s : NodeState) (deeds : List Deed) (mid s' : NodeState) (a : Act) (p l left : List Act) (o : Effects) → AreOld t s → IsLastAsk ms → Stage t ms s deeds mid p l → l ≡ a ∷ left → Facts k t s deeds mid
    → Does c k mid a o s' → Facts k t s (deeds ++ deed_of k a mid s' o ∷ []) s' × Stage t ms s (deeds ++ deed_of k a mid s' o ∷ []) s' (own_sends k o.sends) left
matter_on c k t ms s _ _ s' a _ _ left o old whole at_start e f does =
    let h = heads (Rises t) a ms left e in
    let rises : Does c k s (Rises t) o s' = subst (λ (b : Act). Does c k s b o s') (sym h.0) does in
    let none : IsAsk a → ⊥ = λ ask. rises_not t (ask.0, h.0 ∙ ask.1) in (
      facts_on c k t s [] s a o s' (record { facts = f; time = λ ask. absurd (none ask); fresh = λ ask. absurd (none ask); old = old }) does,
      going (deed_of k a s s' o ∷ []) s' (own_sends k o.sends) left (record { time = ap (λ (x : NodeState). x.time) rises.2; risen = ap (λ (x : NodeState). x.risen) rises.2 }) (subst (λ (xs : List Act). IsLastAsk xs) h.1 whole)
          (λ has asked. contains_nil (asked_push [] (deed_of k a s s' o) none asked).0 (asked_push [] (deed_of k a s s' o) none asked).1),
    )
matter_on c k t ms s _ _ s' a _ _ left o old whole (going deeds mid p l time last fresh) e f does =
    let rest : IsLastAsk (a ∷ left) = subst (λ (xs : List Act). IsLastAsk xs) e last in
    let this : HasAsk (a ∷ left) → AskedIn deeds → ⊥ = subst (λ (xs : List Act). HasAsk xs → AskedIn deeds → ⊥) e fresh in (
      facts_on c k t s deeds mid a o s' (record { facts = f; time = λ ask. time.risen; fresh = λ ask. this (a, contains_here a left, ask); old = old }) does,
      going (deeds ++ deed_of k a mid s' o ∷ []) s' (own_sends k o.sends) left (at_on t mid s' (does_at_once c k mid a o s' (last_steady a left rest) does) time) (last_rest a left rest)
          (λ has asked.
          let none : IsAsk a → ⊥ = λ ask. contains_nil has.0 (subst (λ (xs : List Act). Contains xs has.0) (last_none a left rest ask) has.1) in
          this (has.0, contains_there a left has.0 has.1, has.2) (asked_push deeds (deed_of k a mid s' o) none asked)),
    )

pub sofar : (c : Setting) (k t : ℕ) (ms : List Act) (s : NodeState) → IsNeat s → AreOld t s → IsLastAsk ms → (deeds : List Deed) (s' : NodeState) (pending left : List Act) → Chain c k s (Rises t ∷ ms) deeds s' pending left → Sofar k t ms s deeds s' pending left
sofar c k t ms s neat old whole _ _ _ _ begun = record { facts = first_facts k t s neat; heard = λ a h. absurd (contains_nil a h); stage = at_start }
sofar c k t ms s neat old whole _ _ _ _ (own deeds mid s' a pending left o chain does) =
    let prev = sofar c k t ms s neat old whole deeds mid (a ∷ pending) left chain in
    let on = own_on c k t ms s deeds mid s' a (a ∷ pending) pending left o old prev.stage refl prev.facts (prev.heard a (contains_here a pending)) does in
    record {
      facts = on.0;
      heard = λ b h. elim (Contains-append_cases pending (own_sends k o.sends) b h) [ inl l ↦ prev.heard b (contains_there a pending b l) | inr r ↦ own_heard k o.sends b r ];
      stage = on.1;
    }
sofar c k t ms s neat old whole _ _ _ _ (matter deeds mid s' a left o chain does) =
    let prev = sofar c k t ms s neat old whole deeds mid [] (a ∷ left) chain in
    let on = matter_on c k t ms s deeds mid s' a [] (a ∷ left) left o old whole prev.stage refl prev.facts does in
    record { facts = on.0; heard = own_heard k o.sends; stage = on.1 }

stage_time : (t : ℕ) (ms : List Act) (s : NodeState) (deeds : List Deed) (s' : NodeState) (pending left : List Act) → Stage t ms s deeds s' pending left → left ≡ [] → IsAt t s'
stage_time t ms s _ _ _ _ at_start e = absurd (nil_cons (Rises t) ms (sym e))
stage_time t ms s _ _ _ _ (going deeds s' pending left time last fresh) e = time

stage_own_time : (t : ℕ) (ms : List Act) (s : NodeState) (deeds : List Deed) (mid : NodeState) (a : Act) (p pending left : List Act) → Stage t ms s deeds mid p left → p ≡ a ∷ pending → IsAt t mid
stage_own_time t ms s _ _ a _ pending _ at_start e = absurd (nil_cons a pending e)
stage_own_time t ms s _ _ a _ pending _ (going deeds mid p left time last fresh) e = time

stage_matter_time : (t : ℕ) (ms : List Act) (s : NodeState) (deeds : List Deed) (mid : NodeState) (a : Act) (p l left : List Act) → Stage t ms s deeds mid p l → l ≡ a ∷ left → (a ≡ Rises t) ⊎ IsAt t mid
stage_matter_time t ms s _ _ a _ _ left at_start e = inl (sym (heads (Rises t) a ms left e).0)
stage_matter_time t ms s _ _ a _ _ left (going deeds mid p l time last fresh) e = inr time

-- each move but the first is made at the step's time
pub at_time : (c : Setting) (k t : ℕ) (ms : List Act) (s : NodeState) → IsNeat s → AreOld t s → IsLastAsk ms → (deeds : List Deed) (s' : NodeState) (pending left : List Act) → Chain c k s (Rises t ∷ ms) deeds s' pending left
    → (d : Deed) → Contains deeds d → (d.act ≡ Rises t) ⊎ IsAt t d.before
at_time c k t ms s neat old last _ _ _ _ begun d h = absurd (contains_nil d h)
at_time c k t ms s neat old last _ _ _ _ (own deeds mid s' a pending left o chain does) d h = elim (Contains-append_cases deeds _ d h) [
  | inl earlier ↦ at_time c k t ms s neat old last deeds mid (a ∷ pending) left chain d earlier
  | inr this ↦ subst (λ (x : Deed). (x.act ≡ Rises t) ⊎ IsAt t x.before) (contains_one _ d this) (inr (stage_own_time t ms s deeds mid a (a ∷ pending) pending left (sofar c k t ms s neat old last deeds mid (a ∷ pending) left chain).stage refl))
]
at_time c k t ms s neat old last _ _ _ _ (matter deeds mid s' a left o chain does) d h = elim (Contains-append_cases deeds _ d h) [
  | inl earlier ↦ at_time c k t ms s neat old last deeds mid [] (a ∷ left) chain d earlier
  | inr this ↦ subst (λ (x : Deed). (x.act ≡ Rises t) ⊎ IsAt t x.before) (contains_one _ d this) (stage_matter_time t ms s deeds mid a [] (a ∷ left) left (sofar c k t ms s neat old last deeds mid [] (a ∷ left) chain).stage refl)
]

-- ---- of the moves of a chain

pub deeds_do : (c : Setting) (k : ℕ) (s : NodeState) (ms : List Act) (deeds : List Deed) (s' : NodeState) (pending left : List Act) → Chain c k s ms deeds s' pending left → (d : Deed) → Contains deeds d → Does c k d.before d.act d.effects d.after
deeds_do c k s ms _ _ _ _ begun d h = absurd (contains_nil d h)
deeds_do c k s ms _ _ _ _ (own deeds mid s' a pending left o chain does) d h = elim (Contains-append_cases deeds _ d h) [
  | inl old ↦ deeds_do c k s ms deeds mid (a ∷ pending) left chain d old
  | inr last ↦ subst (λ (x : Deed). Does c k x.before x.act x.effects x.after) (contains_one _ d last) does
]
deeds_do c k s ms _ _ _ _ (matter deeds mid s' a left o chain does) d h = elim (Contains-append_cases deeds _ d h) [
  | inl old ↦ deeds_do c k s ms deeds mid [] (a ∷ left) chain d old
  | inr last ↦ subst (λ (x : Deed). Does c k x.before x.act x.effects x.after) (contains_one _ d last) does
]

-- what was done, and is left, is of the matters
pub record Within (ms : List Act) (deeds : List Deed) (pending left : List Act) : Type 0 where
  pub heard : (a : Act) → Contains pending a → IsHeard a
  pub of_left : (a : Act) → Contains left a → Contains ms a
  pub acts : (d : Deed) → Contains deeds d → Contains ms d.act ⊎ IsHeard d.act
  pub taken : (a : Act) → Contains ms a → Contains left a ⊎ ((d : Deed) × Contains deeds d × (d.act ≡ a))

acts_push : (ms : List Act) (deeds : List Deed) (d : Deed) → ((x : Deed) → Contains deeds x → Contains ms x.act ⊎ IsHeard x.act) → Contains ms d.act ⊎ IsHeard d.act → (x : Deed) → Contains (deeds ++ d ∷ []) x → Contains ms x.act ⊎ IsHeard x.act
acts_push ms deeds d before last x h = elim (Contains-append_cases deeds (d ∷ []) x h) [
  | inl old ↦ before x old
  | inr this ↦ subst (λ (y : Deed). Contains ms y.act ⊎ IsHeard y.act) (contains_one d x this) last
]

pub within : (c : Setting) (k : ℕ) (s : NodeState) (ms : List Act) (deeds : List Deed) (s' : NodeState) (pending left : List Act) → Chain c k s ms deeds s' pending left → Within ms deeds pending left
within c k s ms _ _ _ _ begun = record { heard = λ a h. absurd (contains_nil a h); of_left = λ a h. h; acts = λ d h. absurd (contains_nil d h); taken = λ a h. inl h }
within c k s ms _ _ _ _ (own deeds mid s' a pending left o chain does) =
    let prev = within c k s ms deeds mid (a ∷ pending) left chain in
    let d = deed_of k a mid s' o in
    record {
      heard = λ b h. elim (Contains-append_cases pending (own_sends k o.sends) b h) [ inl l ↦ prev.heard b (contains_there a pending b l) | inr r ↦ own_heard k o.sends b r ];
      of_left = prev.of_left;
      acts = acts_push ms deeds d prev.acts (inr (prev.heard a (contains_here a pending)));
      taken = λ b h. elim (prev.taken b h) [ inl l ↦ inl l | inr r ↦ inr (r.0, Contains-append_left deeds (d ∷ []) r.0 r.1, r.2) ];
    }
within c k s ms _ _ _ _ (matter deeds mid s' a left o chain does) =
    let prev = within c k s ms deeds mid [] (a ∷ left) chain in
    let d = deed_of k a mid s' o in
    record {
      heard = own_heard k o.sends;
      of_left = λ b h. prev.of_left b (contains_there a left b h);
      acts = acts_push ms deeds d prev.acts (inl (prev.of_left a (contains_here a left)));
      taken = λ b h. elim (prev.taken b h) [
        | inl l ↦ elim (contains_cases a left b l) [ inl here ↦ inr (d, Contains-append_right deeds (d ∷ []) d (contains_here d []), here) | inr rest ↦ inl rest ]
        | inr r ↦ inr (r.0, Contains-append_left deeds (d ∷ []) r.0 r.1, r.2)
      ];
    }

-- ---- a whole step

pub record Whole (k t : ℕ) (s : NodeState) (deeds : List Deed) (s' : NodeState) : Type 0 where
  pub facts : Facts k t s deeds s'
  pub time : s'.time ≡ t

pub whole : (c : Setting) (k t : ℕ) (ms : List Act) (s : NodeState) (deeds : List Deed) (s' : NodeState) → IsNeat s → AreOld t s → IsLastAsk ms → Chain c k s (Rises t ∷ ms) deeds s' [] [] → Whole k t s deeds s'
whole c k t ms s deeds s' neat old last chain =
    let all = sofar c k t ms s neat old last deeds s' [] [] chain in
    record { facts = all.facts; time = (stage_time t ms s deeds s' [] [] all.stage refl).time }

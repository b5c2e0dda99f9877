-- The time at the end of a step is that to which it rose, and its messages carry it.
use Rattle.std.proofs.Common.{◌≡◌, ◌⊎◌, ℕ, ◌+◌, ◌<◌, inl, inr, Bool, true, false, List, [], ◌∷◌, ◌++◌, Contains, filter, map, max, refl, sym, ap, subst, ◌∙◌, arith}
use Rattle.std.specs.Prelude.{◌==◌, not, if◌then◌else◌, flat_map}
use Rattle.std.proofs.Math.Nat.{le-max_left}
use Rattle.std.proofs.lemmas.List.Elements.{Contains-append_cases}
use Rattle.peer_messages.specs.declared.message.Message.{Message}
use Rattle.peer_messages.specs.declared.event.Event.{Event}
use Rattle.peer_messages.specs.declared.event.What.{What}
use Rattle.peer_messages.specs.declared.event.What.TheVariants.{Client, Deliver, Alive, Collect, Flush, Tick}
use Rattle.peer_messages.specs.declared.outcome.Outbound.{Outbound}
use Rattle.peer_messages.specs.declared.outcome.Outputs.{Outputs}
use Rattle.peer_messages.specs.declared.setting.Setting.{Setting}
use Rattle.node_steps.specs.State.{NodeState}
use Rattle.node_steps.specs.Effects.{Effects}
use Rattle.node_steps.specs.Fitting.{message_fits, mark_fits}
use Rattle.node_steps.specs.Acts.{Act, Rises, Hears, Asks, Marks, Incoming, Deed, Does, Chain, own_sends}
use Rattle.node_steps.specs.Acts.Chain.{begun, own, matter}
use Rattle.node_steps.specs.Steps.{NodeStep, Due, AreDue, act_of, looked_at, matter_of, message_of, message_time, reading, sends_of, time_after}
use Rattle.cluster_runs.proofs.Times.{IsSteady, does_at_once}
use Rattle.cs_base.proofs.Members.{contains_cases, contains_from_map, contains_here, contains_nil, contains_one, contains_there}
use Rattle.lawful_orders.specs.Histories.{Taken, StepsThrough}

-- ---- acts at which time stands still

abbrev AreSteady : List Act → Type 0
AreSteady acts = (a : Act) → Contains acts a → IsSteady a

none_steady : AreSteady []
none_steady a h = absurd (contains_nil a h)

both_steady : (xs ys : List Act) → AreSteady xs → AreSteady ys → AreSteady (xs ++ ys)
both_steady xs ys x y a h = elim (Contains-append_cases xs ys a h) [ inl left ↦ x a left | inr right ↦ y a right ]

one_steady : (a : Act) → IsSteady a → AreSteady (a ∷ [])
one_steady a h b there = subst (λ (x : Act). IsSteady x) (contains_one a b there) h

heard : ℕ → Outbound → Act
heard me x = Hears (record { from = me; born = x.born; request = x.request; body = x.body })

own_if : (me : ℕ) (x : Outbound) (rest : List Act) (b : Bool) → AreSteady rest → AreSteady (if b then Hears (record { from = me; born = x.born; request = x.request; body = x.body }) ∷ rest else rest)
own_if me x rest true steady a h = elim (contains_cases (Hears (record { from = me; born = x.born; request = x.request; body = x.body })) rest a h) [
  | inl same ↦ subst (λ (y : Act). IsSteady y) same tt
  | inr more ↦ steady a more
]
own_if me x rest false steady a h = steady a h

own_steady : (me : ℕ) (xs : List Outbound) → AreSteady (own_sends me xs)
own_steady me [] = none_steady
own_steady me (x ∷ xs) = own_if me x (own_sends me xs) (x.upto == me) (own_steady me xs)

heard_steady : (b : Bool) (i : Incoming) → AreSteady (if b then Hears i ∷ [] else [])
heard_steady true i = one_steady (Hears i) tt
heard_steady false i = none_steady

marks_steady : (b : Bool) (peer : ℕ) (up : Bool) → AreSteady (if b then Marks peer up ∷ [] else [])
marks_steady true peer up = one_steady (Marks peer up) tt
marks_steady false peer up = none_steady

matter_steady : (c : Setting) (k : ℕ) (what : What) → AreSteady (matter_of c k what)
matter_steady c k (Client ask) = one_steady (Asks ask) tt
matter_steady c k (Deliver m) = heard_steady (message_fits c k m) (record { from = m.from; born = m.born; request = m.request; body = m.body })
matter_steady c k (Alive peer up) = marks_steady (mark_fits c k peer) peer up
matter_steady c k (Collect request) = none_steady
matter_steady c k Flush = none_steady
matter_steady c k Tick = none_steady

due_steady : (c : Setting) (k t : ℕ) (s : NodeState) (due : List Due) → AreDue c k t s due → AreSteady (map act_of due)
due_steady c k t s due are a h =
    let from = contains_from_map act_of due a h in
    subst (λ (x : Act). IsSteady x) from.2 (elim ((are.each from.0).0 from.1).1 [
      | inl (opened, is) ↦ subst (λ (x : Due). IsSteady x.act) (sym is) tt
      | inr (hinted, held, is) ↦ subst (λ (x : Due). IsSteady x.act) (sym is) tt
    ])

-- ---- the time of a step

-- a step has not begun, or its time has risen and stands still from now on
abbrev IsStage : ℕ → List Act → NodeState → NodeState → List Act → List Act → Type 0
IsStage t ms s s' pending left = ((s' ≡ s) × (pending ≡ []) × (left ≡ Rises t ∷ ms)) ⊎ ((s'.time ≡ t) × AreSteady pending × AreSteady left)

cons_nil : {X : Type 0} (x : X) (xs : List X) → x ∷ xs ≡ [] → ⊥
cons_nil x xs e = cc

heads : (a b : Act) (xs ys : List Act) → a ∷ xs ≡ b ∷ ys → (a ≡ b) × (xs ≡ ys)
heads a b xs ys e = (cc, cc)

first_rises : (c : Setting) (k t : ℕ) (mid s' : NodeState) (a : Act) (o : Effects) → a ≡ Rises t → Does c k mid a o s' → s'.time ≡ t
first_rises c k t mid s' a o is does = let rises : Does c k mid (Rises t) o s' = subst (λ (x : Act). Does c k mid x o s') is does in ap (λ (x : NodeState). x.time) rises.2

staged : (c : Setting) (k t : ℕ) (ms : List Act) (s : NodeState) (deeds : List Deed) (s' : NodeState) (pending left : List Act) → AreSteady ms → Chain c k s (Rises t ∷ ms) deeds s' pending left → IsStage t ms s s' pending left
staged c k t ms s _ _ _ _ steady begun = inl (refl, refl, refl)
staged c k t ms s _ _ _ _ steady (own deeds mid s' a pending left o chain does) = elim (staged c k t ms s deeds mid (a ∷ pending) left steady chain) [
  | inl (is, none, whole) ↦ absurd (cons_nil a pending none)
  | inr (time, first, more) ↦ inr (
    (does_at_once c k mid a o s' (first a (contains_here a pending)) does).time ∙ time,
    both_steady pending (own_sends k o.sends) (λ b h. first b (contains_there a pending b h)) (own_steady k o.sends),
    more,
  )
]
staged c k t ms s _ _ _ _ steady (matter deeds mid s' a left o chain does) = elim (staged c k t ms s deeds mid [] (a ∷ left) steady chain) [
  | inl (is, none, whole) ↦ let both = heads a (Rises t) left ms whole in inr (first_rises c k t mid s' a o both.0 does, own_steady k o.sends, subst (λ (xs : List Act). AreSteady xs) (sym both.1) steady)
  | inr (time, first, more) ↦ inr ((does_at_once c k mid a o s' (more a (contains_here a left)) does).time ∙ time, own_steady k o.sends, λ b h. more b (contains_there a left b h))
]

at_end : (t : ℕ) (ms : List Act) (s s' : NodeState) → IsStage t ms s s' [] [] → s'.time ≡ t
at_end t ms s s' (inl (is, none, whole)) = absurd (cons_nil (Rises t) ms (sym whole))
at_end t ms s s' (inr (time, first, more)) = time

module _ (c : Setting) (k : ℕ) (s : NodeState) (e : Event) (deeds : List Deed) (o : Outputs) (s' : NodeState) (step : NodeStep c k s e deeds o s') where
  pub step_time : s'.time ≡ time_after s e
  step_time =
      let ms = map act_of step.due ++ matter_of c k (looked_at s.time e) in
      let steady = both_steady (map act_of step.due) (matter_of c k (looked_at s.time e)) (due_steady c k (time_after s e) s step.due step.are_due) (matter_steady c k (looked_at s.time e)) in
      at_end (time_after s e) ms s s' (staged c k (time_after s e) ms s deeds s' [] [] steady step.moves)

  pub output_time : o.time ≡ time_after s e
  output_time = ap (λ (x : Outputs). x.time) step.outputs ∙ step_time

  -- the time of its messages
  pub sends_time : (m : Message) → Contains o.sends m → m.time ≡ o.time
  sends_time m there =
      let from = contains_from_map (message_of k s'.time) (filter (λ (x : Outbound). not (x.upto == k)) (flat_map sends_of deeds)) m (subst (λ (x : Outputs). Contains x.sends m) step.outputs there) in
      sym (ap (λ (n : Message). n.time) from.2) ∙ sym (ap (λ (x : Outputs). x.time) step.outputs)

-- ---- the entries of a history

rises : (s : NodeState) (e : Event) → s.time < time_after s e
rises s e = let h = le-max_left (s.time + 1) (max (message_time (looked_at s.time e)) (reading e)) in omega (arith, h)

pub history_sends : (c : Setting) (k : ℕ) (s s' : NodeState) (history : List Taken) → StepsThrough c k s history s' → (t : Taken) → Contains history t → (m : Message) → Contains t.outputs.sends m → m.time ≡ t.outputs.time
history_sends c k s s' [] through t h m sent = absurd (contains_nil t h)
history_sends c k s s' (u ∷ us) (deeds, next, step, rest) t h m sent = elim (contains_cases u us t h) [
  | inl same ↦ subst (λ (x : Taken). Contains x.outputs.sends m → m.time ≡ x.outputs.time) same (sends_time c k s u.event deeds u.outputs next step m) sent
  | inr more ↦ history_sends c k next s' us rest t more m sent
]

-- from a state each entry of a history has a later time
pub history_later : (c : Setting) (k : ℕ) (s s' : NodeState) (history : List Taken) → StepsThrough c k s history s' → (t : Taken) → Contains history t → s.time < t.outputs.time
history_later c k s s' [] through t h = absurd (contains_nil t h)
history_later c k s s' (u ∷ us) (deeds, next, step, rest) t h =
    let later = rises s u.event in
    let time = output_time c k s u.event deeds u.outputs next step in
    let after = step_time c k s u.event deeds u.outputs next step in
    elim (contains_cases u us t h) [
      | inl same ↦ subst (λ (x : Taken). s.time < x.outputs.time) same (omega (arith, later, time))
      | inr more ↦ let rest_later = history_later c k next s' us rest t more in omega (arith, later, after, rest_later)
    ]

-- the time of each entry is below those of later ones
abbrev pub AreRising : List Taken → Type 0
AreRising [] = Unit {0}
AreRising (t ∷ ts) = ((u : Taken) → Contains ts u → t.outputs.time < u.outputs.time) × AreRising ts

pub history_rises : (c : Setting) (k : ℕ) (s s' : NodeState) (history : List Taken) → StepsThrough c k s history s' → AreRising history
history_rises c k s s' [] through = tt
history_rises c k s s' (t ∷ ts) (deeds, next, step, rest) =
    let time = output_time c k s t.event deeds t.outputs next step in
    let after = step_time c k s t.event deeds t.outputs next step in
    ((λ u h. let later = history_later c k next s' ts rest u h in omega (arith, time, after, later)), history_rises c k next s' ts rest)

-- Messages from too far ahead count as readings of the clock.
use Rattle.std.proofs.Common.{◌≡◌, ℕ, ◌+◌, Bool, true, false, List, [], ◌∷◌, ◌++◌, map, max, refl, sym, ap, subst, ◌∙◌, arith}
use Rattle.std.specs.Prelude.{if◌then◌else◌, nat_le, nat_lt}
use Rattle.std.proofs.lemmas.Bool.{le-leb, lt-leb, ltb-true}
use Rattle.peer_messages.specs.declared.message.Message.{Message}
use Rattle.peer_messages.specs.declared.event.Event.{Event}
use Rattle.peer_messages.specs.declared.event.What.{What}
use Rattle.peer_messages.specs.declared.event.What.TheVariants.{Client, Deliver, Alive, Collect, Flush, Tick}
use Rattle.peer_messages.specs.declared.outcome.Outputs.{Outputs}
use Rattle.peer_messages.specs.declared.setting.Setting.{Setting}
use Rattle.node_steps.specs.State.{NodeState}
use Rattle.node_steps.specs.Acts.{Rises, Deed, Chain}
use Rattle.node_steps.specs.Steps.{NodeStep, AreDue, act_of, is_ahead, looked_at, matter_of, message_time, reading}
use Rattle.lawful_orders.specs.Histories.{Taken}
use Rattle.lawful_orders.specs.Ahead.{stays_below, was_ahead, as_tick}
use Rattle.lawful_orders.specs.Laws.{AheadIsATick, AheadIsNotPassed}
use Rattle.lawful_orders.proofs.Times.{output_time}

false_true : false ≡ true → ⊥
false_true e = cc

-- ---- the step's time tells

-- a step from time t, at this reading, comes to this time
passes : (b : Bool) (t clock time : ℕ) (m : Message) → nat_lt (max t clock + 60000000) m.time ≡ b → time ≡ max (t + 1) (max (message_time (if b then Tick else Deliver m)) clock) → nat_le time m.time ≡ b
passes true t clock time m test is = le-leb time m.time (let far = ltb-true (max t clock + 60000000) m.time test in omega arith)
passes false t clock time m test is = lt-leb time m.time (omega (arith, is))

known : (c : Setting) (k : ℕ) (s s' : NodeState) (clock : ℕ) (what : What) (deeds : List Deed) (o : Outputs) → NodeStep c k s (record { clock = clock; what = what }) deeds o s' → stays_below o.time what ≡ is_ahead s.time (record { clock = clock; what = what }) what
known c k s s' clock (Client ask) deeds o step = refl
known c k s s' clock (Deliver m) deeds o step =
    let e : Event = record { clock = clock; what = Deliver m } in
    passes (is_ahead s.time e (Deliver m)) s.time (reading e) o.time m refl (output_time c k s e deeds o s' step)
known c k s s' clock (Alive peer up) deeds o step = refl
known c k s s' clock (Collect request) deeds o step = refl
known c k s s' clock Flush deeds o step = refl
known c k s s' clock Tick deeds o step = refl

pub ahead_known : AheadIsNotPassed
ahead_known c k s s' e deeds o step = known c k s s' e.clock e.what deeds o step

-- ---- a tick in its place

looks : (time : ℕ) (e : Event) → is_ahead time e e.what ≡ true → looked_at time e ≡ Tick
looks time e ahead = ap (λ (b : Bool). if b then Tick else e.what) ahead

ticks : (c : Setting) (k : ℕ) (s s' : NodeState) (clock : ℕ) (what : What) (deeds : List Deed) (o : Outputs) → NodeStep c k s (record { clock = clock; what = what }) deeds o s' → is_ahead s.time (record { clock = clock; what = what }) what ≡ true
    → NodeStep c k s (record { clock = clock; what = Tick }) deeds (record o { refused = false }) s'
ticks c k s s' clock (Client ask) deeds o step ahead = absurd (false_true ahead)
ticks c k s s' clock (Deliver m) deeds o step ahead =
    let e : Event = record { clock = clock; what = Deliver m } in
    let seen : looked_at s.time e ≡ Tick = looks s.time e ahead in
    record {
      due = step.due;
      are_due = subst (λ (w : What). AreDue c k (max (s.time + 1) (max (message_time w) (reading e))) s step.due) seen step.are_due;
      moves = subst (λ (w : What). Chain c k s (Rises (max (s.time + 1) (max (message_time w) (reading e))) ∷ (map act_of step.due ++ matter_of c k w)) deeds s' [] []) seen step.moves;
      tables = step.tables;
      outputs = ap (λ (x : Outputs). record x { refused = false }) step.outputs;
    }
ticks c k s s' clock (Alive peer up) deeds o step ahead = absurd (false_true ahead)
ticks c k s s' clock (Collect request) deeds o step ahead = absurd (false_true ahead)
ticks c k s s' clock Flush deeds o step ahead = absurd (false_true ahead)
ticks c k s s' clock Tick deeds o step ahead = absurd (false_true ahead)

seen_if : (c : Setting) (k : ℕ) (s s' : NodeState) (t : Taken) (deeds : List Deed) (b : Bool) → was_ahead t ≡ b → NodeStep c k s t.event deeds t.outputs s' → NodeStep c k s (if b then as_tick t else t).event deeds (if b then as_tick t else t).outputs s'
seen_if c k s s' t deeds true ahead step = ticks c k s s' t.event.clock t.event.what deeds t.outputs step (sym (ahead_known c k s s' t.event deeds t.outputs step) ∙ ahead)
seen_if c k s s' t deeds false ahead step = step

pub ahead_ticks : AheadIsATick
ahead_ticks c k s s' [] through = through
ahead_ticks c k s s' (t ∷ ts) (deeds, next, step, rest) = (deeds, next, seen_if c k s next t deeds (was_ahead t) refl step, ahead_ticks c k next s' ts rest)

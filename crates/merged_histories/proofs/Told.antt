-- What the code finds of a node's history is what its steps tell.
use Rattle.std.proofs.Common.{◌≡◌, ℕ, suc, ◌≤◌, Bool, true, false, Result, Ok, Err, List, [], ◌∷◌, ◌++◌, length, map, refl, ap, subst, ◌∙◌, arith}
use Rattle.std.specs.Prelude.{if◌then◌else◌}
use Rattle.peer_messages.specs.declared.event.Event.{Event}
use Rattle.peer_messages.specs.declared.event.What.TheVariants.{Tick}
use Rattle.peer_messages.specs.declared.outcome.Outputs.{Outputs}
use Rattle.peer_messages.specs.declared.setting.Setting.{Setting}
use Rattle.node_steps.specs.State.{NodeState}
use Rattle.node_steps.specs.Acts.{Deed}
use Rattle.node_steps.specs.Steps.{NodeStep, is_ahead, risen_time}
use Rattle.node_core.specs.declared.outcome.StepError.{StepError}
use Rattle.lawful_orders.specs.Histories.{Taken, StepsThrough}
use Rattle.lawful_orders.specs.Ahead.{was_ahead, as_tick, as_seen, all_seen}
use Rattle.lawful_orders.specs.Orders.{Placed}
use Rattle.lawful_orders.specs.Laws.{AheadIsNotPassed}
use Rattle.lawful_orders.proofs.Times.{output_time, step_time}
use Rattle.wired_node.specs.declared.entry.NodeEntry.{NodeEntry}
use Rattle.wired_histories.specs.Told.{taken_in, told_as}
use Rattle.merged_histories.specs.declared.timed.Timed.{Timed}
use Rattle.merged_histories.specs.Merged.{event_at}
use Rattle.merged_histories.specs.Timed.{event_in, timed_event, timed_from}
use Rattle.merged_histories.proofs.Nodes.{placed_at}

abbrev pub timed_of : Placed → Timed
timed_of p = record { time = p.taken.outputs.time; placed = event_at p }

abbrev pub event_of : Taken → Event
event_of t = t.event

-- ---- times

-- an event at node k that comes to this time, and that counts as a reading of the clock where that is so
abbrev at_time : ℕ → Event → ℕ → Bool → Timed
at_time k e time b = record { time = time; placed = record { node = k; event = record e { what = if b then Tick else e.what } } }

seen_if : (k : ℕ) (t : Taken) (b : Bool) → timed_of (placed_at k (if b then as_tick t else t)) ≡ at_time k t.event t.outputs.time b
seen_if k t true = refl
seen_if k t false = refl

module _ (known : AheadIsNotPassed) (c : Setting) (k : ℕ) where
  first_timed : (s next : NodeState) (t : Taken) (deeds : List Deed) → NodeStep c k s t.event deeds t.outputs next → timed_of (placed_at k (as_seen t)) ≡ timed_event k s.time t.event
  first_timed s next t deeds step =
      seen_if k t (was_ahead t)
      ∙ ap (λ (b : Bool). at_time k t.event t.outputs.time b) (known c k s next t.event deeds t.outputs step)
      ∙ ap (λ (time : ℕ). at_time k t.event time (is_ahead s.time t.event t.event.what)) (output_time c k s t.event deeds t.outputs next step)

  pub steps_timed : (s s' : NodeState) (ts : List Taken) → StepsThrough c k s ts s' → map timed_of (map (placed_at k) (all_seen ts)) ≡ timed_from k s.time (map event_of ts)
  steps_timed s s' [] through = refl
  steps_timed s s' (t ∷ ts) (deeds, next, step, rest) =
      let more : map timed_of (map (placed_at k) (all_seen ts)) ≡ timed_from k (risen_time s.time t.event) (map event_of ts) =
      subst (λ (time : ℕ). map timed_of (map (placed_at k) (all_seen ts)) ≡ timed_from k time (map event_of ts)) (step_time c k s t.event deeds t.outputs next step) (steps_timed next s' ts rest) in
      ap (λ (x : Timed). x ∷ map timed_of (map (placed_at k) (all_seen ts))) (first_timed s next t deeds step) ∙ ap (λ (xs : List Timed). timed_event k s.time t.event ∷ xs) more

-- ---- entries

told_most : (e : Event) (told : Result Outputs StepError) (xs : List (ℕ × NodeEntry)) → length (taken_in xs) ≤ length xs → length (told_as e told ++ taken_in xs) ≤ suc (length xs)
told_most e (Ok o) xs most = omega (arith, most)
told_most e (Err error) xs most = omega (arith, most)

taken_most : (xs : List (ℕ × NodeEntry)) → length (taken_in xs) ≤ length xs
taken_most [] = omega arith
taken_most (x ∷ xs) = told_most x.1.call.event x.1.told.value xs (taken_most xs)

events_if : (e : Event) (told : Result Outputs StepError) (xs : List (ℕ × NodeEntry)) → length (told_as e told ++ taken_in xs) ≡ suc (length xs) → (length (taken_in xs) ≡ length xs → map event_of (taken_in xs) ≡ map event_in xs)
    → map event_of (told_as e told ++ taken_in xs) ≡ e ∷ map event_in xs
events_if e (Ok o) xs whole more = ap (λ (es : List Event). e ∷ es) (more (omega (arith, whole)))
events_if e (Err error) xs whole more = absurd (let most = taken_most xs in omega (arith, whole, most))

-- where each entry is a step that was made, its event is that of the step
pub whole_events : (xs : List (ℕ × NodeEntry)) → length (taken_in xs) ≡ length xs → map event_of (taken_in xs) ≡ map event_in xs
whole_events [] whole = refl
whole_events (x ∷ xs) whole = events_if x.1.call.event x.1.told.value xs whole (whole_events xs)

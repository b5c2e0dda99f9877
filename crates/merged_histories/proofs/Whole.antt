-- What the code merges are the events of the histories, merged.
use Rattle.std.proofs.Common.{◌≡◌, ℕ, zero, suc, ◌+◌, ◌<◌, Some, Result, Ok, Err, IfOk, List, [], ◌∷◌, map, refl, sym, ap, subst, ◌∙◌, arith}
use Rattle.std.specs.Prelude.{slice_get}
use Rattle.std.specs.List.{AllByRecursion}
use Rattle.peer_messages.specs.declared.event.Event.{Event}
use Rattle.peer_messages.specs.declared.setting.Setting.{Setting}
use Rattle.node_steps.specs.State.{NodeState}
use Rattle.cluster_runs.proofs.Lists.{map_get}
use Rattle.cs_base.proofs.Members.{contains_nil}
use Rattle.cs_base.proofs.Slots.{some_one}
use Rattle.lawful_orders.specs.Histories.{Taken, StepsThrough}
use Rattle.lawful_orders.specs.Ahead.{all_seen}
use Rattle.lawful_orders.specs.Orders.{Placed, history_in}
use Rattle.lawful_orders.specs.Laws.{AheadIsATick, AheadIsNotPassed}
use Rattle.lawful_orders.proofs.Places.{get_below, get_from_map, get_within}
use Rattle.lawful_orders.proofs.Times.{history_rises}
use Rattle.merged_histories.specs.declared.histories.NodeHistory.{NodeHistory}
use Rattle.merged_histories.specs.declared.timed.PlacedEvent.{PlacedEvent}
use Rattle.merged_histories.specs.declared.timed.Timed.{Timed}
use Rattle.merged_histories.specs.Timed.{event_in, timed_from}
use Rattle.merged_histories.specs.Merging.{key_of, merged, merged_on, placed_in}
use Rattle.merged_histories.specs.Merged.{AreHistories, AreMerged, IsWhole, event_at, start_of, taken_by, time_of}
use Rattle.merged_histories.proofs.Lists.{merged_map}
use Rattle.merged_histories.proofs.Nodes.{AllRise, order_by_time, order_each, order_on, order_within, place_of, placed_at}
use Rattle.merged_histories.proofs.Told.{steps_timed, timed_of, whole_events}

-- ---- one history

-- what the code finds of a node's history is what its steps tell
abbrev IsTimed : ℕ → NodeHistory → Type 0
IsTimed k h = map timed_of (map (placed_at k) (all_seen (taken_by h))) ≡ timed_from k h.start (map event_in h.entries.now)

whole_at : (hs : List NodeHistory) → AllByRecursion IsWhole hs → (i : ℕ) (h : NodeHistory) → slice_get hs i ≡ Some h → IsWhole h
whole_at [] whole i h at = cc
whole_at (g ∷ hs) whole zero h at = subst (λ (x : NodeHistory). IsWhole x) (some_one at) whole.0
whole_at (g ∷ hs) whole (suc i) h at = whole_at hs whole.1 i h at

-- the states between which a node goes through its history
record IsBetween (c : Setting) (i : ℕ) (h : NodeHistory) : Type 0 where
  start : NodeState
  end : NodeState
  steps : StepsThrough c i start (taken_by h) end
  time : start.time ≡ h.start

between : (c : Setting) (states ends : List NodeState) (hs : List NodeHistory) → AreHistories c states ends hs → (i : ℕ) (h : NodeHistory) → slice_get hs i ≡ Some h → IsBetween c i h
between c states ends hs are i h at =
    let taken : slice_get (map taken_by hs) i ≡ Some (taken_by h) = map_get taken_by hs i h at in
    let below = get_within (map taken_by hs) i (taken_by h) taken in
    let first = get_below states i (subst (λ (n : ℕ). i < n) are.steps.as_many below) in
    let last = get_below ends i (subst (λ (n : ℕ). i < n) (are.steps.as_many ∙ sym are.steps.as_many_ends) below) in
    record {
      start = first.0;
      end = last.0;
      steps = are.steps.each i first.0 last.0 (taken_by h) first.1 taken last.1;
      time = some_one (sym (map_get time_of states i first.0 first.1) ∙ ap (λ (times : List ℕ). slice_get times i) are.times ∙ map_get start_of hs i h at);
    }

is_timed : AheadIsNotPassed → (c : Setting) (i : ℕ) (h : NodeHistory) → IsBetween c i h → IsWhole h → IsTimed i h
is_timed known c i h b whole =
    steps_timed known c i b.start b.end (taken_by h) b.steps
    ∙ ap (λ (es : List Event). timed_from i b.start.time es) (whole_events h.entries.now whole)
    ∙ ap (λ (time : ℕ). timed_from i time (map event_in h.entries.now)) b.time

-- ---- all histories

abbrev seen_of : List NodeHistory → List (List Taken)
seen_of hs = map all_seen (map taken_by hs)

on_timed : (k : ℕ) (hs : List NodeHistory) (all : List Placed) → ((i : ℕ) (h : NodeHistory) → slice_get hs i ≡ Some h → IsTimed (k + i) h) → map timed_of (order_on k (seen_of hs) all) ≡ merged_on k hs (map timed_of all)
on_timed k [] all timed = refl
on_timed k (h ∷ hs) all timed =
    let own = map (placed_at k) (all_seen (taken_by h)) in
    let zero_more : k + 0 ≡ k = omega arith in
    let first : IsTimed k h = subst (λ (j : ℕ). IsTimed j h) zero_more (timed 0 h refl) in
    on_timed (k + 1) hs (merged place_of all own) (λ i g at. let same : k + suc i ≡ (k + 1) + i = omega arith in subst (λ (j : ℕ). IsTimed j g) same (timed (suc i) g at))
    ∙ ap (λ (xs : List Timed). merged_on (k + 1) hs xs) (merged_map timed_of key_of all own ∙ ap (λ (xs : List Timed). merged key_of (map timed_of all) xs) first)

without_times : (ps : List Placed) → map placed_in (map timed_of ps) ≡ map event_at ps
without_times [] = refl
without_times (p ∷ ps) = ap (λ (es : List PlacedEvent). event_at p ∷ es) (without_times ps)

all_rise : AheadIsATick → (c : Setting) (states ends : List NodeState) (hs : List NodeHistory) → AreHistories c states ends hs → AllRise (seen_of hs)
all_rise ticks c states ends hs are i seen at =
    let from_seen = get_from_map all_seen (map taken_by hs) i seen at in
    let from = get_from_map taken_by hs i from_seen.0 from_seen.1 in
    let b = between c states ends hs are i from.0 from.1 in
    let same : all_seen (taken_by from.0) ≡ seen = ap all_seen from.2 ∙ from_seen.2 in
    history_rises c i b.start b.end seen (subst (λ (ts : List Taken). StepsThrough c i b.start ts b.end) same (ticks c i b.start b.end (taken_by from.0) b.steps))

pub whole_merged : AheadIsNotPassed → AheadIsATick → (c : Setting) (states ends : List NodeState) (hs : List NodeHistory) → AreHistories c states ends hs → AreMerged (map taken_by hs) (map placed_in (merged_on 0 hs []))
whole_merged known ticks c states ends hs are =
    let order = order_on 0 (seen_of hs) [] in
    let timed : map timed_of order ≡ merged_on 0 hs [] =
    on_timed 0 hs [] (λ i h at. let same : i ≡ 0 + i = omega arith in subst (λ (j : ℕ). IsTimed j h) same (is_timed known c i h (between c states ends hs are i h at) (whole_at hs are.whole i h at))) in
    record {
      order = order;
      merged = record {
        is_order = record {
          within = λ p there. let less = order_within 0 (seen_of hs) [] (λ q none. absurd (contains_nil q none)) p there in omega (arith, less);
          each = λ k history at. let same : 0 + k ≡ k = omega arith in subst (λ (j : ℕ). history_in j order ≡ history) same (order_each 0 (seen_of hs) [] (λ q none. absurd (contains_nil q none)) k history at);
        };
        by_time = order_by_time 0 (seen_of hs) [] (all_rise ticks c states ends hs are) tt;
      };
      events_are = sym (without_times order) ∙ ap (λ (xs : List Timed). map placed_in xs) timed;
    }

-- and so of a result that has them
pub result_merged : {V E : Type 0} (items : V → List PlacedEvent) (result : Result V E) (hs : List NodeHistory) (all : List Timed) → AheadIsNotPassed → AheadIsATick → all ≡ merged_on 0 hs [] → IfOk result (λ (v : V). items v ≡ map placed_in all)
    → IfOk result (λ (v : V). (c : Setting) (states ends : List NodeState) → AreHistories c states ends hs → AreMerged (map taken_by hs) (items v))
result_merged items (Ok v) hs all known ticks is own = λ c states ends are. subst (λ (events : List PlacedEvent). AreMerged (map taken_by hs) events) (sym (own ∙ ap (λ (xs : List Timed). map placed_in xs) is)) (whole_merged known ticks c states ends hs are)
result_merged items (Err e) hs all known ticks is own = tt

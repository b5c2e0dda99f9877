-- Histories that are merged by node time are in a lawful order, and so they are a run.
use Rattle.std.proofs.Common.{◌≡◌, ◌⊎◌, ℕ, ◌<◌, inl, inr, Bool, true, false, Some, List, [], ◌∷◌, ◌++◌, Contains, map, refl, sym, ap, subst, ◌∙◌, arith}
use Rattle.std.specs.Prelude.{if◌then◌else◌, slice_get}
use Rattle.std.proofs.lemmas.Bool.{leb-false}
use Rattle.std.proofs.lemmas.List.Elements.{Contains-append_left, Contains-append_right}
use Rattle.peer_messages.specs.declared.message.Message.{Message}
use Rattle.peer_messages.specs.declared.event.What.{What}
use Rattle.peer_messages.specs.declared.event.What.TheVariants.{Client, Deliver, Alive, Collect, Flush, Tick}
use Rattle.peer_messages.specs.declared.setting.Setting.{Setting}
use Rattle.node_steps.specs.State.{NodeState}
use Rattle.cluster_runs.specs.Run.{WasSent}
use Rattle.cluster_runs.proofs.Lists.{map_get}
use Rattle.cs_base.proofs.Members.{contains_cases, contains_from_flat, contains_from_map, contains_here, contains_map, contains_there}
use Rattle.lawful_orders.specs.Histories.{Taken, StepsThrough, AllStepThrough, DeliverTheirOwn, IsOfHistories, sent_by}
use Rattle.lawful_orders.specs.Orders.{Placed, history_in, IsOrderOf, IsLawful}
use Rattle.lawful_orders.specs.Ahead.{stays_below, was_ahead, as_tick, as_seen, all_seen}
use Rattle.lawful_orders.specs.Merged.{IsByTime, IsNoLater}
use Rattle.lawful_orders.specs.Laws.{MergedIsARun, MergedIsLawful}
use Rattle.lawful_orders.proofs.Orders.{in_history, from_history}
use Rattle.lawful_orders.proofs.Places.{get_below, get_from_map, get_within, length_map}
use Rattle.lawful_orders.proofs.Running.{lawful_run}
use Rattle.lawful_orders.proofs.Ticks.{ahead_ticks}
use Rattle.lawful_orders.proofs.Times.{history_sends}

-- ---- each message that comes is of an entry with an earlier time

record IsEarlier (ps : List Placed) (p : Placed) (m : Message) : Type 0 where
  entry : Placed
  there : Contains ps entry
  sends : Contains entry.taken.outputs.sends m
  before : entry.taken.outputs.time < p.taken.outputs.time

abbrev WasSentEarlier : List Message → List Placed → Placed → Type 0
WasSentEarlier sent ps p = (m : Message) → p.taken.event.what ≡ Deliver m → (m.upto ≡ p.node) × (Contains sent m ⊎ IsEarlier ps p m)

is_sent : (sent : List Message) (k : ℕ) (what : What) → ((m : Message) → what ≡ Deliver m → Contains sent m × (m.upto ≡ k)) → WasSent sent k what
is_sent sent k (Client ask) h = tt
is_sent sent k (Deliver m) h = h m refl
is_sent sent k (Alive peer up) h = tt
is_sent sent k (Collect request) h = tt
is_sent sent k Flush h = tt
is_sent sent k Tick h = tt

not_both : (p q : Placed) → IsNoLater p q → q.taken.outputs.time < p.taken.outputs.time → ⊥
not_both p q (inl less) before = omega (arith, less, before)
not_both p q (inr (same, node)) before = omega (arith, same, before)

first_sent : (sent : List Message) (p : Placed) (ps : List Placed) (m : Message) → ((q : Placed) → Contains ps q → IsNoLater p q) → Contains sent m ⊎ IsEarlier (p ∷ ps) p m → Contains sent m
first_sent sent p ps m later (inl old) = old
first_sent sent p ps m later (inr e) = elim (contains_cases p ps e.entry e.there) [
  | inl same ↦ absurd (let before = subst (λ (q : Placed). q.taken.outputs.time < p.taken.outputs.time) (sym same) e.before in omega (arith, before))
  | inr rest ↦ absurd (not_both p e.entry (later e.entry rest) e.before)
]

later_sent : (sent : List Message) (p : Placed) (ps : List Placed) (q : Placed) (m : Message) → Contains sent m ⊎ IsEarlier (p ∷ ps) q m → Contains (sent ++ p.taken.outputs.sends) m ⊎ IsEarlier ps q m
later_sent sent p ps q m (inl old) = inl (Contains-append_left sent p.taken.outputs.sends m old)
later_sent sent p ps q m (inr e) = elim (contains_cases p ps e.entry e.there) [
  | inl same ↦ inl (Contains-append_right sent p.taken.outputs.sends m (subst (λ (x : Placed). Contains x.taken.outputs.sends m) (sym same) e.sends))
  | inr rest ↦ inr (record { entry = e.entry; there = rest; sends = e.sends; before = e.before })
]

lawful_by_time : (ps : List Placed) (sent : List Message) → IsByTime ps → ((p : Placed) → Contains ps p → WasSentEarlier sent ps p) → IsLawful sent ps
lawful_by_time [] sent sorted each = tt
lawful_by_time (p ∷ ps) sent sorted each = (
  is_sent sent p.node p.taken.event.what (λ m is. let h = each p (contains_here p ps) m is in (first_sent sent p ps m sorted.0 h.1, h.0)),
  lawful_by_time ps (sent ++ p.taken.outputs.sends) sorted.1 (λ q there m is. let h = each q (contains_there p ps q there) m is in (h.0, later_sent sent p ps q m h.1)),
)

-- ---- what a seen entry tells

tick_not : (m : Message) → Tick ≡ Deliver m → ⊥
tick_not m e = cc

-- a message that comes in an entry as it is seen came in it as it was, and its time was passed
record IsDelivery (t seen : Taken) (m : Message) : Type 0 where
  same : seen ≡ t
  what : t.event.what ≡ Deliver m
  after : m.time < t.outputs.time

delivers_if : (t : Taken) (m : Message) (b : Bool) → was_ahead t ≡ b → (if b then as_tick t else t).event.what ≡ Deliver m → IsDelivery t (if b then as_tick t else t) m
delivers_if t m true ahead is = absurd (tick_not m is)
delivers_if t m false ahead is = record { same = refl; what = is; after = leb-false t.outputs.time m.time (subst (λ (w : What). stays_below t.outputs.time w ≡ false) is ahead) }

delivers : (t : Taken) (m : Message) → (as_seen t).event.what ≡ Deliver m → IsDelivery t (as_seen t) m
delivers t m is = delivers_if t m (was_ahead t) refl is

time_if : (t : Taken) (b : Bool) → (if b then as_tick t else t).outputs.time ≡ t.outputs.time
time_if t true = refl
time_if t false = refl

sends_if : (t : Taken) (b : Bool) → (if b then as_tick t else t).outputs.sends ≡ t.outputs.sends
sends_if t true = refl
sends_if t false = refl

-- ---- the entries of histories

-- the entry that sent a message of the histories
sender_is : (c : Setting) (starts ends : List NodeState) (histories : List (List Taken)) (order : List Placed) (k : ℕ) (m : Message) → AllStepThrough c starts histories ends → IsOrderOf (map all_seen histories) order → IsOfHistories histories k m
    → (q : Placed) × Contains order q × Contains q.taken.outputs.sends m × (q.taken.outputs.time ≡ m.time)
sender_is c starts ends histories order k m steps is of =
    let from = contains_from_flat sent_by of.history m of.sent in
    let t : Taken = from.0 in
    let below = get_within histories of.sender of.history of.at in
    let first = get_below starts of.sender (subst (λ (n : ℕ). of.sender < n) steps.as_many below) in
    let last = get_below ends of.sender (subst (λ (n : ℕ). of.sender < n) (steps.as_many ∙ sym steps.as_many_ends) below) in
    let time = history_sends c of.sender first.0 last.0 of.history (steps.each of.sender first.0 last.0 of.history first.1 of.at last.1) t from.1 m from.2 in
    let seen : slice_get (map all_seen histories) of.sender ≡ Some (all_seen of.history) = map_get all_seen histories of.sender of.history of.at in
    let there : Contains (history_in of.sender order) (as_seen t) = subst (λ (ts : List Taken). Contains ts (as_seen t)) (sym (is.each of.sender (all_seen of.history) seen)) (contains_map as_seen of.history t from.1) in (
      record { node = of.sender; taken = as_seen t },
      from_history of.sender order (as_seen t) there,
      subst (λ (ms : List Message). Contains ms m) (sym (sends_if t (was_ahead t))) from.2,
      time_if t (was_ahead t) ∙ sym time,
    )

-- an entry of the order, as it stands in its node's history
entry_is : (histories : List (List Taken)) (order : List Placed) (p : Placed) → IsOrderOf (map all_seen histories) order → Contains order p
    → (history : List Taken) × (slice_get histories p.node ≡ Some history) × ((t : Taken) × Contains history t × (as_seen t ≡ p.taken))
entry_is histories order p is there =
    let seen = get_below (map all_seen histories) p.node (is.within p there) in
    let from = get_from_map all_seen histories p.node seen.0 seen.1 in
    let in_seen : Contains (all_seen from.0) p.taken = subst (λ (ts : List Taken). Contains ts p.taken) (is.each p.node seen.0 seen.1 ∙ sym from.2) (in_history order p there) in
    (from.0, from.1, contains_from_map as_seen from.0 p.taken in_seen)

entry_sent : (c : Setting) (starts ends : List NodeState) (histories : List (List Taken)) (order : List Placed) (sent : List Message) → AllStepThrough c starts histories ends → DeliverTheirOwn histories → IsOrderOf (map all_seen histories) order
    → (p : Placed) → Contains order p → WasSentEarlier sent order p
entry_sent c starts ends histories order sent steps own is p there m what =
    let entry = entry_is histories order p is there in
    let t : Taken = entry.2.0 in
    let delivery = delivers t m (subst (λ (x : Taken). x.event.what ≡ Deliver m) (sym entry.2.2) what) in
    let of = own p.node entry.0 entry.1 t entry.2.1 m delivery.what in
    let sender = sender_is c starts ends histories order p.node m steps is of in
    let same : p.taken.outputs.time ≡ t.outputs.time = ap (λ (x : Taken). x.outputs.time) (sym entry.2.2 ∙ delivery.same) in
    let after = delivery.after in
    let time = sender.3 in
    (of.upto, inr (record { entry = sender.0; there = sender.1; sends = sender.2; before = omega (arith, same, after, time) }))

pub merged_lawful : MergedIsLawful
merged_lawful c starts ends histories order sent steps own merged = lawful_by_time order sent merged.by_time (entry_sent c starts ends histories order sent steps own merged.is_order)

-- ---- runs

pub seen_steps : (c : Setting) (starts ends : List NodeState) (histories : List (List Taken)) → AllStepThrough c starts histories ends → AllStepThrough c starts (map all_seen histories) ends
seen_steps c starts ends histories steps = record {
  as_many = length_map all_seen histories ∙ steps.as_many;
  as_many_ends = steps.as_many_ends;
  each = λ k s s' seen start at last.
      let from = get_from_map all_seen histories k seen at in
      subst (λ (h : List Taken). StepsThrough c k s h s') from.2 (ahead_ticks c k s s' from.0 (steps.each k s s' from.0 start from.1 last));
}

pub merged_run : MergedIsARun
merged_run c first w starts ends histories order run standing steps own merged =
    lawful_run c first w starts ends (map all_seen histories) order run standing (seen_steps c starts ends histories steps) merged.is_order (merged_lawful c starts ends histories order w.sent steps own merged)

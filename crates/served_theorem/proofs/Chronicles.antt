-- What a run's chronicle has of the steps by which it went on.
use Rattle.std.proofs.Common.{refl, append_assoc, ap, ◌∙◌, ◌≡◌, ◌⊎◌, ℕ, inl, inr, Bool, true, false, Some, List, [], ◌∷◌, ◌++◌, Contains, map, reverse, sym, subst}
use Rattle.std.specs.Prelude.{if◌then◌else◌, slice_get}
use Rattle.std.proofs.lemmas.List.Elements.{Contains-append_cases, Contains-append_left, Contains-append_right}
use Rattle.cs_base.specs.declared.ids.ReqId.{ReqId}
use Rattle.cs_base.proofs.Members.{contains_cases, contains_map, contains_nil, in_reverse}
use Rattle.peer_messages.specs.declared.chronicle.Entry.{Entry}
use Rattle.peer_messages.specs.declared.event.Ask.{Ask}
use Rattle.peer_messages.specs.declared.event.Event.{Event}
use Rattle.peer_messages.specs.declared.event.What.{What}
use Rattle.peer_messages.specs.declared.event.What.TheVariants.{Client}
use Rattle.peer_messages.specs.declared.outcome.Outputs.{Outputs}
use Rattle.peer_messages.specs.declared.setting.Setting.{Setting}
use Rattle.node_steps.specs.Acts.{Deed}
use Rattle.node_steps.specs.State.{NodeState}
use Rattle.node_steps.specs.Steps.{NodeStep, started_by, time_after}
use Rattle.node_steps.specs.Stops.{asked_by}
use Rattle.cluster_runs.specs.World.{World}
use Rattle.cluster_runs.specs.Run.{closing, entered_by, opening}
use Rattle.lawful_orders.specs.Ahead.{all_seen, as_seen, as_tick, stays_below, was_ahead}
use Rattle.lawful_orders.specs.Histories.{Taken}
use Rattle.lawful_orders.specs.Merged.{IsMerged}
use Rattle.lawful_orders.specs.Orders.{IsOrderOf, Placed, RunsThrough}
use Rattle.lawful_orders.proofs.Orders.{from_history}
use Rattle.served_theorem.proofs.Lists.{get_map}

-- the step entered this
abbrev pub Enters : Placed → Entry → Type 0
Enters p e = Contains (asked_by p.taken.outputs.started ++ p.taken.outputs.entries) e

entered_now : (c : Setting) (k : ℕ) (p : Placed) (s : _) (e : Entry) → Enters p e → Contains (entered_by c k p.taken.outputs s) e
entered_now c k p s e h = elim (Contains-append_cases (asked_by p.taken.outputs.started) p.taken.outputs.entries e h) [
  | inl asked ↦ Contains-append_left (opening c k p.taken.outputs s) (p.taken.outputs.entries ++ closing k p.taken.outputs.tables) e (Contains-append_left (asked_by p.taken.outputs.started) _ e asked)
  | inr own ↦ Contains-append_right (opening c k p.taken.outputs s) (p.taken.outputs.entries ++ closing k p.taken.outputs.tables) e (Contains-append_left p.taken.outputs.entries (closing k p.taken.outputs.tables) e own)
]

step_names : (c : Setting) (k : ℕ) (before after : NodeState) (e : Event) (deeds : List Deed) (o : Outputs) → NodeStep c k before e deeds o after → (ask : Ask) → e.what ≡ Client ask → (id : ReqId) × (o.started ≡ Some id)
step_names c k before after e deeds o step ask is =
    (_, ap (λ (x : Outputs). x.started) step.outputs ∙ ap (λ (what : What). started_by k (time_after before e) what) is)

-- what the steps of an order put in front of a chronicle has all that they entered
pub record IsAdded (order : List Placed) (w last : World) : Type 0 where
  pub added : List Entry
  pub is : last.chronicle ≡ added ++ w.chronicle
  pub each : (p : Placed) → Contains order p → (e : Entry) → Enters p e → Contains added e
  -- a step that takes a client's request names it
  pub names : (p : Placed) → Contains order p → (ask : Ask) → p.taken.event.what ≡ Client ask → (id : ReqId) × (p.taken.outputs.started ≡ Some id)

pub all_added : (c : Setting) (order : List Placed) (w last : World) → RunsThrough c w order last → IsAdded order w last
all_added c [] w last through = record { added = []; is = sym (ap (λ (v : World). v.chronicle) through); each = λ p h. absurd (contains_nil p h); names = λ p h. absurd (contains_nil p h) }
all_added c (q ∷ qs) w last (next, takes, rest) =
    let later = all_added c qs next last rest in
    let now = reverse (entered_by c q.node q.taken.outputs takes.step.after) in
    record {
      added = later.added ++ now;
      is = later.is ∙ ap (λ (v : World). later.added ++ v.chronicle) takes.world ∙ sym (append_assoc later.added now w.chronicle);
      each = λ p h e enters. elim (contains_cases q qs p h) [
        | inl same ↦
            Contains-append_right later.added now e
            (in_reverse (entered_by c q.node q.taken.outputs takes.step.after) e (entered_now c q.node q takes.step.after e (subst (λ (x : Placed). Enters x e) (sym same) enters)))
        | inr behind ↦ Contains-append_left later.added now e (later.each p behind e enters)
      ];
      names = λ p h. elim (contains_cases q qs p h) [
        | inl same ↦ subst (λ (x : Placed). (ask : Ask) → x.taken.event.what ≡ Client ask → (id : ReqId) × (x.taken.outputs.started ≡ Some id)) same
            (λ ask is.
            let named = step_names c q.node takes.step.before takes.step.after q.taken.event takes.step.deeds takes.step.outputs takes.step.step ask is in
            (named.0, ap (λ (x : Outputs). x.started) (sym takes.outputs) ∙ named.1))
        | inr behind ↦ later.names p behind
      ];
    }

-- ---- the step of each entry of a history

-- it stands in the order, or the same as a reading of the clock, which enters as much
pub record IsInOrder (order : List Placed) (t : Taken) : Type 0 where
  pub placed : Placed
  pub there : Contains order placed
  pub enters : (e : Entry) → Contains (asked_by t.outputs.started ++ t.outputs.entries) e → Enters placed e
  pub same : (ask : Ask) → t.event.what ≡ Client ask → placed.taken ≡ t

seen_enters : (t : Taken) (b : Bool) (e : Entry) → Contains (asked_by t.outputs.started ++ t.outputs.entries) e → Enters (record { node = 0; taken = if b then as_tick t else t }) e
seen_enters t true e h = h
seen_enters t false e h = h

in_order : (histories : List (List Taken)) (order : List Placed) → IsOrderOf histories order → (k : ℕ) (history : List Taken) → slice_get histories k ≡ Some history → (t : Taken) → Contains history t → Contains order (record { node = k; taken = t })
in_order histories order is k history at t h = from_history k order t (subst (λ (ts : List Taken). Contains ts t) (sym (is.each k history at)) h)

pub is_in_order : (histories : List (List Taken)) (order : List Placed) → IsOrderOf histories order ⊎ IsMerged histories order → (k : ℕ) (history : List Taken) → slice_get histories k ≡ Some history → (t : Taken) → Contains history t → IsInOrder order t
is_in_order histories order (inl is) k history at t h = record { placed = record { node = k; taken = t }; there = in_order histories order is k history at t h; enters = λ e now. now; same = λ ask e. refl }
is_in_order histories order (inr merged) k history at t h = record {
  placed = record { node = k; taken = as_seen t };
  there = in_order (map all_seen histories) order merged.is_order k (all_seen history) (get_map all_seen histories k history at) (as_seen t) (contains_map as_seen history t h);
  enters = λ e now. seen_enters t (was_ahead t) e now;
  same = λ ask e. ap (λ (b : Bool). if b then as_tick t else t) (ap (λ (what : What). stays_below t.outputs.time what) e);
}

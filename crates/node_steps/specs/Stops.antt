-- What a stop inside a step leaves: of what the node keeps, the state before the step or behind it; and of what the step would
-- have entered, what was asked for and submitted.
use Rattle.std.specs.Prelude.{◌≡◌, ◌⊎◌, ℕ, Bool, true, false, Option, Some, None, List, [], ◌∷◌, ◌++◌, Contains, filter, flat_map}
use Rattle.cs_base.specs.declared.ids.ReqId.{ReqId}
use Rattle.row_change.specs.declared.entry.LogItem.{LogItem}
use Rattle.peer_messages.specs.declared.event.Ask.{Ask}
use Rattle.peer_messages.specs.declared.event.Event.{Event}
use Rattle.peer_messages.specs.declared.chronicle.Entry.{Entry}
use Rattle.peer_messages.specs.declared.chronicle.Entry.TheVariants.{Asked, Submitted, Acked, Refused, Used, Began, Rows, Marks, Time, Turned, Tables, Stopped}
use Rattle.peer_messages.specs.declared.outcome.Outputs.{Outputs}
use Rattle.peer_messages.specs.declared.setting.Setting.{Setting}
use Rattle.durable_state.specs.State.{Durable, IsSameKept}
use Rattle.durable_state.specs.Keeping.{Commits}
use Rattle.node_steps.specs.State.{NodeState, durable_of}
use Rattle.node_steps.specs.Acts.{Act, Asks, Deed, Chain}
use Rattle.node_steps.specs.Steps.{NodeStep, Due, AreDue, matters_of, time_after, started_by, entries_of}

abbrev pub asked_by : Option ReqId → List Entry
asked_by None = []
asked_by (Some request) = Asked (Some request) ∷ []

abbrev pub is_entered_at_stop : Entry → Bool
is_entered_at_stop (Asked r) = true
is_entered_at_stop (Submitted r m) = true
is_entered_at_stop (Acked r l heard) = false
is_entered_at_stop (Refused r refusal) = false
is_entered_at_stop (Used r keyspace) = false
is_entered_at_stop (Began r q l columns) = false
is_entered_at_stop (Rows r rows more grounds) = false
is_entered_at_stop (Marks k alive) = false
is_entered_at_stop (Time k t) = false
is_entered_at_stop (Turned k refusal) = false
is_entered_at_stop (Tables k n) = false
is_entered_at_stop (Stopped k) = false

-- what is entered of a step in which its node stopped: of who asked, and of the entries that it had made
abbrev pub remains : Option ReqId → List Entry → List Entry
remains started entries = filter is_entered_at_stop (asked_by started ++ entries)

abbrev pub remains_of : Outputs → List Entry
remains_of o = remains o.started o.entries

-- Node me took the event from s, and had made these moves when it stopped. A request had been begun or refused by then
pub record CutStep (c : Setting) (me : ℕ) (s : NodeState) (e : Event) (deeds : List Deed) : Type 0 where
  pub reached : NodeState
  pub pending : List Act
  pub left : List Act
  pub due : List Due
  pub are_due : AreDue c me (time_after s e) s due
  pub moves : Chain c me s (matters_of c me s e due) deeds reached pending left
  pub taken : (ask : Ask) → Contains left (Asks ask) → ⊥

abbrev pub remains_in : ℕ → NodeState → Event → List Deed → List Entry
remains_in me s e deeds = remains (started_by me (time_after s e) e.what) (flat_map entries_of deeds)

-- node me may take the event from s, and keeps this then; of the step these entries would remain
pub record MakesTo (c : Setting) (me : ℕ) (s : NodeState) (e : Event) (entries : List Entry) (d : Durable) : Type 0 where
  pub deeds : List Deed
  pub outputs : Outputs
  pub after : NodeState
  pub step : NodeStep c me s e deeds outputs after
  pub remain : remains_of outputs ≡ entries
  pub kept : IsSameKept (durable_of after) d

-- what may be found in the store of a node that stopped in the event: what it kept before, or what it keeps behind the step
abbrev pub MayBeLeft : Setting → ℕ → NodeState → Event → List Entry → Durable → Type 0
MayBeLeft c me s e entries d = IsSameKept (durable_of s) d ⊎ MakesTo c me s e entries d

-- ---- a commit that fails

-- to whatever the entry makes of what it keeps, node me may come by the event with these outputs
abbrev pub Leads : Setting → ℕ → NodeState → Event → Outputs → List LogItem → Type 0
Leads c me s e o entry = (d : Durable) → Commits entry (durable_of s) d → (deeds : List Deed) × (after : NodeState) × NodeStep c me s e deeds o after × (durable_of after ≡ d)

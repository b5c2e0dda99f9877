-- One step of one node: its time rises, then comes what is due, and then the event's own matter, each with all that comes of it
-- at the node itself.
-- A message from too far ahead counts for nothing, and its time is not taken.
use Rattle.std.specs.Prelude.{◌≡◌, ◌↔◌, ◌⊎◌, ◌≤◌, ℕ, ◌+◌, ◌-◌, ◌^◌, ◌==◌, ◌||◌, ◌++◌, not, nat_lt, min, max, if◌then◌else◌, Bool, false, Option, Some, None, List, [], ◌∷◌, map, filter, flat_map, Contains}
use Rattle.std.specs.Map.{keys_of}
use Rattle.std.specs.Ordering.{nat_cmp, ordering_then}
use Rattle.std.specs.declared.cmp.Ordering.{Ordering}
use Rattle.std.specs.declared.cmp.Ordering.TheVariants.{Less}
use Rattle.cs_base.specs.declared.ids.ReqId.{ReqId}
use Rattle.cs_base.specs.Requests.{request_cmp}
use Rattle.row_change.specs.declared.entry.Hint.{Hint}
use Rattle.peer_messages.specs.declared.message.Message.{Message}
use Rattle.peer_messages.specs.declared.event.Event.{Event}
use Rattle.peer_messages.specs.declared.event.What.{What}
use Rattle.peer_messages.specs.declared.event.What.TheVariants.{Client, Deliver, Alive, Collect, Flush, Tick}
use Rattle.peer_messages.specs.declared.chronicle.Entry.{Entry}
use Rattle.peer_messages.specs.declared.outcome.Outbound.{Outbound}
use Rattle.peer_messages.specs.declared.outcome.Outputs.{Outputs}
use Rattle.peer_messages.specs.declared.setting.Setting.{Setting}
use Rattle.peer_messages.specs.Moves.{deadline_of}
use Rattle.node_steps.specs.State.{NodeState}
use Rattle.node_steps.specs.Fitting.{message_fits, mark_fits}
use Rattle.node_steps.specs.Acts.{Act, Rises, Hears, Asks, Marks, DeadlineComes, HintExpires, Deed, Chain, request_at, is_old}
use Rattle.node_steps.specs.Hints.{request_of}

-- a clock's reading above 2 ^ 62 counts as that
abbrev pub reading : Event → ℕ
reading e = min e.clock (2 ^ 62)

abbrev pub message_time : What → ℕ
message_time (Client ask) = 0
message_time (Deliver m) = m.time + 1
message_time (Alive peer up) = 0
message_time (Collect request) = 0
message_time Flush = 0
message_time Tick = 0

-- a message's time is more than a minute above both the node's time and its clock
abbrev pub is_ahead : ℕ → Event → What → Bool
is_ahead time e (Deliver m) = nat_lt (max time (reading e) + 60000000) m.time
is_ahead time e (Client ask) = false
is_ahead time e (Alive peer up) = false
is_ahead time e (Collect request) = false
is_ahead time e Flush = false
is_ahead time e Tick = false

-- what of the event the node looks at
abbrev pub looked_at : ℕ → Event → What
looked_at time e = if is_ahead time e e.what then Tick else e.what

-- the node's time plus 1, the message's plus 1, or the clock's reading, whichever is the latest
abbrev pub risen_time : ℕ → Event → ℕ
risen_time time e = max (time + 1) (max (message_time (looked_at time e)) (reading e))

abbrev pub time_after : NodeState → Event → ℕ
time_after s e = risen_time s.time e

-- no node's time passes this
abbrev pub end_of_time : ℕ
end_of_time = 2 ^ 63 - 2 ^ 21

abbrev pub heard_matter : Setting → ℕ → Message → List Act
heard_matter c me m = if message_fits c me m then Hears (record { from = m.from; born = m.born; request = m.request; body = m.body }) ∷ [] else []

-- the event's own matter; what does not fit has none. An answer that is asked for is none of the plain node
abbrev pub matter_of : Setting → ℕ → What → List Act
matter_of c me (Client ask) = Asks ask ∷ []
matter_of c me (Deliver m) = heard_matter c me m
matter_of c me (Alive peer up) = if mark_fits c me peer then Marks peer up ∷ [] else []
matter_of c me (Collect request) = []
matter_of c me Flush = []
matter_of c me Tick = []

-- ---- what is due

-- at this moment, of this request: its own deadline, or the end of a hint that it left
pub record Due : Type 0 where
  pub moment : ℕ
  pub request : ReqId
  pub peer : ℕ
  pub number : ℕ
  pub act : Act

-- a request's own deadline comes before the ends of its hints
abbrev pub kind_of : Act → ℕ
kind_of (HintExpires peer number) = 1
kind_of (DeadlineComes request) = 0
kind_of (Rises time) = 0
kind_of (Hears incoming) = 0
kind_of (Asks ask) = 0
kind_of (Marks peer up) = 0

-- by moment, then by request, and then by kind; hints that one request left by peer and number
abbrev pub due_cmp : Due → Due → Ordering
due_cmp a b = ordering_then (nat_cmp a.moment b.moment) (ordering_then (request_cmp a.request b.request) (ordering_then (nat_cmp (kind_of a.act) (kind_of b.act)) (ordering_then (nat_cmp a.peer b.peer) (nat_cmp a.number b.number))))

-- a request is open here, and this is its deadline
abbrev pub IsDeadline : NodeState → Due → Type 0
IsDeadline s d =
    (Contains (keys_of s.writes) d.request ⊎ Contains (keys_of s.reads) d.request)
    × (d ≡ record { moment = deadline_of d.request; request = d.request; peer = 0; number = 0; act = DeadlineComes d.request })

abbrev pub expiry_of : Setting → ℕ → Hint → Due
expiry_of c me h = record { moment = h.born + c.expiry + 1; request = request_of me h; peer = h.peer; number = h.number; act = HintExpires h.peer h.number }

-- a hint is kept here, and this is the first moment at which it is too old
abbrev pub IsExpiry : Setting → ℕ → NodeState → Due → Type 0
IsExpiry c me s d = (h : Hint) × Contains s.hints h × (d ≡ expiry_of c me h)

abbrev pub IsDue : Setting → ℕ → ℕ → NodeState → Due → Type 0
IsDue c me risen s d = (d.moment ≤ risen) × (IsDeadline s d ⊎ IsExpiry c me s d)

abbrev pub AreAscending : List Due → Type 0
AreAscending [] = Unit {0}
AreAscending (d ∷ ds) = ((e : Due) → Contains ds e → due_cmp d e ≡ Less) × AreAscending ds

-- all that is due in a step that rises to this time, in its order
pub record AreDue (c : Setting) (me risen : ℕ) (s : NodeState) (due : List Due) : Type 0 where
  pub ascending : AreAscending due
  pub each : (d : Due) → Contains due d ↔ IsDue c me risen s d

abbrev pub act_of : Due → Act
act_of d = d.act

abbrev pub started_by : ℕ → ℕ → What → Option ReqId
started_by me risen (Client ask) = Some (request_at me risen)
started_by me risen (Deliver m) = None
started_by me risen (Alive peer up) = None
started_by me risen (Collect request) = None
started_by me risen Flush = None
started_by me risen Tick = None

abbrev pub message_of : ℕ → ℕ → Outbound → Message
message_of me time x = record { from = me; upto = x.upto; time = time; born = x.born; request = x.request; body = x.body }

-- what goes to other nodes
abbrev pub messages_of : ℕ → ℕ → List Outbound → List Message
messages_of me time xs = map (message_of me time) (filter (λ x. not (x.upto == me)) xs)

abbrev pub sends_of : Deed → List Outbound
sends_of d = d.effects.sends

abbrev pub entries_of : Deed → List Entry
entries_of d = d.effects.entries

-- a flush tells how many tables there are, which is nothing of the plain node
abbrev pub TellsTables : What → Option ℕ → Type 0
TellsTables Flush tables = (n : ℕ) × (tables ≡ Some n)
TellsTables (Client ask) tables = tables ≡ None
TellsTables (Deliver m) tables = tables ≡ None
TellsTables (Alive peer up) tables = tables ≡ None
TellsTables (Collect request) tables = tables ≡ None
TellsTables Tick tables = tables ≡ None

-- a message is refused that is from too far ahead, or was born too long ago
abbrev pub is_refused : Setting → ℕ → ℕ → Event → What → Bool
is_refused c time risen e (Deliver m) = is_ahead time e (Deliver m) || is_old c risen m.born
is_refused c time risen e (Client ask) = false
is_refused c time risen e (Alive peer up) = false
is_refused c time risen e (Collect request) = false
is_refused c time risen e Flush = false
is_refused c time risen e Tick = false

-- a request has the time to which the step rose; messages carry the time at its end
abbrev pub outputs_of : ℕ → ℕ → ℕ → What → List Deed → Option ℕ → Bool → Outputs
outputs_of me risen time what deeds tables refused = record {
  time = time;
  started = started_by me risen what;
  sends = messages_of me time (flat_map sends_of deeds);
  entries = flat_map entries_of deeds;
  tables = tables;
  refused = refused;
}

-- what a step takes: its time rises; then comes what is due; then the event's own matter
abbrev pub matters_of : Setting → ℕ → NodeState → Event → List Due → List Act
matters_of c me s e due = Rises (time_after s e) ∷ (map act_of due ++ matter_of c me (looked_at s.time e))

-- From s node me may take the event, give these outputs and go on to s', by these deeds
pub record NodeStep (c : Setting) (me : ℕ) (s : NodeState) (e : Event) (deeds : List Deed) (o : Outputs) (s' : NodeState) : Type 0 where
  pub due : List Due
  pub are_due : AreDue c me (time_after s e) s due
  pub moves : Chain c me s (matters_of c me s e due) deeds s' [] []
  pub tables : TellsTables e.what o.tables
  pub outputs : o ≡ outputs_of me (time_after s e) s'.time e.what deeds o.tables (is_refused c s.time (time_after s e) e e.what)

-- Which requests are refused in the event in which they come, for what a node has to do or for want of replicas.
use Rattle.std.specs.Prelude.{◌≡◌, ℕ, ◌⊎◌, ◌↔◌, ◌≤◌, ◌<◌, nat_lt, Bool, true, false, Some, List, Contains, filter, length}
use Rattle.cs_base.specs.declared.ids.ReqId.{ReqId}
use Rattle.cs_base.specs.declared.level.Level.{Level}
use Rattle.changes.specs.declared.Partition.{Partition}
use Rattle.changes.specs.Drafts.{mutation_of}
use Rattle.peer_messages.specs.declared.chronicle.Entry.TheVariants.{Refused}
use Rattle.peer_messages.specs.declared.chronicle.Refusal.TheVariants.{Unavailable, Overloaded}
use Rattle.peer_messages.specs.declared.event.Ask.{Ask}
use Rattle.peer_messages.specs.declared.event.Event.{Event}
use Rattle.peer_messages.specs.declared.event.Plan.{Plan}
use Rattle.peer_messages.specs.declared.event.Plan.TheVariants as plan
use Rattle.peer_messages.specs.declared.event.What.TheVariants.{Client}
use Rattle.peer_messages.specs.declared.outcome.Outputs.{Outputs}
use Rattle.peer_messages.specs.declared.setting.Setting.{Setting}
use Rattle.peer_messages.specs.Settings.{alive_at, needed}
use Rattle.peer_messages.specs.Moves.{deadline_of}
use Rattle.node_steps.specs.Fitting.{write_fits, query_fits}
use Rattle.node_steps.specs.Requests.{is_serial}
use Rattle.node_steps.specs.Acts.{Deed}
use Rattle.answer_causes.specs.Story.{Happening, waiting_at}
use Rattle.answer_causes.specs.Marks.{down_at}
use Rattle.answer_causes.specs.Numbers.{WritesTo, ReadsFrom}

-- a statement whose table is there and whose changes can be written
abbrev pub plan_fits : Setting → ReqId → Plan → Bool
plan_fits c id (plan.Write draft) = write_fits c (mutation_of id draft)
plan_fits c id (plan.Read q columns) = query_fits c q
plan_fits c id (plan.Use keyspace) = false
plan_fits c id (plan.Invalid fault) = false

-- a write or a read of a partition comes in this event, and neither it nor its level is invalid
pub record IsRequest (c : Setting) (e : Event) (o : Outputs) (id : ReqId) (l : Level) (p : Partition) : Type 0 where
  pub ask : Ask
  pub asks : e.what ≡ Client ask
  pub started : o.started ≡ Some id
  pub level : ask.level ≡ l
  pub for : WritesTo ask.plan p ⊎ ReadsFrom ask.plan p
  pub fits : plan_fits c id ask.plan ≡ true
  pub plain : is_serial l ≡ false

-- how many requests of the node wait for an answer when it comes: whose deadline has come was told before
abbrev pub waiting_then : ℕ → Outputs → List Happening → ℕ
waiting_then k o earlier = length (filter (λ id. nat_lt o.time (deadline_of id)) (waiting_at k earlier))

-- how many replicas of the partition the node takes for alive
abbrev pub alive_then : Setting → ℕ → List Happening → Partition → ℕ
alive_then c k earlier p = length (alive_at c (down_at c k earlier) p)

pub record RefusesWhere (c : Setting) (k : ℕ) (e : Event) (deeds : List Deed) (o : Outputs) (earlier : List Happening) : Type 0 where
  pub overloaded : (id : ReqId) → Contains o.entries (Refused id Overloaded) ↔ ((l : Level) × (p : Partition) × IsRequest c e o id l p × (1024 ≤ waiting_then k o earlier))
  pub unavailable : (id : ReqId) (required alive : ℕ) → Contains o.entries (Refused id (Unavailable required alive))
      ↔ ((l : Level) × (p : Partition) × IsRequest c e o id l p × (waiting_then k o earlier < 1024) × (required ≡ needed c l p) × (alive ≡ alive_then c k earlier p) × (alive < required))

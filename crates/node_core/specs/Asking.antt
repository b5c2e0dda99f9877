-- A client's request, as its step takes it.
use Rattle.std.specs.Prelude.{◌≡◌, ◌⊎◌, ◌++◌, ℕ, List, None, [], ◌∷◌, length, map}
use Rattle.std.specs.List.{AllByRecursion}
use Rattle.cs_base.specs.declared.level.Level.{Level}
use Rattle.changes.specs.declared.DraftMutation.{DraftMutation}
use Rattle.changes.specs.declared.Query.{Query}
use Rattle.statement_plan.specs.declared.plan.Columns.{Columns}
use Rattle.row_change.specs.declared.entry.Hint as hint
use Rattle.peer_messages.specs.declared.chronicle.Entry.{Entry}
use Rattle.peer_messages.specs.declared.event.Plan.{Plan}
use Rattle.changes.specs.Drafts.{mutation_of}
use Rattle.node_steps.specs.Effects.{effects_of}
use Rattle.node_steps.specs.Hints.{KeptHints, with_room}
use Rattle.node_steps.specs.Keeping.{add_item, hints_of_plan}
use Rattle.node_steps.specs.Requests.{refusal_of, BeginsOrRefuses}
use Rattle.node_steps.specs.Writes.{start_write, started_write, down_at}
use Rattle.node_steps.specs.Reads.{start_read, started_read}
use Rattle.hint_store.specs.Staged.{IsSameHints}
use Rattle.durable_state.specs.State.{Durable}
use Rattle.node_core.specs.declared.base.Base.{Base}
use Rattle.node_core.specs.declared.slot.Slot.{Slot}
use Rattle.node_core.specs.declared.slot.Slot.TheVariants.{Untouched, New}
use Rattle.node_core.specs.declared.work.Given.{Given}
use Rattle.node_core.specs.declared.work.Work.{Work}
use Rattle.node_core.specs.Hinting.{Stage, at, LeavesHints}
use Rattle.node_core.specs.Working.{effects_given, state_at, own_sent, down_with, IsOwn, IsMade, FitsWrite, IsCounted}

pub record TellsEntry (e : Entry) (g : Given) : Type 0 where
  pub sends : g.sends ≡ []
  pub entries : g.entries ≡ e ∷ []

-- a write begins, with a hint for each replica that is marked down and has room
pub record AsksWrite (b : Base) (l : Level) (d : DraftMutation) (x x' : Stage) (g : Given) : Type 0 where
  pub gives : effects_given g ≡ effects_of (start_write b.setting (down_with x.work.marked b.down) x.work.request d)
  pub mid : Stage
  pub hinted : List ℕ
  pub room : hinted ≡ with_room x.hints (down_at b.setting (down_with x.work.marked b.down) d)
  pub leaves : LeavesHints hinted x.work.request.time (mutation_of x.work.request d) x mid
  pub opens : x' ≡ at (record mid.work { write = New (started_write x.work.request l d hinted) }) mid.hints

pub record AsksRead (b : Base) (l : Level) (q : Query) (columns : Columns) (w w' : Work) (g : Given) : Type 0 where
  pub gives : effects_given g ≡ effects_of (start_read b.setting (down_with w.marked b.down) w.request l q columns)
  pub opens : w' ≡ record w { read = New (started_read l q) }

-- a step that has made nothing yet of the event's own matter
pub record IsUnmoved (w : Work) : Type 0 where
  pub marked : w.marked ≡ None
  pub batches : w.batches ≡ None
  pub write : w.write ≡ Untouched
  pub read : w.read ≡ Untouched
  pub taken : w.taken ≡ []
  pub queue : w.queue.items ≡ []
  pub messages : w.messages ≡ []

-- a step that has made nothing yet
pub record IsFresh (b : Base) (w : Work) : Type 0 where
  pub unmoved : IsUnmoved w
  pub made : w.made ≡ []
  pub gone : w.gone ≡ []
  pub entries : w.entries ≡ []
  pub ended_writes : w.ended_writes ≡ []
  pub ended_reads : w.ended_reads ≡ []
  pub unanswered : w.unanswered ≡ b.unanswered
  pub open_reads : w.open_reads ≡ length b.reads.entries

-- The request begins or is refused, from where these hints are kept; these come
pub record Asked (b : Base) (k : KeptHints) (p : Plan) (l : Level) (x x' : Stage) (g : Given) : Type 0 where
  pub kept : KeptHints
  pub same : IsSameHints kept x'.hints
  pub made : List hint.Hint
  pub makes : x'.work.made ≡ x.work.made ++ map add_item made
  pub begins : (d : Durable) → BeginsOrRefuses b.setting x.work.request p l (refusal_of b.setting (state_at b k d x.work) x.work.request p l) (state_at b k d x.work) (effects_given g) (state_at b kept d x'.work)
  pub are : (d : Durable) → hints_of_plan b.setting x.work.request p (refusal_of b.setting (state_at b k d x.work) x.work.request p l) (state_at b k d x.work) ≡ made

-- whatever the node keeps
abbrev pub AsksAs : Base → Plan → Level → Stage → Stage → Given → Type 0
AsksAs b p l x x' g = IsUnmoved x.work → IsCounted b x.work → (k : KeptHints) → IsSameHints k x.hints → Asked b k p l x x' g

-- a slot stays as it is, or a request begins in it
abbrev pub MayBegin : {A : Type 0} → Slot A → Slot A → Type 0
MayBegin {A} slot slot' = (slot' ≡ slot) ⊎ ((a : A) × (slot' ≡ New a))

-- a client's request changes nothing else of a step, and what it sends to the node itself is of it
pub record Begins (b : Base) (w w' : Work) (g : Given) : Type 0 where
  pub stays : w' ≡ record w { write = w'.write; read = w'.read; made = w'.made }
  pub write : MayBegin w.write w'.write
  pub read : MayBegin w.read w'.read
  pub own : AllByRecursion (IsOwn b.me w.request) (own_sent b.me g.sends)
  pub fits : FitsWrite w.write → FitsWrite w'.write
  pub made : AllByRecursion IsMade w.made → AllByRecursion IsMade w'.made

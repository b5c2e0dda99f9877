-- What a node has in memory, and what a step makes of it.
use Rattle.std.specs.Prelude.{◌≡◌, ◌++◌, ℕ, Bool, true, false, Option, Some, None, Result, Ok, Err, List, [], MatchBool}
use Rattle.cs_base.specs.declared.ids.ReqId.{ReqId}
use Rattle.row_change.specs.declared.entry.LogItem.{LogItem}
use Rattle.peer_messages.specs.declared.chronicle.Entry.{Entry}
use Rattle.peer_messages.specs.declared.event.Event.{Event}
use Rattle.peer_messages.specs.declared.event.What.{What}
use Rattle.peer_messages.specs.declared.event.What.TheVariants.{Client, Deliver, Alive, Collect, Flush, Tick}
use Rattle.peer_messages.specs.declared.outcome.Outputs.{Outputs}
use Rattle.durable_state.specs.State.{Durable}
use Rattle.node_steps.specs.Hints.{KeptHints}
use Rattle.node_steps.specs.Acts.{ceiling_after}
use Rattle.node_steps.specs.Steps.{looked_at, matter_of, started_by, is_refused}
use Rattle.node_steps.specs.Keeping.{ceiling_in}
use Rattle.peer_messages.specs.declared.setting.Setting.{Setting}
use Rattle.hint_store.specs.Staged.{IsSameHints}
use Rattle.replica.specs.declared.kept.Kept.{Kept}
use Rattle.replica.specs.declared.error.RoomError.{RoomError}
use Rattle.replica.specs.declared.error.RoomError.TheVariants as room_error
use Rattle.node_core.specs.declared.base.Base.{Base}
use Rattle.node_core.specs.declared.memory.Memory.{Memory}
use Rattle.node_core.specs.declared.memory.Made.{Made}
use Rattle.node_core.specs.declared.outcome.Lost.{Lost}
use Rattle.node_core.specs.declared.outcome.StepError.{StepError}
use Rattle.node_core.specs.declared.outcome.StepError.TheVariants.{Failed, NoRoom, TooLarge, NoMemory}
use Rattle.node_core.specs.declared.work.Work.{Work}
use Rattle.node_core.specs.Asking.{IsFresh}
use Rattle.node_core.specs.Hinting.{Stage}
use Rattle.node_core.specs.Moving.{CutsIn, IsAbout, IsHolding, IsWorkedOut, TakesDue}
use Rattle.node_core.specs.Nodes.{Core}
use Rattle.node_core.specs.Opening.{BeganBy}
use Rattle.node_core.specs.Working.{down_with, batches_with, left_open, with_slot}

-- what is kept beside the contents, with these hints
abbrev pub kept_with : KeptHints → Kept → Kept
kept_with k kept = record kept { hints = k.hints; numbers = k.numbers }

-- of a node that runs, with the hints that it keeps outside of a step
abbrev pub core_of : Memory → Core
core_of m = record {
  setting = m.base.setting;
  me = m.base.me;
  runs = true;
  time = m.time;
  risen = m.time;
  kept = kept_with m.hints.before m.kept;
  down = m.base.down;
  batches = m.base.batches;
  writes = m.base.writes.entries;
  reads = m.base.reads.entries;
}

-- hints stand in their store alone
pub record IsBare (kept : Kept) : Type 0 where
  pub hints : kept.hints ≡ []
  pub numbers : kept.numbers ≡ []

-- what the node holds, of which no request began after the node's time
pub record HoldsCore (m : Memory) : Type 0 where
  pub holding : IsHolding m.base
  pub writes : BeganBy m.time m.base.writes.entries
  pub reads : BeganBy m.time m.base.reads.entries
  pub bare : IsBare m.kept

-- ---- a step begins

abbrev pub is_flush : What → Bool
is_flush (Client ask) = false
is_flush (Deliver m) = false
is_flush (Alive peer up) = false
is_flush (Collect request) = false
is_flush Flush = true
is_flush Tick = false

-- what of its event the node looks at, and what the step has made
pub record Begun : Type 0 where
  pub what : What
  pub made : Made

-- the node, whose time and ceiling were these, takes the event at this time, and has made nothing of it yet
pub record IsBegun (b : Base) (was under t : ℕ) (e : Event) (x : Begun) : Type 0 where
  pub what : x.what ≡ looked_at was e
  pub fresh : IsFresh b x.made.work
  pub time : x.made.work.time ≡ t
  pub ceiling : x.made.work.ceiling ≡ ceiling_after under t
  pub about : IsAbout b.me t x.what x.made.work.request
  pub started : x.made.started ≡ started_by b.me t e.what
  pub refused : x.made.refused ≡ is_refused b.setting was t e e.what
  pub flushes : x.made.flushes ≡ is_flush e.what

-- ---- what is due is taken, and then the event's own matter

-- of what the node looks at
pub record WorksOut (b : Base) (honest : Type 0) (d : Durable) (what : What) (x x' : Stage) : Type 0 where
  pub mid : Stage
  pub due : TakesDue b x mid
  pub worked : IsWorkedOut b honest d (matter_of b.setting b.me what) mid x'

-- a stop in it
pub record CutsOff (b : Base) (d : Durable) (what : What) (x : Stage) (w' : Work) : Type 0 where
  pub mid : Stage
  pub due : TakesDue b x mid
  pub cuts : CutsIn b d (matter_of b.setting b.me what) mid w'

-- ---- and is kept

-- the entry of what it made
abbrev pub entry_made : ℕ → Work → List LogItem
entry_made before w = w.taken ++ ((w.made ++ w.gone) ++ ceiling_in before w.ceiling)

-- the node behind it
abbrev pub core_behind : Memory → Work → KeptHints → Core
core_behind m w k = record (core_of m) {
  time = w.time;
  risen = w.time;
  kept = record (kept_with k m.kept) { ceiling = w.ceiling };
  down = down_with w.marked m.base.down;
  batches = batches_with w.batches m.base.batches;
  writes = with_slot w.request w.write (left_open w.ended_writes m.base.writes.entries);
  reads = with_slot w.request w.read (left_open w.ended_reads m.base.reads.entries);
}

abbrev pub outputs_with : Made → Option ℕ → Outputs
outputs_with x tables = record {
  time = x.work.time;
  started = x.started;
  sends = x.work.messages;
  entries = x.work.entries;
  tables = tables;
  refused = x.refused;
}

-- tables are told of where they were written
abbrev pub TellsBy : Bool → Option ℕ → Type 0
TellsBy flushes tables = MatchBool flushes ((n : ℕ) × (tables ≡ Some n)) (tables ≡ None)

pub record AreOutputsOf (x : Made) (o : Outputs) : Type 0 where
  pub outputs : o ≡ outputs_with x o.tables
  pub tables : TellsBy x.flushes o.tables

-- ---- or is not

pub record IsLost (request : Option ReqId) (made : List Entry) (l : Lost) : Type 0 where
  pub started : l.started ≡ request
  pub entries : l.entries ≡ made

-- what the node tells where its replica refuses the entry
abbrev pub IsRefusal : RoomError → Option ReqId → List Entry → StepError → Type 0
IsRefusal room_error.Failed started entries told = (l : Lost) × (told ≡ Failed l) × IsLost started entries l
IsRefusal (room_error.TooLarge p) started entries told = told ≡ TooLarge p
IsRefusal room_error.NoRoom started entries told = told ≡ NoRoom
IsRefusal room_error.NoMemory started entries told = told ≡ NoMemory

-- a call of the node's store failed
abbrev pub has_stopped : Result Outputs StepError → Bool
has_stopped (Ok o) = false
has_stopped (Err (Failed l)) = true
has_stopped (Err NoRoom) = false
has_stopped (Err (TooLarge p)) = false
has_stopped (Err NoMemory) = false

-- ---- a load

-- the node holds what a load told, and has forgotten all else
pub record IsLoaded (me : ℕ) (c : Setting) (kept : Kept) (n : Core) : Type 0 where
  pub same : IsSameHints (record { hints = kept.hints; numbers = kept.numbers }) (record { hints = n.kept.hints; numbers = n.kept.numbers })
  pub core : n ≡ record { setting = c; me = me; runs = true; time = kept.ceiling; risen = kept.ceiling; kept = record kept { hints = n.kept.hints; numbers = n.kept.numbers }; down = []; batches = []; writes = []; reads = [] }

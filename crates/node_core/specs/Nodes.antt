-- A node as its contracts see it: what it has in memory, and what its replica keeps.
use Rattle.std.specs.Prelude.{◌≡◌, ◌⊎◌, ◌<◌, ◌≤◌, ℕ, Bool, Option, List, []}
use Rattle.cs_base.specs.declared.ids.ReqId.{ReqId}
use Rattle.changes.specs.declared.Partition.{Partition}
use Rattle.cs_store.specs.Disk.{Disk, IsImage}
use Rattle.row_change.specs.declared.entry.LogEntry.{LogEntry}
use Rattle.row_change.specs.declared.entry.LogItem.{LogItem}
use Rattle.peer_messages.specs.declared.event.Event.{Event}
use Rattle.peer_messages.specs.declared.event.What.TheVariants.{Tick}
use Rattle.peer_messages.specs.declared.outcome.Outputs.{Outputs}
use Rattle.peer_messages.specs.declared.chronicle.Entry.{Entry}
use Rattle.peer_messages.specs.declared.setting.Setting.{Setting}
use Rattle.durable_state.specs.State.{Durable, formatted}
use Rattle.durable_state.specs.Keeping.{Commits}
use Rattle.node_steps.specs.State.{NodeState, Batch, OpenWrite, OpenRead, durable_of}
use Rattle.node_steps.specs.Acts.{Deed}
use Rattle.node_steps.specs.Steps.{NodeStep, Due, IsDue, risen_time, end_of_time}
use Rattle.node_steps.specs.Keeping.{entry_of}
use Rattle.node_steps.specs.Stops.{remains_in, CutStep, MayBeLeft}
use Rattle.replica.specs.declared.kept.Kept.{Kept}
use Rattle.replica.specs.Finding.{StandFor}
use Rattle.replica.specs.Lengths.{PassesLog, IsFirstTooLarge, AllStaySmall}

-- what a node has in memory, and whether it runs
pub record Core : Type 0 where
  pub setting : Setting
  pub me : ℕ
  pub runs : Bool
  pub time : ℕ
  pub risen : ℕ
  pub kept : Kept
  pub down : List ℕ
  pub batches : List Batch
  pub writes : List (ReqId × OpenWrite)
  pub reads : List (ReqId × OpenRead)

-- its state, with what its replica keeps
abbrev pub state_with : Core → Durable → NodeState
state_with n d = record {
  ceiling = d.ceiling;
  content = d.content;
  rows = d.rows;
  hints = d.hints;
  numbers = d.numbers;
  marks = d.marks;
  time = n.time;
  risen = n.risen;
  down = n.down;
  batches = n.batches;
  writes = n.writes;
  reads = n.reads;
}

-- a reading of the clock, and nothing else
abbrev pub tick_at : ℕ → Event
tick_at clock = record { clock = clock; what = Tick }

-- of its state, what it has in memory
abbrev pub memory_state : Core → NodeState
memory_state n = state_with n (record formatted { ceiling = n.kept.ceiling; rows = n.kept.rows; hints = n.kept.hints; numbers = n.kept.numbers; marks = n.kept.marks })

-- at this reading of the clock, without a message, its time does not pass its end, and nothing is due
pub record IsIdle (n : Core) (clock : ℕ) : Type 0 where
  pub within : risen_time n.time (tick_at clock) ≤ end_of_time
  pub none : (d : Due) → IsDue n.setting n.me (risen_time n.time (tick_at clock)) (memory_state n) d → ⊥

-- the node takes the event, gives these outputs, and goes on
pub record Steps (n : Core) (d : Durable) (e : Event) (o : Outputs) (n' : Core) (d' : Durable) : Type 0 where
  pub deeds : List Deed
  pub step : NodeStep n.setting n.me (state_with n d) e deeds o (state_with n' d')
  pub stays : n' ≡ record n { time = n'.time; risen = n'.risen; kept = n'.kept; down = n'.down; batches = n'.batches; writes = n'.writes; reads = n'.reads }

-- To whatever the entry makes of what is kept, the node comes by a step that keeps this entry and gives these outputs
abbrev pub LeadsBy : Core → Durable → Event → Outputs → List LogItem → Type 0
LeadsBy n d e o items =
    (d' : Durable) → Commits items d d'
    → (deeds : List Deed) × (after : NodeState) × NodeStep n.setting n.me (state_with n d) e deeds o after
    × (durable_of after ≡ d') × (items ≡ entry_of n.setting (state_with n d) deeds after)

-- the node's step by this event would keep an entry that has P
pub record WouldKeep (n : Core) (d : Durable) (e : Event) (P : List LogItem → Type 0) : Type 0 where
  pub items : List LogItem
  pub outputs : Outputs
  pub leads : LeadsBy n d e outputs items
  pub has : P items

abbrev pub has_items : List LogItem → LogEntry
has_items items = record { items = items }

-- the log would pass its length by the entry, while no partition of it grows too large
abbrev pub OverflowsLog : ℕ → Durable → List LogItem → Type 0
OverflowsLog log_end d items = PassesLog log_end (has_items items) × AllStaySmall items items d

-- an entry that keeps something fits: the log does not pass its length, and no partition grows too large
abbrev pub HasRoom : ℕ → Durable → List LogItem → Type 0
HasRoom log_end d items = (items ≡ [] → ⊥) → (PassesLog log_end (has_items items) → ⊥) × AllStaySmall items items d

-- the node's time would pass its end, or its log its length
abbrev pub HasNoRoom : Core → Durable → ℕ → Event → Type 0
HasNoRoom n d log_end e = (end_of_time < risen_time n.time e) ⊎ WouldKeep n d e (OverflowsLog log_end d)

-- the log is as long as before, and so is what was added since its last flush
abbrev pub IsSameLog : {R : Type 0} → (R → ℕ) → (R → Option ℕ) → R → R → Type 0
IsSameLog {R} log_end since_flush old new = (log_end new ≡ log_end old) × (since_flush new ≡ since_flush old)

abbrev pub IsTooLarge : Core → Durable → Event → Partition → Type 0
IsTooLarge n d e p = WouldKeep n d e (λ items. IsFirstTooLarge items d p)

-- The node stopped in the event, of which this remains to be entered. Whatever a crash leaves of its disk stands for what was
-- kept before the step or behind it
pub record Halts (n : Core) (d : Durable) (e : Event) (remains : List Entry) (stands_for : (ℕ → List ℕ) → Durable → Type 0) (disk : Disk) : Type 0 where
  pub deeds : List Deed
  pub cut : CutStep n.setting n.me (state_with n d) e deeds
  pub entries : remains ≡ remains_in n.me (state_with n d) e deeds
  pub leaves : (files : ℕ → List ℕ) → IsImage disk disk.moment files → StandFor stands_for (MayBeLeft n.setting n.me (state_with n d) e remains) files

-- what is kept before the event or behind it
abbrev pub IsBeforeOrBehind : Core → Durable → Event → Durable → Type 0
IsBeforeOrBehind n d e kept = (entries : List Entry) × MayBeLeft n.setting n.me (state_with n d) e entries kept

-- One partition's row in memory.
use Rattle.std.specs.Prelude.{Option, Some, None}
use Rattle.row_change.specs.declared.entry.PaxosRow.{PaxosRow}
use Rattle.row_store.specs.declared.slot.Slot.{Slot}

-- what a step has set, or else what was kept
abbrev pub current_by : Option PaxosRow → Option PaxosRow → Option PaxosRow
current_by None settled = settled
current_by (Some row) settled = Some row

abbrev pub current_of : Slot → Option PaxosRow
current_of s = current_by s.staged s.settled

abbrev pub settled_slot : Slot → Slot
settled_slot s = record { settled = current_of s; staged = None }

-- ---- where there may be none

abbrev pub settled_in : Option Slot → Option PaxosRow
settled_in None = None
settled_in (Some s) = s.settled

abbrev pub staged_in : Option Slot → Option PaxosRow
staged_in None = None
staged_in (Some s) = s.staged

abbrev pub current_in : Option Slot → Option PaxosRow
current_in None = None
current_in (Some s) = current_of s

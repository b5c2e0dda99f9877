-- What the entries of a log make of nothing.
use Rattle.std.specs.Prelude.{List, [], ◌∷◌, map}
use Rattle.row_change.specs.declared.entry.LogEntry.{LogEntry}
use Rattle.durable_state.specs.State.{Durable, formatted}
use Rattle.durable_state.proofs.Making.{each_entry_makes}

-- as a history has it
abbrev pub Entered : Type 0
Entered = LogEntry × Unit {0}

abbrev pub entry_of : Entered → LogEntry
entry_of e = e.0

abbrev pub entries_of : List Entered → List LogEntry
entries_of es = map entry_of es

-- a state that the entries make of this one, one after another
unfoldable pub kept_from : Durable → List Entered → Durable
kept_from d [] = d
kept_from d (e ∷ es) = kept_from (each_entry_makes e.0.items d).0 es

abbrev pub kept_by : List Entered → Durable
kept_by es = kept_from formatted es

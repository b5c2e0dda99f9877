-- What the file of a log stands for.
use Rattle.std.specs.Prelude.{◌≡◌, ℕ, List, map}
use Rattle.commit_log.specs.Format.{ReadsEntries, IsDamaged}
use Rattle.row_change.specs.declared.entry.LogEntry.{LogEntry}
use Rattle.row_change.specs.declared.entry.LogItem.{LogItem}
use Rattle.durable_state.specs.State.{Durable, formatted}
use Rattle.replica.specs.Calls.{CommitEach}

abbrev pub items_of : LogEntry → List LogItem
items_of e = e.items

-- the log reads as entries, and this is what they make, one after another, of nothing
pub record StandsFor (files : ℕ → List ℕ) (d : Durable) : Type 0 where
  pub entries : List LogEntry
  pub reads : ReadsEntries entries (files 0)
  pub made : CommitEach (map items_of entries) formatted d

-- the log breaks its format at this place
abbrev pub IsDamagedAt : (ℕ → List ℕ) → ℕ → ℕ → Type 0
IsDamagedAt files f place = (f ≡ 0) × IsDamaged place (files 0)

-- Where a commit log goes on.
use Rattle.std.specs.Prelude.{◌≡◌, ℕ, List, [], length}
use Rattle.gate_log.specs.Place.{Place, CanAppend}
use Rattle.row_change.specs.declared.entry.LogEntry.{LogEntry}
use Rattle.row_change.specs.Grammar.{IsEntry}
use Rattle.row_change.specs.Lengths.{entry_length}

-- where the gate log goes on, and the word for which it was readied last
pub record LogPlace : Type 0 where
  pub place : Place
  pub word : List ℕ

-- The entry can be appended with no memory, and the file stays within 64 MiB.
pub record IsReady (entry : LogEntry) (log : LogPlace) (reserved : ℕ → ℕ) : Type 0 where
  pub word : IsEntry log.word entry []
  pub long : length log.word ≡ entry_length entry
  pub room : CanAppend (length log.word) log.place reserved

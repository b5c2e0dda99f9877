-- When a replica on a log stands on its disk.
use Rattle.std.specs.Prelude.{◌≡◌, ℕ, ◌≤◌, List, Option, IfSome}
use Rattle.cs_store.specs.Disk.{Disk, IsSettled}
use Rattle.commit_log.specs.Format.{ReadsEntries}
use Rattle.commit_log.specs.Place.{LogPlace, IsReady}
use Rattle.gate_log.specs.Place.{IsAtRest}
use Rattle.replica.specs.Kept.{PurgeNothing}
use Rattle.row_change.specs.declared.entry.LogEntry.{LogEntry}
use Rattle.list_replica.specs.declared.memtable.Memtable.{Memtable}
use Rattle.list_replica.specs.Keeping.{entries_of}
use Rattle.list_replica.specs.Memtables.{committed, IsSound, HasStaged}

-- the file is a log of these entries, and it is on the disk
pub record IsOnDisk (disk : Disk) (gate : ℕ) (entries : List LogEntry) : Type 0 where
  pub reads : ReadsEntries entries (disk.seen 0)
  pub at_rest : IsAtRest gate (disk.seen 0)
  pub settled : IsSettled 0 disk

-- the log of file 0 has the entries that made the contents
pub record IsWhole (honest : Type 0) (disk : Disk) (log : LogPlace) (table : Memtable) (since : Option ℕ) : Type 0 where
  pub file : log.place.file ≡ 0
  pub on_disk : honest → IsOnDisk disk log.place.gate (entries_of (committed table))
  pub sound : IsSound table
  pub added : IfSome since (λ n. n ≤ log.place.gate)

-- there is room for the entry, in the log and in the contents
pub record IsGranted (place : LogPlace) (reserved : ℕ → ℕ) (table : Memtable) (entry : LogEntry) : Type 0 where
  pub log : IsReady entry place reserved
  pub staged : HasStaged table entry.items
  pub no_purges : PurgeNothing entry.items

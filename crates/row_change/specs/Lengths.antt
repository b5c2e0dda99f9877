-- The length of a log's entries as they are stored: numbers have 1, 4 or 8 bytes, a kind and a flag have one, and a list has
-- its count in 4 bytes before it.
use Rattle.std.specs.Prelude.{ℕ, ◌+◌, ◌*◌, Option, Some, None}
use Rattle.std.specs.List.{sum_by}
use Rattle.changes.specs.Lengths.{held_length, changes_length, partition_length, mutation_length}
use Rattle.row_change.specs.declared.entry.Stamped.{Stamped}
use Rattle.row_change.specs.declared.entry.PaxosRow.{PaxosRow}
use Rattle.row_change.specs.declared.entry.LogEntry.{LogEntry}
use Rattle.row_change.specs.declared.entry.LogItem.{LogItem}
use Rattle.row_change.specs.declared.entry.LogItem.TheVariants.{Data, Paxos, HintAdd, HintGone, Ceiling, Mark, Purge}

-- a ballot, a request's node and time, and the base, before the changes
abbrev pub stamped_length : Option Stamped → ℕ
stamped_length None = 1
stamped_length (Some s) = 1 + (8 + (1 + 8) + 8) + changes_length s.update.changes

-- the promise, and seven ballots
abbrev pub row_length : PaxosRow → ℕ
row_length r = 8 + 7 * 8 + stamped_length r.accepted + stamped_length r.commit

abbrev pub item_fields_length : LogItem → ℕ
item_fields_length (Data arrival m) = 8 + mutation_length m
item_fields_length (Paxos p r) = partition_length p + row_length r
item_fields_length (HintAdd h) = 1 + 8 + 8 + mutation_length h.mutation
item_fields_length (HintGone peer number) = 1 + 8
item_fields_length (Ceiling time) = 8
item_fields_length (Mark m) = 8 + 8 + 8 + 8
item_fields_length (Purge c) = partition_length c.partition + held_length c.held

abbrev pub item_length : LogItem → ℕ
item_length i = 1 + item_fields_length i

abbrev pub entry_length : LogEntry → ℕ
entry_length e = 4 + sum_by item_length e.items

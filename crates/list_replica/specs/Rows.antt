-- Rows and last numbers, as lists.
use Rattle.std.specs.Prelude.{ℕ}
use Rattle.changes.specs.declared.Partition.{Partition}
use Rattle.row_change.specs.declared.entry.PaxosRow.{PaxosRow}
use Rattle.durable_state.specs.declared.parts.LastNumber.{LastNumber}
use Rattle.durable_state.specs.declared.parts.RowAt.{RowAt}

abbrev pub row_entry : Partition × PaxosRow → RowAt
row_entry e = record { partition = e.0; row = e.1 }

abbrev pub number_entry : ℕ × ℕ → LastNumber
number_entry e = record { peer = e.0; last = e.1 }

-- The lines of rows are those of an answer.
use Rattle.std.proofs.Common.{ℕ, List, [], ◌∷◌}
use Rattle.changes.specs.declared.ShownRow.{ShownRow}
use Rattle.schema_book.specs.declared.table.ColumnDef.{ColumnDef}
use Rattle.row_values.specs.Lines.{IsLine, AreLines}
use Rattle.chronicle_print.specs.Printed.{IsRowLine, AreRowLines}

pub are_row_lines : (columns : List ColumnDef) (key listed : List ℕ) (rows : List ShownRow) (lines : List ℕ) → AreLines (IsLine columns key listed) rows lines
    → AreRowLines (IsRowLine columns key listed) rows lines
are_row_lines columns key listed [] lines are = are
are_row_lines columns key listed (row ∷ rows) lines (first, later, one, rest, whole) = (first, later, one, are_row_lines columns key listed rows later rest, whole)

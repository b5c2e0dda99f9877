use Rattle.std.proofs.Common.{◌≡◌, map, take}
use Rattle.schema_book.specs.Outlines.{name_of}
use Rattle.schema_book.proofs.outline.column_names.Given as goal

abbrev pub invariant-loop-column : goal.invariant-loop-column
invariant-loop-column l = l.names ≡ map name_of (take l.column-index l.columns)

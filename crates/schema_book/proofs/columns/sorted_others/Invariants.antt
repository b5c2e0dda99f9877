use Rattle.std.proofs.Common.{◌≡◌, [], take, fold}
use Rattle.schema_book.specs.Columns.{with_other}
use Rattle.schema_book.proofs.columns.sorted_others.Given as goal

abbrev pub invariant-loop-column : goal.invariant-loop-column
invariant-loop-column l = l.others.entries ≡ fold (with_other l.outline) [] (take l.column-index l.outline.columns)

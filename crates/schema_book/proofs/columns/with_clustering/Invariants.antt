use Rattle.std.proofs.Common.{◌≡◌, ◌++◌, take, flat_map}
use Rattle.schema_book.specs.Outlines.{clustering_in}
use Rattle.schema_book.specs.Columns.{clustering_def}
use Rattle.schema_book.proofs.columns.with_clustering.Given as goal

abbrev pub invariant-loop-name : goal.invariant-loop-name
invariant-loop-name l = l.defs ≡ l.fn.defs ++ flat_map (clustering_def l.options l.outline.columns) (take l.name-index (clustering_in l.outline.keys))

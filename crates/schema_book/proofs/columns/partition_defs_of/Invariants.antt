use Rattle.std.proofs.Common.{◌≡◌, take, flat_map}
use Rattle.schema_book.specs.Outlines.{partition_in}
use Rattle.schema_book.specs.Columns.{partition_def}
use Rattle.schema_book.proofs.columns.partition_defs_of.Given as goal

abbrev pub invariant-loop-name : goal.invariant-loop-name
invariant-loop-name l = l.defs ≡ flat_map (partition_def l.outline.columns) (take l.name-index (partition_in l.outline.keys))

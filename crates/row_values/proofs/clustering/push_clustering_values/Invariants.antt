use Rattle.std.proofs.Common.{List, Option, ◌++◌, drop}
use Rattle.cql_values.specs.declared.value.CqlValue.{CqlValue}
use Rattle.row_values.specs.Fronts.{Adds}
use Rattle.row_values.specs.Values.{AreRead, clustering_columns}
use Rattle.row_values.proofs.clustering.push_clustering_values.Given as goal

-- the values so far and those that are read from what is left are all
abbrev pub invariant-loop-column : goal.invariant-loop-column
invariant-loop-column l =
    (later : List (Option CqlValue)) → AreRead (clustering_columns (drop l.column-index l.columns)) l.rest later
    → Adds (AreRead (clustering_columns l.columns) l.row) l.fn.values.items (l.values.items ++ later)

-- There is a value for each column.
use Rattle.std.proofs.Common.{◌≡◌, ◌+◌, ℕ, ◌∷◌, ◌++◌, [], cond, List, Option, inl, inr, length, drop, refl, ap, ◌∙◌, arith}
use Rattle.std.proofs.lemmas.List.{length-append}
use Rattle.changes.specs.declared.ShownCell.{ShownCell}
use Rattle.cql_values.specs.declared.value.CqlValue.{CqlValue}
use Rattle.key_restrictions.specs.Places.{is_partition, is_clustering, is_key}
use Rattle.schema_book.specs.declared.table.ColumnDef.{ColumnDef}
use Rattle.schema_book.specs.declared.table.ColumnKind.{ColumnKind}
use Rattle.schema_book.specs.declared.table.ColumnKind.TheVariants.{Partition, Clustering, Regular}
use Rattle.row_values.specs.Keys.{key_parts}
use Rattle.row_values.specs.Laws.{EachColumnHasAValue}
use Rattle.row_values.specs.Values.{AreRead, nulls, part_values, partition_columns, clustering_columns, others_from, other_values, cell_value, key_values}

each_part : (cs : List ColumnDef) (parts : List (Option (List ℕ))) → length (part_values cs parts) ≡ length cs
each_part [] parts = refl
each_part (c ∷ cs) [] = let e = each_part cs [] in omega arith
each_part (c ∷ cs) (part ∷ parts) = let e = each_part cs parts in omega arith

each_null : (cs : List ColumnDef) → length (nulls cs) ≡ length cs
each_null [] = refl
each_null (c ∷ cs) = let e = each_null cs in omega arith

each_read : (cs : List ColumnDef) (bytes : List ℕ) (values : List (Option CqlValue)) → AreRead cs bytes values → length values ≡ length cs
each_read [] bytes values h = ap length h
each_read (c ∷ cs) bytes values (inl (n, v, later, front, read, is)) = let e = each_read cs (drop n bytes) later read in ap length is ∙ omega arith
each_read (c ∷ cs) bytes values (inr (none, is)) = let e = each_null cs in ap length is ∙ omega arith

-- each column is of one kind
one_kind : (cells : List ShownCell) (number : ℕ) (cs : List ColumnDef)
    → length (partition_columns cs) + (length (clustering_columns cs) + length (others_from cells number cs)) ≡ length cs
one_kind cells number [] = refl
one_kind cells number (c ∷ cs) = go c.kind (one_kind cells (number + 1) cs)
  where
    go : (k : ColumnKind) → length (partition_columns cs) + (length (clustering_columns cs) + length (others_from cells (number + 1) cs)) ≡ length cs
        → length (cond (is_partition k) (c ∷ partition_columns cs) (partition_columns cs))
        + (length (cond (is_clustering k) (c ∷ clustering_columns cs) (clustering_columns cs))
        + length (cond (is_key k) (others_from cells (number + 1) cs) (cell_value cells number c.ty ∷ others_from cells (number + 1) cs)))
        ≡ length (c ∷ cs)
    go Partition h = omega arith
    go Clustering h = omega arith
    go Regular h = omega arith

pub each_column_has_a_value : EachColumnHasAValue
each_column_has_a_value columns key row values h =
    let keys = each_part (partition_columns columns) (key_parts (length (partition_columns columns)) key) in
    let rows = each_read (clustering_columns columns) row.row h.clustering h.read in
    let kinds = one_kind row.cells 0 columns in
    let behind = length-append h.clustering (other_values columns row.cells) in
    let all = length-append (key_values columns key) (h.clustering ++ other_values columns row.cells) in
    ap length h.all ∙ omega arith

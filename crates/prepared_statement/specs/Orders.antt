-- The order of rows that an ORDER BY asks for (CQL reference, "ORDER BY": the clustering columns from the first on, all in
-- the table's order or all turned round).
use Rattle.std.specs.Prelude.{◌&&◌, not, Bool, true, false, List, [], ◌∷◌, if◌then◌else◌}
use Rattle.std.specs.Str.{bytes_eq}
use Rattle.cql_statement.specs.declared.schema.ColumnOrder.{ColumnOrder}
use Rattle.key_restrictions.specs.Places.{is_partition, is_clustering}
use Rattle.schema_book.specs.declared.table.ColumnDef.{ColumnDef}

abbrev pub differs : Bool → Bool → Bool
differs false b = b
differs true b = not b

-- the columns behind those of the partition key, of which the clustering columns are the first
abbrev pub behind_partition : List ColumnDef → List ColumnDef
behind_partition [] = []
behind_partition (d ∷ ds) = if is_partition d.kind then behind_partition ds else d ∷ ds

-- the order turns the table's round
abbrev pub turns : ColumnDef → ColumnOrder → Bool
turns d o = differs d.is_descending o.is_descending

-- by its first column
abbrev pub is_reversed : List ColumnDef → List ColumnOrder → Bool
is_reversed ds [] = false
is_reversed [] (o ∷ os) = false
is_reversed (d ∷ ds) (o ∷ os) = turns d o

-- the clustering columns from the first on, all in the table's order, or all turned round
abbrev pub is_order : Bool → List ColumnDef → List ColumnOrder → Bool
is_order reversed ds [] = true
is_order reversed [] (o ∷ os) = false
is_order reversed (d ∷ ds) (o ∷ os) =
    is_clustering d.kind && (bytes_eq d.name o.column && (not (differs (turns d o) reversed) && is_order reversed ds os))

abbrev pub has_bad_order : List ColumnDef → List ColumnOrder → Bool
has_bad_order columns os = not (is_order (is_reversed (behind_partition columns) os) (behind_partition columns) os)

abbrev pub reverses : List ColumnDef → List ColumnOrder → Bool
reverses columns os = is_reversed (behind_partition columns) os

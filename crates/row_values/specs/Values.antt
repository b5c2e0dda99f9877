-- The values of a row, one for each column of its table.
use Rattle.std.specs.Prelude.{◌≡◌, ◌≢◌, ◌⊎◌, ℕ, ◌+◌, ◌==◌, ◌≤◌, List, [], ◌∷◌, ◌++◌, Option, Some, None, if◌then◌else◌, length, take, drop}
use Rattle.std.specs.List.{filter, find}
use Rattle.std.specs.Option.{option_map}
use Rattle.std.specs.Result.{result_ok}
use Rattle.changes.specs.declared.ShownCell.{ShownCell}
use Rattle.changes.specs.declared.ShownRow.{ShownRow}
use Rattle.cql_values.specs.Order.{IsOrderWord}
use Rattle.cql_values.specs.Protocol.{decoded}
use Rattle.cql_values.specs.declared.value.CqlType.{CqlType}
use Rattle.cql_values.specs.declared.value.CqlType.TheVariants as types
use Rattle.cql_values.specs.declared.value.CqlValue.{CqlValue}
use Rattle.key_restrictions.specs.Places.{is_partition, is_clustering, is_key}
use Rattle.schema_book.specs.declared.table.ColumnDef.{ColumnDef}
use Rattle.row_values.specs.Keys.{key_parts}

-- the value of a type that the bytes are in the native protocol, if they are one
abbrev pub value_in : CqlType → List ℕ → Option CqlValue
value_in ty bytes = result_ok (decoded ty bytes)

abbrev pub value_at : CqlType → Option (List ℕ) → Option CqlValue
value_at ty None = None
value_at ty (Some bytes) = value_in ty bytes

-- ---- the partition key

abbrev pub partition_columns : List ColumnDef → List ColumnDef
partition_columns columns = filter (λ c. is_partition c.kind) columns

-- each column's value is in the part of the same place
abbrev pub part_values : List ColumnDef → List (Option (List ℕ)) → List (Option CqlValue)
part_values [] parts = []
part_values (c ∷ cs) [] = None ∷ part_values cs []
part_values (c ∷ cs) (part ∷ parts) = value_at c.ty part ∷ part_values cs parts

abbrev pub key_values : List ColumnDef → List ℕ → List (Option CqlValue)
key_values columns key =
    part_values (partition_columns columns) (key_parts (length (partition_columns columns)) key)

-- ---- the clustering columns

abbrev pub clustering_columns : List ColumnDef → List ColumnDef
clustering_columns columns = filter (λ c. is_clustering c.kind) columns

-- the first n of the bytes are the order bytes of the value, in this column; a uuid has none
pub record IsFront (column : ColumnDef) (bytes : List ℕ) (n : ℕ) (v : CqlValue) : Type 0 where
  pub ordered : column.ty ≢ types.Uuid
  pub within : n ≤ length bytes
  pub word : IsOrderWord column.ty column.is_descending (take n bytes) v

-- no value of the column stands at the front of the bytes
abbrev pub HasNoFront : ColumnDef → List ℕ → Type 0
HasNoFront column bytes = (n : ℕ) (v : CqlValue) → IsFront column bytes n v → ⊥

abbrev pub nulls : List ColumnDef → List (Option CqlValue)
nulls [] = []
nulls (c ∷ cs) = None ∷ nulls cs

-- a value stands at the front, and those of the later columns are read behind it
abbrev pub IsReadOn : ColumnDef → List ℕ → (List ℕ → List (Option CqlValue) → Type 0) → List (Option CqlValue) → Type 0
IsReadOn column bytes AreReadLater values =
    (n : ℕ) × (v : CqlValue) × (later : List (Option CqlValue))
    × IsFront column bytes n v × AreReadLater (drop n bytes) later × (values ≡ Some v ∷ later)

-- The values of the columns stand in the bytes one behind another, up to the first that does not: it and those behind
-- it have none.
abbrev pub AreRead : List ColumnDef → List ℕ → List (Option CqlValue) → Type 0
AreRead [] bytes values = values ≡ []
AreRead (c ∷ cs) bytes values =
    IsReadOn c bytes (AreRead cs) values ⊎ (HasNoFront c bytes × (values ≡ None ∷ nulls cs))

-- ---- the other columns

-- what the cell of a column has, by its number
abbrev pub cell_value : List ShownCell → ℕ → CqlType → Option CqlValue
cell_value cells number ty = value_at ty (option_map (λ c. c.value) (find (λ c. c.column == number) cells))

-- the values of the columns that are not of the key, from this number on
abbrev pub others_from : List ShownCell → ℕ → List ColumnDef → List (Option CqlValue)
others_from cells number [] = []
others_from cells number (c ∷ cs) =
    if is_key c.kind then others_from cells (number + 1) cs else cell_value cells number c.ty ∷ others_from cells (number + 1) cs

abbrev pub other_values : List ColumnDef → List ShownCell → List (Option CqlValue)
other_values columns cells = others_from cells 0 columns

-- ---- all

-- the values of the partition key, then those of the clustering columns, then the others
pub record AreValuesOf (columns : List ColumnDef) (key : List ℕ) (row : ShownRow) (values : List (Option CqlValue)) : Type 0 where
  pub clustering : List (Option CqlValue)
  pub read : AreRead (clustering_columns columns) row.row clustering
  pub all : values ≡ key_values columns key ++ (clustering ++ other_values columns row.cells)

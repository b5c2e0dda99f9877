-- What stands between the parentheses of CREATE TABLE: columns and keys (CQL reference, "CREATE TABLE").
use Rattle.std.specs.Prelude.{ℕ, ◌||◌, ◌&&◌, not, if◌then◌else◌, is_some, Bool, true, false, List, [], ◌∷◌, ◌++◌, map, flat_map}
use Rattle.std.specs.List.{list_any}
use Rattle.cql_values.specs.declared.value.CqlType.{CqlType}
use Rattle.cql_values.specs.declared.value.CqlType.TheVariants as types
use Rattle.cql_statement.specs.declared.schema.ColumnItem.{ColumnItem}
use Rattle.cql_statement.specs.declared.schema.KeyItem.{KeyItem}
use Rattle.cql_statement.specs.declared.schema.TableItem.{TableItem}
use Rattle.cql_statement.specs.declared.schema.TableItem.TheVariants.{Column, PrimaryKey}
use Rattle.schema_book.specs.declared.outline.Outline.{Outline}
use Rattle.schema_book.specs.Names.{is_among, has_twice}
use Rattle.schema_book.specs.Places.{column_in}

abbrev pub item_columns : TableItem → List ColumnItem
item_columns (Column c) = c ∷ []
item_columns (PrimaryKey k) = []

-- PRIMARY KEY behind a column makes that column the whole key
abbrev pub column_keys : ColumnItem → List KeyItem
column_keys c = if c.is_primary_key then record { partition = c.name ∷ []; clustering = [] } ∷ [] else []

abbrev pub item_keys : TableItem → List KeyItem
item_keys (Column c) = column_keys c
item_keys (PrimaryKey k) = k ∷ []

abbrev pub columns_in : List TableItem → List ColumnItem
columns_in items = flat_map item_columns items

abbrev pub keys_in : List TableItem → List KeyItem
keys_in items = flat_map item_keys items

abbrev pub outline_of : List TableItem → Outline
outline_of items = record { columns = columns_in items; keys = keys_in items }

abbrev pub is_column : List ColumnItem → List ℕ → Bool
is_column columns name = is_some (column_in columns name)

-- the clustering columns of the table's key
abbrev pub clustering_in : List KeyItem → List (List ℕ)
clustering_in [] = []
clustering_in (k ∷ ks) = k.clustering

abbrev pub partition_in : List KeyItem → List (List ℕ)
partition_in [] = []
partition_in (k ∷ ks) = k.partition

-- ---- what is wrong with a table

abbrev pub name_of : ColumnItem → List ℕ
name_of c = c.name

-- a column is defined twice
abbrev pub defines_twice : List ColumnItem → Bool
defines_twice columns = has_twice (map name_of columns)

-- a key names a column twice
abbrev pub names_twice : KeyItem → Bool
names_twice k = has_twice (k.partition ++ k.clustering)

abbrev pub is_unknown : List ColumnItem → List ℕ → Bool
is_unknown columns name = not (is_column columns name)

abbrev pub some_twice : List KeyItem → Bool
some_twice keys = list_any names_twice keys

abbrev pub has_unknown : List ColumnItem → List (List ℕ) → Bool
has_unknown columns names = list_any (is_unknown columns) names

-- a key names a column that is not defined
abbrev pub names_unknown : List ColumnItem → KeyItem → Bool
names_unknown columns k = has_unknown columns k.partition || has_unknown columns k.clustering

abbrev pub some_unknown : List ColumnItem → List KeyItem → Bool
some_unknown columns keys = list_any (names_unknown columns) keys

-- the order of uuids is not that of any bytes that the clustering order could keep
abbrev pub is_uuid : CqlType → Bool
is_uuid types.Uuid = true
is_uuid t = false

abbrev pub is_uuid_of : List (List ℕ) → ColumnItem → Bool
is_uuid_of names c = is_uuid c.ty && is_among c.name names

abbrev pub has_uuid : List (List ℕ) → List ColumnItem → Bool
has_uuid names columns = list_any (is_uuid_of names) columns

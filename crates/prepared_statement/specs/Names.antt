-- The tables and columns that a statement names.
use Rattle.std.specs.Prelude.{ℕ, ◌%◌, List, Option, Some, None, length, slice_get}
use Rattle.std.specs.Option.{option_or}
use Rattle.cql_statement.specs.declared.term.TableName.{TableName}
use Rattle.cql_values.specs.declared.value.CqlType.{CqlType}
use Rattle.cql_values.specs.declared.value.CqlType.TheVariants as types
use Rattle.schema_book.specs.Books.{Book, table_at}
use Rattle.schema_book.specs.Columns.{column_place}
use Rattle.schema_book.specs.declared.table.ColumnDef.{ColumnDef}
use Rattle.schema_book.specs.declared.table.Table.{Table}

-- ---- tables

abbrev pub table_in : Book → Option (List ℕ) → List ℕ → Option Table
table_in b None name = None
table_in b (Some keyspace) name = table_at b keyspace name

-- the table of a name, in its keyspace, or else in the one in use
abbrev pub table_named : Book → Option (List ℕ) → TableName → Option Table
table_named b used ref = table_in b (option_or ref.keyspace used) ref.name

-- ---- columns

-- the place of a column; one that is not there has that behind the last
abbrev pub place_or_end : ℕ → Option ℕ → ℕ
place_or_end end None = end
place_or_end end (Some place) = place

abbrev pub place_of : List ColumnDef → List ℕ → ℕ
place_of columns name = place_or_end (length columns) (column_place columns name)

abbrev pub type_in : Option ColumnDef → CqlType
type_in None = types.Blob
type_in (Some d) = d.ty

abbrev pub type_at : List ColumnDef → ℕ → CqlType
type_at columns place = type_in (slice_get columns place)

-- a table has no more than 256 columns
abbrev pub column_number : ℕ → ℕ
column_number place = place % 256

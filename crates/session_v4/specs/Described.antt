-- What a client is told of columns and markers (native_protocol_v4.spec, sections 4.2.5.2 and 4.2.5.4).
use Rattle.std.specs.Prelude.{ℕ, min, Bool, true, false, codes, List, [], ◌∷◌, length, Option, Some, None, map, flat_map, slice_get}
use Rattle.cql_values.specs.declared.value.CqlType.TheVariants.{Bigint}
use Rattle.prepared_statement.specs.Markers.{markers_in}
use Rattle.prepared_statement.specs.declared.markers.Marker.{Marker}
use Rattle.prepared_statement.specs.declared.markers.Markers.{Markers}
use Rattle.prepared_statement.specs.declared.prepared.Prepared.{Prepared as Statement}
use Rattle.prepared_statement.specs.declared.prepared.Prepared.TheVariants as statements
use Rattle.response_bodies.specs.declared.metadata.Column.{Column}
use Rattle.response_bodies.specs.declared.metadata.Columns.{Columns}
use Rattle.response_bodies.specs.declared.metadata.Columns.TheVariants.{Counted, Described}
use Rattle.response_bodies.specs.declared.metadata.Prepared.{Prepared}
use Rattle.response_bodies.specs.declared.metadata.RowsMetadata.{RowsMetadata}
use Rattle.response_bodies.specs.declared.metadata.TableColumns.{TableColumns}
use Rattle.response_bodies.specs.declared.metadata.VariablesMetadata.{VariablesMetadata}
use Rattle.schema_book.specs.Books.{Book}
use Rattle.schema_book.specs.declared.table.ColumnDef.{ColumnDef}
use Rattle.schema_book.specs.declared.table.Table.{Table}
use Rattle.statement_plan.specs.declared.plan.Columns.{Columns as ShownColumns}
use Rattle.statement_plan.specs.declared.plan.Columns.TheVariants.{Listed, Count}

-- ---- tables

abbrev pub table_numbered : Book → ℕ → Option Table
table_numbered b number = slice_get b.tables number

abbrev pub table_of : Book → Option ℕ → Option Table
table_of b None = None
table_of b (Some number) = table_numbered b number

-- without a table both names are empty
abbrev pub keyspace_name : Option Table → List ℕ
keyspace_name None = []
keyspace_name (Some t) = t.keyspace

abbrev pub table_name : Option Table → List ℕ
table_name None = []
table_name (Some t) = t.name

abbrev pub columns_of : Option Table → List ColumnDef
columns_of None = []
columns_of (Some t) = t.columns

abbrev pub in_table : Option Table → List Column → TableColumns
in_table t columns = record { keyspace = keyspace_name t; table = table_name t; columns = columns }

-- ---- columns that are shown

abbrev pub column_of : ColumnDef → Column
column_of d = record { name = d.name; ty = d.ty }

abbrev pub column_at : Option ColumnDef → List Column
column_at None = []
column_at (Some d) = column_of d ∷ []

-- the columns of these numbers
abbrev pub columns_at : List ColumnDef → List ℕ → List Column
columns_at defs numbers = flat_map (λ n. column_at (slice_get defs n)) numbers

-- the number of rows is one bigint
abbrev pub count_column : Column
count_column = record { name = codes "count"; ty = Bigint }

abbrev pub shown_columns : List ColumnDef → ShownColumns → List Column
shown_columns defs (Listed numbers) = columns_at defs numbers
shown_columns defs Count = count_column ∷ []

abbrev pub shown_in : Option Table → ShownColumns → TableColumns
shown_in t columns = in_table t (shown_columns (columns_of t) columns)

-- a number in 32 bits
abbrev pub count_of : ℕ → ℕ
count_of n = min n 4294967295

-- a client that knows the columns is told how many there are
abbrev pub told_columns : Bool → TableColumns → Columns
told_columns true t = Counted (count_of (length t.columns))
told_columns false t = Described t

-- ---- prepared statements

abbrev pub variable_of : Marker → Column
variable_of m = record { name = m.name; ty = m.ty }

abbrev pub variables_of : Book → Markers → VariablesMetadata
variables_of b m = record { variables = in_table (table_of b m.table) (map variable_of m.list); key_indexes = m.key }

-- what the columns of its rows are, if it shows rows whatever it finds
abbrev pub result_columns : Book → Statement → Columns
result_columns b (statements.Read r) = Described (shown_in (table_numbered b r.table) r.shown)
result_columns b p = Counted 0

abbrev pub result_of : Book → Statement → RowsMetadata
result_of b p = record { columns = result_columns b p; paging_state = None }

abbrev pub told_of : Book → List ℕ → Statement → Prepared
told_of b id p = record { id = id; variables = variables_of b (markers_in p); result = result_of b p }

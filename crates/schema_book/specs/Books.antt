-- The keyspaces and tables that a list of statements makes (CQL reference, "Data Definition").
use Rattle.std.specs.Prelude.{◌≡◌, ℕ, ◌+◌, ◌||◌, ◌&&◌, ◌==◌, nat_lt, not, is_some, if◌then◌else◌, Bool, false, List, [], ◌∷◌, ◌++◌, Option, None, Some, Result, Ok, Err, length, codes}
use Rattle.std.specs.List.{find}
use Rattle.std.specs.Str.{bytes_eq}
use Rattle.cql_values.specs.declared.value.CqlType.TheVariants as types
use Rattle.cql_statement.specs.declared.schema.CreateKeyspace.{CreateKeyspace}
use Rattle.cql_statement.specs.declared.schema.CreateTable.{CreateTable}
use Rattle.cql_statement.specs.declared.statement.Statement.{Statement}
use Rattle.cql_statement.specs.declared.statement.Statement.TheVariants as statement
use Rattle.cql_statement.specs.declared.term.TableName.{TableName}
use Rattle.schema_book.specs.declared.error.Fault.{Fault}
use Rattle.schema_book.specs.declared.error.Fault.TheVariants as fault
use Rattle.schema_book.specs.declared.error.Refused.{Refused}
use Rattle.schema_book.specs.declared.error.SchemaError.{SchemaError}
use Rattle.schema_book.specs.declared.error.SchemaError.TheVariants as error
use Rattle.schema_book.specs.declared.table.ColumnDef.{ColumnDef}
use Rattle.schema_book.specs.declared.table.ColumnKind.TheVariants as kinds
use Rattle.schema_book.specs.declared.table.Keyspace.{Keyspace}
use Rattle.schema_book.specs.declared.table.Table.{Table}
use Rattle.schema_book.specs.declared.outline.Outline.{Outline}
use Rattle.schema_book.specs.Outlines.{outline_of, clustering_in, defines_twice, some_twice, some_unknown, has_uuid}
use Rattle.schema_book.specs.Options.{has_bad_option, grace_in}
use Rattle.schema_book.specs.Replication.{factor_in}
use Rattle.schema_book.specs.Columns.{defs_of}

-- keyspaces and tables, in the order in which they were made
pub record Book : Type 0 where
  pub keyspaces : List Keyspace
  pub tables : List Table

-- ---- what every schema holds: script.kv (k text, c text, v text, PRIMARY KEY (k, c))

abbrev pub script_columns : List ColumnDef
script_columns =
    record { name = codes "k"; ty = types.Text; kind = kinds.Partition; is_descending = false }
    ∷ record { name = codes "c"; ty = types.Text; kind = kinds.Clustering; is_descending = false }
    ∷ record { name = codes "v"; ty = types.Text; kind = kinds.Regular; is_descending = false } ∷ []

abbrev pub script_keyspace : ℕ → Keyspace
script_keyspace factor = record { name = codes "script"; factor = factor }

abbrev pub script_table : ℕ → ℕ → Table
script_table factor grace = record {
  number = 0;
  factor = factor;
  grace = grace;
  keyspace = codes "script";
  name = codes "kv";
  columns = script_columns;
}

abbrev pub first_book : ℕ → ℕ → Book
first_book factor grace = record { keyspaces = script_keyspace factor ∷ []; tables = script_table factor grace ∷ [] }

-- ---- names

abbrev pub keyspace_at : Book → List ℕ → Option Keyspace
keyspace_at b name = find (λ k. bytes_eq k.name name) b.keyspaces

abbrev pub is_of : List ℕ → List ℕ → Table → Bool
is_of keyspace name t = bytes_eq t.keyspace keyspace && bytes_eq t.name name

abbrev pub table_at : Book → List ℕ → List ℕ → Option Table
table_at b keyspace name = find (is_of keyspace name) b.tables

-- a statement that names no keyspace names no table
abbrev pub has_named : Book → Option (List ℕ) → List ℕ → Bool
has_named b None name = false
has_named b (Some keyspace) name = is_some (table_at b keyspace name)

abbrev pub has_table : Book → TableName → Bool
has_table b ref = has_named b ref.keyspace ref.name

abbrev pub keyspace_named : Book → Option (List ℕ) → Option Keyspace
keyspace_named b None = None
keyspace_named b (Some name) = keyspace_at b name

-- ---- refusals

-- what exists is refused, or with IF NOT EXISTS passed over
abbrev pub existing : Bool → Option Fault
existing if_not_exists = if if_not_exists then None else Some fault.DuplicateTable

abbrev pub verdict : Book → Option Fault → Result Book Fault
verdict b None = Ok b
verdict b (Some f) = Err f

-- a fault that comes first
abbrev pub refuse_or : Option Fault → Result Book Fault → Result Book Fault
refuse_or None later = later
refuse_or (Some f) later = Err f

abbrev pub key_fault : Outline → Option Fault
key_fault o =
    if defines_twice o.columns || some_twice o.keys then Some fault.DuplicateColumn
    else if not (length o.keys == 1) then Some fault.NoKey
    else if some_unknown o.columns o.keys then Some fault.KeyColumnUnknown
    else None

abbrev pub most_columns : ℕ
most_columns = 256

abbrev pub size_fault : Outline → Option Fault
size_fault o = if nat_lt most_columns (length o.columns) then Some fault.TooManyColumns else None

abbrev pub most_tables : ℕ
most_tables = 1024

-- tables are numbered as they are made, up to the last one for which there is room
abbrev pub next_number : Book → Option ℕ
next_number b = if nat_lt (length b.tables) most_tables then Some (length b.tables) else None

abbrev pub option_fault : CreateTable → Outline → Option Fault
option_fault c o =
    if has_bad_option (clustering_in o.keys) c.options then Some fault.BadOption
    else if has_uuid (clustering_in o.keys) o.columns then Some fault.UuidClustering
    else None

-- ---- what a statement makes

abbrev pub table_of : ℕ → CreateTable → Outline → Keyspace → ℕ → Table
table_of grace c o k number = record {
  number = number;
  factor = k.factor;
  grace = grace_in grace c.options;
  keyspace = k.name;
  name = c.table.name;
  columns = defs_of c.options o;
}

abbrev pub with_table : Book → Table → Book
with_table b t = record b { tables = b.tables ++ t ∷ [] }

abbrev pub numbered_table : ℕ → Book → CreateTable → Outline → Keyspace → Option ℕ → Result Book Fault
numbered_table grace b c o k None = Err fault.BadOption
numbered_table grace b c o k (Some n) = refuse_or (option_fault c o) (Ok (with_table b (table_of grace c o k n)))

abbrev pub table_in : ℕ → Book → CreateTable → Outline → Option Keyspace → Result Book Fault
table_in grace b c o None = Err fault.NoKeyspace
table_in grace b c o (Some k) = refuse_or (size_fault o) (numbered_table grace b c o k (next_number b))

abbrev pub new_table : ℕ → Book → CreateTable → Result Book Fault
new_table grace b c =
    refuse_or (key_fault (outline_of c.items)) (table_in grace b c (outline_of c.items) (keyspace_named b c.table.keyspace))

-- CREATE TABLE: the refusals in their order, or one more table
abbrev pub table_after : ℕ → Book → CreateTable → Result Book Fault
table_after grace b c =
    if has_table b c.table then verdict b (existing c.if_not_exists)
    else new_table grace b c

abbrev pub with_keyspace : Book → Keyspace → Book
with_keyspace b k = record b { keyspaces = b.keyspaces ++ k ∷ [] }

abbrev pub keyspace_by : Book → CreateKeyspace → Option ℕ → Result Book Fault
keyspace_by b c None = Err fault.BadReplication
keyspace_by b c (Some factor) = Ok (with_keyspace b (record { name = c.name; factor = factor }))

-- CREATE KEYSPACE
abbrev pub keyspace_after : ℕ → Book → CreateKeyspace → Result Book Fault
keyspace_after nodes b c =
    if is_some (keyspace_at b c.name) then verdict b (existing c.if_not_exists)
    else keyspace_by b c (factor_in nodes c.replication)

abbrev pub book_after : ℕ → ℕ → Book → Statement → Result Book Fault
book_after nodes grace b (statement.CreateKeyspace c) = keyspace_after nodes b c
book_after nodes grace b (statement.CreateTable c) = table_after grace b c
book_after nodes grace b (statement.Use u) = Err fault.NotSchema
book_after nodes grace b (statement.Insert i) = Err fault.NotSchema
book_after nodes grace b (statement.Update u) = Err fault.NotSchema
book_after nodes grace b (statement.Delete d) = Err fault.NotSchema
book_after nodes grace b (statement.Select s) = Err fault.NotSchema
book_after nodes grace b (statement.Batch x) = Err fault.NotSchema

-- ---- a list of statements

-- after the statement of this index come the others
abbrev pub goes_on : ℕ → Result Book Fault → (Book → Result Book Refused) → Result Book Refused
goes_on index (Ok b) rest = rest b
goes_on index (Err f) rest = Err (record { statement = index; fault = f })

-- The statements from this index on, one after another, up to the first that is refused
abbrev pub book_from : ℕ → ℕ → ℕ → Book → List Statement → Result Book Refused
book_from nodes grace index b [] = Ok b
book_from nodes grace index b (s ∷ ss) = goes_on index (book_after nodes grace b s) (λ b'. book_from nodes grace (index + 1) b' ss)

-- the book of a list of statements, or the first refusal
abbrev pub book_of : ℕ → ℕ → ℕ → List Statement → Result Book Refused
book_of nodes factor grace statements = book_from nodes grace 0 (first_book factor grace) statements

-- What was answered is this, unless memory ran out
abbrev pub Answers : Result Book SchemaError → Result Book Refused → Type 0
Answers (Ok b) meaning = meaning ≡ Ok b
Answers (Err (error.Refused refused)) meaning = meaning ≡ Err refused
Answers (Err error.NoMemory) meaning = Unit {0}

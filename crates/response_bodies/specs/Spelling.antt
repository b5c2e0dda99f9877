-- How responses are written.
use Rattle.std.specs.Prelude.{◌≡◌, ℕ, ◌*◌, ◌^◌, ◌<◌, ℤ, pos, codes, Bool, true, false, List, [], ◌∷◌, ◌++◌, length, Option, Some, None}
use Rattle.std.specs.List.{flat_map, AllByRecursion}
use Rattle.cql_values.specs.declared.value.CqlType.{CqlType}
use Rattle.cql_values.specs.declared.value.CqlType.TheVariants as types
use Rattle.body_notations.specs.declared.consistency.Consistency.{Consistency}
use Rattle.body_notations.specs.Spelling.{short, int, count, consistency, string, short_bytes, bytes as bytes_or_null, list, part, FitsShort, FitsInt, BytesFit, ListFits, PartFits, IsShortNumber, IsIntNumber, IsStringText, IsNotNull}
use Rattle.response_bodies.specs.declared.supported.SupportedOption.{SupportedOption}
use Rattle.response_bodies.specs.declared.error.Unavailable.{Unavailable}
use Rattle.response_bodies.specs.declared.error.WriteType.{WriteType}
use Rattle.response_bodies.specs.declared.error.WriteType.TheVariants as write_types
use Rattle.response_bodies.specs.declared.error.WriteTimeout.{WriteTimeout}
use Rattle.response_bodies.specs.declared.error.ReadTimeout.{ReadTimeout}
use Rattle.response_bodies.specs.declared.error.ErrorCause.{ErrorCause}
use Rattle.response_bodies.specs.declared.error.ErrorCause.TheVariants as causes
use Rattle.response_bodies.specs.declared.error.ErrorResponse.{ErrorResponse}
use Rattle.response_bodies.specs.declared.metadata.Column.{Column}
use Rattle.response_bodies.specs.declared.metadata.TableColumns.{TableColumns}
use Rattle.response_bodies.specs.declared.metadata.Columns.{Columns}
use Rattle.response_bodies.specs.declared.metadata.Columns.TheVariants as given
use Rattle.response_bodies.specs.declared.metadata.RowsMetadata.{RowsMetadata}
use Rattle.response_bodies.specs.declared.metadata.VariablesMetadata.{VariablesMetadata}
use Rattle.response_bodies.specs.declared.metadata.Prepared.{Prepared}
use Rattle.response_bodies.specs.declared.rows.Rows.{Rows}
use Rattle.response_bodies.specs.declared.response.Response.{Response}
use Rattle.response_bodies.specs.declared.response.Response.TheVariants as responses

-- ---- SUPPORTED

abbrev pub option : SupportedOption → List ℕ
option o = string o.name ++ list string o.values

abbrev pub OptionFits : SupportedOption → Type 0
OptionFits o = FitsShort o.name × ListFits FitsShort o.values

-- ---- ERROR

abbrev pub code_of : ErrorCause → ℤ
code_of causes.Server = pos 0
code_of causes.Protocol = pos 10
code_of (causes.Unavailable u) = pos 4096
code_of causes.Overloaded = pos 4097
code_of (causes.WriteTimeout t) = pos 4352
code_of (causes.ReadTimeout t) = pos 4608
code_of causes.Syntax = pos 8192
code_of causes.Invalid = pos 8704
code_of (causes.Unprepared id) = pos 9472

-- a consistency and two numbers of replicas
unfoldable pub counts : Consistency → ℤ → ℤ → List ℕ
counts c n m = consistency c ++ int n ++ int m

abbrev pub unavailable : Unavailable → List ℕ
unavailable u = counts u.consistency u.required u.alive

abbrev pub type_text : WriteType → List ℕ
type_text write_types.Simple = string (codes "SIMPLE")
type_text write_types.Cas = string (codes "CAS")

abbrev pub write_timeout : WriteTimeout → List ℕ
write_timeout t = counts t.consistency t.received t.block_for ++ type_text t.write_type

abbrev pub present_byte : Bool → ℕ
present_byte true = 1
present_byte false = 0

abbrev pub read_timeout : ReadTimeout → List ℕ
read_timeout t = counts t.consistency t.received t.block_for ++ present_byte t.data_present ∷ []

abbrev pub cause : ErrorCause → List ℕ
cause (causes.Unavailable u) = unavailable u
cause (causes.WriteTimeout t) = write_timeout t
cause (causes.ReadTimeout t) = read_timeout t
cause (causes.Unprepared id) = short_bytes id
cause c = []

abbrev pub CauseFits : ErrorCause → Type 0
CauseFits (causes.Unprepared id) = FitsShort id
CauseFits c = Unit {0}

abbrev pub error : ErrorResponse → List ℕ
error e = int (code_of e.cause) ++ string e.text ++ cause e.cause

abbrev pub ErrorFits : ErrorResponse → Type 0
ErrorFits e = FitsShort e.text × CauseFits e.cause

-- ---- metadata

abbrev pub type_id : CqlType → ℕ
type_id types.Ascii = 1
type_id types.Bigint = 2
type_id types.Blob = 3
type_id types.Boolean = 4
type_id types.Int = 9
type_id types.Timestamp = 11
type_id types.Uuid = 12
type_id types.Text = 13
type_id types.Timeuuid = 15
type_id types.Smallint = 19
type_id types.Tinyint = 20

abbrev pub column : Column → List ℕ
column c = string c.name ++ short (type_id c.ty)

abbrev pub ColumnFits : Column → Type 0
ColumnFits c = FitsShort c.name

abbrev pub table : TableColumns → List ℕ
table t = string t.keyspace ++ string t.table ++ flat_map column t.columns

abbrev pub TableFits : TableColumns → Type 0
TableFits t = FitsShort t.keyspace × FitsShort t.table × FitsInt t.columns × AllByRecursion ColumnFits t.columns

abbrev pub columns : Columns → List ℕ
columns (given.Counted n) = []
columns (given.Described t) = table t

abbrev pub column_count : Columns → ℕ
column_count (given.Counted n) = n
column_count (given.Described t) = length t.columns

abbrev pub ColumnsFit : Columns → Type 0
ColumnsFit (given.Counted n) = n < 2 ^ 31
ColumnsFit (given.Described t) = TableFits t

abbrev pub flags_with : Columns → Option (Option (List ℕ)) → ℤ
flags_with (given.Described t) None = pos 1
flags_with (given.Described t) (Some state) = pos 3
flags_with (given.Counted n) None = pos 4
flags_with (given.Counted n) (Some state) = pos 6

abbrev pub flags_of : RowsMetadata → ℤ
flags_of m = flags_with m.columns m.paging_state

abbrev pub metadata : RowsMetadata → List ℕ
metadata m = int (flags_of m) ++ count (column_count m.columns) ++ part bytes_or_null m.paging_state ++ columns m.columns

abbrev pub MetadataFits : RowsMetadata → Type 0
MetadataFits m = PartFits BytesFit m.paging_state × ColumnsFit m.columns

abbrev pub variables : VariablesMetadata → List ℕ
variables v = int (pos 1) ++ count (length v.variables.columns) ++ count (length v.key_indexes) ++ flat_map short v.key_indexes ++ table v.variables

abbrev pub VariablesFit : VariablesMetadata → Type 0
VariablesFit v = FitsInt v.key_indexes × TableFits v.variables

abbrev pub prepared : Prepared → List ℕ
prepared p = short_bytes p.id ++ variables p.variables ++ metadata p.result

abbrev pub PreparedFits : Prepared → Type 0
PreparedFits p = FitsShort p.id × VariablesFit p.variables × MetadataFits p.result

-- ---- rows

unfoldable pub rows : Rows → List ℕ
rows r = metadata r.metadata ++ count r.row_count ++ flat_map bytes_or_null r.cells

-- each row has a cell for each column
pub record RowsFit (r : Rows) : Type 0 where
  pub metadata : MetadataFits r.metadata
  pub row_count : r.row_count < 2 ^ 31
  pub whole_rows : r.row_count * column_count r.metadata.columns ≡ length r.cells
  pub cells : AllByRecursion BytesFit r.cells

-- ---- responses

abbrev pub body : Response → List ℕ
body (responses.Error e) = error e
body responses.Ready = []
body (responses.Supported options) = list option options
body responses.Void = int (pos 1)
body (responses.Rows r) = int (pos 2) ++ rows r
body (responses.SetKeyspace keyspace) = int (pos 3) ++ string keyspace
body (responses.Prepared p) = int (pos 4) ++ prepared p

-- No part is too long for its length, and rows are whole.
abbrev pub Fits : Response → Type 0
Fits (responses.Error e) = ErrorFits e
Fits responses.Ready = Unit {0}
Fits (responses.Supported options) = ListFits OptionFits options
Fits responses.Void = Unit {0}
Fits (responses.Rows r) = RowsFit r
Fits (responses.SetKeyspace keyspace) = FitsShort keyspace
Fits (responses.Prepared p) = PreparedFits p

-- ---- what has a word: no part is too long for its length, texts are UTF-8, numbers are of their width, and rows are whole

abbrev pub OptionHasWord : SupportedOption → Type 0
OptionHasWord o = IsStringText o.name × ListFits IsStringText o.values

abbrev pub UnavailableHasWord : Unavailable → Type 0
UnavailableHasWord u = IsIntNumber u.required × IsIntNumber u.alive

abbrev pub WriteTimeoutHasWord : WriteTimeout → Type 0
WriteTimeoutHasWord t = IsIntNumber t.received × IsIntNumber t.block_for

abbrev pub ReadTimeoutHasWord : ReadTimeout → Type 0
ReadTimeoutHasWord t = IsIntNumber t.received × IsIntNumber t.block_for

abbrev pub CauseHasWord : ErrorCause → Type 0
CauseHasWord (causes.Unavailable u) = UnavailableHasWord u
CauseHasWord (causes.WriteTimeout t) = WriteTimeoutHasWord t
CauseHasWord (causes.ReadTimeout t) = ReadTimeoutHasWord t
CauseHasWord (causes.Unprepared id) = FitsShort id
CauseHasWord c = Unit {0}

abbrev pub ErrorHasWord : ErrorResponse → Type 0
ErrorHasWord e = IsStringText e.text × CauseHasWord e.cause

abbrev pub ColumnHasWord : Column → Type 0
ColumnHasWord c = IsStringText c.name

pub record TableHasWord (t : TableColumns) : Type 0 where
  pub keyspace : IsStringText t.keyspace
  pub table : IsStringText t.table
  pub count : FitsInt t.columns
  pub columns : AllByRecursion ColumnHasWord t.columns

abbrev pub ColumnsHaveWord : Columns → Type 0
ColumnsHaveWord (given.Counted n) = n < 2 ^ 31
ColumnsHaveWord (given.Described t) = TableHasWord t

abbrev pub MetadataHasWord : RowsMetadata → Type 0
MetadataHasWord m = PartFits BytesFit m.paging_state × ColumnsHaveWord m.columns

pub record VariablesHaveWord (v : VariablesMetadata) : Type 0 where
  pub key_count : FitsInt v.key_indexes
  pub key_indexes : AllByRecursion IsShortNumber v.key_indexes
  pub variables : TableHasWord v.variables

abbrev pub PreparedHasWord : Prepared → Type 0
PreparedHasWord p = FitsShort p.id × VariablesHaveWord p.variables × MetadataHasWord p.result

pub record RowsHaveWord (r : Rows) : Type 0 where
  pub metadata : MetadataHasWord r.metadata
  pub row_count : r.row_count < 2 ^ 31
  pub whole_rows : r.row_count * column_count r.metadata.columns ≡ length r.cells
  pub cells : AllByRecursion BytesFit r.cells

abbrev pub HasWord : Response → Type 0
HasWord (responses.Error e) = ErrorHasWord e
HasWord responses.Ready = Unit {0}
HasWord (responses.Supported options) = ListFits OptionHasWord options
HasWord responses.Void = Unit {0}
HasWord (responses.Rows r) = RowsHaveWord r
HasWord (responses.SetKeyspace keyspace) = IsStringText keyspace
HasWord (responses.Prepared p) = PreparedHasWord p

-- Only [bytes] that are null have more than one spelling: the paging state and the cells.
abbrev pub OneSpelling : RowsMetadata → Type 0
OneSpelling m = PartFits IsNotNull m.paging_state

abbrev pub HasOneSpelling : Response → Type 0
HasOneSpelling (responses.Rows r) = OneSpelling r.metadata × AllByRecursion IsNotNull r.cells
HasOneSpelling (responses.Prepared p) = OneSpelling p.result
HasOneSpelling r = Unit {0}

-- The bodies of responses, from left to right: a value and the bytes behind it, or the first fault.
use Rattle.std.specs.Prelude.{ℕ, ◌*◌, ◌==◌, ℤ, pos, int_lt, unsigned_abs, codes, Bool, true, false, List, length, Option, Some, None, Result, Ok, Err, if◌then◌else◌}
use Rattle.std.specs.Str.{bytes_eq}
use Rattle.cql_values.specs.declared.value.CqlType.{CqlType}
use Rattle.cql_values.specs.declared.value.CqlType.TheVariants as types
use Rattle.body_notations.specs.Reading.{◌>>=◌, Read, byte_at, short_at, int_at, count_at, consistency_at, string_at, short_bytes_at, bytes_at, items_at, list_at, part_at, whole}
use Rattle.body_notations.specs.declared.fault.Fault.{Fault}
use Rattle.body_notations.specs.declared.fault.Fault.TheVariants.{BadFlag, BadValue}
use Rattle.body_notations.specs.declared.fault.BodyError.{BodyError}
use Rattle.body_notations.specs.declared.fault.BodyError.TheVariants.{Opcode}
use Rattle.response_bodies.specs.declared.supported.SupportedOption.{SupportedOption}
use Rattle.response_bodies.specs.declared.error.Unavailable.{Unavailable}
use Rattle.response_bodies.specs.declared.error.WriteType.{WriteType}
use Rattle.response_bodies.specs.declared.error.WriteType.TheVariants as write_types
use Rattle.response_bodies.specs.declared.error.WriteTimeout.{WriteTimeout}
use Rattle.response_bodies.specs.declared.error.ReadTimeout.{ReadTimeout}
use Rattle.response_bodies.specs.declared.error.ErrorCause.{ErrorCause}
use Rattle.response_bodies.specs.declared.error.ErrorCause.TheVariants as causes
use Rattle.response_bodies.specs.declared.error.ErrorCode.{ErrorCode}
use Rattle.response_bodies.specs.declared.error.ErrorCode.TheVariants as error_codes
use Rattle.response_bodies.specs.declared.error.ErrorResponse.{ErrorResponse}
use Rattle.response_bodies.specs.declared.metadata.Column.{Column}
use Rattle.response_bodies.specs.declared.metadata.TableColumns.{TableColumns}
use Rattle.response_bodies.specs.declared.metadata.Columns.{Columns}
use Rattle.response_bodies.specs.declared.metadata.Columns.TheVariants as columns
use Rattle.response_bodies.specs.declared.metadata.MetadataFront.{MetadataFront}
use Rattle.response_bodies.specs.declared.metadata.RowsMetadata.{RowsMetadata}
use Rattle.response_bodies.specs.declared.metadata.VariablesMetadata.{VariablesMetadata}
use Rattle.response_bodies.specs.declared.metadata.Prepared.{Prepared}
use Rattle.response_bodies.specs.declared.rows.Rows.{Rows}
use Rattle.response_bodies.specs.declared.response.Response.{Response}
use Rattle.response_bodies.specs.declared.response.Response.TheVariants as responses
use Rattle.response_bodies.specs.declared.response.ResponseKind.{ResponseKind}
use Rattle.response_bodies.specs.declared.response.ResponseKind.TheVariants as kinds
use Rattle.response_bodies.specs.declared.response.ResultKind.{ResultKind}
use Rattle.response_bodies.specs.declared.response.ResultKind.TheVariants as results

-- ---- SUPPORTED

unfoldable pub option_at : List ℕ → Read SupportedOption
option_at bytes = do
  name ← string_at bytes
  values ← list_at string_at name.1
  Ok (record { name = name.0; values = values.0 }, values.1)

-- ---- ERROR

abbrev pub error_code_of : ℤ → ℕ → Result ErrorCode Fault
error_code_of n code =
    if code == 0 then Ok error_codes.Server
    else (if code == 10 then Ok error_codes.Protocol
    else (if code == 4096 then Ok error_codes.Unavailable
    else (if code == 4097 then Ok error_codes.Overloaded
    else (if code == 4352 then Ok error_codes.WriteTimeout
    else (if code == 4608 then Ok error_codes.ReadTimeout
    else (if code == 8192 then Ok error_codes.Syntax
    else (if code == 8704 then Ok error_codes.Invalid
    else (if code == 9472 then Ok error_codes.Unprepared
    else Err (BadValue n)))))))))

abbrev pub error_code : ℤ → Result ErrorCode Fault
error_code n = if int_lt n (pos 0) then Err (BadValue n) else error_code_of n (unsigned_abs n)

unfoldable pub unavailable_at : List ℕ → Read Unavailable
unavailable_at bytes = do
  consistency ← consistency_at bytes
  required ← int_at consistency.1
  alive ← int_at required.1
  Ok (record { consistency = consistency.0; required = required.0; alive = alive.0 }, alive.1)

abbrev pub write_type_of : List ℕ → Result WriteType Fault
write_type_of text =
    if bytes_eq text (codes "SIMPLE") then Ok write_types.Simple
    else (if bytes_eq text (codes "CAS") then Ok write_types.Cas else Err BadFlag)

unfoldable pub write_type_at : List ℕ → Read WriteType
write_type_at bytes = do
  text ← string_at bytes
  write_type ← write_type_of text.0
  Ok (write_type, text.1)

unfoldable pub write_timeout_at : List ℕ → Read WriteTimeout
write_timeout_at bytes = do
  consistency ← consistency_at bytes
  received ← int_at consistency.1
  block_for ← int_at received.1
  write_type ← write_type_at block_for.1
  Ok (record { consistency = consistency.0; received = received.0; block_for = block_for.0; write_type = write_type.0 }, write_type.1)

abbrev pub data_present : ℕ → Result Bool Fault
data_present byte = if byte == 0 then Ok false else (if byte == 1 then Ok true else Err BadFlag)

unfoldable pub read_timeout_at : List ℕ → Read ReadTimeout
read_timeout_at bytes = do
  consistency ← consistency_at bytes
  received ← int_at consistency.1
  block_for ← int_at received.1
  byte ← byte_at block_for.1
  present ← data_present byte.0
  Ok (record { consistency = consistency.0; received = received.0; block_for = block_for.0; data_present = present }, byte.1)

abbrev pub cause_at : ErrorCode → List ℕ → Read ErrorCause
cause_at error_codes.Server bytes = Ok (causes.Server, bytes)
cause_at error_codes.Protocol bytes = Ok (causes.Protocol, bytes)
cause_at error_codes.Unavailable bytes = unavailable_at bytes >>= λ x. Ok (causes.Unavailable x.0, x.1)
cause_at error_codes.Overloaded bytes = Ok (causes.Overloaded, bytes)
cause_at error_codes.WriteTimeout bytes = write_timeout_at bytes >>= λ x. Ok (causes.WriteTimeout x.0, x.1)
cause_at error_codes.ReadTimeout bytes = read_timeout_at bytes >>= λ x. Ok (causes.ReadTimeout x.0, x.1)
cause_at error_codes.Syntax bytes = Ok (causes.Syntax, bytes)
cause_at error_codes.Invalid bytes = Ok (causes.Invalid, bytes)
cause_at error_codes.Unprepared bytes = short_bytes_at bytes >>= λ x. Ok (causes.Unprepared x.0, x.1)

unfoldable pub error_at : List ℕ → Read ErrorResponse
error_at bytes = do
  number ← int_at bytes
  code ← error_code number.0
  text ← string_at number.1
  cause ← cause_at code text.1
  Ok (record { cause = cause.0; text = text.0 }, cause.1)

-- ---- metadata

abbrev pub type_of_id : ℕ → Result CqlType Fault
type_of_id id =
    if id == 1 then Ok types.Ascii
    else (if id == 2 then Ok types.Bigint
    else (if id == 3 then Ok types.Blob
    else (if id == 4 then Ok types.Boolean
    else (if id == 9 then Ok types.Int
    else (if id == 11 then Ok types.Timestamp
    else (if id == 12 then Ok types.Uuid
    else (if id == 13 then Ok types.Text
    else (if id == 15 then Ok types.Timeuuid
    else (if id == 19 then Ok types.Smallint
    else (if id == 20 then Ok types.Tinyint
    else Err (BadValue (pos id))))))))))))

unfoldable pub column_at : List ℕ → Read Column
column_at bytes = do
  name ← string_at bytes
  id ← short_at name.1
  ty ← type_of_id id.0
  Ok (record { name = name.0; ty = ty }, id.1)

-- a table's name, and so many columns
abbrev pub named_columns_at : ℕ → List ℕ → Read (List ℕ × List Column)
named_columns_at count bytes = do
  table ← string_at bytes
  columns ← items_at column_at count table.1
  Ok ((table.0, columns.0), columns.1)

-- a table's names, and so many columns
unfoldable pub table_at : ℕ → List ℕ → Read TableColumns
table_at count bytes = do
  keyspace ← string_at bytes
  table ← string_at keyspace.1
  columns ← items_at column_at count table.1
  Ok (record { keyspace = keyspace.0; table = table.0; columns = columns.0 }, columns.1)

-- whether there are more pages, and whether only the number of columns stands there
abbrev pub flags_number : ℕ → Result (Bool × Bool) Fault
flags_number n =
    if n == 1 then Ok (false, false)
    else (if n == 3 then Ok (true, false)
    else (if n == 4 then Ok (false, true)
    else (if n == 6 then Ok (true, true)
    else Err BadFlag)))

abbrev pub metadata_flags : ℤ → Result (Bool × Bool) Fault
metadata_flags n = if int_lt n (pos 0) then Err BadFlag else flags_number (unsigned_abs n)

abbrev pub columns_at : Bool → ℕ → List ℕ → Read Columns
columns_at true count bytes = Ok (columns.Counted count, bytes)
columns_at false count bytes = table_at count bytes >>= λ x. Ok (columns.Described x.0, x.1)

unfoldable pub front_at : List ℕ → Read MetadataFront
front_at bytes = do
  flags ← int_at bytes
  parts ← metadata_flags flags.0
  count ← count_at flags.1
  Ok (record { more = parts.0; omitted = parts.1; column_count = count.0 }, count.1)

unfoldable pub metadata_behind : MetadataFront → List ℕ → Read RowsMetadata
metadata_behind front bytes = do
  paging_state ← part_at front.more bytes_at bytes
  columns ← columns_at front.omitted front.column_count paging_state.1
  Ok (record { columns = columns.0; paging_state = paging_state.0 }, columns.1)

unfoldable pub metadata_at : List ℕ → Read RowsMetadata
metadata_at bytes = do
  front ← front_at bytes
  metadata_behind front.0 front.1

abbrev pub one_table : ℤ → Result (Unit {0}) Fault
one_table flags = if int_lt flags (pos 0) then Err BadFlag else (if unsigned_abs flags == 1 then Ok tt else Err BadFlag)

-- which markers give the key, and the markers
abbrev pub variables_behind : ℕ → ℕ → List ℕ → Read VariablesMetadata
variables_behind count key_count bytes = do
  key_indexes ← items_at short_at key_count bytes
  variables ← table_at count key_indexes.1
  Ok (record { variables = variables.0; key_indexes = key_indexes.0 }, variables.1)

unfoldable pub variables_at : List ℕ → Read VariablesMetadata
variables_at bytes = do
  flags ← int_at bytes
  known ← one_table flags.0
  count ← count_at flags.1
  key_count ← count_at count.1
  key_indexes ← items_at short_at key_count.0 key_count.1
  variables ← table_at count.0 key_indexes.1
  Ok (record { variables = variables.0; key_indexes = key_indexes.0 }, variables.1)

-- what stands behind the id of a prepared statement
abbrev pub described_at : List ℕ → Read (VariablesMetadata × RowsMetadata)
described_at bytes = do
  variables ← variables_at bytes
  result ← metadata_at variables.1
  Ok ((variables.0, result.0), result.1)

unfoldable pub prepared_at : List ℕ → Read Prepared
prepared_at bytes = do
  id ← short_bytes_at bytes
  variables ← variables_at id.1
  result ← metadata_at variables.1
  Ok (record { id = id.0; variables = variables.0; result = result.0 }, result.1)

-- ---- rows

-- how many rows there are, and so many cells of each
abbrev pub cells_at : ℕ → List ℕ → Read (ℕ × List (Option (List ℕ)))
cells_at width bytes = do
  count ← count_at bytes
  cells ← items_at bytes_at (count.0 * width) count.1
  Ok ((count.0, cells.0), cells.1)

unfoldable pub rows_at : List ℕ → Read Rows
rows_at bytes = do
  front ← front_at bytes
  metadata ← metadata_behind front.0 front.1
  count ← count_at metadata.1
  cells ← items_at bytes_at (count.0 * front.0.column_count) count.1
  Ok (record { metadata = metadata.0; row_count = count.0; cells = cells.0 }, cells.1)

-- ---- responses

abbrev pub result_kind_of : ℤ → ℕ → Result ResultKind Fault
result_kind_of n kind =
    if kind == 1 then Ok results.Void
    else (if kind == 2 then Ok results.Rows
    else (if kind == 3 then Ok results.SetKeyspace
    else (if kind == 4 then Ok results.Prepared
    else Err (BadValue n))))

abbrev pub result_kind : ℤ → Result ResultKind Fault
result_kind n = if int_lt n (pos 0) then Err (BadValue n) else result_kind_of n (unsigned_abs n)

abbrev pub result_body_at : ResultKind → List ℕ → Read Response
result_body_at results.Void bytes = Ok (responses.Void, bytes)
result_body_at results.Rows bytes = rows_at bytes >>= λ x. Ok (responses.Rows x.0, x.1)
result_body_at results.SetKeyspace bytes = string_at bytes >>= λ x. Ok (responses.SetKeyspace x.0, x.1)
result_body_at results.Prepared bytes = prepared_at bytes >>= λ x. Ok (responses.Prepared x.0, x.1)

unfoldable pub result_at : List ℕ → Read Response
result_at bytes = do
  number ← int_at bytes
  kind ← result_kind number.0
  result_body_at kind number.1

abbrev pub body_at : ResponseKind → List ℕ → Read Response
body_at kinds.Error bytes = error_at bytes >>= λ x. Ok (responses.Error x.0, x.1)
body_at kinds.Ready bytes = Ok (responses.Ready, bytes)
body_at kinds.Supported bytes = list_at option_at bytes >>= λ x. Ok (responses.Supported x.0, x.1)
body_at kinds.Result bytes = result_at bytes

abbrev pub kind_of : ℕ → Option ResponseKind
kind_of opcode =
    if opcode == 0 then Some kinds.Error
    else (if opcode == 2 then Some kinds.Ready
    else (if opcode == 6 then Some kinds.Supported
    else (if opcode == 8 then Some kinds.Result
    else None)))

abbrev pub response_of : ℕ → List ℕ → Option ResponseKind → Result Response BodyError
response_of opcode body None = Err (Opcode opcode)
response_of opcode body (Some kind) = whole (length body) (body_at kind body)

-- the response of a frame with this opcode
abbrev pub response_in : ℕ → List ℕ → Result Response BodyError
response_in opcode body = response_of opcode body (kind_of opcode)

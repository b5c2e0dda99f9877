-- The bodies of requests, from left to right: a value and the bytes behind it, or the first fault.
use Rattle.std.specs.Prelude.{ℕ, zero, suc, ◌==◌, ◌&&◌, ◌||◌, not, Bool, true, false, List, length, Option, Some, None, Result, Ok, Err, if◌then◌else◌}
use Rattle.body_notations.specs.Reading.{◌>>=◌, Read, behind, byte_at, short_at, int_at, long_at, consistency_at, string_at, long_string_at, short_bytes_at, bytes_at, value_at, list_at, part_at, is_set, whole}
use Rattle.body_notations.specs.declared.fault.Fault.{Fault}
use Rattle.body_notations.specs.declared.fault.Fault.TheVariants.{BadFlag}
use Rattle.body_notations.specs.declared.fault.BodyError.{BodyError}
use Rattle.body_notations.specs.declared.fault.BodyError.TheVariants.{Opcode}
use Rattle.body_notations.specs.declared.consistency.Consistency.{Consistency}
use Rattle.request_bodies.specs.declared.startup.StringPair.{StringPair}
use Rattle.request_bodies.specs.declared.parameters.NamedValue.{NamedValue}
use Rattle.request_bodies.specs.declared.parameters.Values.{Values}
use Rattle.request_bodies.specs.declared.parameters.Values.TheVariants as values
use Rattle.request_bodies.specs.declared.parameters.QueryParameters.{QueryParameters}
use Rattle.request_bodies.specs.declared.batch.BatchKind.{BatchKind}
use Rattle.request_bodies.specs.declared.batch.BatchKind.TheVariants as batch_kinds
use Rattle.request_bodies.specs.declared.batch.BatchStatement.{BatchStatement}
use Rattle.request_bodies.specs.declared.batch.BatchStatement.TheVariants as statements
use Rattle.request_bodies.specs.declared.batch.BatchEntry.{BatchEntry}
use Rattle.request_bodies.specs.declared.batch.BatchEnd.{BatchEnd}
use Rattle.request_bodies.specs.declared.batch.Batch.{Batch}
use Rattle.request_bodies.specs.declared.request.Query.{Query}
use Rattle.request_bodies.specs.declared.request.Execute.{Execute}
use Rattle.request_bodies.specs.declared.request.Request.{Request}
use Rattle.request_bodies.specs.declared.request.Request.TheVariants as requests
use Rattle.request_bodies.specs.declared.request.RequestKind.{RequestKind}
use Rattle.request_bodies.specs.declared.request.RequestKind.TheVariants as kinds

-- ---- STARTUP

unfoldable pub pair_at : List ℕ → Read StringPair
pair_at bytes = do
  key ← string_at bytes
  value ← string_at key.1
  Ok (record { key = key.0; value = value.0 }, value.1)

-- ---- query parameters

unfoldable pub named_value_at : List ℕ → Read NamedValue
named_value_at bytes = do
  name ← string_at bytes
  value ← value_at name.1
  Ok (record { name = name.0; value = value.0 }, value.1)

abbrev pub values_at : Bool → Bool → List ℕ → Read Values
values_at false named bytes = Ok (values.Absent, bytes)
values_at true false bytes = list_at value_at bytes >>= λ x. Ok (values.ByPlace x.0, x.1)
values_at true true bytes = list_at named_value_at bytes >>= λ x. Ok (values.ByName x.0, x.1)

-- flag 80 is none, and 40 comes with 01
abbrev pub are_known : ℕ → Bool
are_known flags = not (is_set flags 128) && (not (is_set flags 64) || is_set flags 1)

unfoldable pub parts_at : Consistency → ℕ → List ℕ → Read QueryParameters
parts_at consistency flags bytes = do
  values ← values_at (is_set flags 1) (is_set flags 64) bytes
  page_size ← part_at (is_set flags 4) int_at values.1
  paging_state ← part_at (is_set flags 8) bytes_at page_size.1
  serial ← part_at (is_set flags 16) consistency_at paging_state.1
  timestamp ← part_at (is_set flags 32) long_at serial.1
  Ok (record { consistency = consistency; values = values.0; skip_metadata = is_set flags 2; page_size = page_size.0; paging_state = paging_state.0; serial_consistency = serial.0; timestamp = timestamp.0 }, timestamp.1)

unfoldable pub parameters_at : List ℕ → Read QueryParameters
parameters_at bytes = do
  consistency ← consistency_at bytes
  flags ← byte_at consistency.1
  if are_known flags.0 then parts_at consistency.0 flags.0 flags.1 else Err BadFlag

-- ---- BATCH

abbrev pub statement_of : ℕ → List ℕ → Read BatchStatement
statement_of kind bytes =
    if kind == 0 then (long_string_at bytes >>= λ x. Ok (statements.Query x.0, x.1))
    else (if kind == 1 then (short_bytes_at bytes >>= λ x. Ok (statements.Prepared x.0, x.1))
    else Err BadFlag)

unfoldable pub statement_at : List ℕ → Read BatchStatement
statement_at bytes = do
  kind ← byte_at bytes
  statement_of kind.0 kind.1

unfoldable pub entry_at : List ℕ → Read BatchEntry
entry_at bytes = do
  statement ← statement_at bytes
  values ← list_at value_at statement.1
  Ok (record { statement = statement.0; values = values.0 }, values.1)

abbrev pub batch_kind : ℕ → Result BatchKind Fault
batch_kind code =
    if code == 0 then Ok batch_kinds.Logged
    else (if code == 1 then Ok batch_kinds.Unlogged else Err BadFlag)

-- whether a serial consistency and whether a timestamp follow
abbrev pub batch_flags : ℕ → Result (Bool × Bool) Fault
batch_flags flags =
    if flags == 0 then Ok (false, false)
    else (if flags == 16 then Ok (true, false)
    else (if flags == 32 then Ok (false, true)
    else (if flags == 48 then Ok (true, true)
    else Err BadFlag)))

unfoldable pub batch_end_at : List ℕ → Read BatchEnd
batch_end_at bytes = do
  consistency ← consistency_at bytes
  flags ← byte_at consistency.1
  parts ← batch_flags flags.0
  serial ← part_at parts.0 consistency_at flags.1
  timestamp ← part_at parts.1 long_at serial.1
  Ok (record { consistency = consistency.0; serial_consistency = serial.0; timestamp = timestamp.0 }, timestamp.1)

unfoldable pub batch_at : List ℕ → Read Batch
batch_at bytes = do
  code ← byte_at bytes
  kind ← batch_kind code.0
  entries ← list_at entry_at code.1
  end ← batch_end_at entries.1
  Ok (record { kind = kind; entries = entries.0; consistency = end.0.consistency; serial_consistency = end.0.serial_consistency; timestamp = end.0.timestamp }, end.1)

-- ---- custom payloads

abbrev pub behind_entry : List ℕ → Result (List ℕ) Fault
behind_entry bytes = do
  rest ← behind (string_at bytes)
  behind (bytes_at rest)

unfoldable pub behind_entries : ℕ → List ℕ → Result (List ℕ) Fault
behind_entries zero bytes = Ok bytes
behind_entries (suc n) bytes = do
  rest ← behind_entry bytes
  behind_entries n rest

abbrev pub payload_at : Bool → List ℕ → Result (List ℕ) Fault
payload_at false bytes = Ok bytes
payload_at true bytes = do
  n ← short_at bytes
  behind_entries n.0 n.1

-- ---- requests

unfoldable pub query_at : List ℕ → Read Query
query_at bytes = do
  query ← long_string_at bytes
  parameters ← parameters_at query.1
  Ok (record { query = query.0; parameters = parameters.0 }, parameters.1)

unfoldable pub execute_at : List ℕ → Read Execute
execute_at bytes = do
  id ← short_bytes_at bytes
  parameters ← parameters_at id.1
  Ok (record { id = id.0; parameters = parameters.0 }, parameters.1)

abbrev pub body_at : RequestKind → List ℕ → Read Request
body_at kinds.Startup bytes = list_at pair_at bytes >>= λ x. Ok (requests.Startup x.0, x.1)
body_at kinds.Options bytes = Ok (requests.Options, bytes)
body_at kinds.Query bytes = query_at bytes >>= λ x. Ok (requests.Query x.0, x.1)
body_at kinds.Prepare bytes = long_string_at bytes >>= λ x. Ok (requests.Prepare x.0, x.1)
body_at kinds.Execute bytes = execute_at bytes >>= λ x. Ok (requests.Execute x.0, x.1)
body_at kinds.Register bytes = list_at string_at bytes >>= λ x. Ok (requests.Register x.0, x.1)
body_at kinds.Batch bytes = batch_at bytes >>= λ x. Ok (requests.Batch x.0, x.1)

abbrev pub framed_at : ℕ → RequestKind → List ℕ → Read Request
framed_at flags kind bytes = do
  rest ← payload_at (is_set flags 4) bytes
  body_at kind rest

abbrev pub kind_of : ℕ → Option RequestKind
kind_of opcode =
    if opcode == 1 then Some kinds.Startup
    else (if opcode == 5 then Some kinds.Options
    else (if opcode == 7 then Some kinds.Query
    else (if opcode == 9 then Some kinds.Prepare
    else (if opcode == 10 then Some kinds.Execute
    else (if opcode == 11 then Some kinds.Register
    else (if opcode == 13 then Some kinds.Batch
    else None))))))

abbrev pub request_of : ℕ → ℕ → List ℕ → Option RequestKind → Result Request BodyError
request_of flags opcode body None = Err (Opcode opcode)
request_of flags opcode body (Some kind) = whole (length body) (framed_at flags kind body)

-- the request of a frame with these flags and this opcode
abbrev pub request_in : ℕ → ℕ → List ℕ → Result Request BodyError
request_in flags opcode body = request_of flags opcode body (kind_of opcode)

-- The grammar of the bodies of responses (native_protocol_v4.spec, sections 4.2 and 9), by its notations. As there, each
-- says of bytes, a value and a rest that a word with that value stands at the front of the bytes, and the rest follows.
use Rattle.std.specs.Prelude.{◌≡◌, ℕ, ◌*◌, pos, codes, List, [], length, is_some}
use Rattle.body_notations.specs.Notations.{IsByte, IsShort, IsInt, IsConsistency, IsString, IsShortBytes, IsBytes, AreWords, IsList, IsPart}
use Rattle.response_bodies.specs.declared.supported.SupportedOption.{SupportedOption}
use Rattle.response_bodies.specs.declared.error.Unavailable.{Unavailable}
use Rattle.response_bodies.specs.declared.error.WriteType.{WriteType}
use Rattle.response_bodies.specs.declared.error.WriteType.TheVariants as write_types
use Rattle.response_bodies.specs.declared.error.WriteTimeout.{WriteTimeout}
use Rattle.response_bodies.specs.declared.error.ReadTimeout.{ReadTimeout}
use Rattle.response_bodies.specs.declared.error.ErrorCause.{ErrorCause}
use Rattle.response_bodies.specs.declared.error.ErrorCause.TheVariants as causes
use Rattle.response_bodies.specs.declared.error.ErrorResponse.{ErrorResponse}
use Rattle.response_bodies.specs.declared.metadata.Column.{Column}
use Rattle.response_bodies.specs.declared.metadata.TableColumns.{TableColumns}
use Rattle.response_bodies.specs.declared.metadata.Columns.{Columns}
use Rattle.response_bodies.specs.declared.metadata.Columns.TheVariants as given
use Rattle.response_bodies.specs.declared.metadata.RowsMetadata.{RowsMetadata}
use Rattle.response_bodies.specs.declared.metadata.VariablesMetadata.{VariablesMetadata}
use Rattle.response_bodies.specs.declared.metadata.Prepared.{Prepared}
use Rattle.response_bodies.specs.declared.rows.Rows.{Rows}
use Rattle.response_bodies.specs.declared.response.Response.{Response}
use Rattle.response_bodies.specs.declared.response.Response.TheVariants as responses
use Rattle.response_bodies.specs.Spelling.{code_of, column_count, flags_of, present_byte, type_id}

-- ---- SUPPORTED

abbrev pub IsOption : List ℕ → SupportedOption → List ℕ → Type 0
IsOption bytes o rest = (behind_name : List ℕ) × IsString bytes o.name behind_name × IsList IsString behind_name o.values rest

-- ---- ERROR

pub record IsUnavailable (bytes : List ℕ) (u : Unavailable) (rest : List ℕ) : Type 0 where
  pub behind_consistency : List ℕ
  pub behind_required : List ℕ
  pub consistency : IsConsistency bytes u.consistency behind_consistency
  pub required : IsInt behind_consistency u.required behind_required
  pub alive : IsInt behind_required u.alive rest

-- a [string]
abbrev pub IsWriteType : List ℕ → WriteType → List ℕ → Type 0
IsWriteType bytes write_types.Simple rest = IsString bytes (codes "SIMPLE") rest
IsWriteType bytes write_types.Cas rest = IsString bytes (codes "CAS") rest

pub record IsWriteTimeout (bytes : List ℕ) (t : WriteTimeout) (rest : List ℕ) : Type 0 where
  pub behind_consistency : List ℕ
  pub behind_received : List ℕ
  pub behind_block_for : List ℕ
  pub consistency : IsConsistency bytes t.consistency behind_consistency
  pub received : IsInt behind_consistency t.received behind_received
  pub block_for : IsInt behind_received t.block_for behind_block_for
  pub write_type : IsWriteType behind_block_for t.write_type rest

-- one byte, 0 or 1, stands last
pub record IsReadTimeout (bytes : List ℕ) (t : ReadTimeout) (rest : List ℕ) : Type 0 where
  pub behind_consistency : List ℕ
  pub behind_received : List ℕ
  pub behind_block_for : List ℕ
  pub consistency : IsConsistency bytes t.consistency behind_consistency
  pub received : IsInt behind_consistency t.received behind_received
  pub block_for : IsInt behind_received t.block_for behind_block_for
  pub data_present : IsByte behind_block_for (present_byte t.data_present) rest

-- the fields of a code
abbrev pub AreFields : List ℕ → ErrorCause → List ℕ → Type 0
AreFields bytes (causes.Unavailable u) rest = IsUnavailable bytes u rest
AreFields bytes (causes.WriteTimeout t) rest = IsWriteTimeout bytes t rest
AreFields bytes (causes.ReadTimeout t) rest = IsReadTimeout bytes t rest
AreFields bytes (causes.Unprepared id) rest = IsShortBytes bytes id rest
AreFields bytes cause rest = bytes ≡ rest

pub record IsError (bytes : List ℕ) (e : ErrorResponse) (rest : List ℕ) : Type 0 where
  pub behind_code : List ℕ
  pub behind_text : List ℕ
  pub code : IsInt bytes (code_of e.cause) behind_code
  pub text : IsString behind_code e.text behind_text
  pub fields : AreFields behind_text e.cause rest

-- ---- metadata

-- a name and the [short] id of a type
abbrev pub IsColumn : List ℕ → Column → List ℕ → Type 0
IsColumn bytes c rest = (behind_name : List ℕ) × IsString bytes c.name behind_name × IsShort behind_name (type_id c.ty) rest

-- The names of the keyspace and the table stand there once, before the columns.
pub record IsTable (bytes : List ℕ) (t : TableColumns) (rest : List ℕ) : Type 0 where
  pub behind_keyspace : List ℕ
  pub behind_table : List ℕ
  pub keyspace : IsString bytes t.keyspace behind_keyspace
  pub table : IsString behind_keyspace t.table behind_table
  pub columns : AreWords IsColumn behind_table t.columns rest

abbrev pub AreColumns : List ℕ → Columns → List ℕ → Type 0
AreColumns bytes (given.Counted n) rest = bytes ≡ rest
AreColumns bytes (given.Described t) rest = IsTable bytes t rest

-- The flags are 1 for columns or 4 without them, and 2 more where a paging state stands there.
pub record IsMetadata (bytes : List ℕ) (m : RowsMetadata) (rest : List ℕ) : Type 0 where
  pub behind_flags : List ℕ
  pub behind_count : List ℕ
  pub behind_paging_state : List ℕ
  pub flags : IsInt bytes (flags_of m) behind_flags
  pub count : IsInt behind_flags (pos (column_count m.columns)) behind_count
  pub paging_state : IsPart (is_some m.paging_state) IsBytes behind_count m.paging_state behind_paging_state
  pub columns : AreColumns behind_paging_state m.columns rest

-- The flags are 1. The key's indexes stand before the markers.
pub record AreVariables (bytes : List ℕ) (v : VariablesMetadata) (rest : List ℕ) : Type 0 where
  pub behind_flags : List ℕ
  pub behind_count : List ℕ
  pub behind_key_count : List ℕ
  pub behind_key : List ℕ
  pub flags : IsInt bytes (pos 1) behind_flags
  pub count : IsInt behind_flags (pos (length v.variables.columns)) behind_count
  pub key_count : IsInt behind_count (pos (length v.key_indexes)) behind_key_count
  pub key_indexes : AreWords IsShort behind_key_count v.key_indexes behind_key
  pub variables : IsTable behind_key v.variables rest

pub record IsPrepared (bytes : List ℕ) (p : Prepared) (rest : List ℕ) : Type 0 where
  pub behind_id : List ℕ
  pub behind_variables : List ℕ
  pub id : IsShortBytes bytes p.id behind_id
  pub variables : AreVariables behind_id p.variables behind_variables
  pub result : IsMetadata behind_variables p.result rest

-- ---- rows

-- an [int] of rows, and [bytes] for each column of each row
pub record AreRows (bytes : List ℕ) (r : Rows) (rest : List ℕ) : Type 0 where
  pub behind_metadata : List ℕ
  pub behind_count : List ℕ
  pub metadata : IsMetadata bytes r.metadata behind_metadata
  pub count : IsInt behind_metadata (pos r.row_count) behind_count
  pub whole_rows : r.row_count * column_count r.metadata.columns ≡ length r.cells
  pub cells : AreWords IsBytes behind_count r.cells rest

-- ---- responses

-- a RESULT has its kind before it
abbrev pub IsBody : List ℕ → Response → List ℕ → Type 0
IsBody bytes (responses.Error e) rest = IsError bytes e rest
IsBody bytes responses.Ready rest = bytes ≡ rest
IsBody bytes (responses.Supported options) rest = IsList IsOption bytes options rest
IsBody bytes responses.Void rest = IsInt bytes (pos 1) rest
IsBody bytes (responses.Rows r) rest = (behind_kind : List ℕ) × IsInt bytes (pos 2) behind_kind × AreRows behind_kind r rest
IsBody bytes (responses.SetKeyspace keyspace) rest = (behind_kind : List ℕ) × IsInt bytes (pos 3) behind_kind × IsString behind_kind keyspace rest
IsBody bytes (responses.Prepared p) rest = (behind_kind : List ℕ) × IsInt bytes (pos 4) behind_kind × IsPrepared behind_kind p rest

abbrev pub opcode_of : Response → ℕ
opcode_of (responses.Error e) = 0
opcode_of responses.Ready = 2
opcode_of (responses.Supported options) = 6
opcode_of responses.Void = 8
opcode_of (responses.Rows r) = 8
opcode_of (responses.SetKeyspace keyspace) = 8
opcode_of (responses.Prepared p) = 8

-- The body of a frame with this opcode is this response. Nothing follows it.
pub record IsResponse (opcode : ℕ) (bytes : List ℕ) (r : Response) : Type 0 where
  pub of_opcode : opcode ≡ opcode_of r
  pub body : IsBody bytes r []

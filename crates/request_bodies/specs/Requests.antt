-- The grammar of the bodies of requests (native_protocol_v4.spec, section 4.1), by its notations. As there, each says of
-- bytes, a value and a rest that a word with that value stands at the front of the bytes, and the rest follows.
use Rattle.std.specs.Prelude.{◌≡◌, ℕ, Bool, true, false, List, [], Option, is_some}
use Rattle.body_notations.specs.Notations.{IsByte, IsInt, IsLong, IsConsistency, IsString, IsLongString, IsShortBytes, IsBytes, IsValue, IsList, IsPart}
use Rattle.body_notations.specs.Reading.{is_set}
use Rattle.request_bodies.specs.declared.startup.StringPair.{StringPair}
use Rattle.request_bodies.specs.declared.parameters.NamedValue.{NamedValue}
use Rattle.request_bodies.specs.declared.parameters.Values.{Values}
use Rattle.request_bodies.specs.declared.parameters.Values.TheVariants as values
use Rattle.request_bodies.specs.declared.parameters.QueryParameters.{QueryParameters}
use Rattle.request_bodies.specs.declared.batch.BatchStatement.{BatchStatement}
use Rattle.request_bodies.specs.declared.batch.BatchStatement.TheVariants as statements
use Rattle.request_bodies.specs.declared.batch.BatchEntry.{BatchEntry}
use Rattle.request_bodies.specs.declared.batch.Batch.{Batch}
use Rattle.request_bodies.specs.declared.request.Query.{Query}
use Rattle.request_bodies.specs.declared.request.Execute.{Execute}
use Rattle.request_bodies.specs.declared.request.Request.{Request}
use Rattle.request_bodies.specs.declared.request.Request.TheVariants as requests
use Rattle.request_bodies.specs.Spelling.{batch_flags_of, kind_code}

-- ---- STARTUP

-- a key and its value
abbrev pub IsPair : List ℕ → StringPair → List ℕ → Type 0
IsPair bytes p rest = (behind_key : List ℕ) × IsString bytes p.key behind_key × IsString behind_key p.value rest

-- [string map]
abbrev pub IsStringMap : List ℕ → List StringPair → List ℕ → Type 0
IsStringMap = IsList IsPair

-- ---- query parameters

-- the name first
abbrev pub IsNamedValue : List ℕ → NamedValue → List ℕ → Type 0
IsNamedValue bytes v rest = (behind_name : List ℕ) × IsString bytes v.name behind_name × IsValue behind_name v.value rest

-- values stand there where flag 01 is set, each behind its name where flag 40 is
abbrev pub AreValues : Bool → Bool → List ℕ → Values → List ℕ → Type 0
AreValues present named bytes values.Absent rest = (present ≡ false) × (bytes ≡ rest)
AreValues present named bytes (values.ByPlace vs) rest = (present ≡ true) × (named ≡ false) × IsList IsValue bytes vs rest
AreValues present named bytes (values.ByName vs) rest = (present ≡ true) × (named ≡ true) × IsList IsNamedValue bytes vs rest

-- what the flags announce, in this order
pub record AreParts (flags : ℕ) (bytes : List ℕ) (p : QueryParameters) (rest : List ℕ) : Type 0 where
  pub behind_values : List ℕ
  pub behind_page_size : List ℕ
  pub behind_paging_state : List ℕ
  pub behind_serial : List ℕ
  pub skip_metadata : p.skip_metadata ≡ is_set flags 2
  pub values : AreValues (is_set flags 1) (is_set flags 64) bytes p.values behind_values
  pub page_size : IsPart (is_set flags 4) IsInt behind_values p.page_size behind_page_size
  pub paging_state : IsPart (is_set flags 8) IsBytes behind_page_size p.paging_state behind_paging_state
  pub serial : IsPart (is_set flags 16) IsConsistency behind_paging_state p.serial_consistency behind_serial
  pub timestamp : IsPart (is_set flags 32) IsLong behind_serial p.timestamp rest

-- Flag 80 is none, and 40 comes with 01.
pub record AreKnown (flags : ℕ) : Type 0 where
  pub no_other : is_set flags 128 ≡ false
  pub names_of_values : is_set flags 64 ≡ true → is_set flags 1 ≡ true

pub record AreParameters (bytes : List ℕ) (p : QueryParameters) (rest : List ℕ) : Type 0 where
  pub behind_consistency : List ℕ
  pub flags : ℕ
  pub behind_flags : List ℕ
  pub consistency : IsConsistency bytes p.consistency behind_consistency
  pub flags_byte : IsByte behind_consistency flags behind_flags
  pub known : AreKnown flags
  pub parts : AreParts flags behind_flags p rest

-- ---- BATCH

-- a kind byte, and the statement
abbrev pub IsStatement : List ℕ → BatchStatement → List ℕ → Type 0
IsStatement bytes (statements.Query query) rest = (behind_kind : List ℕ) × IsByte bytes 0 behind_kind × IsLongString behind_kind query rest
IsStatement bytes (statements.Prepared id) rest = (behind_kind : List ℕ) × IsByte bytes 1 behind_kind × IsShortBytes behind_kind id rest

abbrev pub IsEntry : List ℕ → BatchEntry → List ℕ → Type 0
IsEntry bytes e rest = (behind_statement : List ℕ) × IsStatement bytes e.statement behind_statement × IsList IsValue behind_statement e.values rest

-- a byte of flags, 10 for a serial consistency and 20 for a timestamp, stands before these
pub record IsBatch (bytes : List ℕ) (b : Batch) (rest : List ℕ) : Type 0 where
  pub behind_kind : List ℕ
  pub behind_entries : List ℕ
  pub behind_consistency : List ℕ
  pub behind_flags : List ℕ
  pub behind_serial : List ℕ
  pub kind : IsByte bytes (kind_code b.kind) behind_kind
  pub entries : IsList IsEntry behind_kind b.entries behind_entries
  pub consistency : IsConsistency behind_entries b.consistency behind_consistency
  pub flags : IsByte behind_consistency (batch_flags_of (is_some b.serial_consistency) (is_some b.timestamp)) behind_flags
  pub serial : IsPart (is_some b.serial_consistency) IsConsistency behind_flags b.serial_consistency behind_serial
  pub timestamp : IsPart (is_some b.timestamp) IsLong behind_serial b.timestamp rest

-- ---- custom payloads

abbrev pub IsPayloadEntry : List ℕ → List ℕ × Option (List ℕ) → List ℕ → Type 0
IsPayloadEntry bytes e rest = (behind_name : List ℕ) × IsString bytes e.0 behind_name × IsBytes behind_name e.1 rest

-- a [bytes map] where its flag is set
abbrev pub IsPayload : Bool → List ℕ → List ℕ → Type 0
IsPayload false bytes rest = bytes ≡ rest
IsPayload true bytes rest = (entries : List (List ℕ × Option (List ℕ))) × IsList IsPayloadEntry bytes entries rest

-- ---- requests

abbrev pub IsQuery : List ℕ → Query → List ℕ → Type 0
IsQuery bytes q rest = (behind_query : List ℕ) × IsLongString bytes q.query behind_query × AreParameters behind_query q.parameters rest

abbrev pub IsExecute : List ℕ → Execute → List ℕ → Type 0
IsExecute bytes e rest = (behind_id : List ℕ) × IsShortBytes bytes e.id behind_id × AreParameters behind_id e.parameters rest

abbrev pub IsBody : List ℕ → Request → List ℕ → Type 0
IsBody bytes (requests.Startup options) rest = IsStringMap bytes options rest
IsBody bytes requests.Options rest = bytes ≡ rest
IsBody bytes (requests.Query q) rest = IsQuery bytes q rest
IsBody bytes (requests.Prepare query) rest = IsLongString bytes query rest
IsBody bytes (requests.Execute e) rest = IsExecute bytes e rest
IsBody bytes (requests.Register events) rest = IsList IsString bytes events rest
IsBody bytes (requests.Batch b) rest = IsBatch bytes b rest

abbrev pub opcode_of : Request → ℕ
opcode_of (requests.Startup options) = 1
opcode_of requests.Options = 5
opcode_of (requests.Query q) = 7
opcode_of (requests.Prepare query) = 9
opcode_of (requests.Execute e) = 10
opcode_of (requests.Register events) = 11
opcode_of (requests.Batch b) = 13

-- The body of a frame with these flags and this opcode is this request, behind a custom payload where flag 04 is set.
-- Nothing follows it.
pub record IsRequest (flags opcode : ℕ) (bytes : List ℕ) (r : Request) : Type 0 where
  pub behind_payload : List ℕ
  pub of_opcode : opcode ≡ opcode_of r
  pub payload : IsPayload (is_set flags 4) bytes behind_payload
  pub body : IsBody behind_payload r []

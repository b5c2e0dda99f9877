-- The values of each type.
use Rattle.std.specs.Prelude.{◌≡◌, ℕ, ◌+◌, ◌*◌, ◌/◌, ◌%◌, ◌^◌, ◌<◌, List, slice_index, FitsSigned}
use Rattle.std.specs.Int.{w8, w16, w32, w64}
use Rattle.std.specs.Str.{IsAscii, IsUtf8}
use Rattle.cql_values.specs.declared.value.CqlType.{CqlType}
use Rattle.cql_values.specs.declared.value.CqlType.TheVariants as types
use Rattle.cql_values.specs.declared.value.CqlValue.{CqlValue}
use Rattle.cql_values.specs.declared.value.CqlValue.TheVariants as values

abbrev pub type_of : CqlValue → CqlType
type_of (values.Ascii _) = types.Ascii
type_of (values.Bigint _) = types.Bigint
type_of (values.Blob _) = types.Blob
type_of (values.Boolean _) = types.Boolean
type_of (values.Int _) = types.Int
type_of (values.Timestamp _) = types.Timestamp
type_of (values.Uuid _) = types.Uuid
type_of (values.Text _) = types.Text
type_of (values.Timeuuid _) = types.Timeuuid
type_of (values.Smallint _) = types.Smallint
type_of (values.Tinyint _) = types.Tinyint

-- every element is a byte
abbrev pub IsBytes : List ℕ → Type 0
IsBytes bytes = (i : ℕ) → slice_index bytes i < 256

-- The version of a uuid is the high half of its byte 6, bits 76 to 79 (RFC 4122, section 4.1.3).
abbrev pub uuid_version : ℕ → ℕ
uuid_version uuid = uuid / 2 ^ 76 % 16

-- The time of a uuid of version 1: time_low is the highest 32 bits, time_mid the next 16, and time_hi the lowest
-- twelve of the 16 after them (RFC 4122, section 4.1.2).
abbrev pub uuid_time : ℕ → ℕ
uuid_time uuid = uuid / 2 ^ 64 % 2 ^ 12 * 2 ^ 48 + uuid / 2 ^ 80 % 2 ^ 16 * 2 ^ 32 + uuid / 2 ^ 96

-- What the values of a type are: numbers of its width, bytes, ASCII, UTF-8, and uuids of version 1 for timeuuid
-- (CQL reference, data types).
abbrev pub IsValue : CqlValue → Type 0
IsValue (values.Ascii text) = IsAscii text
IsValue (values.Bigint n) = FitsSigned w64 n
IsValue (values.Blob bytes) = IsBytes bytes
IsValue (values.Boolean _) = Unit {0}
IsValue (values.Int n) = FitsSigned w32 n
IsValue (values.Timestamp n) = FitsSigned w64 n
IsValue (values.Uuid uuid) = uuid < 2 ^ 128
IsValue (values.Text text) = IsUtf8 text
IsValue (values.Timeuuid uuid) = (uuid < 2 ^ 128) × (uuid_version uuid ≡ 1)
IsValue (values.Smallint n) = FitsSigned w16 n
IsValue (values.Tinyint n) = FitsSigned w8 n

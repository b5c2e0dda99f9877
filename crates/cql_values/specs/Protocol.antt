-- The bytes of a value in the native protocol (native_protocol_v4.spec, section 6).
use Rattle.std.specs.Prelude.{◌≡◌, ◌≢◌, ◌↔◌, ℕ, ◌==◌, IsTrue, List, [], ◌∷◌, length, slice_index, if◌then◌else◌, nat_le, position, not, Option, Some, None, Result, Ok, Err}
use Rattle.std.specs.Int.{w8, w16, w32, w64, w128, cast_signed, cast_unsigned, to_be_bytes, from_be_bytes}
use Rattle.std.specs.Str.{is_utf8}
use Rattle.std.specs.Str.Lossy.{utf8_valid_len}
use Rattle.cql_values.specs.Value.{type_of, IsValue, uuid_version}
use Rattle.cql_values.specs.declared.value.CqlType.{CqlType}
use Rattle.cql_values.specs.declared.value.CqlType.TheVariants as types
use Rattle.cql_values.specs.declared.value.CqlValue.{CqlValue}
use Rattle.cql_values.specs.declared.value.CqlValue.TheVariants as values
use Rattle.cql_values.specs.declared.error.ValueError.{ValueError}
use Rattle.cql_values.specs.declared.error.ValueError.TheVariants as errors

-- The bytes that are written: numbers big-endian and in two's complement, a boolean as 0 or 1, a uuid as its sixteen
-- bytes, a text as its UTF-8.
abbrev pub value_bytes : CqlValue → List ℕ
value_bytes (values.Ascii text) = text
value_bytes (values.Bigint n) = to_be_bytes w64 (cast_unsigned w64 n)
value_bytes (values.Blob bytes) = bytes
value_bytes (values.Boolean b) = (if b then 1 else 0) ∷ []
value_bytes (values.Int n) = to_be_bytes w32 (cast_unsigned w32 n)
value_bytes (values.Timestamp n) = to_be_bytes w64 (cast_unsigned w64 n)
value_bytes (values.Uuid uuid) = to_be_bytes w128 uuid
value_bytes (values.Text text) = text
value_bytes (values.Timeuuid uuid) = to_be_bytes w128 uuid
value_bytes (values.Smallint n) = to_be_bytes w16 (cast_unsigned w16 n)
value_bytes (values.Tinyint n) = cast_unsigned w8 n ∷ []

-- The bytes spell the value. A boolean has more than one spelling: each byte other than 0 is true.
abbrev pub Spells : List ℕ → CqlValue → Type 0
Spells bytes (values.Boolean b) = (length bytes ≡ 1) × (IsTrue b ↔ (slice_index bytes 0 ≢ 0))
Spells bytes v = bytes ≡ value_bytes v

-- the bytes are a word of the type, and this is its value
pub record IsWord (ty : CqlType) (bytes : List ℕ) (v : CqlValue) : Type 0 where
  pub of_type : type_of v ≡ ty
  pub value : IsValue v
  pub spelling : Spells bytes v

-- the value if there are n bytes, which is the width of its type
abbrev pub of_width : ℕ → List ℕ → Result CqlValue ValueError → Result CqlValue ValueError
of_width n bytes answer = if length bytes == n then answer else Err (errors.BadLength (length bytes))

-- the text if no byte at an offset is above 127
abbrev pub ascii_unless : List ℕ → Option ℕ → Result CqlValue ValueError
ascii_unless bytes None = Ok (values.Ascii bytes)
ascii_unless bytes (Some at) = Err (errors.NotAscii at)

-- The value of the bytes, or the first refusal that holds.
abbrev pub decoded : CqlType → List ℕ → Result CqlValue ValueError
decoded types.Ascii bytes = ascii_unless bytes (position (nat_le 128) bytes)
decoded types.Bigint bytes = of_width 8 bytes (Ok (values.Bigint (cast_signed w64 (from_be_bytes w64 bytes))))
decoded types.Blob bytes = Ok (values.Blob bytes)
decoded types.Boolean bytes = of_width 1 bytes (Ok (values.Boolean (not (slice_index bytes 0 == 0))))
decoded types.Int bytes = of_width 4 bytes (Ok (values.Int (cast_signed w32 (from_be_bytes w32 bytes))))
decoded types.Timestamp bytes = of_width 8 bytes (Ok (values.Timestamp (cast_signed w64 (from_be_bytes w64 bytes))))
decoded types.Uuid bytes = of_width 16 bytes (Ok (values.Uuid (from_be_bytes w128 bytes)))
decoded types.Text bytes = if is_utf8 bytes then Ok (values.Text bytes) else Err (errors.NotUtf8 (utf8_valid_len bytes))
decoded types.Timeuuid bytes = of_width 16 bytes
    (if uuid_version (from_be_bytes w128 bytes) == 1 then Ok (values.Timeuuid (from_be_bytes w128 bytes)) else Err errors.NotTimeuuid)
decoded types.Smallint bytes = of_width 2 bytes (Ok (values.Smallint (cast_signed w16 (from_be_bytes w16 bytes))))
decoded types.Tinyint bytes = of_width 1 bytes (Ok (values.Tinyint (cast_signed w8 (slice_index bytes 0))))

-- What was answered is this, unless memory ran out.
abbrev pub Fails : {X : Type 0} → ValueError → Result X ValueError → Type 0
Fails errors.NoMemory answer = Unit {0}
Fails e answer = answer ≡ Err e

abbrev pub Answers : {X : Type 0} → Result X ValueError → Result X ValueError → Type 0
Answers (Ok x) answer = answer ≡ Ok x
Answers (Err e) answer = Fails e answer

-- The order of clustering values, and bytes that have it (Cassandra's documentation, clustering columns).
use Rattle.std.specs.Prelude.{◌≡◌, ◌≢◌, ℕ, ◌+◌, ◌-◌, ◌<◌, ◌≤◌, ◌==◌, Bool, true, false, bit_xor, List, [], ◌∷◌, ◌++◌, length, take, map, if◌then◌else◌, nat_lt, slice_index, Option, Some, None, IsSome, Result, Ok, Err}
use Rattle.std.specs.Int.{w8, w16, w32, w64, w128, cast_signed, cast_unsigned, from_be_bytes, to_be_bytes}
use Rattle.std.specs.Ordering.{nat_cmp, int_cmp, bool_cmp, ordering_then, ordering_reverse}
use Rattle.std.specs.Cmp.Lexicographic.{slice_cmp}
use Rattle.std.specs.declared.cmp.Ordering.{Ordering}
use Rattle.cql_values.specs.Value.{type_of, IsValue, uuid_time}
use Rattle.cql_values.specs.declared.value.CqlType.{CqlType}
use Rattle.cql_values.specs.declared.value.CqlType.TheVariants as types
use Rattle.cql_values.specs.declared.error.OrderError.{OrderError}
use Rattle.cql_values.specs.declared.error.OrderError.TheVariants as errors
use Rattle.cql_values.specs.declared.value.CqlValue.{CqlValue}
use Rattle.cql_values.specs.declared.value.CqlValue.TheVariants as values

-- Values of one type compare: numbers by their value, false before true, texts and blobs by their bytes, and uuids of
-- version 1 by their time and then by their sixteen bytes as one number. No other two values compare.
abbrev pub value_order : CqlValue → CqlValue → Option Ordering
value_order (values.Ascii a) (values.Ascii b) = Some (slice_cmp nat_cmp a b)
value_order (values.Bigint a) (values.Bigint b) = Some (int_cmp a b)
value_order (values.Blob a) (values.Blob b) = Some (slice_cmp nat_cmp a b)
value_order (values.Boolean a) (values.Boolean b) = Some (bool_cmp a b)
value_order (values.Int a) (values.Int b) = Some (int_cmp a b)
value_order (values.Timestamp a) (values.Timestamp b) = Some (int_cmp a b)
value_order (values.Text a) (values.Text b) = Some (slice_cmp nat_cmp a b)
value_order (values.Timeuuid a) (values.Timeuuid b) = Some (ordering_then (nat_cmp (uuid_time a) (uuid_time b)) (nat_cmp a b))
value_order (values.Smallint a) (values.Smallint b) = Some (int_cmp a b)
value_order (values.Tinyint a) (values.Tinyint b) = Some (int_cmp a b)
value_order _ _ = None

-- the order of a column, which DESC turns round
abbrev pub directed : Bool → Ordering → Ordering
directed desc o = if desc then ordering_reverse o else o

-- the bytes of a number with the top bit flipped
abbrev pub flip_top : List ℕ → List ℕ
flip_top [] = []
flip_top (b ∷ bs) = bit_xor b 128 ∷ bs

-- each 00 as 00 FF, and then 00 00
abbrev pub escaped : List ℕ → List ℕ
escaped [] = 0 ∷ 0 ∷ []
escaped (b ∷ bs) = if b == 0 then 0 ∷ 255 ∷ escaped bs else b ∷ escaped bs

-- the bytes of a value in an ascending column; a uuid of any version has none
abbrev pub ascending_word : CqlValue → List ℕ
ascending_word (values.Ascii text) = escaped text
ascending_word (values.Bigint n) = flip_top (to_be_bytes w64 (cast_unsigned w64 n))
ascending_word (values.Blob bytes) = escaped bytes
ascending_word (values.Boolean b) = (if b then 1 else 0) ∷ []
ascending_word (values.Int n) = flip_top (to_be_bytes w32 (cast_unsigned w32 n))
ascending_word (values.Timestamp n) = flip_top (to_be_bytes w64 (cast_unsigned w64 n))
ascending_word (values.Uuid uuid) = []
ascending_word (values.Text text) = escaped text
ascending_word (values.Timeuuid uuid) = to_be_bytes w64 (uuid_time uuid) ++ to_be_bytes w128 uuid
ascending_word (values.Smallint n) = flip_top (to_be_bytes w16 (cast_unsigned w16 n))
ascending_word (values.Tinyint n) = flip_top (cast_unsigned w8 n ∷ [])

-- the bytes of a value, each complemented in a DESC column
abbrev pub order_word : Bool → CqlValue → List ℕ
order_word desc v = if desc then map (λ b. 255 - b) (ascending_word v) else ascending_word v

-- The plain order of the bytes is the order of the values, and where they are equal that of the bytes that follow: so
-- the bytes of several columns compare column by column.
abbrev pub KeepsOrder : Type 0
KeepsOrder =
    (desc : Bool) (v w : CqlValue) (o : Ordering) (after_v after_w : List ℕ) → IsValue v → IsValue w → value_order v w ≡ Some o
    → slice_cmp nat_cmp (order_word desc v ++ after_v) (order_word desc w ++ after_w) ≡ ordering_then (directed desc o) (slice_cmp nat_cmp after_v after_w)

-- Any two values of a type other than uuid compare.
abbrev pub ComparesTypes : Type 0
ComparesTypes = (v w : CqlValue) → type_of v ≡ type_of w → type_of v ≢ types.Uuid → IsSome (value_order v w)

-- ---- reading

-- the bytes are the order bytes of the value, which is one of the type
abbrev pub IsOrderWord : CqlType → Bool → List ℕ → CqlValue → Type 0
IsOrderWord ty desc word v = (type_of v ≡ ty) × IsValue v × (word ≡ order_word desc v)

-- the bytes begin a word, and at least one more byte is wanted
abbrev pub Continues : {X : Type 0} → (List ℕ → X → Type 0) → List ℕ → Type 0
Continues {X} IsWord bytes = (v : X) × (next : ℕ) × (rest : List ℕ) × IsWord (bytes ++ next ∷ rest) v

-- no word begins with the bytes
abbrev pub EndsAllWords : {X : Type 0} → (List ℕ → X → Type 0) → List ℕ → Type 0
EndsAllWords {X} IsWord bytes = (v : X) (rest : List ℕ) → IsWord (bytes ++ rest) v → ⊥

-- What the front of the bytes is read as: the value whose word stands there, and its length; Short where the bytes end
-- within a word; Malformed at the first byte with which no word goes on.
abbrev pub Reads : {X : Type 0} → (List ℕ → X → Type 0) → List ℕ → Result (X × ℕ) OrderError → Type 0
Reads IsWord bytes (Ok (v, n)) = (n ≤ length bytes) × IsWord (take n bytes) v
Reads IsWord bytes (Err errors.Short) = Continues IsWord bytes
Reads IsWord bytes (Err (errors.Malformed at)) = (at < length bytes) × Continues IsWord (take at bytes) × EndsAllWords IsWord (take (at + 1) bytes)
Reads IsWord bytes (Err errors.NoMemory) = Unit {0}

-- What was answered is this, unless memory ran out.
abbrev pub Answers : {X : Type 0} → Result X OrderError → Result X OrderError → Type 0
Answers (Ok x) answer = answer ≡ Ok x
Answers (Err errors.NoMemory) answer = Unit {0}
Answers (Err e) answer = answer ≡ Err e

-- the bytes of an ascending column, from those of a column
abbrev pub ascending_bytes : Bool → List ℕ → List ℕ
ascending_bytes desc bytes = if desc then map (λ b. 255 - b) bytes else bytes

-- ---- fixed widths

-- the types of whole numbers
abbrev pub IsNumberType : CqlType → Type 0
IsNumberType types.Bigint = Unit {0}
IsNumberType types.Int = Unit {0}
IsNumberType types.Timestamp = Unit {0}
IsNumberType types.Smallint = Unit {0}
IsNumberType types.Tinyint = Unit {0}
IsNumberType _ = ⊥

-- the first n bytes, where there are so many
abbrev pub front_of : ℕ → List ℕ → Result (List ℕ) OrderError
front_of n bytes = if nat_lt (length bytes) n then Err errors.Short else Ok (take n bytes)

-- a value of n bytes
abbrev pub fixed : ℕ → (List ℕ → CqlValue) → List ℕ → Result (CqlValue × ℕ) OrderError
fixed n make bytes = if nat_lt (length bytes) n then Err errors.Short else Ok (make (take n bytes), n)

abbrev pub number_read : CqlType → List ℕ → Result (CqlValue × ℕ) OrderError
number_read types.Bigint bytes = fixed 8 (λ w. values.Bigint (cast_signed w64 (from_be_bytes w64 (flip_top w)))) bytes
number_read types.Int bytes = fixed 4 (λ w. values.Int (cast_signed w32 (from_be_bytes w32 (flip_top w)))) bytes
number_read types.Timestamp bytes = fixed 8 (λ w. values.Timestamp (cast_signed w64 (from_be_bytes w64 (flip_top w)))) bytes
number_read types.Smallint bytes = fixed 2 (λ w. values.Smallint (cast_signed w16 (from_be_bytes w16 (flip_top w)))) bytes
number_read types.Tinyint bytes = fixed 1 (λ w. values.Tinyint (cast_signed w8 (slice_index (flip_top w) 0))) bytes
number_read _ bytes = Err errors.Short

abbrev pub boolean_read : List ℕ → Result (CqlValue × ℕ) OrderError
boolean_read [] = Err errors.Short
boolean_read (b ∷ bs) = if b == 0 then Ok (values.Boolean false, 1)
    else (if b == 1 then Ok (values.Boolean true, 1) else Err (errors.Malformed 0))

-- Whether a byte of a timeuuid's word is what the bytes before it ask for. The time has 60 bits; and of the uuid the
-- first four bytes are the last four of the time, the next two its third and fourth, and the next two its first two,
-- with the version 1 over them.
abbrev pub is_time_byte : List ℕ → ℕ → Bool
is_time_byte word at =
    if at == 0 then nat_lt (slice_index word 0) 16
    else (if nat_lt at 8 then true
    else (if nat_lt at 12 then slice_index word at == slice_index word (at - 4)
    else (if nat_lt at 14 then slice_index word at == slice_index word (at - 10)
    else (if at == 14 then slice_index word at == slice_index word 0 + 16
    else (if at == 15 then slice_index word at == slice_index word 1 else true)))))

-- The literals of CQL (CQL reference, constants), and the one that a value is printed as.
use Rattle.std.specs.Prelude.{◌≡◌, ◌⊎◌, ℕ, ℤ, pos, negsuc, neg_ℤ, ◌^◌, ◌==◌, ◌&&◌, ◌||◌, Bool, true, false, List, [], ◌∷◌, ◌++◌, length, slice_index, drop, if◌then◌else◌, nat_lt, codes, Option, Some, None, option_map, Result, Ok, Err}
use Rattle.std.specs.Int.{w128, to_be_bytes, from_be_bytes}
use Rattle.std.specs.Fmt.{signed_decimal}
use Rattle.std.specs.List.{list_all}
use Rattle.std.specs.Result.{result_ok}
use Rattle.std.specs.Str.{all_ascii_digits, bytes_eq, str_to_ascii_lowercase}
use Rattle.std.specs.Str.Parse.{IsNumeral, digits_value}
use Rattle.hex.specs.Hex.{decode_of, encode_lower}
use Rattle.uuid.specs.Text.{hyphenated_text, lower, parsed_hyphenated}
use Rattle.cql_values.specs.Value.{type_of, IsValue, uuid_version}
use Rattle.cql_values.specs.declared.value.CqlType.{CqlType}
use Rattle.cql_values.specs.declared.value.CqlType.TheVariants as types
use Rattle.cql_values.specs.declared.value.CqlValue.{CqlValue}
use Rattle.cql_values.specs.declared.value.CqlValue.TheVariants as values
use Rattle.cql_values.specs.declared.value.LiteralKind.{LiteralKind}
use Rattle.cql_values.specs.declared.value.LiteralKind.TheVariants as kinds
use Rattle.cql_values.specs.declared.error.LiteralError.{LiteralError}
use Rattle.cql_values.specs.declared.error.LiteralError.TheVariants as errors

-- the kind of the literals of a type
abbrev pub kind_of : CqlType → LiteralKind
kind_of types.Ascii = kinds.Str
kind_of types.Bigint = kinds.Whole
kind_of types.Blob = kinds.Blob
kind_of types.Boolean = kinds.Bool
kind_of types.Int = kinds.Whole
kind_of types.Timestamp = kinds.Whole
kind_of types.Uuid = kinds.Uuid
kind_of types.Text = kinds.Str
kind_of types.Timeuuid = kinds.Uuid
kind_of types.Smallint = kinds.Whole
kind_of types.Tinyint = kinds.Whole

-- ---- the words of each kind

-- the code of a single quote, and of a minus
abbrev pub quote : ℕ
quote = 39

abbrev pub minus : ℕ
minus = 45

-- each quote of a text twice
abbrev pub doubled : List ℕ → List ℕ
doubled [] = []
doubled (c ∷ cs) = if c == quote then quote ∷ quote ∷ doubled cs else c ∷ doubled cs

-- a string stands in single quotes, and two quotes in it are one
abbrev pub quoted : List ℕ → List ℕ
quoted text = quote ∷ (doubled text ++ quote ∷ [])

-- a whole number is an optional minus and one or more digits, of whatever value
abbrev pub IsWhole : List ℕ → ℤ → Type 0
IsWhole text n =
    (digits : List ℕ) × IsNumeral 10 digits
    × (((text ≡ digits) × (n ≡ pos (digits_value 10 digits))) ⊎ ((text ≡ minus ∷ digits) × (n ≡ neg_ℤ (pos (digits_value 10 digits)))))

-- a blob is 0x and two hexadecimal digits for each byte, in either case
abbrev pub IsBlob : List ℕ → List ℕ → Type 0
IsBlob text bytes = (x : ℕ) × (digits : List ℕ) × (text ≡ 48 ∷ x ∷ digits) × ((x ≡ 120) ⊎ (x ≡ 88)) × (decode_of digits ≡ Ok bytes)

-- the word of a boolean, in lower case
abbrev pub boolean_text : Bool → List ℕ
boolean_text true = codes "true"
boolean_text false = codes "false"

-- The text is a literal of the value. A uuid has 8, 4, 4, 4 and 12 hexadecimal digits with hyphens between, in either
-- case, and a boolean is in either case.
abbrev pub IsLiteral : List ℕ → CqlValue → Type 0
IsLiteral text (values.Ascii content) = text ≡ quoted content
IsLiteral text (values.Bigint n) = IsWhole text n
IsLiteral text (values.Blob bytes) = IsBlob text bytes
IsLiteral text (values.Boolean b) = str_to_ascii_lowercase text ≡ boolean_text b
IsLiteral text (values.Int n) = IsWhole text n
IsLiteral text (values.Timestamp n) = IsWhole text n
IsLiteral text (values.Uuid uuid) = parsed_hyphenated text ≡ Some (to_be_bytes w128 uuid)
IsLiteral text (values.Text content) = text ≡ quoted content
IsLiteral text (values.Timeuuid uuid) = parsed_hyphenated text ≡ Some (to_be_bytes w128 uuid)
IsLiteral text (values.Smallint n) = IsWhole text n
IsLiteral text (values.Tinyint n) = IsWhole text n

-- a literal of this kind and text stands for this value of the type
pub record Means (ty : CqlType) (kind : LiteralKind) (text : List ℕ) (v : CqlValue) : Type 0 where
  pub of_kind : kind ≡ kind_of ty
  pub of_type : type_of v ≡ ty
  pub value : IsValue v
  pub literal : IsLiteral text v

-- the literal that a value is printed as: numbers in decimal, hexadecimal digits in lower case
abbrev pub literal_text : CqlValue → List ℕ
literal_text (values.Ascii content) = quoted content
literal_text (values.Bigint n) = signed_decimal n
literal_text (values.Blob bytes) = codes "0x" ++ encode_lower bytes
literal_text (values.Boolean b) = boolean_text b
literal_text (values.Int n) = signed_decimal n
literal_text (values.Timestamp n) = signed_decimal n
literal_text (values.Uuid uuid) = hyphenated_text lower (to_be_bytes w128 uuid)
literal_text (values.Text content) = quoted content
literal_text (values.Timeuuid uuid) = hyphenated_text lower (to_be_bytes w128 uuid)
literal_text (values.Smallint n) = signed_decimal n
literal_text (values.Tinyint n) = signed_decimal n

-- ---- which answer it is

-- what stands before the closing quote, which is the last byte; the flag says that a quote stood just before
abbrev pub content_of : Bool → List ℕ → Option (List ℕ)
content_of false [] = None
content_of true [] = Some []
content_of false (c ∷ cs) = if c == quote then content_of true cs else option_map (λ content. c ∷ content) (content_of false cs)
content_of true (c ∷ cs) = if c == quote then option_map (λ content. quote ∷ content) (content_of false cs) else None

-- the content of a string
abbrev pub unquoted : List ℕ → Option (List ℕ)
unquoted [] = None
unquoted (c ∷ cs) = if c == quote then content_of false cs else None

-- the number of one or more digits
abbrev pub natural_of : List ℕ → Option ℕ
natural_of digits = if nat_lt 0 (length digits) && all_ascii_digits digits then Some (digits_value 10 digits) else None

-- the number of an optional minus and digits
abbrev pub whole_of : List ℕ → Option ℤ
whole_of text = if slice_index text 0 == minus
    then option_map (λ n. neg_ℤ (pos n)) (natural_of (drop 1 text))
    else option_map pos (natural_of text)

-- the bytes of a blob
abbrev pub blob_of : List ℕ → Option (List ℕ)
blob_of text = if (slice_index text 0 == 48) && ((slice_index text 1 == 120) || (slice_index text 1 == 88))
    then result_ok (decode_of (drop 2 text)) else None

-- the uuid as one number
abbrev pub uuid_of : List ℕ → Option ℕ
uuid_of text = option_map (from_be_bytes w128) (parsed_hyphenated text)

-- the boolean, in either case
abbrev pub boolean_of : List ℕ → Option Bool
boolean_of text = if bytes_eq (str_to_ascii_lowercase text) (boolean_text true) then Some true
    else (if bytes_eq (str_to_ascii_lowercase text) (boolean_text false) then Some false else None)

-- whether a number is one of a type with a sign and h more bits
abbrev pub fits_bits : ℕ → ℤ → Bool
fits_bits h (pos n) = nat_lt n (2 ^ h)
fits_bits h (negsuc n) = nat_lt n (2 ^ h)

-- the number, where it is one of the type with a sign and h more bits
abbrev pub within_bits : ℕ → Option ℤ → Result ℤ LiteralError
within_bits h None = Err errors.Malformed
within_bits h (Some n) = if fits_bits h n then Ok n else Err errors.OutOfRange

-- what a parser of the type found
abbrev pub in_range : {A E : Type 0} → Result A E → Result A LiteralError
in_range (Ok n) = Ok n
in_range (Err e) = Err errors.OutOfRange

abbrev pub result_map : {A B : Type 0} → (A → B) → Result A LiteralError → Result B LiteralError
result_map f (Ok x) = Ok (f x)
result_map f (Err e) = Err e

-- the value of a word, where there is one
abbrev pub word : {A B : Type 0} → (A → B) → Option A → Result B LiteralError
word f None = Err errors.Malformed
word f (Some x) = Ok (f x)

-- a string for ascii, and a uuid for timeuuid
abbrev pub ascii_word : Option (List ℕ) → Result CqlValue LiteralError
ascii_word None = Err errors.Malformed
ascii_word (Some content) = if list_all (λ c. nat_lt c 128) content then Ok (values.Ascii content) else Err errors.Malformed

abbrev pub timeuuid_word : Option ℕ → Result CqlValue LiteralError
timeuuid_word None = Err errors.Malformed
timeuuid_word (Some uuid) = if uuid_version uuid == 1 then Ok (values.Timeuuid uuid) else Err errors.Malformed

-- The value that a text of the type's kind stands for, or the first refusal that holds.
abbrev pub literal_value : CqlType → List ℕ → Result CqlValue LiteralError
literal_value types.Ascii text = ascii_word (unquoted text)
literal_value types.Bigint text = result_map values.Bigint (within_bits 63 (whole_of text))
literal_value types.Blob text = word values.Blob (blob_of text)
literal_value types.Boolean text = word values.Boolean (boolean_of text)
literal_value types.Int text = result_map values.Int (within_bits 31 (whole_of text))
literal_value types.Timestamp text = result_map values.Timestamp (within_bits 63 (whole_of text))
literal_value types.Uuid text = word values.Uuid (uuid_of text)
literal_value types.Text text = word values.Text (unquoted text)
literal_value types.Timeuuid text = timeuuid_word (uuid_of text)
literal_value types.Smallint text = result_map values.Smallint (within_bits 15 (whole_of text))
literal_value types.Tinyint text = result_map values.Tinyint (within_bits 7 (whole_of text))

-- What was answered is this, unless memory ran out.
abbrev pub Fails : {X : Type 0} → LiteralError → Result X LiteralError → Type 0
Fails errors.NoMemory answer = Unit {0}
Fails e answer = answer ≡ Err e

abbrev pub Answers : {X : Type 0} → Result X LiteralError → Result X LiteralError → Type 0
Answers (Ok x) answer = answer ≡ Ok x
Answers (Err e) answer = Fails e answer

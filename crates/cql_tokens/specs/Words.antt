-- The words of each kind of token (CQL reference, "Identifiers and keywords", "Constants").
use Rattle.std.specs.Prelude.{◌≡◌, ◌⊎◌, ℕ, ◌==◌, ◌&&◌, ◌||◌, Bool, true, false, List, [], ◌∷◌, ◌++◌, if◌then◌else◌, codes}
use Rattle.std.specs.List.{list_all}
use Rattle.std.specs.Char.{is_ascii_digit, is_ascii_hexdigit, is_ascii_alphabetic, is_ascii_alphanumeric}
use Rattle.cql_tokens.specs.declared.token.TokenKind.{TokenKind}
use Rattle.cql_tokens.specs.declared.token.TokenKind.TheVariants as kinds

-- 95 is _
abbrev pub is_word_byte : ℕ → Bool
is_word_byte c = is_ascii_alphanumeric c || (c == 95)

-- a letter, and then letters, digits and _
abbrev pub IsName : List ℕ → Type 0
IsName [] = ⊥
IsName (c ∷ cs) = (is_ascii_alphabetic c ≡ true) × (list_all is_word_byte cs ≡ true)

-- each quote of a text twice
abbrev pub doubled : ℕ → List ℕ → List ℕ
doubled quote [] = []
doubled quote (c ∷ cs) = if c == quote then quote ∷ quote ∷ doubled quote cs else c ∷ doubled quote cs

-- a text in quotes: in it two of them stand for one
abbrev pub IsQuoted : ℕ → List ℕ → Type 0
IsQuoted quote word = (content : List ℕ) × (word ≡ quote ∷ (doubled quote content ++ quote ∷ []))

-- one or more digits
abbrev pub AreDigits : List ℕ → Type 0
AreDigits [] = ⊥
AreDigits (c ∷ cs) = list_all is_ascii_digit (c ∷ cs) ≡ true

-- digits, with or without a minus
abbrev pub IsWhole : List ℕ → Type 0
IsWhole word = AreDigits word ⊎ ((digits : List ℕ) × AreDigits digits × (word ≡ codes "-" ++ digits))

-- two hexadecimal digits for each byte
abbrev pub ArePairs : List ℕ → Type 0
ArePairs [] = Unit {0}
ArePairs (c ∷ []) = ⊥
ArePairs (c ∷ d ∷ cs) = (is_ascii_hexdigit c ≡ true) × (is_ascii_hexdigit d ≡ true) × ArePairs cs

-- 0x, in either case, and the digits of its bytes
abbrev pub IsBlob : List ℕ → Type 0
IsBlob word = (digits : List ℕ) × ArePairs digits × ((word ≡ codes "0x" ++ digits) ⊎ (word ≡ codes "0X" ++ digits))

-- x stands for a hexadecimal digit
abbrev pub uuid_shape : List ℕ
uuid_shape = codes "xxxxxxxx-xxxx-xxxx-xxxx-xxxxxxxxxxxx"

-- 120 is x: a byte that stands where the shape has this one
abbrev pub fits : ℕ → ℕ → Bool
fits shape c = if shape == 120 then is_ascii_hexdigit c else (c == shape)

abbrev pub fits_shape : List ℕ → List ℕ → Bool
fits_shape [] [] = true
fits_shape [] (c ∷ cs) = false
fits_shape (s ∷ ss) [] = false
fits_shape (s ∷ ss) (c ∷ cs) = fits s c && fits_shape ss cs

-- 8, 4, 4, 4 and 12 hexadecimal digits with hyphens between
abbrev pub IsUuid : List ℕ → Type 0
IsUuid word = fits_shape uuid_shape word ≡ true

-- 34 is a double quote, and 39 a single one
abbrev pub IsWord : TokenKind → List ℕ → Type 0
IsWord kinds.Word word = IsName word
IsWord kinds.QuotedName word = IsQuoted 34 word
IsWord kinds.Str word = IsQuoted 39 word
IsWord kinds.Whole word = IsWhole word
IsWord kinds.Blob word = IsBlob word
IsWord kinds.Uuid word = IsUuid word
IsWord kinds.OpenParenthesis word = word ≡ codes "("
IsWord kinds.CloseParenthesis word = word ≡ codes ")"
IsWord kinds.OpenBrace word = word ≡ codes "{"
IsWord kinds.CloseBrace word = word ≡ codes "}"
IsWord kinds.Comma word = word ≡ codes ","
IsWord kinds.Dot word = word ≡ codes "."
IsWord kinds.Semicolon word = word ≡ codes ";"
IsWord kinds.Colon word = word ≡ codes ":"
IsWord kinds.QuestionMark word = word ≡ codes "?"
IsWord kinds.Star word = word ≡ codes "*"
IsWord kinds.Equal word = word ≡ codes "="
IsWord kinds.NotEqual word = word ≡ codes "!="
IsWord kinds.Less word = word ≡ codes "<"
IsWord kinds.LessOrEqual word = word ≡ codes "<="
IsWord kinds.Greater word = word ≡ codes ">"
IsWord kinds.GreaterOrEqual word = word ≡ codes ">="

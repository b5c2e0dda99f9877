-- What stands at the front of a text, byte by byte.
use Rattle.std.specs.Prelude.{ℕ, suc, ◌+◌, ◌-◌, ◌%◌, ◌==◌, ◌&&◌, ◌||◌, Bool, true, false, List, [], ◌∷◌, if◌then◌else◌, drop, slice_index, Option, Some, None, option_map}
use Rattle.std.specs.Char.{is_ascii_digit, is_ascii_hexdigit, is_ascii_alphabetic}
use Rattle.cql_tokens.specs.Words.{is_word_byte, fits, uuid_shape}
use Rattle.cql_tokens.specs.Tokens.{is_in_line}
use Rattle.cql_tokens.specs.declared.token.TokenKind.{TokenKind}
use Rattle.cql_tokens.specs.declared.token.TokenKind.TheVariants as kinds
use Rattle.cql_tokens.specs.declared.words.Class.{Class}
use Rattle.cql_tokens.specs.declared.words.Class.TheVariants as classes
use Rattle.cql_tokens.specs.declared.found.Found.{Found}
use Rattle.cql_tokens.specs.declared.found.Found.TheVariants as found

abbrev pub is_of : Class → ℕ → Bool
is_of classes.Word c = is_word_byte c
is_of classes.Digit c = is_ascii_digit c
is_of classes.Hexadecimal c = is_ascii_hexdigit c
is_of classes.Line c = is_in_line c

-- how many bytes of the class stand at the front
abbrev pub run : Class → List ℕ → ℕ
run class [] = 0
run class (c ∷ cs) = if is_of class c then suc (run class cs) else 0

abbrev pub front_fits : List ℕ → List ℕ → Bool
front_fits [] text = true
front_fits (s ∷ ss) [] = false
front_fits (s ∷ ss) (c ∷ cs) = fits s c && front_fits ss cs

-- How long the rest of a text in quotes is, with the closing quote: within it, or behind a quote of it.
abbrev pub quoted_len : ℕ → Bool → List ℕ → Option ℕ
quoted_len quote true [] = Some 0
quoted_len quote false [] = None
quoted_len quote true (c ∷ cs) = if c == quote then option_map suc (quoted_len quote false cs) else Some 0
quoted_len quote false (c ∷ cs) = option_map suc (quoted_len quote (c == quote) cs)

-- how long the rest of a comment is, with its end: at the front, or behind a *
abbrev pub comment_len : Bool → List ℕ → Option ℕ
comment_len star [] = None
comment_len star (c ∷ cs) = if star && (c == 47) then Some 1 else option_map suc (comment_len (c == 42) cs)

abbrev pub quoted_found : TokenKind → Option ℕ → Found
quoted_found kind None = found.Unclosed
quoted_found kind (Some len) = found.Token kind (1 + len)

abbrev pub comment_found : Option ℕ → Found
comment_found None = found.Unclosed
comment_found (Some len) = found.Gap (2 + len)

abbrev pub blob_len : ℕ → ℕ
blob_len digits = 2 + (digits - digits % 2)

-- behind a digit
abbrev pub number_found : ℕ → List ℕ → Found
number_found first behind =
    if (first == 48) && ((slice_index behind 0 == 120) || (slice_index behind 0 == 88))
    then found.Token kinds.Blob (blob_len (run classes.Hexadecimal (drop 1 behind)))
    else found.Token kinds.Whole (1 + run classes.Digit behind)

abbrev pub minus_found : List ℕ → Found
minus_found behind =
    if slice_index behind 0 == 45 then found.Gap (2 + run classes.Line (drop 1 behind))
    else (if is_ascii_digit (slice_index behind 0) then found.Token kinds.Whole (1 + run classes.Digit behind) else found.Nothing)

abbrev pub slash_found : List ℕ → Found
slash_found behind =
    if slice_index behind 0 == 47 then found.Gap (2 + run classes.Line (drop 1 behind))
    else (if slice_index behind 0 == 42 then comment_found (comment_len false (drop 1 behind)) else found.Nothing)

-- a symbol that = may follow
abbrev pub symbol_found : List ℕ → Found → TokenKind → Found
symbol_found behind alone with_equal = if slice_index behind 0 == 61 then found.Token with_equal 2 else alone

-- a symbol of one byte
abbrev pub single_found : ℕ → Found
single_found c =
    if c == 40 then found.Token kinds.OpenParenthesis 1
    else (if c == 41 then found.Token kinds.CloseParenthesis 1
    else (if c == 123 then found.Token kinds.OpenBrace 1
    else (if c == 125 then found.Token kinds.CloseBrace 1
    else (if c == 44 then found.Token kinds.Comma 1
    else (if c == 46 then found.Token kinds.Dot 1
    else (if c == 59 then found.Token kinds.Semicolon 1
    else (if c == 58 then found.Token kinds.Colon 1
    else (if c == 63 then found.Token kinds.QuestionMark 1
    else (if c == 42 then found.Token kinds.Star 1
    else (if c == 61 then found.Token kinds.Equal 1
    else found.Nothing))))))))))

abbrev pub is_blank : ℕ → Bool
is_blank c = (((c == 32) || (c == 9)) || (c == 13)) || (c == 10)

-- a byte that is neither a letter nor a digit
abbrev pub mark_found : ℕ → List ℕ → Found
mark_found c behind =
    if is_blank c then found.Gap 1
    else (if c == 45 then minus_found behind
    else (if c == 47 then slash_found behind
    else (if c == 39 then quoted_found kinds.Str (quoted_len 39 false behind)
    else (if c == 34 then quoted_found kinds.QuotedName (quoted_len 34 false behind)
    else (if c == 60 then symbol_found behind (found.Token kinds.Less 1) kinds.LessOrEqual
    else (if c == 62 then symbol_found behind (found.Token kinds.Greater 1) kinds.GreaterOrEqual
    else (if c == 33 then symbol_found behind found.Nothing kinds.NotEqual
    else single_found c)))))))

-- what a text begins with
abbrev pub found_of : List ℕ → Found
found_of [] = found.Nothing
found_of (c ∷ cs) =
    if front_fits uuid_shape (c ∷ cs) then found.Token kinds.Uuid 36
    else (if is_ascii_alphabetic c then found.Token kinds.Word (1 + run classes.Word cs)
    else (if is_ascii_digit c then number_found c cs
    else mark_found c cs))

-- Which texts are statements, and where the others stop to be the beginning of one.
use Rattle.std.specs.Prelude.{◌≡◌, ◌≤◌, ◌⊎◌, ℕ, ◌<◌, ◌-◌, ◌==◌, ◌&&◌, nat_lt, List, [], ◌∷◌, ◌++◌, length, map, drop, if◌then◌else◌, Option, Some, None, is_none, Result, Ok, Err}
use Rattle.cql_tokens.specs.Tokens.{IsScan, Meaning, meaning_of}
use Rattle.cql_tokens.specs.declared.token.Token.{Token}
use Rattle.cql_tokens.specs.declared.token.Stop.{Stop}
use Rattle.cql_tokens.specs.declared.token.Stop.TheVariants as stops
use Rattle.cql_tokens.specs.declared.token.Scanned.{Scanned}
use Rattle.cql_statement.specs.declared.statement.Statement.{Statement}
use Rattle.cql_parser.specs.Forms.{Derives}
use Rattle.cql_parser.specs.Grammar.{statement}
use Rattle.cql_parser.specs.Reading.{Read, read}
use Rattle.cql_parser.specs.declared.cursor.Halt.{Halt}
use Rattle.cql_parser.specs.declared.cursor.Halt.TheVariants as halts
use Rattle.cql_parser.specs.declared.error.ParseError.{ParseError}
use Rattle.cql_parser.specs.declared.error.ParseError.TheVariants as errors

abbrev pub meanings : List ℕ → List Token → List Meaning
meanings text tokens = map (meaning_of text) tokens

-- the most tokens that a statement may have
abbrev pub most_tokens : ℕ
most_tokens = 65535

-- the text is these tokens, with blanks and comments between them
abbrev pub IsTokens : List ℕ → List Token → Type 0
IsTokens text tokens = IsScan text (record { tokens = tokens; stop = None })

-- the text is these tokens, and they are the statement
abbrev pub IsStatement : List ℕ → List Token → Statement → Type 0
IsStatement text tokens s = IsTokens text tokens × Derives statement (meanings text tokens) s

-- a text is at most one statement
abbrev pub OneReading : Type 0
OneReading = (text : List ℕ) (a b : List Token) (s t : Statement) → IsStatement text a s → IsStatement text b t → s ≡ t

-- some statement begins with these tokens
abbrev pub Begins : List Meaning → Type 0
Begins ts = (more : List Meaning) × (s : Statement) × Derives statement (ts ++ more) s

-- the first token with which no statement goes on
abbrev pub IsUnexpected : List ℕ → List Token → ℕ → Type 0
IsUnexpected text tokens at =
    (front : List Token) × (t : Token) × (rest : List Token) × (tokens ≡ front ++ t ∷ rest)
    × Begins (meanings text front) × (Begins (meanings text (front ++ t ∷ [])) → ⊥) × (at ≡ t.start)

-- the text ends where a statement goes on
abbrev pub EndsWithin : List ℕ → Scanned → ℕ → Type 0
EndsWithin text scanned at =
    (scanned.stop ≡ None) × Begins (meanings text scanned.tokens) × ((s : Statement) → Derives statement (meanings text scanned.tokens) s → ⊥) × (at ≡ length text)

-- Why this text, with these tokens, is refused. What is no token comes behind tokens that begin a statement.
abbrev pub IsFault : List ℕ → Scanned → ParseError → Type 0
IsFault text scanned (errors.Char at) = (scanned.stop ≡ Some (stops.Char at)) × Begins (meanings text scanned.tokens)
IsFault text scanned (errors.Unexpected at) = IsUnexpected text scanned.tokens at ⊎ EndsWithin text scanned at
IsFault text scanned (errors.Unclosed at) = (scanned.stop ≡ Some (stops.Unclosed at)) × Begins (meanings text scanned.tokens)
IsFault text scanned errors.TooLong =
    (scanned.stop ≡ None) × (s : Statement) × Derives statement (meanings text scanned.tokens) s × (most_tokens < length scanned.tokens)
IsFault text scanned errors.NoMemory = ⊥

-- want of memory may come anywhere
abbrev pub IsRefused : List ℕ → ParseError → Type 0
IsRefused text errors.NoMemory = Unit {0}
IsRefused text e = (scanned : Scanned) × IsScan text scanned × IsFault text scanned e

-- this answer, unless memory ran out
abbrev pub Answers : {A : Type 0} → Result A ParseError → Result A ParseError → Type 0
Answers (Ok v) answer = answer ≡ Ok v
Answers (Err errors.NoMemory) answer = Unit {0}
Answers (Err e) answer = answer ≡ Err e

-- ---- which answer it is

-- what stops behind the last token
abbrev pub stop_fault : List ℕ → Option Stop → ParseError
stop_fault text None = errors.Unexpected (length text)
stop_fault text (Some (stops.Char at)) = errors.Char at
stop_fault text (Some (stops.Unclosed at)) = errors.Unclosed at

-- what is wrong where these tokens are left
abbrev pub fault_at : List ℕ → Option Stop → List Token → ParseError
fault_at text stop [] = stop_fault text stop
fault_at text stop (t ∷ ts) = errors.Unexpected t.start

abbrev pub fault_of : List ℕ → Scanned → ℕ → ParseError
fault_of text scanned left = fault_at text scanned.stop (drop (length scanned.tokens - left) scanned.tokens)

-- where reading stopped
abbrev pub halted_of : List ℕ → Scanned → Halt → ParseError
halted_of text scanned halts.Memory = errors.NoMemory
halted_of text scanned (halts.Left left) = fault_of text scanned left

-- what refuses a statement behind which so many tokens are left
abbrev pub end_of : List ℕ → Scanned → ℕ → Result (Unit {0}) ParseError
end_of text scanned left =
    if (left == 0) && is_none scanned.stop
    then (if nat_lt most_tokens (length scanned.tokens) then Err errors.TooLong else Ok tt)
    else Err (fault_of text scanned left)

abbrev pub ended_of : List ℕ → Scanned → ℕ → Statement → Result Statement ParseError
ended_of text scanned left s =
    if (left == 0) && is_none scanned.stop
    then (if nat_lt most_tokens (length scanned.tokens) then Err errors.TooLong else Ok s)
    else Err (fault_of text scanned left)

abbrev pub answer_to : List ℕ → Scanned → Read Statement → Result Statement ParseError
answer_to text scanned (Err left) = Err (fault_of text scanned left)
answer_to text scanned (Ok x) =
    if (length x.1 == 0) && is_none scanned.stop
    then (if nat_lt most_tokens (length scanned.tokens) then Err errors.TooLong else Ok x.0)
    else Err (fault_of text scanned (length x.1))

abbrev pub answer_of : List ℕ → Scanned → Result Statement ParseError
answer_of text scanned = answer_to text scanned (read statement (meanings text scanned.tokens))

-- the answer of tokens alone
abbrev pub tokens_of : Scanned → Result (List Token) ParseError
tokens_of scanned = elim scanned.stop [
  | None ↦ if nat_lt most_tokens (length scanned.tokens) then Err errors.TooLong else Ok scanned.tokens
  | Some (stops.Char at) ↦ Err (errors.Char at)
  | Some (stops.Unclosed at) ↦ Err (errors.Unclosed at)
]

-- ---- laws of refusals

-- a text is refused for one cause at one place
abbrev pub OneRefusal : Type 0
OneRefusal =
    (text : List ℕ) (d e : ParseError) → IsRefused text d → IsRefused text e → (d ≡ errors.NoMemory → ⊥) → (e ≡ errors.NoMemory → ⊥) → d ≡ e

-- a statement of so many tokens is not refused, unless memory runs out
abbrev pub NoRefusal : Type 0
NoRefusal =
    (text : List ℕ) (tokens : List Token) (s : Statement) (e : ParseError) → IsStatement text tokens s → length tokens ≤ most_tokens
    → IsRefused text e → (e ≡ errors.NoMemory → ⊥) → ⊥

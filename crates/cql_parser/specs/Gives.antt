-- What a reader of the code gives.
use Rattle.std.specs.Prelude.{◌≡◌, Bool, true, false, List, Result, Ok, Err}
use Rattle.cql_tokens.specs.Tokens.{Meaning}
use Rattle.cql_parser.specs.Reading.{Read, read, starts, firsts}
use Rattle.cql_parser.specs.declared.cursor.Halt.{Halt}
use Rattle.cql_parser.specs.declared.cursor.Halt.TheVariants as halts
use Rattle.cql_parser.specs.declared.cursor.Lexeme.{Lexeme}
use Rattle.cql_tokens.specs.declared.token.TokenKind.TheVariants as kinds
use Rattle.std.specs.Prelude.{codes}
use Rattle.cql_parser.specs.Forms.{Form, word, symbol}
use Rattle.cql_parser.specs.declared.lists.Separator.{Separator}
use Rattle.cql_parser.specs.declared.lists.Separator.TheVariants as separators

abbrev pub separator_form : Separator → Form (Unit {0})
separator_form separators.Comma = symbol kinds.Comma
separator_form separators.And = word (codes "AND")

-- a token without where it lies in memory
abbrev pub seen : Lexeme → Meaning
seen t = record { kind = t.kind; word = t.word.now }

-- the tokens were read so, up to the rest, unless memory ran out
abbrev pub Reads : {A : Type 0} → Read A → Result A Halt → List Meaning → Type 0
Reads read (Ok v) rest = read ≡ Ok (v, rest)
Reads read (Err halts.Memory) rest = Unit {0}
Reads read (Err (halts.Left left)) rest = read ≡ Err left

-- a form was read where it stands, and else nothing
abbrev pub Takes : Form (Unit {0}) → Bool → List Meaning → List Meaning → Type 0
Takes form true old new = (starts (firsts form) old ≡ true) × (read form old ≡ Ok (tt, new))
Takes form false old new = (starts (firsts form) old ≡ false) × (new ≡ old)

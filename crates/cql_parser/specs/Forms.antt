-- Forms of lists of tokens, and the value of what has a form.
use Rattle.std.specs.Prelude.{◌≡◌, ◌⊎◌, ℕ, ◌==◌, ◌&&◌, ◌||◌, not, Bool, true, false, List, [], ◌∷◌, ◌++◌, map, if◌then◌else◌, codes, Option, Some, None, is_some}
use Rattle.std.specs.Str.{bytes_eq}
use Rattle.std.specs.Char.{to_ascii_lowercase}
use Rattle.std.specs.List.{list_any}
use Rattle.cql_tokens.specs.Tokens.{Meaning}
use Rattle.cql_tokens.specs.declared.token.TokenKind.{TokenKind}
use Rattle.cql_tokens.specs.declared.token.TokenKind.TheVariants as kinds
use Rattle.cql_values.specs.declared.value.CqlType.{CqlType}
use Rattle.cql_values.specs.declared.value.CqlType.TheVariants as types

-- ---- single tokens

abbrev pub number_of : TokenKind → ℕ
number_of kinds.Word = 0
number_of kinds.QuotedName = 1
number_of kinds.Str = 2
number_of kinds.Whole = 3
number_of kinds.Blob = 4
number_of kinds.Uuid = 5
number_of kinds.OpenParenthesis = 6
number_of kinds.CloseParenthesis = 7
number_of kinds.OpenBrace = 8
number_of kinds.CloseBrace = 9
number_of kinds.Comma = 10
number_of kinds.Dot = 11
number_of kinds.Semicolon = 12
number_of kinds.Colon = 13
number_of kinds.QuestionMark = 14
number_of kinds.Star = 15
number_of kinds.Equal = 16
number_of kinds.NotEqual = 17
number_of kinds.Less = 18
number_of kinds.LessOrEqual = 19
number_of kinds.Greater = 20
number_of kinds.GreaterOrEqual = 21

abbrev pub is_kind : TokenKind → TokenKind → Bool
is_kind a b = number_of a == number_of b

-- without regard to case
abbrev pub same_word : List ℕ → List ℕ → Bool
same_word a b = bytes_eq (map to_ascii_lowercase a) (map to_ascii_lowercase b)

abbrev pub is_among : List ℕ → List (List ℕ) → Bool
is_among word words = list_any (λ w. same_word word w) words

-- the words that are no names without quotes
unfoldable pub reserved : List (List ℕ)
reserved =
    codes "ADD" ∷ codes "AND" ∷ codes "APPLY" ∷ codes "BATCH" ∷ codes "BEGIN" ∷ codes "BY" ∷ codes "CREATE"
    ∷ codes "DELETE" ∷ codes "FROM" ∷ codes "IF" ∷ codes "IN" ∷ codes "INSERT" ∷ codes "INTO" ∷ codes "KEYSPACE"
    ∷ codes "LIMIT" ∷ codes "NOT" ∷ codes "NULL" ∷ codes "ORDER" ∷ codes "PRIMARY" ∷ codes "SELECT" ∷ codes "SET"
    ∷ codes "TABLE" ∷ codes "UNLOGGED" ∷ codes "UPDATE" ∷ codes "USE" ∷ codes "USING" ∷ codes "WHERE" ∷ codes "WITH" ∷ []

-- what may stand as one token
pub data Terminal : Type 0 where
  Word : List ℕ → Terminal
  Symbol : TokenKind → Terminal
  Name : Terminal
  NameBut : List ℕ → Terminal
  TypeWord : Terminal

-- the type of this name: varchar is text
abbrev pub type_named : List ℕ → Option CqlType
type_named word =
    if same_word word (codes "ascii") then Some types.Ascii
    else (if same_word word (codes "bigint") then Some types.Bigint
    else (if same_word word (codes "blob") then Some types.Blob
    else (if same_word word (codes "boolean") then Some types.Boolean
    else (if same_word word (codes "int") then Some types.Int
    else (if same_word word (codes "timestamp") then Some types.Timestamp
    else (if same_word word (codes "uuid") then Some types.Uuid
    else (if same_word word (codes "text") then Some types.Text
    else (if same_word word (codes "varchar") then Some types.Text
    else (if same_word word (codes "timeuuid") then Some types.Timeuuid
    else (if same_word word (codes "smallint") then Some types.Smallint
    else (if same_word word (codes "tinyint") then Some types.Tinyint
    else None)))))))))))

-- a name in quotes, or a word that isn't reserved
abbrev pub is_name : Meaning → Bool
is_name t = is_kind t.kind kinds.QuotedName || (is_kind t.kind kinds.Word && not (is_among t.word reserved))

abbrev pub is_word : Meaning → List ℕ → Bool
is_word t w = is_kind t.kind kinds.Word && same_word t.word w

abbrev pub accepts : Terminal → Meaning → Bool
accepts (Word w) t = is_word t w
accepts (Symbol kind) t = is_kind t.kind kind
accepts Name t = is_name t
accepts (NameBut w) t = is_name t && not (is_word t w)
accepts TypeWord t = is_kind t.kind kinds.Word && is_some (type_named t.word)

-- ---- forms

-- A form of values of A: one token, nothing, one form and then another, one or the other, any number of a form, and a form
-- whose values are made into others.
pub data Form : Type 0 → Type 1 where
  Token : Terminal → Form Meaning
  Nothing : Form (Unit {0})
  Then : {A B : Type 0} → Form A → Form B → Form (A × B)
  Or : {A : Type 0} → Form A → Form A → Form A
  Many : {A : Type 0} → Form A → Form (List A)
  Made : {A B : Type 0} → (A → B) → Form A → Form B

-- one after another, each of which is the form of its value
abbrev pub AreMany : {A : Type 0} → (List Meaning → A → Type 0) → List Meaning → List A → Type 0
AreMany Is ts [] = ts ≡ []
AreMany Is ts (v ∷ vs) = (front : List Meaning) × (rest : List Meaning) × (ts ≡ front ++ rest) × Is front v × AreMany Is rest vs

-- the tokens have this form, with this value
abbrev pub Derives : {A : Type 0} → Form A → List Meaning → A → Type 0
Derives (Token terminal) ts v = (ts ≡ v ∷ []) × (accepts terminal v ≡ true)
Derives Nothing ts v = ts ≡ []
Derives (Then f g) ts v = (front : List Meaning) × (rest : List Meaning) × (ts ≡ front ++ rest) × Derives f front v.0 × Derives g rest v.1
Derives (Or f g) ts v = Derives f ts v ⊎ Derives g ts v
Derives (Many f) ts v = AreMany (Derives f) ts v
Derives (Made {A = A} made f) ts v = (part : A) × Derives f ts part × (v ≡ made part)

-- ---- forms of two parts, and of words and symbols, whose value is of no matter

abbrev pub word : List ℕ → Form (Unit {0})
word w = Made (λ t. tt) (Token (Word w))

abbrev pub symbol : TokenKind → Form (Unit {0})
symbol kind = Made (λ t. tt) (Token (Symbol kind))

infixr 12 ◌▹◌
infixl 13 ◌◃◌
infixr 11 ◌&◌
infixr 10 ◌⊕◌
abbrev pub ◌&◌ : {A B : Type 0} → Form A → Form B → Form (A × B)
f & g = Then f g

-- what stands behind
abbrev pub ◌▹◌ : {B : Type 0} → Form (Unit {0}) → Form B → Form B
f ▹ g = Made (λ v. v.1) (Then f g)

-- what stands before
abbrev pub ◌◃◌ : {A : Type 0} → Form A → Form (Unit {0}) → Form A
f ◃ g = Made (λ v. v.0) (Then f g)

abbrev pub ◌⊕◌ : {A : Type 0} → Form A → Form A → Form A
f ⊕ g = Or f g

-- [f]
abbrev pub option : {A : Type 0} → Form A → Form (Option A)
option f = Or (Made (λ v. Some v) f) (Made (λ v. None) Nothing)

-- whether it stands there
abbrev pub flag : Form (Unit {0}) → Form Bool
flag f = Or (Made (λ v. true) f) (Made (λ v. false) Nothing)

-- [f], where f is a list
abbrev pub optional_list : {A : Type 0} → Form (List A) → Form (List A)
optional_list f = Or f (Made (λ v. []) Nothing)

-- [f], whose value is of no matter
abbrev pub optional : Form (Unit {0}) → Form (Unit {0})
optional f = Or f Nothing

-- {f}
abbrev pub many : {A : Type 0} → Form A → Form (List A)
many f = Many f

-- {separator f}
abbrev pub more : {A : Type 0} → Form (Unit {0}) → Form A → Form (List A)
more separator f = many (separator ▹ f)

-- f {separator f}
abbrev pub separated : {A : Type 0} → Form (Unit {0}) → Form A → Form (List A)
separated separator f = Made (λ v. v.0 ∷ v.1) (f & more separator f)

abbrev pub listed : {A : Type 0} → Form A → Form (List A)
listed f = separated (symbol kinds.Comma) f

abbrev pub joined : {A : Type 0} → Form A → Form (List A)
joined f = separated (word (codes "AND")) f

-- A text is blanks, comments and tokens, up to its end or to what is none of them.
use Rattle.std.specs.Prelude.{◌≡◌, ◌⊎◌, ◌<◌, ◌≤◌, ℕ, ◌+◌, ◌-◌, ◌==◌, ◌&&◌, not, Bool, true, List, [], ◌∷◌, ◌++◌, length, take, drop, Option, Some, None, codes}
use Rattle.std.specs.Str.{IsCharBoundary}
use Rattle.std.specs.List.{list_all}
use Rattle.cql_tokens.specs.Words.{IsWord}
use Rattle.cql_tokens.specs.declared.token.TokenKind.{TokenKind}
use Rattle.cql_tokens.specs.declared.token.TokenKind.TheVariants as kinds
use Rattle.cql_tokens.specs.declared.token.Token.{Token}
use Rattle.cql_tokens.specs.declared.token.Stop.{Stop}
use Rattle.cql_tokens.specs.declared.token.Stop.TheVariants as stops
use Rattle.cql_tokens.specs.declared.token.Scanned.{Scanned}

abbrev pub Begins : List ℕ → List ℕ → Type 0
Begins front text = (behind : List ℕ) × (text ≡ front ++ behind)

-- ---- blanks and comments (CQL reference, "Comments")

-- a space, a tab, a carriage return or a line feed
abbrev pub IsBlank : List ℕ → Type 0
IsBlank gap = (gap ≡ codes " ") ⊎ ((gap ≡ codes "\t") ⊎ ((gap ≡ codes "\r") ⊎ (gap ≡ codes "\n")))

-- a line ends at a line feed, or where the text does
abbrev pub IsLineEnd : List ℕ → Type 0
IsLineEnd [] = Unit {0}
IsLineEnd (c ∷ cs) = c ≡ 10

abbrev pub is_in_line : ℕ → Bool
is_in_line c = not (c == 10)

-- from -- or // to the end of its line
abbrev pub IsLineComment : List ℕ → List ℕ → Type 0
IsLineComment gap behind =
    (line : List ℕ) × (list_all is_in_line line ≡ true) × IsLineEnd behind
    × ((gap ≡ codes "--" ++ line) ⊎ (gap ≡ codes "//" ++ line))

-- no */ stands in it: 42 is *, and 47 is /
abbrev pub has_no_end : List ℕ → Bool
has_no_end [] = true
has_no_end (c ∷ []) = true
has_no_end (c ∷ d ∷ cs) = not ((c == 42) && (d == 47)) && has_no_end (d ∷ cs)

-- from /* to the first */ behind it
abbrev pub IsBlockComment : List ℕ → Type 0
IsBlockComment gap = (content : List ℕ) × (has_no_end content ≡ true) × (gap ≡ codes "/*" ++ (content ++ codes "*/"))

-- ---- tokens

-- A quote behind a text in quotes is the first of two in it: the text goes on.
abbrev pub Ends : TokenKind → List ℕ → Type 0
Ends kinds.QuotedName behind = Begins (codes "\"") behind → ⊥
Ends kinds.Str behind = Begins (codes "'") behind → ⊥
Ends kind behind = Unit {0}

-- The longest token is taken: each word, of whatever kind, that is a front of the text is this long or shorter.
pub record IsTokenAt (kind : TokenKind) (word behind : List ℕ) : Type 0 where
  pub is_word : IsWord kind word
  pub ends : Ends kind behind
  pub longest : (other : TokenKind) (front rest : List ℕ) → IsWord other front → front ++ rest ≡ word ++ behind → length front ≤ length word

-- ---- a text, in pieces

pub data Piece : Type 0 where
  Gap : List ℕ → Piece
  Lexeme : TokenKind → List ℕ → Piece

abbrev pub bytes_of : Piece → List ℕ
bytes_of (Gap gap) = gap
bytes_of (Lexeme kind word) = word

-- a piece, with the text behind it
abbrev pub IsPiece : Piece → List ℕ → Type 0
IsPiece (Gap gap) behind = IsBlank gap ⊎ (IsLineComment gap behind ⊎ IsBlockComment gap)
IsPiece (Lexeme kind word) behind = IsTokenAt kind word behind

-- the text of pieces, and of what stands behind them
abbrev pub text_from : List Piece → List ℕ → List ℕ
text_from [] rest = rest
text_from (p ∷ ps) rest = bytes_of p ++ text_from ps rest

abbrev pub ArePieces : List Piece → List ℕ → Type 0
ArePieces [] rest = Unit {0}
ArePieces (p ∷ ps) rest = IsPiece p (text_from ps rest) × ArePieces ps rest

-- the tokens among pieces, the first of which begins at this offset
abbrev pub tokens_from : ℕ → List Piece → List Token
tokens_from at [] = []
tokens_from at (Gap gap ∷ ps) = tokens_from (at + length gap) ps
tokens_from at (Lexeme kind word ∷ ps) = record { kind = kind; start = at; end = at + length word } ∷ tokens_from (at + length word) ps

-- the offset behind pieces
abbrev pub end_from : ℕ → List Piece → ℕ
end_from at [] = at
end_from at (p ∷ ps) = end_from (at + length (bytes_of p)) ps

-- what is to be closed begins here
abbrev pub IsOpening : List ℕ → Type 0
IsOpening text = Begins (codes "'") text ⊎ (Begins (codes "\"") text ⊎ Begins (codes "/*") text)

abbrev pub NoPiece : List ℕ → Type 0
NoPiece text = (p : Piece) (behind : List ℕ) → IsPiece p behind → text ≡ bytes_of p ++ behind → ⊥

-- why no piece stands at this offset, where the rest of the text is this
abbrev pub IsStop : ℕ → List ℕ → Option Stop → Type 0
IsStop at rest None = rest ≡ []
IsStop at rest (Some (stops.Char place)) = (place ≡ at) × (rest ≡ [] → ⊥) × NoPiece rest × (IsOpening rest → ⊥)
IsStop at rest (Some (stops.Unclosed place)) = (place ≡ at) × NoPiece rest × IsOpening rest

-- the tokens of a text that begins at this offset, and what they end with
pub record IsScanFrom (at : ℕ) (text : List ℕ) (tokens : List Token) (stop : Option Stop) : Type 0 where
  pub pieces : List Piece
  pub rest : List ℕ
  pub are_pieces : ArePieces pieces rest
  pub is_text : text ≡ text_from pieces rest
  pub are_tokens : tokens ≡ tokens_from at pieces
  pub is_stop : IsStop (end_from at pieces) rest stop

abbrev pub IsScan : List ℕ → Scanned → Type 0
IsScan text scanned = IsScanFrom 0 text scanned.tokens scanned.stop

-- tokens within a text, in order, none empty and none over another: from is where the first may begin
abbrev pub AreInOrder : ℕ → ℕ → List Token → Type 0
AreInOrder from end [] = from ≤ end
AreInOrder from end (t ∷ ts) = (from ≤ t.start) × (t.start < t.end) × AreInOrder t.end end ts

-- the text of a token
abbrev pub word_of : List ℕ → Token → List ℕ
word_of text t = take (t.end - t.start) (drop t.start text)

-- a token begins and ends between characters of the text
abbrev pub IsSlice : List ℕ → Token → Type 0
IsSlice text t = (t.start ≤ t.end) × IsCharBoundary text t.start × IsCharBoundary text t.end

-- what a token is and its text, wherever it stands
pub record Meaning : Type 0 where
  pub kind : TokenKind
  pub word : List ℕ

abbrev pub meaning_of : List ℕ → Token → Meaning
meaning_of text t = record { kind = t.kind; word = word_of text t }

-- tokens as they may be printed: the text of each, and one blank between two of them
abbrev pub spaced : List (List ℕ) → List ℕ
spaced [] = []
spaced (w ∷ []) = w
spaced (w ∷ v ∷ ws) = w ++ (codes " " ++ spaced (v ∷ ws))

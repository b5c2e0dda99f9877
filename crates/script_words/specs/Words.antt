-- The lines of a text, the words of a line, and what words say: numbers, nodes, levels, marks and outcomes of crashes.
use Rattle.std.specs.Prelude.{ℕ, ◌^◌, ◌-◌, Bool, true, false, not, ◌&&◌, ◌==◌, nat_lt, nat_le, if◌then◌else◌, Option, Some, None, List, [], ◌∷◌, length, filter, ℤ, pos, negsuc, codes, slice_index, take, drop}
use Rattle.std.specs.List.{slice_split, list_all, position_or_len, before_first, after_first}
use Rattle.std.specs.Str.{bytes_eq}
use Rattle.std.specs.Char.{is_ascii_digit}
use Rattle.std.specs.Str.Lossy.{utf8_valid_len}
use Rattle.std.specs.Str.Parse.{digits_value, signed_digits_value}
use Rattle.cs_base.specs.declared.level.Level.{Level}
use Rattle.cs_base.specs.declared.level.Level.TheVariants as level
use Rattle.cs_store.specs.declared.mem_file.Outcome.{Outcome}
use Rattle.cs_store.specs.declared.mem_file.Outcome.TheVariants.{Kept, Lost, Torn}

-- ---- lines and words

-- Lines end with a line feed; the last may lack it
abbrev pub onto_first : ℕ → List (List ℕ) → List (List ℕ)
onto_first b [] = (b ∷ []) ∷ []
onto_first b (line ∷ lines) = (b ∷ line) ∷ lines

abbrev pub lines_of : List ℕ → List (List ℕ)
lines_of [] = []
lines_of (b ∷ bs) = if b == 10 then [] ∷ lines_of bs else onto_first b (lines_of bs)

-- empty lines and comments are passed over
abbrev pub is_skipped : List ℕ → Bool
is_skipped [] = true
is_skipped (b ∷ bs) = b == 35

abbrev pub is_text : List ℕ → Bool
is_text bytes = utf8_valid_len bytes == length bytes

-- a line in UTF-8 that neither begins nor ends with a space
abbrev pub is_well_formed : List ℕ → Bool
is_well_formed line = is_text line && not (slice_index line 0 == 32) && not (slice_index line (length line - 1) == 32)

-- those that are not empty
abbrev pub some_of : List (List ℕ) → List (List ℕ)
some_of words = filter (λ w. not (length w == 0)) words

-- the words that one or more spaces separate
abbrev pub words_in : List ℕ → List (List ℕ)
words_in text = some_of (slice_split (λ b. b == 32) text)

-- the words of a line
abbrev pub words_of : List ℕ → Option (List (List ℕ))
words_of line = if is_well_formed line then Some (words_in line) else None

-- ---- lines that end with a statement

abbrev pub is_space : ℕ → Bool
is_space b = b == 32

-- the bytes without the spaces in front of them
abbrev pub without_spaces : List ℕ → List ℕ
without_spaces [] = []
without_spaces (b ∷ bs) = if is_space b then without_spaces bs else b ∷ bs

-- the word in front of the first space, and what stands behind the spaces that follow it
abbrev pub first_word : List ℕ → Option (List ℕ × List ℕ)
first_word text =
    if nat_lt (position_or_len is_space text) (length text)
    then Some (before_first is_space text, without_spaces (after_first is_space text))
    else None

-- what stands behind this beginning of a line and the spaces that follow it, where the line begins so and the rest is a text
abbrev pub behind : List ℕ → List ℕ → Option (List ℕ)
behind beginning line =
    if bytes_eq (take (length beginning) line) beginning && is_text (drop (length beginning) line)
    then Some (without_spaces (drop (length beginning) line))
    else None

-- ---- numbers, nodes and levels

-- one or more decimal digits; in a token or a timestamp `-` may stand before them
abbrev pub is_number : List ℕ → Bool
is_number word = not (length word == 0) && list_all is_ascii_digit word

abbrev pub number_value : List ℕ → ℕ
number_value word = digits_value 10 word

abbrev pub is_signed_number : List ℕ → Bool
is_signed_number word = is_number (if slice_index word 0 == 45 then drop 1 word else word)

abbrev pub signed_value : List ℕ → ℤ
signed_value word = signed_digits_value 10 word

-- the number, where it is one from `least` to `most`
abbrev pub within : ℕ → ℕ → ℕ → Option ℕ
within least most n = if nat_le least n && nat_le n most then Some n else None

abbrev pub number_within : ℕ → ℕ → List ℕ → Option ℕ
number_within least most word = within least most (number_value word)

-- within 64 bits
abbrev pub is_long : ℤ → Bool
is_long (pos n) = nat_lt n (2 ^ 63)
is_long (negsuc n) = nat_lt n (2 ^ 63)

abbrev pub is_long_word : List ℕ → Bool
is_long_word word = is_long (signed_value word)

abbrev pub long_of : List ℕ → Option ℤ
long_of word = if is_long_word word then Some (signed_value word) else None

-- one of so many nodes
abbrev pub node_of : ℕ → List ℕ → Option ℕ
node_of nodes word = number_within 0 (nodes - 1) word

abbrev pub level_of : List ℕ → Option Level
level_of word =
    if bytes_eq word (codes "ONE") then Some level.One
    else (if bytes_eq word (codes "TWO") then Some level.Two
    else (if bytes_eq word (codes "THREE") then Some level.Three
    else (if bytes_eq word (codes "QUORUM") then Some level.Quorum
    else (if bytes_eq word (codes "ALL") then Some level.All
    else (if bytes_eq word (codes "LOCAL_QUORUM") then Some level.LocalQuorum
    else (if bytes_eq word (codes "SERIAL") then Some level.Serial
    else (if bytes_eq word (codes "LOCAL_SERIAL") then Some level.LocalSerial
    else (if bytes_eq word (codes "LOCAL_ONE") then Some level.LocalOne
    else None))))))))

-- what a crash makes of the writes that were not synced, by its name
abbrev pub outcome_of : List ℕ → Option Outcome
outcome_of word =
    if bytes_eq word (codes "kept") then Some Kept
    else (if bytes_eq word (codes "lost") then Some Lost
    else (if bytes_eq word (codes "torn") then Some Torn
    else None))

-- whether a mark says that the peer is alive, by its word
abbrev pub up_of : List ℕ → Option Bool
up_of word =
    if bytes_eq word (codes "up") then Some true
    else (if bytes_eq word (codes "down") then Some false
    else None)

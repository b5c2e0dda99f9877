-- Tokens are words and slices of their text, and the same ones when they are printed.
use Rattle.std.proofs.Common.{IfOk, Result, Ok, Err, ◌≡◌, ◌⊎◌, ◌<◌, ◌≤◌, ◌+◌, ℕ, zero, suc, true, false, ltb, ltb-true, ltb-false, List, [], ◌∷◌, ◌++◌, map, length, length-drop, drop, get_or, Option, Some, None, arith, refl, sym, ap, ◌∙◌, subst, inl, inr, length-append, append_assoc, append-nil, All}
use Rattle.std.specs.Str.{IsUtf8}
use Rattle.std.specs.List.{list_all, AllByRecursion}
use Rattle.std.proofs.lemmas.List.{get_or_at, get_or_append_left}
use Rattle.std.proofs.lemmas.List.Elements.{All-from_recursion}
use Rattle.cql_tokens.specs.Words.{IsQuoted, IsWord}
use Rattle.cql_tokens.specs.Tokens.{Ends, IsScan, IsScanFrom, IsSlice, IsTokenAt, Meaning, Piece, ArePieces, meaning_of, spaced, text_from, tokens_from, word_of}
use Rattle.cql_tokens.specs.Tokens.Piece.{Gap, Lexeme}
use Rattle.cql_tokens.specs.Scanning.{found_of, quoted_found as quoted_found_of, quoted_len}
use Rattle.cql_tokens.specs.Laws.{EachTextHasAScan, OneScan, PrintedTokensAreTheSame, TokensAreWords, printed}
use Rattle.cql_tokens.specs.declared.token.TokenKind.{TokenKind}
use Rattle.cql_tokens.specs.declared.token.TokenKind.TheVariants as kinds
use Rattle.cql_tokens.specs.declared.token.Token.{Token}
use Rattle.cql_tokens.specs.declared.token.Scanned.{Scanned}
use Rattle.cql_tokens.specs.declared.token.Stop.{Stop}
use Rattle.cql_tokens.specs.declared.token.Stop.TheVariants as stops
use Rattle.cql_tokens.specs.declared.found.Found.{Found}
use Rattle.cql_tokens.specs.declared.found.Found.TheVariants as found
use Rattle.cql_tokens.proofs.Runs.{by_bool, all_at, quoted_found}
use Rattle.cql_tokens.proofs.Edges.{visible, visible_bounds, word_edges, word_is, word_is_slice, word_plain}
use Rattle.cql_tokens.proofs.Scans.{ends_here, found_some, scan_gap, scan_token, stops_char, stops_unclosed, found_token_some, front_is_longest, one_scan_from, token_is_found, token_parts}

token_some : (kind : TokenKind) (word behind : List ℕ) → IsTokenAt kind word behind → 0 < length word
token_some kind word behind h = (found_token_some (word ++ behind) kind (length word) (token_is_found kind word behind h)).0

-- ---- the tokens of pieces

abbrev pub meanings : List Piece → List Meaning
meanings [] = []
meanings (Gap gap ∷ ps) = meanings ps
meanings (Lexeme kind word ∷ ps) = record { kind = kind; word = word } ∷ meanings ps

moved : (front w more : List ℕ) (text : List ℕ) → text ≡ front ++ (w ++ more) → text ≡ (front ++ w) ++ more
moved front w more text is = is ∙ sym (append_assoc front w more)

slices_by : (text front : List ℕ) (ps : List Piece) (rest : List ℕ) → IsUtf8 text → text ≡ front ++ text_from ps rest → ArePieces ps rest → AllByRecursion (IsSlice text) (tokens_from (length front) ps)
slices_by text front [] rest utf8 is h = tt
slices_by text front (Gap g ∷ ps) rest utf8 is h =
    subst (λ (n : ℕ). AllByRecursion (IsSlice text) (tokens_from n ps)) (length-append front g) (slices_by text (front ++ g) ps rest utf8 (moved front g (text_from ps rest) text is) h.1)
slices_by text front (Lexeme k w ∷ ps) rest utf8 is h =
    let some = token_some k w (text_from ps rest) h.0 in (
      word_is_slice text front w (text_from ps rest) k utf8 is some (word_edges k w some h.0.is_word),
      subst (λ (n : ℕ). AllByRecursion (IsSlice text) (tokens_from n ps)) (length-append front w) (slices_by text (front ++ w) ps rest utf8 (moved front w (text_from ps rest) text is) h.1),
    )

abbrev pub IsWordOf : List ℕ → Token → Type 0
IsWordOf text t = IsWord t.kind (word_of text t)

words_by : (text front : List ℕ) (ps : List Piece) (rest : List ℕ) → text ≡ front ++ text_from ps rest → ArePieces ps rest → AllByRecursion (IsWordOf text) (tokens_from (length front) ps)
words_by text front [] rest is h = tt
words_by text front (Gap g ∷ ps) rest is h =
    subst (λ (n : ℕ). AllByRecursion (IsWordOf text) (tokens_from n ps)) (length-append front g) (words_by text (front ++ g) ps rest (moved front g (text_from ps rest) text is) h.1)
words_by text front (Lexeme k w ∷ ps) rest is h = (
  subst (IsWord k) (sym (word_is text front w (text_from ps rest) k is)) h.0.is_word,
  subst (λ (n : ℕ). AllByRecursion (IsWordOf text) (tokens_from n ps)) (length-append front w) (words_by text (front ++ w) ps rest (moved front w (text_from ps rest) text is) h.1),
)

meanings_by : (text front : List ℕ) (ps : List Piece) (rest : List ℕ) → text ≡ front ++ text_from ps rest → map (meaning_of text) (tokens_from (length front) ps) ≡ meanings ps
meanings_by text front [] rest is = refl
meanings_by text front (Gap g ∷ ps) rest is =
    subst (λ (n : ℕ). map (meaning_of text) (tokens_from n ps) ≡ meanings ps) (length-append front g) (meanings_by text (front ++ g) ps rest (moved front g (text_from ps rest) text is))
meanings_by text front (Lexeme k w ∷ ps) rest is =
    let first = word_is text front w (text_from ps rest) k is in
    let more = subst (λ (n : ℕ). map (meaning_of text) (tokens_from n ps) ≡ meanings ps) (length-append front w) (meanings_by text (front ++ w) ps rest (moved front w (text_from ps rest) text is)) in
    λ i. record { kind = k; word = first i } ∷ more i

pub ok_slices : {E : Type 0} (bytes text : List ℕ) (r : Result Scanned E) → IsUtf8 text → bytes ≡ text → IfOk r (λ s. IsScan bytes s) → IfOk r (λ s. All (IsSlice text) s.tokens)
ok_slices bytes text (Ok s) utf8 same h =
    All-from_recursion (IsSlice text) s.tokens
    (subst (λ (ts : List Token). AllByRecursion (IsSlice text) ts) (sym h.are_tokens) (slices_by text [] h.pieces h.rest utf8 (sym same ∙ h.is_text) h.are_pieces))
ok_slices bytes text (Err e) utf8 same h = h

pub tokens_are_words : TokensAreWords
tokens_are_words text s h =
    All-from_recursion (IsWordOf text) s.tokens
    (subst (λ (ts : List Token). AllByRecursion (IsWordOf text) ts) (sym h.are_tokens) (words_by text [] h.pieces h.rest h.is_text h.are_pieces))

abbrev ScanFrom : ℕ → List ℕ → Type 0
ScanFrom at text = (tokens : List Token) × (stop : Option Stop) × IsScanFrom at text tokens stop

scan_found : (at bound : ℕ) (text : List ℕ) → 0 < length text → length text ≤ suc bound → ((start : ℕ) (rest : List ℕ) → length rest ≤ bound → ScanFrom start rest) → (f : Found) → found_of text ≡ f → ScanFrom at text
scan_found at bound text some_text low scan (found.Gap n) is =
    let some : 0 < n = (found_some text n is).0 in
    let long = length-drop n text in
    let more = scan (at + n) (drop n text) (omega (arith, low, some, long)) in
    (more.0, more.1, scan_gap at n text more.0 more.1 is more.2)
scan_found at bound text some_text low scan (found.Token kind n) is =
    let some : 0 < n = (found_token_some text kind n is).0 in
    let long = length-drop n text in
    let more = scan (at + n) (drop n text) (omega (arith, low, some, long)) in
    (record { kind = kind; start = at; end = at + n } ∷ more.0, more.1, scan_token at n kind text more.0 more.1 is more.2)
scan_found at bound text some_text low scan found.Unclosed is = ([], Some (stops.Unclosed at), stops_unclosed at text is)
scan_found at bound text some_text low scan found.Nothing is = ([], Some (stops.Char at), stops_char at text some_text is)

-- in as many steps as there are bytes, or fewer
scan_from : (bound at : ℕ) (text : List ℕ) → length text ≤ bound → ScanFrom at text
scan_from bound at [] low = ([], None, ends_here at)
scan_from zero at (c ∷ cs) low = absurd (omega (arith, low))
scan_from (suc bound) at (c ∷ cs) low = scan_found at bound (c ∷ cs) (omega arith) low (λ start text h. scan_from bound start text h) (found_of (c ∷ cs)) refl

pub each_text_has_a_scan : EachTextHasAScan
each_text_has_a_scan text =
    let s = scan_from (length text) 0 text (omega arith) in
    (record { tokens = s.0; stop = s.1 }, s.2)

pub one_scan : OneScan
one_scan text a b s t =
    let same = one_scan_from 0 text a.tokens b.tokens a.stop b.stop s t in
    λ i. record { tokens = same.0 i; stop = same.1 i }

-- ---- a token stays one before a blank, and at the end

first_same : (x y : ℕ) (xs ys : List ℕ) → x ∷ xs ≡ y ∷ ys → x ≡ y
first_same x y xs ys h = cc

ends_before_blank : (kind : TokenKind) (r : List ℕ) → Ends kind (32 ∷ r)
ends_before_blank kinds.QuotedName r = λ b. let first = first_same 32 34 r b.0 b.1 in omega (arith, first)
ends_before_blank kinds.Str r = λ b. let first = first_same 32 39 r b.0 b.1 in omega (arith, first)
ends_before_blank _ r = tt

ends_at_end : (kind : TokenKind) → Ends kind []
ends_at_end kinds.QuotedName = λ b. absurd (cc)
ends_at_end kinds.Str = λ b. absurd (cc)
ends_at_end _ = tt

kind_of_quoted : (quoted kind : TokenKind) (o : Option ℕ) (n : ℕ) → quoted_found_of quoted o ≡ found.Token kind n → kind ≡ quoted
kind_of_quoted quoted kind None n h = absurd (cc)
kind_of_quoted quoted kind (Some m) n h = sym (token_parts quoted kind (1 + m) n h).0

string_exact : (w r : List ℕ) → IsQuoted 39 w → found_of (w ++ 32 ∷ r) ≡ found.Token kinds.Str (length w)
string_exact w r (content, is) =
    subst (λ (v : List ℕ). found_of (v ++ 32 ∷ r) ≡ found.Token kinds.Str (length v)) (sym is)
    (ap (quoted_found_of kinds.Str) (quoted_found 39 content (32 ∷ r)) ∙ ap (λ (n : ℕ). found.Token kinds.Str n) (omega arith))

name_exact : (w r : List ℕ) → IsQuoted 34 w → found_of (w ++ 32 ∷ r) ≡ found.Token kinds.QuotedName (length w)
name_exact w r (content, is) =
    subst (λ (v : List ℕ). found_of (v ++ 32 ∷ r) ≡ found.Token kinds.QuotedName (length v)) (sym is)
    (ap (quoted_found_of kinds.QuotedName) (quoted_found 34 content (32 ∷ r)) ∙ ap (λ (n : ℕ). found.Token kinds.QuotedName n) (omega arith))

-- a token that begins with a quote is a text in quotes
string_of : (kind : TokenKind) (w b : List ℕ) → IsTokenAt kind w b → 0 < length w → get_or w 0 0 ≡ 39 → IsQuoted 39 w
string_of kind [] b h some first = absurd (omega (arith, some))
string_of kind (c ∷ cs) b h some first =
    let there : found_of (39 ∷ cs ++ b) ≡ found.Token kind (length (c ∷ cs)) = ap (λ (x : ℕ). found_of (x ∷ cs ++ b)) (sym first) ∙ token_is_found kind (c ∷ cs) b h in
    let is = kind_of_quoted kinds.Str kind (quoted_len 39 false (cs ++ b)) (length (c ∷ cs)) there in
    subst (λ (k : TokenKind). IsWord k (c ∷ cs)) is h.is_word

name_of : (kind : TokenKind) (w b : List ℕ) → IsTokenAt kind w b → 0 < length w → get_or w 0 0 ≡ 34 → IsQuoted 34 w
name_of kind [] b h some first = absurd (omega (arith, some))
name_of kind (c ∷ cs) b h some first =
    let there : found_of (34 ∷ cs ++ b) ≡ found.Token kind (length (c ∷ cs)) = ap (λ (x : ℕ). found_of (x ∷ cs ++ b)) (sym first) ∙ token_is_found kind (c ∷ cs) b h in
    let is = kind_of_quoted kinds.QuotedName kind (quoted_len 34 false (cs ++ b)) (length (c ∷ cs)) there in
    subst (λ (k : TokenKind). IsWord k (c ∷ cs)) is h.is_word

visible_front : (w r front rest : List ℕ) → list_all visible front ≡ true → front ++ rest ≡ w ++ 32 ∷ r → length front ≤ length w
visible_front w r front rest all same =
    by_bool (ltb (length w) (length front))
    (λ e.
    let inside : length w < length front = ltb-true (length w) (length front) e in
    let blank : get_or front (length w) 0 ≡ 32 = sym (get_or_append_left front rest 0 (length w) inside) ∙ ap (λ (l : List ℕ). get_or l (length w) 0) same ∙ get_or_at w 32 r 0 (length w) refl in
    let low : 32 < get_or front (length w) 0 = (visible_bounds (get_or front (length w) 0) (all_at visible front (length w) all inside)).0 in
    absurd (omega (arith, blank, low)))
    (λ e. ltb-false (length w) (length front) e)

-- both begin with the same byte
same_first : (q : ℕ) (w r front rest : List ℕ) → 0 < length w → IsQuoted q front → front ++ rest ≡ w ++ 32 ∷ r → get_or w 0 0 ≡ q
same_first q [] r front rest some h same = absurd (omega (arith, some))
same_first q (c ∷ cs) r front rest some (content, is) same =
    ap (λ (l : List ℕ). get_or l 0 0) (sym same) ∙ ap (λ (l : List ℕ). get_or (l ++ rest) 0 0) is

before_blank : (kind : TokenKind) (w b r : List ℕ) → IsTokenAt kind w b → IsTokenAt kind w (32 ∷ r)
before_blank kind w b r h = record {
  is_word = h.is_word;
  ends = ends_before_blank kind r;
  longest = λ other front rest is_word same. go other front rest is_word same (word_plain other front is_word);
}
  where
    some : 0 < length w
    some = token_some kind w b h

    go : (other : TokenKind) (front rest : List ℕ) → IsWord other front → front ++ rest ≡ w ++ 32 ∷ r → (list_all visible front ≡ true) ⊎ (IsQuoted 39 front ⊎ IsQuoted 34 front) → length front ≤ length w
    go other front rest is_word same (inl all) = visible_front w r front rest all same
    go other front rest is_word same (inr (inl q)) =
        front_is_longest (w ++ 32 ∷ r) kinds.Str (length w) (string_exact w r (string_of kind w b h some (same_first 39 w r front rest some q same))) other front rest is_word same
    go other front rest is_word same (inr (inr q)) =
        front_is_longest (w ++ 32 ∷ r) kinds.QuotedName (length w) (name_exact w r (name_of kind w b h some (same_first 34 w r front rest some q same))) other front rest is_word same

at_end : (kind : TokenKind) (w b : List ℕ) → IsTokenAt kind w b → IsTokenAt kind w []
at_end kind w b h = record {
  is_word = h.is_word;
  ends = ends_at_end kind;
  longest = λ other front rest is_word same.
      let long : length (front ++ rest) ≡ length (w ++ []) = ap length same in
      let left = length-append front rest in
      let right = length-append w [] in
      let most : length front ≤ length w = omega (arith, long, left, right) in most;
}

-- ---- printed tokens

abbrev pub Stand : List Meaning → Type 0
Stand [] = Unit {0}
Stand (m ∷ ms) = ((behind : List ℕ) × IsTokenAt m.kind m.word behind) × Stand ms

stand_of : (ps : List Piece) (rest : List ℕ) → ArePieces ps rest → Stand (meanings ps)
stand_of [] rest h = tt
stand_of (Gap g ∷ ps) rest h = stand_of ps rest h.1
stand_of (Lexeme k w ∷ ps) rest h = ((text_from ps rest, h.0), stand_of ps rest h.1)

abbrev pub spaced_pieces : List Meaning → List Piece
spaced_pieces [] = []
spaced_pieces (m ∷ []) = Lexeme m.kind m.word ∷ []
spaced_pieces (m ∷ n ∷ ms) = Lexeme m.kind m.word ∷ Gap (32 ∷ []) ∷ spaced_pieces (n ∷ ms)

abbrev pub words_of : List Meaning → List (List ℕ)
words_of [] = []
words_of (m ∷ ms) = m.word ∷ words_of ms

spaced_text : (ms : List Meaning) → spaced (words_of ms) ≡ text_from (spaced_pieces ms) []
spaced_text [] = refl
spaced_text (m ∷ []) = sym (append-nil m.word)
spaced_text (m ∷ n ∷ ms) = ap (λ (l : List ℕ). m.word ++ 32 ∷ l) (spaced_text (n ∷ ms))

spaced_are_pieces : (ms : List Meaning) → Stand ms → ArePieces (spaced_pieces ms) []
spaced_are_pieces [] h = tt
spaced_are_pieces (m ∷ []) h = (at_end m.kind m.word h.0.0 h.0.1, tt)
spaced_are_pieces (m ∷ n ∷ ms) h = (
  before_blank m.kind m.word h.0.0 (text_from (spaced_pieces (n ∷ ms)) []) h.0.1,
  (inl (inl refl), spaced_are_pieces (n ∷ ms) h.1),
)

spaced_meanings : (ms : List Meaning) → meanings (spaced_pieces ms) ≡ ms
spaced_meanings [] = refl
spaced_meanings (m ∷ []) = refl
spaced_meanings (m ∷ n ∷ ms) = ap (λ (l : List Meaning). m ∷ l) (spaced_meanings (n ∷ ms))

words_from : (text : List ℕ) (ts : List Token) → map (word_of text) ts ≡ words_of (map (meaning_of text) ts)
words_from text [] = refl
words_from text (t ∷ ts) = ap (λ (l : List (List ℕ)). word_of text t ∷ l) (words_from text ts)

pub printed_tokens_are_the_same : PrintedTokensAreTheSame
printed_tokens_are_the_same text scanned again s t =
    let ms = meanings s.pieces in
    let text_is = printed text scanned in
    let mean : map (meaning_of text) scanned.tokens ≡ ms = ap (map (meaning_of text)) s.are_tokens ∙ meanings_by text [] s.pieces s.rest s.is_text in
    let is : text_is ≡ text_from (spaced_pieces ms) [] = ap spaced (words_from text scanned.tokens) ∙ ap (λ (l : List Meaning). spaced (words_of l)) mean ∙ spaced_text ms in
    let expected : IsScanFrom 0 text_is (tokens_from 0 (spaced_pieces ms)) None = record {
      pieces = spaced_pieces ms;
      rest = [];
      are_pieces = spaced_are_pieces ms (stand_of s.pieces s.rest s.are_pieces);
      is_text = is;
      are_tokens = refl;
      is_stop = refl;
    } in
    let same = one_scan_from 0 text_is again.tokens (tokens_from 0 (spaced_pieces ms)) again.stop None t expected in (
      same.1,
      ap (map (meaning_of text_is)) same.0 ∙ meanings_by text_is [] (spaced_pieces ms) [] is ∙ spaced_meanings ms ∙ sym mean,
    )

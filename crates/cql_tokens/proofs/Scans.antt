-- Pieces are what is found, so a text has one scan.
use Rattle.std.proofs.Common.{IfOk, Result, Ok, Err, ◌≡◌, ◌⊎◌, ◌<◌, ◌≤◌, ◌+◌, ℕ, suc, true, false, not, eqb, List, [], ◌∷◌, ◌++◌, length, take, drop, Option, Some, None, arith, refl, sym, ap, ◌∙◌, subst, inl, inr, length-append, append_assoc}
use Rattle.std.specs.List.{list_all}
use Rattle.std.proofs.lemmas.Bool.{false≢true}
use Rattle.std.proofs.lemmas.List.{take_at, drop_at}
use Rattle.cql_tokens.specs.Words.{IsWord}
use Rattle.cql_tokens.specs.Tokens.{Piece, bytes_of, text_from, tokens_from, end_from, has_no_end, is_in_line, AreInOrder, ArePieces, IsLineEnd, IsOpening, IsPiece, IsScan, IsScanFrom, IsStop, IsTokenAt, NoPiece}
use Rattle.cql_tokens.specs.Tokens.Piece.{Gap, Lexeme}
use Rattle.cql_tokens.specs.Scanning.{comment_found as comment_found_of, comment_len, found_of, quoted_found as quoted_found_of, quoted_len, run}
use Rattle.cql_tokens.specs.declared.token.TokenKind.{TokenKind}
use Rattle.cql_tokens.specs.declared.token.TokenKind.TheVariants as kinds
use Rattle.cql_tokens.specs.declared.token.Token.{Token}
use Rattle.cql_tokens.specs.declared.token.Scanned.{Scanned}
use Rattle.cql_tokens.specs.declared.token.Stop.{Stop}
use Rattle.cql_tokens.specs.declared.token.Stop.TheVariants as stops
use Rattle.cql_tokens.specs.declared.words.Class.TheVariants as classes
use Rattle.cql_tokens.specs.declared.found.Found.{Found}
use Rattle.cql_tokens.specs.declared.found.Found.TheVariants as found
use Rattle.cql_tokens.proofs.Runs.{StopsRun, run_exact, comment_found}
use Rattle.cql_tokens.proofs.Fronts.{GapFront, Stands, TokenFront, found_stands}
use Rattle.cql_tokens.proofs.Longest.{Covers, covers}

-- ---- tokens

pub front_is_longest : (text : List ℕ) (kind : TokenKind) (n : ℕ) → found_of text ≡ found.Token kind n → (other : TokenKind) (front rest : List ℕ) → IsWord other front → front ++ rest ≡ text → length front ≤ n
front_is_longest text kind n is other front rest is_word same =
    let c : Covers other (length front) rest (found.Token kind n) = subst (Covers other (length front) rest) (ap found_of same ∙ is) (covers other front rest is_word) in
    at_most (length front) n (kind ≡ other) c
  where
    at_most : (a b : ℕ) (P : Type 0) → (a < b) ⊎ ((a ≡ b) × P) → a ≤ b
    at_most a b P (inl h) = omega (arith, h)
    at_most a b P (inr h) = let e : a ≡ b = h.0 in omega (arith, e)

pub record Begun (text : List ℕ) (p : Piece) (n : ℕ) : Type 0 where
  pub rest : List ℕ
  pub split : text ≡ bytes_of p ++ rest
  pub long : length (bytes_of p) ≡ n
  pub some : 0 < n
  pub is_piece : IsPiece p rest

pub token_found : (text : List ℕ) (kind : TokenKind) (n : ℕ) → found_of text ≡ found.Token kind n → (word : List ℕ) × Begun text (Lexeme kind word) n
token_found text kind n is =
    let f : TokenFront text kind n = subst (Stands text) is (found_stands text) in (
      f.word,
      record {
        rest = f.rest;
        split = f.split;
        long = f.long;
        some = f.some;
        is_piece = record {
          is_word = f.is_word;
          ends = f.ends;
          longest = λ other front rest is_word same. subst (λ (m : ℕ). length front ≤ m) (sym f.long) (front_is_longest text kind n is other front rest is_word (same ∙ sym f.split));
        };
      },
    )

pub gap_found : (text : List ℕ) (n : ℕ) → found_of text ≡ found.Gap n → (gap : List ℕ) × Begun text (Gap gap) n
gap_found text n is =
    let f : GapFront text n = subst (Stands text) is (found_stands text) in
    (f.gap, record { rest = f.rest; split = f.split; long = f.long; some = f.some; is_piece = f.is_gap })

pub token_is_found : (kind : TokenKind) (word rest : List ℕ) → IsTokenAt kind word rest → found_of (word ++ rest) ≡ found.Token kind (length word)
token_is_found kind word rest h = go (found_of (word ++ rest)) refl (covers kind word rest h.is_word)
  where
    go : (f : Found) → found_of (word ++ rest) ≡ f → Covers kind (length word) rest f → f ≡ found.Token kind (length word)
    go (found.Gap n) is c = absurd c
    go (found.Token other n) is (inl shorter) =
        let b = token_found (word ++ rest) other n is in
        let long : length b.0 ≡ n = b.1.long in
        let most : length b.0 ≤ length word = h.longest other b.0 b.1.rest b.1.is_piece.is_word (sym b.1.split) in
        absurd (omega (arith, shorter, long, most))
    go (found.Token other n) is (inr same) = λ i. found.Token (same.1 i) (sym same.0 i)
    go found.Unclosed is c = absurd (c h.ends)
    go found.Nothing is c = absurd c

-- ---- gaps

line_stops : (rest : List ℕ) → IsLineEnd rest → StopsRun classes.Line rest
line_stops [] h = tt
line_stops (c ∷ cs) h = ap (λ (x : ℕ). not (eqb x 10)) h

line_found : (line rest : List ℕ) → list_all is_in_line line ≡ true → IsLineEnd rest → found.Gap (2 + run classes.Line (line ++ rest)) ≡ found.Gap (suc (suc (length line)))
line_found line rest all ends =
    let exact : run classes.Line (line ++ rest) ≡ length line = run_exact classes.Line line rest all (line_stops rest ends) in
    ap (λ (n : ℕ). found.Gap n) (omega (arith, exact))

gap_same : (gap text rest : List ℕ) → gap ≡ text → found_of (text ++ rest) ≡ found.Gap (length text) → found_of (gap ++ rest) ≡ found.Gap (length gap)
gap_same gap text rest is h = subst (λ (g : List ℕ). found_of (g ++ rest) ≡ found.Gap (length g)) (sym is) h

block_found : (content rest : List ℕ) → has_no_end content ≡ true → comment_found_of (comment_len false ((content ++ 42 ∷ 47 ∷ []) ++ rest)) ≡ found.Gap (suc (suc (length (content ++ 42 ∷ 47 ∷ []))))
block_found content rest h =
    ap (λ (l : List ℕ). comment_found_of (comment_len false l)) (append_assoc content (42 ∷ 47 ∷ []) rest)
    ∙ ap comment_found_of (comment_found false content rest h (λ e. absurd (false≢true e)))
    ∙ ap (λ (n : ℕ). found.Gap n) (let long = length-append content (42 ∷ 47 ∷ []) in omega (arith, long))

gap_is_found : (gap rest : List ℕ) → IsPiece (Gap gap) rest → found_of (gap ++ rest) ≡ found.Gap (length gap)
gap_is_found gap rest (inl (inl is)) = gap_same gap (32 ∷ []) rest is refl
gap_is_found gap rest (inl (inr (inl is))) = gap_same gap (9 ∷ []) rest is refl
gap_is_found gap rest (inl (inr (inr (inl is)))) = gap_same gap (13 ∷ []) rest is refl
gap_is_found gap rest (inl (inr (inr (inr is)))) = gap_same gap (10 ∷ []) rest is refl
gap_is_found gap rest (inr (inl (line, all, ends, inl is))) = gap_same gap (45 ∷ 45 ∷ line) rest is (line_found line rest all ends)
gap_is_found gap rest (inr (inl (line, all, ends, inr is))) = gap_same gap (47 ∷ 47 ∷ line) rest is (line_found line rest all ends)
gap_is_found gap rest (inr (inr (content, h, is))) = gap_same gap (47 ∷ 42 ∷ (content ++ 42 ∷ 47 ∷ [])) rest is (block_found content rest h)

-- ---- pieces

abbrev pub as_found : Piece → Found
as_found (Gap gap) = found.Gap (length gap)
as_found (Lexeme kind word) = found.Token kind (length word)

pub piece_found : (p : Piece) (rest : List ℕ) → IsPiece p rest → found_of (bytes_of p ++ rest) ≡ as_found p
piece_found (Gap gap) rest h = gap_is_found gap rest h
piece_found (Lexeme kind word) rest h = token_is_found kind word rest h

abbrev pub IsNone : Found → Type 0
IsNone (found.Gap n) = ⊥
IsNone (found.Token kind n) = ⊥
IsNone found.Unclosed = Unit {0}
IsNone found.Nothing = Unit {0}

piece_is_some : (p : Piece) → IsNone (as_found p) → ⊥
piece_is_some (Gap gap) h = h
piece_is_some (Lexeme kind word) h = h

pub no_piece : (text : List ℕ) → IsNone (found_of text) → NoPiece text
no_piece text h p rest is same = piece_is_some p (subst IsNone (ap found_of same ∙ piece_found p rest is) h)

pub unclosed_opens : (text : List ℕ) → found_of text ≡ found.Unclosed → IsOpening text
unclosed_opens text is = subst (Stands text) is (found_stands text)

-- what opens is never nothing
abbrev IsSomething : Found → Type 0
IsSomething (found.Gap n) = Unit {0}
IsSomething (found.Token kind n) = Unit {0}
IsSomething found.Unclosed = Unit {0}
IsSomething found.Nothing = ⊥

quoted_is_something : (kind : TokenKind) (o : Option ℕ) → IsSomething (quoted_found_of kind o)
quoted_is_something kind None = tt
quoted_is_something kind (Some n) = tt

comment_is_something : (o : Option ℕ) → IsSomething (comment_found_of o)
comment_is_something None = tt
comment_is_something (Some n) = tt

opening_is_something : (text : List ℕ) → IsOpening text → IsSomething (found_of text)
opening_is_something text (inl (behind, is)) = subst (λ (t : List ℕ). IsSomething (found_of t)) (sym is) (quoted_is_something kinds.Str (quoted_len 39 false behind))
opening_is_something text (inr (inl (behind, is))) = subst (λ (t : List ℕ). IsSomething (found_of t)) (sym is) (quoted_is_something kinds.QuotedName (quoted_len 34 false behind))
opening_is_something text (inr (inr (behind, is))) = subst (λ (t : List ℕ). IsSomething (found_of t)) (sym is) (comment_is_something (comment_len false behind))

pub nothing_is_no_opening : (text : List ℕ) → found_of text ≡ found.Nothing → IsOpening text → ⊥
nothing_is_no_opening text is opens = subst IsSomething is (opening_is_something text opens)

-- ---- a text, piece by piece

pub ends_here : (at : ℕ) → IsScanFrom at [] [] None
ends_here at = record { pieces = []; rest = []; are_pieces = tt; is_text = refl; are_tokens = refl; is_stop = refl }

pub stops_unclosed : (at : ℕ) (text : List ℕ) → found_of text ≡ found.Unclosed → IsScanFrom at text [] (Some (stops.Unclosed at))
stops_unclosed at text is = record {
  pieces = [];
  rest = text;
  are_pieces = tt;
  is_text = refl;
  are_tokens = refl;
  is_stop = (refl, no_piece text (subst IsNone (sym is) tt), unclosed_opens text is);
}

pub stops_char : (at : ℕ) (text : List ℕ) → 0 < length text → found_of text ≡ found.Nothing → IsScanFrom at text [] (Some (stops.Char at))
stops_char at text some is = record {
  pieces = [];
  rest = text;
  are_pieces = tt;
  is_text = refl;
  are_tokens = refl;
  is_stop = (refl, (λ empty. let none : length text ≡ 0 = ap length empty in omega (arith, some, none)), no_piece text (subst IsNone (sym is) tt), nothing_is_no_opening text is);
}

pub goes_on : (at : ℕ) (p : Piece) (rest : List ℕ) (tokens : List Token) (stop : Option Stop) → IsPiece p rest → (s : IsScanFrom (at + length (bytes_of p)) rest tokens stop) → IsScanFrom at (bytes_of p ++ rest) (tokens_from at (p ∷ s.pieces)) stop
goes_on at p rest tokens stop is_piece s = record {
  pieces = p ∷ s.pieces;
  rest = s.rest;
  are_pieces = (subst (IsPiece p) s.is_text is_piece, s.are_pieces);
  is_text = ap (λ (l : List ℕ). bytes_of p ++ l) s.is_text;
  are_tokens = refl;
  is_stop = s.is_stop;
}

pub scan_gap : (at n : ℕ) (text : List ℕ) (tokens : List Token) (stop : Option Stop) → found_of text ≡ found.Gap n → IsScanFrom (at + n) (drop n text) tokens stop → IsScanFrom at text tokens stop
scan_gap at n text tokens stop is s =
    let b = gap_found text n is in
    let there = ap (drop n) b.1.split ∙ drop_at b.0 b.1.rest n b.1.long in
    let moved : IsScanFrom (at + length b.0) b.1.rest tokens stop = subst (λ (m : ℕ). IsScanFrom (at + m) b.1.rest tokens stop) (sym b.1.long) (subst (λ (l : List ℕ). IsScanFrom (at + n) l tokens stop) there s) in
    subst (λ (l : List ℕ). IsScanFrom at l tokens stop) (sym b.1.split)
    (subst (λ (ts : List Token). IsScanFrom at (b.0 ++ b.1.rest) ts stop) (sym moved.are_tokens) (goes_on at (Gap b.0) b.1.rest tokens stop b.1.is_piece moved))

pub scan_token : (at n : ℕ) (kind : TokenKind) (text : List ℕ) (tokens : List Token) (stop : Option Stop) → found_of text ≡ found.Token kind n → IsScanFrom (at + n) (drop n text) tokens stop → IsScanFrom at text (record { kind = kind; start = at; end = at + n } ∷ tokens) stop
scan_token at n kind text tokens stop is s =
    let b = token_found text kind n is in
    let there = ap (drop n) b.1.split ∙ drop_at b.0 b.1.rest n b.1.long in
    let moved : IsScanFrom (at + length b.0) b.1.rest tokens stop = subst (λ (m : ℕ). IsScanFrom (at + m) b.1.rest tokens stop) (sym b.1.long) (subst (λ (l : List ℕ). IsScanFrom (at + n) l tokens stop) there s) in
    subst (λ (l : List ℕ). IsScanFrom at l (record { kind = kind; start = at; end = at + n } ∷ tokens) stop) (sym b.1.split)
    (subst (λ (ts : List Token). IsScanFrom at (b.0 ++ b.1.rest) ts stop) (same_tokens b.0 moved.pieces b.1.long moved.are_tokens)
    (goes_on at (Lexeme kind b.0) b.1.rest tokens stop b.1.is_piece moved))
  where
    same_tokens : (word : List ℕ) (ps : List Piece) → length word ≡ n → tokens ≡ tokens_from (at + length word) ps → tokens_from at (Lexeme kind word ∷ ps) ≡ record { kind = kind; start = at; end = at + n } ∷ tokens
    same_tokens word ps long are i = record { kind = kind; start = at; end = at + long i } ∷ sym are i

pub found_some : (text : List ℕ) (n : ℕ) → found_of text ≡ found.Gap n → (0 < n) × (n ≤ length text)
found_some text n is =
    let b = gap_found text n is in
    let some : 0 < n = b.1.some in
    let long : length b.0 ≡ n = b.1.long in
    let all : length text ≡ length b.0 + length b.1.rest = ap length b.1.split ∙ length-append b.0 b.1.rest in
    (some, omega (arith, long, all))

pub found_token_some : (text : List ℕ) (kind : TokenKind) (n : ℕ) → found_of text ≡ found.Token kind n → (0 < n) × (n ≤ length text)
found_token_some text kind n is =
    let b = token_found text kind n is in
    let some : 0 < n = b.1.some in
    let long : length b.0 ≡ n = b.1.long in
    let all : length text ≡ length b.0 + length b.1.rest = ap length b.1.split ∙ length-append b.0 b.1.rest in
    (some, omega (arith, long, all))

-- ---- one scan

same_front : (u v x y : List ℕ) → u ++ x ≡ v ++ y → length u ≡ length v → (u ≡ v) × (x ≡ y)
same_front u v x y same long = (
  sym (take_at u x (length u) refl) ∙ ap (take (length u)) same ∙ take_at v y (length u) (sym long),
  sym (drop_at u x (length u) refl) ∙ ap (drop (length u)) same ∙ drop_at v y (length u) (sym long),
)

gap_len : (m n : ℕ) → found.Gap m ≡ found.Gap n → m ≡ n
gap_len m n h = cc

pub token_parts : (k o : TokenKind) (m n : ℕ) → found.Token k m ≡ found.Token o n → (k ≡ o) × (m ≡ n)
token_parts k o m n h = ((let p : k ≡ o = cc in p), (let q : m ≡ n = cc in q))

not_empty : (p : Piece) (rest : List ℕ) → IsPiece p rest → [] ≡ bytes_of p ++ rest → ⊥
not_empty p rest is same = piece_is_some p (subst IsNone (ap found_of same ∙ piece_found p rest is) tt)

no_opening : IsOpening [] → ⊥
no_opening (inl (behind, is)) = absurd (cc)
no_opening (inr (inl (behind, is))) = absurd (cc)
no_opening (inr (inr (behind, is))) = absurd (cc)

same_stop : (at : ℕ) (rest : List ℕ) (a b : Option Stop) → IsStop at rest a → IsStop at rest b → a ≡ b
same_stop at rest None None h k = refl
same_stop at rest None (Some (stops.Char y)) h k = absurd (k.1 h)
same_stop at rest None (Some (stops.Unclosed y)) h k = absurd (no_opening (subst IsOpening h k.2))
same_stop at rest (Some (stops.Char x)) None h k = absurd (h.1 k)
same_stop at rest (Some (stops.Char x)) (Some (stops.Char y)) h k = ap (λ (n : ℕ). Some (stops.Char n)) (h.0 ∙ sym k.0)
same_stop at rest (Some (stops.Char x)) (Some (stops.Unclosed y)) h k = absurd (h.3 k.2)
same_stop at rest (Some (stops.Unclosed x)) None h k = absurd (no_opening (subst IsOpening k h.2))
same_stop at rest (Some (stops.Unclosed x)) (Some (stops.Char y)) h k = absurd (k.3 h.2)
same_stop at rest (Some (stops.Unclosed x)) (Some (stops.Unclosed y)) h k = ap (λ (n : ℕ). Some (stops.Unclosed n)) (h.0 ∙ sym k.0)

-- a stop where a piece stands
no_stop : (at : ℕ) (p : Piece) (behind rest : List ℕ) (stop : Option Stop) → IsPiece p behind → rest ≡ bytes_of p ++ behind → IsStop at rest stop → ⊥
no_stop at p behind rest None is same h = not_empty p behind is (sym h ∙ same)
no_stop at p behind rest (Some (stops.Char x)) is same h = h.2 p behind is same
no_stop at p behind rest (Some (stops.Unclosed x)) is same h = h.1 p behind is same

abbrev Same : List Token → List Token → Option Stop → Option Stop → Type 0
Same ts us a b = (ts ≡ us) × (a ≡ b)

same_pieces : (at : ℕ) (ps qs : List Piece) (x y : List ℕ) (a b : Option Stop) → ArePieces ps x → ArePieces qs y → text_from ps x ≡ text_from qs y → IsStop (end_from at ps) x a → IsStop (end_from at qs) y b → Same (tokens_from at ps) (tokens_from at qs) a b
same_pieces at [] [] x y a b hp hq same sa sb = (refl, same_stop at x a b sa (subst (λ (r : List ℕ). IsStop at r b) (sym same) sb))
same_pieces at [] (q ∷ qs) x y a b hp hq same sa sb = absurd (no_stop at q (text_from qs y) x a hq.0 same sa)
same_pieces at (p ∷ ps) [] x y a b hp hq same sa sb = absurd (no_stop at p (text_from ps x) y b hp.0 (sym same) sb)
same_pieces at (Gap g ∷ ps) (Gap h ∷ qs) x y a b hp hq same sa sb =
    let found_same = sym (piece_found (Gap g) (text_from ps x) hp.0) ∙ ap found_of same ∙ piece_found (Gap h) (text_from qs y) hq.0 in
    let long = gap_len (length g) (length h) found_same in
    let parts = same_front g h (text_from ps x) (text_from qs y) same long in
    let more = same_pieces (at + length g) ps qs x y a b hp.1 hq.1 parts.1 sa (subst (λ (n : ℕ). IsStop (end_from (at + n) qs) y b) (sym long) sb) in
    (more.0 ∙ ap (λ (n : ℕ). tokens_from (at + n) qs) long, more.1)
same_pieces at (Gap g ∷ ps) (Lexeme k w ∷ qs) x y a b hp hq same sa sb =
    let found_same : found.Gap (length g) ≡ found.Token k (length w) = sym (piece_found (Gap g) (text_from ps x) hp.0) ∙ ap found_of same ∙ piece_found (Lexeme k w) (text_from qs y) hq.0 in
    absurd (cc)
same_pieces at (Lexeme k w ∷ ps) (Gap g ∷ qs) x y a b hp hq same sa sb =
    let found_same : found.Token k (length w) ≡ found.Gap (length g) = sym (piece_found (Lexeme k w) (text_from ps x) hp.0) ∙ ap found_of same ∙ piece_found (Gap g) (text_from qs y) hq.0 in
    absurd (cc)
same_pieces at (Lexeme k w ∷ ps) (Lexeme l v ∷ qs) x y a b hp hq same sa sb =
    let found_same = sym (piece_found (Lexeme k w) (text_from ps x) hp.0) ∙ ap found_of same ∙ piece_found (Lexeme l v) (text_from qs y) hq.0 in
    let both = token_parts k l (length w) (length v) found_same in
    let long = both.1 in
    let parts = same_front w v (text_from ps x) (text_from qs y) same long in
    let more = same_pieces (at + length w) ps qs x y a b hp.1 hq.1 parts.1 sa (subst (λ (n : ℕ). IsStop (end_from (at + n) qs) y b) (sym long) sb) in
    let tail = more.0 ∙ ap (λ (n : ℕ). tokens_from (at + n) qs) long in
    ((λ i. record { kind = both.0 i; start = at; end = at + long i } ∷ tail i), more.1)

pub one_scan_from : (at : ℕ) (text : List ℕ) (ts us : List Token) (a b : Option Stop) → IsScanFrom at text ts a → IsScanFrom at text us b → Same ts us a b
one_scan_from at text ts us a b s t =
    let both = same_pieces at s.pieces t.pieces s.rest t.rest a b s.are_pieces t.are_pieces (sym s.is_text ∙ t.is_text) s.is_stop t.is_stop in
    (s.are_tokens ∙ both.0 ∙ sym t.are_tokens, both.1)

-- ---- in order

in_order : (at : ℕ) (ps : List Piece) (rest : List ℕ) → ArePieces ps rest → (from : ℕ) → from ≤ at → AreInOrder from (at + length (text_from ps rest)) (tokens_from at ps)
in_order at [] rest h from low = omega (arith, low)
in_order at (Gap g ∷ ps) rest h from low =
    let more = in_order (at + length g) ps rest h.1 from (omega (arith, low)) in
    let long = length-append g (text_from ps rest) in
    subst (λ (n : ℕ). AreInOrder from n (tokens_from (at + length g) ps)) (omega (arith, long)) more
in_order at (Lexeme k w ∷ ps) rest h from low =
    let some : 0 < length w = (found_token_some (w ++ text_from ps rest) k (length w) (piece_found (Lexeme k w) (text_from ps rest) h.0)).0 in
    let more = in_order (at + length w) ps rest h.1 (at + length w) (omega arith) in
    let long = length-append w (text_from ps rest) in
    (low, omega (arith, some), subst (λ (n : ℕ). AreInOrder (at + length w) n (tokens_from (at + length w) ps)) (omega (arith, long)) more)

pub scan_in_order : (text : List ℕ) (ts : List Token) (stop : Option Stop) → IsScanFrom 0 text ts stop → AreInOrder 0 (length text) ts
scan_in_order text ts stop s =
    let there = in_order 0 s.pieces s.rest s.are_pieces 0 (omega arith) in
    let long : length text ≡ length (text_from s.pieces s.rest) = ap length s.is_text in
    subst (λ (us : List Token). AreInOrder 0 (length text) us) (sym s.are_tokens)
    (subst (λ (n : ℕ). AreInOrder 0 n (tokens_from 0 s.pieces)) (omega (arith, long)) there)

pub ok_in_order : {E : Type 0} (bytes text : List ℕ) (r : Result Scanned E) → bytes ≡ text → IfOk r (λ s. IsScan bytes s) → IfOk r (λ s. AreInOrder 0 (length text) s.tokens)
ok_in_order bytes text (Ok s) same h = subst (λ (l : List ℕ). AreInOrder 0 (length l) s.tokens) same (scan_in_order bytes s.tokens s.stop h)
ok_in_order bytes text (Err e) same h = h

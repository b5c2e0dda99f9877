-- The bytes of words: where a word is no text in quotes they are visible ASCII, and its ends are ASCII in any case.
use Rattle.std.proofs.Common.{◌≡◌, ◌⊎◌, ◌<◌, ◌≤◌, ◌+◌, ◌-◌, ℕ, Bool, true, false, cond, eqb, ltb, leb, ltb-true, lt-ltb, leb-true, ◌&&◌, ◌||◌, List, [], ◌∷◌, ◌++◌, length, get_or, take, drop, arith, refl, sym, ap, ◌∙◌, subst, inl, inr, eqb-true, length-append}
use Rattle.std.specs.Str.{IsCharBoundary, IsUtf8}
use Rattle.std.specs.List.{list_all}
use Rattle.std.specs.Int.{is_in_range}
use Rattle.std.specs.Char.{is_ascii_digit, is_ascii_hexdigit}
use Rattle.std.proofs.lemmas.Bool.{false≢true, and_from, and_parts}
use Rattle.std.proofs.lemmas.List.{get_or_at, get_or_append_left, get_or-append-add, take_at, drop_at}
use Rattle.std.proofs.lemmas.Str.{IsCharBoundary-before_ascii, IsCharBoundary-after_ascii}
use Rattle.cql_tokens.specs.Words.{doubled, fits, fits_shape, is_word_byte, uuid_shape, AreDigits, ArePairs, IsBlob, IsName, IsQuoted, IsWhole, IsWord}
use Rattle.cql_tokens.specs.Tokens.{word_of, IsSlice}
use Rattle.cql_tokens.specs.declared.token.TokenKind.{TokenKind}
use Rattle.cql_tokens.specs.declared.token.TokenKind.TheVariants as kinds
use Rattle.cql_tokens.proofs.Runs.{all_at, closed}
use Rattle.cql_tokens.proofs.Longest.{letter_goes_on}

abbrev pub visible : ℕ → Bool
visible c = ltb 32 c && ltb c 128

visible_from : (c : ℕ) → 32 < c → c < 128 → visible c ≡ true
visible_from c low high = and_from (ltb 32 c) (ltb c 128) (lt-ltb 32 c low) (lt-ltb c 128 high)

pub visible_bounds : (c : ℕ) → visible c ≡ true → (32 < c) × (c < 128)
visible_bounds c e = let p = and_parts (ltb 32 c) (ltb c 128) e in (ltb-true 32 c p.0, ltb-true c 128 p.1)

in_range : (low high c : ℕ) → is_in_range low high c ≡ true → 32 < low → high < 128 → visible c ≡ true
in_range low high c e h k =
    let p = and_parts (leb low c) (leb c high) e in
    let least : low ≤ c = leb-true low c p.0 in
    let most : c ≤ high = leb-true c high p.1 in
    visible_from c (omega (arith, least, h)) (omega (arith, most, k))

either : (x y : Bool) → (x || y) ≡ true → (x ≡ true) ⊎ (y ≡ true)
either true y e = inl refl
either false y e = inr e

digit_visible : (c : ℕ) → is_ascii_digit c ≡ true → visible c ≡ true
digit_visible c e = in_range 48 57 c e (omega arith) (omega arith)

three_visible : (a b d e f g : ℕ) (c : ℕ) → ((is_in_range a b c || is_in_range d e c) || is_in_range f g c) ≡ true → 32 < a → b < 128 → 32 < d → e < 128 → 32 < f → g < 128 → visible c ≡ true
three_visible a b d e f g c h a_low b_high d_low e_high f_low g_high = go (either (is_in_range a b c || is_in_range d e c) (is_in_range f g c) h)
  where
    inner : (is_in_range a b c ≡ true) ⊎ (is_in_range d e c ≡ true) → visible c ≡ true
    inner (inl x) = in_range a b c x a_low b_high
    inner (inr x) = in_range d e c x d_low e_high

    go : ((is_in_range a b c || is_in_range d e c) ≡ true) ⊎ (is_in_range f g c ≡ true) → visible c ≡ true
    go (inl x) = inner (either (is_in_range a b c) (is_in_range d e c) x)
    go (inr x) = in_range f g c x f_low g_high

hex_visible : (c : ℕ) → is_ascii_hexdigit c ≡ true → visible c ≡ true
hex_visible c e = three_visible 48 57 65 70 97 102 c e (omega arith) (omega arith) (omega arith) (omega arith) (omega arith) (omega arith)

word_byte_visible : (c : ℕ) → is_word_byte c ≡ true → visible c ≡ true
word_byte_visible c e = go (either ((is_in_range 48 57 c || is_in_range 65 90 c) || is_in_range 97 122 c) (eqb c 95) e)
  where
    go : (((is_in_range 48 57 c || is_in_range 65 90 c) || is_in_range 97 122 c) ≡ true) ⊎ (eqb c 95 ≡ true) → visible c ≡ true
    go (inl x) = three_visible 48 57 65 90 97 122 c x (omega arith) (omega arith) (omega arith) (omega arith) (omega arith) (omega arith)
    go (inr x) = ap visible (eqb-true c 95 x)

all_visible : (test : ℕ → Bool) → ((c : ℕ) → test c ≡ true → visible c ≡ true) → (xs : List ℕ) → list_all test xs ≡ true → list_all visible xs ≡ true
all_visible test f [] h = refl
all_visible test f (c ∷ cs) h =
    let p = and_parts (test c) (list_all test cs) h in
    and_from (visible c) (list_all visible cs) (f c p.0) (all_visible test f cs p.1)

name_visible : (w : List ℕ) → IsName w → list_all visible w ≡ true
name_visible [] h = absurd h
name_visible (c ∷ cs) h = and_from (visible c) (list_all visible cs) (word_byte_visible c (letter_goes_on c h.0)) (all_visible is_word_byte word_byte_visible cs h.1)

digits_visible : (w : List ℕ) → AreDigits w → list_all visible w ≡ true
digits_visible [] h = absurd h
digits_visible (c ∷ cs) h = all_visible is_ascii_digit digit_visible (c ∷ cs) h

whole_visible : (w : List ℕ) → IsWhole w → list_all visible w ≡ true
whole_visible w (inl h) = digits_visible w h
whole_visible w (inr h) = ap (list_all visible) h.2 ∙ digits_visible h.0 h.1

pairs_visible : (w : List ℕ) → ArePairs w → list_all visible w ≡ true
pairs_visible [] h = refl
pairs_visible (c ∷ []) h = absurd h
pairs_visible (c ∷ d ∷ cs) h =
    and_from (visible c) (visible d && list_all visible cs) (hex_visible c h.0) (and_from (visible d) (list_all visible cs) (hex_visible d h.1) (pairs_visible cs h.2))

blob_visible : (w : List ℕ) → IsBlob w → list_all visible w ≡ true
blob_visible w (digits, pairs, inl is) = ap (list_all visible) is ∙ pairs_visible digits pairs
blob_visible w (digits, pairs, inr is) = ap (list_all visible) is ∙ pairs_visible digits pairs

fit_visible : (s c : ℕ) → visible s ≡ true → fits s c ≡ true → visible c ≡ true
fit_visible s c v h = go (eqb s 120) h
  where
    go : (b : Bool) → cond b (is_ascii_hexdigit c) (eqb c s) ≡ true → visible c ≡ true
    go true e = hex_visible c e
    go false e = ap visible (eqb-true c s e) ∙ v

shape_visible : (shape w : List ℕ) → list_all visible shape ≡ true → fits_shape shape w ≡ true → list_all visible w ≡ true
shape_visible [] [] v h = refl
shape_visible [] (c ∷ cs) v h = absurd (false≢true h)
shape_visible (s ∷ ss) [] v h = refl
shape_visible (s ∷ ss) (c ∷ cs) v h =
    let p = and_parts (visible s) (list_all visible ss) v in
    let q = and_parts (fits s c) (fits_shape ss cs) h in
    and_from (visible c) (list_all visible cs) (fit_visible s c p.0 q.0) (shape_visible ss cs p.1 q.1)

abbrev pub Plain : List ℕ → Type 0
Plain w = (list_all visible w ≡ true) ⊎ (IsQuoted 39 w ⊎ IsQuoted 34 w)

symbol_plain : (w text : List ℕ) → w ≡ text → list_all visible text ≡ true → Plain w
symbol_plain w text is h = inl (ap (list_all visible) is ∙ h)

pub word_plain : (kind : TokenKind) (w : List ℕ) → IsWord kind w → Plain w
word_plain kinds.Word w h = inl (name_visible w h)
word_plain kinds.QuotedName w h = inr (inr h)
word_plain kinds.Str w h = inr (inl h)
word_plain kinds.Whole w h = inl (whole_visible w h)
word_plain kinds.Blob w h = inl (blob_visible w h)
word_plain kinds.Uuid w h = inl (shape_visible uuid_shape w refl h)
word_plain kinds.OpenParenthesis w h = symbol_plain w (40 ∷ []) h refl
word_plain kinds.CloseParenthesis w h = symbol_plain w (41 ∷ []) h refl
word_plain kinds.OpenBrace w h = symbol_plain w (123 ∷ []) h refl
word_plain kinds.CloseBrace w h = symbol_plain w (125 ∷ []) h refl
word_plain kinds.Comma w h = symbol_plain w (44 ∷ []) h refl
word_plain kinds.Dot w h = symbol_plain w (46 ∷ []) h refl
word_plain kinds.Semicolon w h = symbol_plain w (59 ∷ []) h refl
word_plain kinds.Colon w h = symbol_plain w (58 ∷ []) h refl
word_plain kinds.QuestionMark w h = symbol_plain w (63 ∷ []) h refl
word_plain kinds.Star w h = symbol_plain w (42 ∷ []) h refl
word_plain kinds.Equal w h = symbol_plain w (61 ∷ []) h refl
word_plain kinds.NotEqual w h = symbol_plain w (33 ∷ 61 ∷ []) h refl
word_plain kinds.Less w h = symbol_plain w (60 ∷ []) h refl
word_plain kinds.LessOrEqual w h = symbol_plain w (60 ∷ 61 ∷ []) h refl
word_plain kinds.Greater w h = symbol_plain w (62 ∷ []) h refl
word_plain kinds.GreaterOrEqual w h = symbol_plain w (62 ∷ 61 ∷ []) h refl

-- ---- the ends of words

pub record Edges (w : List ℕ) : Type 0 where
  pub first : get_or w 0 0 < 128
  pub last : get_or w (length w - 1) 0 < 128

visible_edges : (w : List ℕ) → 0 < length w → list_all visible w ≡ true → Edges w
visible_edges w some h = record {
  first = (visible_bounds (get_or w 0 0) (all_at visible w 0 h some)).1;
  last = (visible_bounds (get_or w (length w - 1) 0) (all_at visible w (length w - 1) h (omega (arith, some)))).1;
}

quoted_edges : (q : ℕ) (w : List ℕ) → q < 128 → IsQuoted q w → Edges w
quoted_edges q w low (content, is) =
    subst Edges (sym is)
    (record {
      first = low;
      last =
          let long : length (closed q content) ≡ length (doubled q content) + 1 = length-append (doubled q content) (q ∷ []) in
          let at : get_or (q ∷ closed q content) (length (q ∷ closed q content) - 1) 0 ≡ q = get_or_at (q ∷ doubled q content) q [] 0 (length (q ∷ closed q content) - 1) (omega (arith, long)) in
          omega (arith, at, low);
    })

plain_edges : (w : List ℕ) → 0 < length w → Plain w → Edges w
plain_edges w some (inl h) = visible_edges w some h
plain_edges w some (inr (inl h)) = quoted_edges 39 w (omega arith) h
plain_edges w some (inr (inr h)) = quoted_edges 34 w (omega arith) h

pub word_edges : (kind : TokenKind) (w : List ℕ) → 0 < length w → IsWord kind w → Edges w
word_edges kind w some h = plain_edges w some (word_plain kind w h)

-- ---- tokens as slices

pub word_is_slice : (text front w behind : List ℕ) (kind : TokenKind) → IsUtf8 text → text ≡ front ++ (w ++ behind) → 0 < length w → Edges w → IsSlice text (record { kind = kind; start = length front; end = length front + length w })
word_is_slice text front w behind kind utf8 is some edges =
    let long : length text ≡ length front + length (w ++ behind) = ap length is ∙ length-append front (w ++ behind) in
    let longer = length-append w behind in
    let at = λ (i : ℕ) (h : i < length w). ap (λ (l : List ℕ). get_or l (length front + i) 0) is ∙ get_or-append-add front (w ++ behind) i 0 ∙ get_or_append_left w behind 0 i h in
    let first : get_or text (length front + 0) 0 ≡ get_or w 0 0 = at 0 some in
    let last : get_or text (length front + (length w - 1)) 0 ≡ get_or w (length w - 1) 0 = at (length w - 1) (omega (arith, some)) in
    let low : get_or w 0 0 < 128 = edges.first in
    let high : get_or w (length w - 1) 0 < 128 = edges.last in (
      omega arith,
      subst (IsCharBoundary text) (omega arith) (IsCharBoundary-before_ascii text (length front + 0) (omega (arith, long, longer, some)) (omega (arith, first, low))),
      subst (IsCharBoundary text) (omega (arith, some))
          (IsCharBoundary-after_ascii text (length front + (length w - 1)) utf8 (omega (arith, long, longer, some)) (omega (arith, last, high))),
    )

pub word_is : (text front w behind : List ℕ) (kind : TokenKind) → text ≡ front ++ (w ++ behind) → word_of text (record { kind = kind; start = length front; end = length front + length w }) ≡ w
word_is text front w behind kind is =
    ap (λ (l : List ℕ). take (length front + length w - length front) (drop (length front) l)) is
    ∙ ap (take (length front + length w - length front)) (drop_at front (w ++ behind) (length front) refl)
    ∙ take_at w behind (length front + length w - length front) (omega arith)

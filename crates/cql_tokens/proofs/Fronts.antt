-- What is found at the front of a text stands there.
use Rattle.std.proofs.Common.{◌≡◌, ◌<◌, ◌+◌, ℕ, suc, Bool, true, false, not, cond, eqb, ◌&&◌, ◌||◌, List, [], ◌∷◌, ◌++◌, length, get_or, drop, Option, Some, None, arith, refl, sym, ap, ◌∙◌, subst, inl, inr, eqb-true, eq-eqb, append_assoc, length-append}
use Rattle.std.specs.Char.{is_ascii_digit, is_ascii_alphabetic}
use Rattle.std.specs.List.{list_all}
use Rattle.std.proofs.lemmas.Bool.{false≢true, and_from, and_parts, cond-true}
use Rattle.cql_tokens.specs.Words.{uuid_shape, IsWord}
use Rattle.cql_tokens.specs.Tokens.{IsPiece, IsLineEnd, Ends, IsOpening}
use Rattle.cql_tokens.specs.Tokens.Piece.{Gap}
use Rattle.cql_tokens.specs.Scanning.{blob_len, comment_found as comment_found_of, comment_len, found_of, front_fits, is_blank, mark_found, minus_found, number_found, quoted_found as quoted_found_of, quoted_len, run, single_found, slash_found, symbol_found}
use Rattle.cql_tokens.specs.declared.token.TokenKind.{TokenKind}
use Rattle.cql_tokens.specs.declared.token.TokenKind.TheVariants as kinds
use Rattle.cql_tokens.specs.declared.words.Class.TheVariants as classes
use Rattle.cql_tokens.specs.declared.found.Found.{Found}
use Rattle.cql_tokens.specs.declared.found.Found.TheVariants as found
use Rattle.cql_tokens.proofs.Runs.{by_bool, closed, BeginsNot, StopsRun, run_of, pairs_of, quoted_of, comment_of, shaped_of}

pub choose : (P : Found → Type 0) (b : Bool) (x y : Found) → (b ≡ true → P x) → (b ≡ false → P y) → P (cond b x y)
choose P true x y p q = p refl
choose P false x y p q = q refl

pub record GapFront (text : List ℕ) (n : ℕ) : Type 0 where
  pub gap : List ℕ
  pub rest : List ℕ
  pub split : text ≡ gap ++ rest
  pub long : length gap ≡ n
  pub some : 0 < n
  pub is_gap : IsPiece (Gap gap) rest

pub record TokenFront (text : List ℕ) (kind : TokenKind) (n : ℕ) : Type 0 where
  pub word : List ℕ
  pub rest : List ℕ
  pub split : text ≡ word ++ rest
  pub long : length word ≡ n
  pub some : 0 < n
  pub is_word : IsWord kind word
  pub ends : Ends kind rest

abbrev pub Stands : List ℕ → Found → Type 0
Stands text (found.Gap n) = GapFront text n
Stands text (found.Token kind n) = TokenFront text kind n
Stands text found.Unclosed = IsOpening text
Stands text found.Nothing = Unit {0}

word_stands : (c : ℕ) (cs : List ℕ) → is_ascii_alphabetic c ≡ true → TokenFront (c ∷ cs) kinds.Word (1 + run classes.Word cs)
word_stands c cs e =
    let r = run_of classes.Word cs in
    record { word = c ∷ r.word; rest = r.rest; split = ap (λ (l : List ℕ). c ∷ l) r.split; long = omega (arith, r.long); some = omega arith; is_word = (e, r.all); ends = tt }

digits_stand : (c : ℕ) (cs : List ℕ) → is_ascii_digit c ≡ true → TokenFront (c ∷ cs) kinds.Whole (1 + run classes.Digit cs)
digits_stand c cs e =
    let r = run_of classes.Digit cs in
    record {
      word = c ∷ r.word;
      rest = r.rest;
      split = ap (λ (l : List ℕ). c ∷ l) r.split;
      long = omega (arith, r.long);
      some = omega arith;
      is_word = inl (and_from (is_ascii_digit c) (list_all is_ascii_digit r.word) e r.all);
      ends = tt;
    }

blob_stands : (cs : List ℕ) → ((eqb (get_or cs 0 0) 120) || (eqb (get_or cs 0 0) 88)) ≡ true → TokenFront (48 ∷ cs) kinds.Blob (blob_len (run classes.Hexadecimal (drop 1 cs)))
blob_stands [] e = absurd (false≢true e)
blob_stands (x ∷ ds) e =
    let p = pairs_of ds in
    record {
      word = 48 ∷ x ∷ p.word;
      rest = p.rest;
      split = ap (λ (l : List ℕ). 48 ∷ x ∷ l) p.split;
      long = omega (arith, p.long);
      some = omega arith;
      is_word = (
        p.word,
        p.are_pairs,
        by_bool (eqb x 120)
            (λ f. inl (ap (λ (y : ℕ). 48 ∷ y ∷ p.word) (eqb-true x 120 f)))
            (λ f. inr (ap (λ (y : ℕ). 48 ∷ y ∷ p.word) (eqb-true x 88 (ap (λ (b : Bool). b || eqb x 88) (sym f) ∙ e)))),
      );
      ends = tt;
    }

number_stands : (c : ℕ) (cs : List ℕ) → is_ascii_digit c ≡ true → Stands (c ∷ cs) (number_found c cs)
number_stands c cs digit =
    let x = (eqb (get_or cs 0 0) 120) || (eqb (get_or cs 0 0) 88) in
    choose (Stands (c ∷ cs)) (eqb c 48 && x) (found.Token kinds.Blob (blob_len (run classes.Hexadecimal (drop 1 cs)))) (found.Token kinds.Whole (1 + run classes.Digit cs))
    (λ e.
    let parts = and_parts (eqb c 48) x e in
    subst (λ (y : ℕ). TokenFront (y ∷ cs) kinds.Blob (blob_len (run classes.Hexadecimal (drop 1 cs)))) (sym (eqb-true c 48 parts.0)) (blob_stands cs parts.1))
    (λ _. digits_stand c cs digit)

line_end : (rest : List ℕ) → StopsRun classes.Line rest → IsLineEnd rest
line_end [] stops = tt
line_end (c ∷ cs) stops = by_bool (eqb c 10) (λ e. eqb-true c 10 e) (λ e. absurd (false≢true (sym stops ∙ ap not e)))

dashes_stand : (cs : List ℕ) → eqb (get_or cs 0 0) 45 ≡ true → GapFront (45 ∷ cs) (2 + run classes.Line (drop 1 cs))
dashes_stand [] e = absurd (false≢true e)
dashes_stand (d ∷ ds) e =
    let r = run_of classes.Line ds in
    record {
      gap = 45 ∷ 45 ∷ r.word;
      rest = r.rest;
      split = λ i. 45 ∷ eqb-true d 45 e i ∷ r.split i;
      long = omega (arith, r.long);
      some = omega arith;
      is_gap = inr (inl (r.word, r.all, line_end r.rest r.stops, inl refl));
    }

slashes_stand : (cs : List ℕ) → eqb (get_or cs 0 0) 47 ≡ true → GapFront (47 ∷ cs) (2 + run classes.Line (drop 1 cs))
slashes_stand [] e = absurd (false≢true e)
slashes_stand (d ∷ ds) e =
    let r = run_of classes.Line ds in
    record {
      gap = 47 ∷ 47 ∷ r.word;
      rest = r.rest;
      split = λ i. 47 ∷ eqb-true d 47 e i ∷ r.split i;
      long = omega (arith, r.long);
      some = omega arith;
      is_gap = inr (inl (r.word, r.all, line_end r.rest r.stops, inr refl));
    }

negative_stands : (cs : List ℕ) → is_ascii_digit (get_or cs 0 0) ≡ true → TokenFront (45 ∷ cs) kinds.Whole (1 + run classes.Digit cs)
negative_stands [] e = absurd (false≢true e)
negative_stands (d ∷ ds) e =
    let more = digits_stand d ds e in
    let is : cond (is_ascii_digit d) (suc (run classes.Digit ds)) 0 ≡ suc (run classes.Digit ds) = cond-true (is_ascii_digit d) (suc (run classes.Digit ds)) 0 e in
    let r = run_of classes.Digit ds in
    record {
      word = 45 ∷ d ∷ r.word;
      rest = r.rest;
      split = ap (λ (l : List ℕ). 45 ∷ d ∷ l) r.split;
      long = omega (arith, r.long, is);
      some = omega arith;
      is_word = inr (d ∷ r.word, and_from (is_ascii_digit d) (list_all is_ascii_digit r.word) e r.all, refl);
      ends = tt;
    }

minus_stands : (cs : List ℕ) → Stands (45 ∷ cs) (minus_found cs)
minus_stands cs =
    let line = found.Gap (2 + run classes.Line (drop 1 cs)) in
    let number = found.Token kinds.Whole (1 + run classes.Digit cs) in
    choose (Stands (45 ∷ cs)) (eqb (get_or cs 0 0) 45) line (cond (is_ascii_digit (get_or cs 0 0)) number found.Nothing)
    (dashes_stand cs)
    (λ _. choose (Stands (45 ∷ cs)) (is_ascii_digit (get_or cs 0 0)) number found.Nothing (negative_stands cs) (λ _. tt))

block_stands : (ds : List ℕ) (o : Option ℕ) → comment_len false ds ≡ o → Stands (47 ∷ 42 ∷ ds) (comment_found_of o)
block_stands ds None e = inr (inr (ds, refl))
block_stands ds (Some n) e =
    let r = comment_of false ds n e in
    record {
      gap = 47 ∷ 42 ∷ (r.content ++ 42 ∷ 47 ∷ []);
      rest = r.rest;
      split = ap (λ (l : List ℕ). 47 ∷ 42 ∷ l) (r.split ∙ sym (append_assoc r.content (42 ∷ 47 ∷ []) r.rest));
      long = let long = length-append r.content (42 ∷ 47 ∷ []) in omega (arith, r.long, long);
      some = omega arith;
      is_gap = inr (inr (r.content, r.no_end, refl));
    }

star_stands : (cs : List ℕ) → eqb (get_or cs 0 0) 42 ≡ true → Stands (47 ∷ cs) (comment_found_of (comment_len false (drop 1 cs)))
star_stands [] e = absurd (false≢true e)
star_stands (d ∷ ds) e = subst (λ (x : ℕ). Stands (47 ∷ x ∷ ds) (comment_found_of (comment_len false ds))) (sym (eqb-true d 42 e)) (block_stands ds (comment_len false ds) refl)

slash_stands : (cs : List ℕ) → Stands (47 ∷ cs) (slash_found cs)
slash_stands cs =
    let line = found.Gap (2 + run classes.Line (drop 1 cs)) in
    let block = comment_found_of (comment_len false (drop 1 cs)) in
    choose (Stands (47 ∷ cs)) (eqb (get_or cs 0 0) 47) line (cond (eqb (get_or cs 0 0) 42) block found.Nothing)
    (slashes_stand cs)
    (λ _. choose (Stands (47 ∷ cs)) (eqb (get_or cs 0 0) 42) block found.Nothing (star_stands cs) (λ _. tt))

begins_not : (q : ℕ) (rest : List ℕ) → BeginsNot q rest → (behind : List ℕ) → rest ≡ q ∷ behind → ⊥
begins_not q [] h behind is = absurd (cc)
begins_not q (c ∷ cs) h behind is = let first : c ≡ q = cc in false≢true (sym h ∙ eq-eqb c q first)

string_stands : (cs : List ℕ) (o : Option ℕ) → quoted_len 39 false cs ≡ o → Stands (39 ∷ cs) (quoted_found_of kinds.Str o)
string_stands cs None e = inl (cs, refl)
string_stands cs (Some n) e =
    let r = quoted_of 39 cs n e in
    record {
      word = 39 ∷ closed 39 r.content;
      rest = r.rest;
      split = ap (λ (l : List ℕ). 39 ∷ l) r.split;
      long = omega (arith, r.long);
      some = omega arith;
      is_word = (r.content, refl);
      ends = λ b. begins_not 39 r.rest r.ends b.0 b.1;
    }

name_stands : (cs : List ℕ) (o : Option ℕ) → quoted_len 34 false cs ≡ o → Stands (34 ∷ cs) (quoted_found_of kinds.QuotedName o)
name_stands cs None e = inr (inl (cs, refl))
name_stands cs (Some n) e =
    let r = quoted_of 34 cs n e in
    record {
      word = 34 ∷ closed 34 r.content;
      rest = r.rest;
      split = ap (λ (l : List ℕ). 34 ∷ l) r.split;
      long = omega (arith, r.long);
      some = omega arith;
      is_word = (r.content, refl);
      ends = λ b. begins_not 34 r.rest r.ends b.0 b.1;
    }

single_stands : (c n : ℕ) (cs : List ℕ) (kind : TokenKind) → IsWord kind (n ∷ []) → ((b : List ℕ) → Ends kind b) → eqb c n ≡ true → TokenFront (c ∷ cs) kind 1
single_stands c n cs kind is_word ends e = record {
  word = n ∷ [];
  rest = cs;
  split = ap (λ (x : ℕ). x ∷ cs) (eqb-true c n e);
  long = refl;
  some = omega arith;
  is_word = is_word;
  ends = ends cs;
}

pair_stands : (n : ℕ) (cs : List ℕ) (kind : TokenKind) → IsWord kind (n ∷ 61 ∷ []) → ((b : List ℕ) → Ends kind b) → eqb (get_or cs 0 0) 61 ≡ true → TokenFront (n ∷ cs) kind 2
pair_stands n [] kind is_word ends e = absurd (false≢true e)
pair_stands n (d ∷ ds) kind is_word ends e = record {
  word = n ∷ 61 ∷ [];
  rest = ds;
  split = ap (λ (x : ℕ). n ∷ x ∷ ds) (eqb-true d 61 e);
  long = refl;
  some = omega arith;
  is_word = is_word;
  ends = ends ds;
}

symbol_stands : (n : ℕ) (cs : List ℕ) (alone : Found) (kind : TokenKind) → IsWord kind (n ∷ 61 ∷ []) → ((b : List ℕ) → Ends kind b) → Stands (n ∷ cs) alone → Stands (n ∷ cs) (symbol_found cs alone kind)
symbol_stands n cs alone kind is_word ends one =
    choose (Stands (n ∷ cs)) (eqb (get_or cs 0 0) 61) (found.Token kind 2) alone (pair_stands n cs kind is_word ends) (λ _. one)

symbols_stand : (c : ℕ) (cs : List ℕ) → Stands (c ∷ cs) (single_found c)
symbols_stand c cs =
    let P = Stands (c ∷ cs) in
    choose P (eqb c 40) _ _ (single_stands c 40 cs kinds.OpenParenthesis refl (λ _. tt)) (λ _.
    choose P (eqb c 41) _ _ (single_stands c 41 cs kinds.CloseParenthesis refl (λ _. tt)) (λ _.
    choose P (eqb c 123) _ _ (single_stands c 123 cs kinds.OpenBrace refl (λ _. tt)) (λ _.
    choose P (eqb c 125) _ _ (single_stands c 125 cs kinds.CloseBrace refl (λ _. tt)) (λ _.
    choose P (eqb c 44) _ _ (single_stands c 44 cs kinds.Comma refl (λ _. tt)) (λ _.
    choose P (eqb c 46) _ _ (single_stands c 46 cs kinds.Dot refl (λ _. tt)) (λ _.
    choose P (eqb c 59) _ _ (single_stands c 59 cs kinds.Semicolon refl (λ _. tt)) (λ _.
    choose P (eqb c 58) _ _ (single_stands c 58 cs kinds.Colon refl (λ _. tt)) (λ _.
    choose P (eqb c 63) _ _ (single_stands c 63 cs kinds.QuestionMark refl (λ _. tt)) (λ _.
    choose P (eqb c 42) _ _ (single_stands c 42 cs kinds.Star refl (λ _. tt)) (λ _.
    choose P (eqb c 61) _ found.Nothing (single_stands c 61 cs kinds.Equal refl (λ _. tt)) (λ _. tt)))))))))))

blank_at : (c n : ℕ) → eqb c n ≡ true → c ∷ [] ≡ n ∷ []
blank_at c n e = ap (λ (x : ℕ). x ∷ []) (eqb-true c n e)

blank_stands : (c : ℕ) (cs : List ℕ) → is_blank c ≡ true → GapFront (c ∷ cs) 1
blank_stands c cs e = record {
  gap = c ∷ [];
  rest = cs;
  split = refl;
  long = refl;
  some = omega arith;
  is_gap =
      inl
      (by_bool (eqb c 32) (λ f. inl (blank_at c 32 f)) (λ f.
      by_bool (eqb c 9) (λ g. inr (inl (blank_at c 9 g))) (λ g.
      by_bool (eqb c 13) (λ h. inr (inr (inl (blank_at c 13 h)))) (λ h.
      inr (inr (inr (blank_at c 10 (last (eqb c 32) (eqb c 9) (eqb c 13) (eqb c 10) f g h e))))))));
}
  where
    last : (x y z w : Bool) → x ≡ false → y ≡ false → z ≡ false → (((x || y) || z) || w) ≡ true → w ≡ true
    last true y z w a b d e = absurd (false≢true (sym a))
    last false true z w a b d e = absurd (false≢true (sym b))
    last false false true w a b d e = absurd (false≢true (sym d))
    last false false false w a b d e = e

mark_stands : (c : ℕ) (cs : List ℕ) → Stands (c ∷ cs) (mark_found c cs)
mark_stands c cs =
    let P = Stands (c ∷ cs) in
    let at = λ (n : ℕ) (f : Found) (here : Stands (n ∷ cs) f) (e : eqb c n ≡ true). subst (λ (x : ℕ). Stands (x ∷ cs) f) (sym (eqb-true c n e)) here in
    choose P (is_blank c) _ _ (blank_stands c cs) (λ _.
    choose P (eqb c 45) _ _ (at 45 (minus_found cs) (minus_stands cs)) (λ _.
    choose P (eqb c 47) _ _ (at 47 (slash_found cs) (slash_stands cs)) (λ _.
    choose P (eqb c 39) _ _ (at 39 (quoted_found_of kinds.Str (quoted_len 39 false cs)) (string_stands cs (quoted_len 39 false cs) refl)) (λ _.
    choose P (eqb c 34) _ _ (at 34 (quoted_found_of kinds.QuotedName (quoted_len 34 false cs)) (name_stands cs (quoted_len 34 false cs) refl)) (λ _.
    choose P (eqb c 60) _ _ (at 60 (symbol_found cs (found.Token kinds.Less 1) kinds.LessOrEqual) (symbol_stands 60 cs (found.Token kinds.Less 1) kinds.LessOrEqual refl (λ _. tt) (single_stands 60 60 cs kinds.Less refl (λ _. tt) refl))) (λ _.
    choose P (eqb c 62) _ _ (at 62 (symbol_found cs (found.Token kinds.Greater 1) kinds.GreaterOrEqual) (symbol_stands 62 cs (found.Token kinds.Greater 1) kinds.GreaterOrEqual refl (λ _. tt) (single_stands 62 62 cs kinds.Greater refl (λ _. tt) refl))) (λ _.
    choose P (eqb c 33) _ (single_found c) (at 33 (symbol_found cs found.Nothing kinds.NotEqual) (symbol_stands 33 cs found.Nothing kinds.NotEqual refl (λ _. tt) tt)) (λ _. symbols_stand c cs))))))))

uuid_stands : (text : List ℕ) → front_fits uuid_shape text ≡ true → TokenFront text kinds.Uuid 36
uuid_stands text e =
    let r = shaped_of uuid_shape text e in
    record { word = r.word; rest = r.rest; split = r.split; long = r.long; some = omega arith; is_word = r.fits_it; ends = tt }

pub found_stands : (text : List ℕ) → Stands text (found_of text)
found_stands [] = tt
found_stands (c ∷ cs) =
    let P = Stands (c ∷ cs) in
    choose P (front_fits uuid_shape (c ∷ cs)) (found.Token kinds.Uuid 36) _ (uuid_stands (c ∷ cs)) (λ _.
    choose P (is_ascii_alphabetic c) (found.Token kinds.Word (1 + run classes.Word cs)) _ (word_stands c cs) (λ _.
    choose P (is_ascii_digit c) (number_found c cs) (mark_found c cs) (number_stands c cs) (λ _. mark_stands c cs)))

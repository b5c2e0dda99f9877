-- A word at the front of a text is found there, or a longer one.
use Rattle.std.proofs.Common.{◌≡◌, ◌⊎◌, ◌<◌, ◌≤◌, ◌+◌, ℕ, suc, Bool, true, false, cond, eqb, ltb, leb, ltb-true, ltb-false, leb-true, ◌&&◌, ◌||◌, List, [], ◌∷◌, ◌++◌, length, get_or, Option, Some, None, arith, refl, sym, ap, ◌∙◌, subst, inl, inr, eqb-true}
use Rattle.std.specs.Prelude.{option_map}
use Rattle.std.specs.Char.{is_ascii_digit, is_ascii_alphabetic}
use Rattle.std.specs.List.{list_all}
use Rattle.std.specs.Int.{is_in_range}
use Rattle.std.proofs.lemmas.Bool.{false≢true, false_from_ne_true, and_from, and_parts, cond-true, cond-false}
use Rattle.cql_tokens.specs.Words.{is_word_byte, uuid_shape, AreDigits, ArePairs, IsBlob, IsName, IsQuoted, IsUuid, IsWhole, IsWord}
use Rattle.cql_tokens.specs.Tokens.{Begins, Ends}
use Rattle.cql_tokens.specs.Scanning.{blob_len, found_of, front_fits, mark_found, number_found, quoted_found as quoted_found_of, quoted_len, run, symbol_found}
use Rattle.cql_tokens.specs.declared.token.TokenKind.{TokenKind}
use Rattle.cql_tokens.specs.declared.token.TokenKind.TheVariants as kinds
use Rattle.cql_tokens.specs.declared.words.Class.TheVariants as classes
use Rattle.cql_tokens.specs.declared.found.Found.{Found}
use Rattle.cql_tokens.specs.declared.found.Found.TheVariants as found
use Rattle.cql_tokens.proofs.Runs.{by_bool, closed, run_longest, pairs_longest, quoted_found, shape_found, before_hyphen}
use Rattle.cql_tokens.proofs.Fronts.{choose}

-- What is found where a word of the kind and of this length is a front: it, or what is longer. A text in quotes may go on,
-- if a quote follows.
abbrev pub Covers : TokenKind → ℕ → List ℕ → Found → Type 0
Covers kind len rest (found.Gap n) = ⊥
Covers kind len rest (found.Token other n) = (len < n) ⊎ ((len ≡ n) × (other ≡ kind))
Covers kind len rest found.Unclosed = Ends kind rest → ⊥
Covers kind len rest found.Nothing = ⊥

covered : (kind : TokenKind) (len n : ℕ) (rest : List ℕ) → len ≤ n → Covers kind len rest (found.Token kind n)
covered kind len n rest h =
    by_bool (ltb len n)
    (λ e. inl (ltb-true len n e))
    (λ e. let least : n ≤ len = ltb-false len n e in inr (omega (arith, h, least), refl))

-- ---- names

pub letter_goes_on : (c : ℕ) → is_ascii_alphabetic c ≡ true → is_word_byte c ≡ true
letter_goes_on c e = go (is_in_range 48 57 c) (is_in_range 65 90 c) (is_in_range 97 122 c) (eqb c 95) e
  where
    go : (d u l x : Bool) → (u || l) ≡ true → (((d || u) || l) || x) ≡ true
    go true u l x e = refl
    go false true l x e = refl
    go false false true x e = refl
    go false false false x e = absurd (false≢true e)

covers_name : (word rest : List ℕ) → IsName word → Covers kinds.Word (length word) rest (found_of (word ++ rest))
covers_name [] rest h = absurd h
covers_name (c ∷ cs) rest h =
    let P = Covers kinds.Word (length (c ∷ cs)) rest in
    choose P (front_fits uuid_shape (c ∷ cs ++ rest)) (found.Token kinds.Uuid 36) _
    (λ e. inl (before_hyphen classes.Word (c ∷ cs) rest e (and_from (is_word_byte c) (list_all is_word_byte cs) (letter_goes_on c h.0) h.1) refl))
    (λ _. subst P (sym (cond-true (is_ascii_alphabetic c) (found.Token kinds.Word (1 + run classes.Word (cs ++ rest))) _ h.0))
    (covered kinds.Word (length (c ∷ cs)) (1 + run classes.Word (cs ++ rest)) rest (let most = run_longest classes.Word cs rest h.1 in omega (arith, most))))

-- ---- numbers

digit_range : (c : ℕ) → is_ascii_digit c ≡ true → (48 ≤ c) × (c ≤ 57)
digit_range c e = let parts = and_parts (leb 48 c) (leb c 57) e in (leb-true 48 c parts.0, leb-true c 57 parts.1)

not_in : (low high c : ℕ) → c < low → is_in_range low high c ≡ false
not_in low high c h =
    false_from_ne_true (is_in_range low high c) (λ e. let least : low ≤ c = leb-true low c (and_parts (leb low c) (leb c high) e).0 in absurd (omega (arith, h, least)))

no_letter : (c : ℕ) → c < 65 → is_ascii_alphabetic c ≡ false
no_letter c h = (λ i. not_in 65 90 c h i || not_in 97 122 c (omega (arith, h)) i)

not_one : (c n : ℕ) → (c ≡ n → ⊥) → eqb c n ≡ false
not_one c n h = false_from_ne_true (eqb c n) (λ e. h (eqb-true c n e))

-- no x follows a digit among digits
no_blob : (cs rest : List ℕ) → list_all is_ascii_digit cs ≡ true → 0 < length cs → ((eqb (get_or (cs ++ rest) 0 0) 120) || (eqb (get_or (cs ++ rest) 0 0) 88)) ≡ false
no_blob [] rest all some = absurd (omega (arith, some))
no_blob (d ∷ ds) rest all some =
    let r = digit_range d (and_parts (is_ascii_digit d) (list_all is_ascii_digit ds) all).0 in
    λ i. not_one d 120 (λ e. omega (arith, r.1, e)) i || not_one d 88 (λ e. omega (arith, r.1, e)) i

covers_number : (c : ℕ) (cs rest : List ℕ) → list_all is_ascii_digit cs ≡ true → Covers kinds.Whole (length (c ∷ cs)) rest (number_found c (cs ++ rest))
covers_number c cs rest all =
    let P = Covers kinds.Whole (length (c ∷ cs)) rest in
    let x = (eqb (get_or (cs ++ rest) 0 0) 120) || (eqb (get_or (cs ++ rest) 0 0) 88) in
    choose P (eqb c 48 && x) _ (found.Token kinds.Whole (1 + run classes.Digit (cs ++ rest)))
    (λ e.
    by_bool (ltb 0 (length cs))
    (λ f. absurd (false≢true (sym (no_blob cs rest all (ltb-true 0 (length cs) f)) ∙ (and_parts (eqb c 48) x e).1)))
    (λ f. let few : length cs ≤ 0 = ltb-false 0 (length cs) f in inl (omega (arith, few))))
    (λ _. covered kinds.Whole (length (c ∷ cs)) (1 + run classes.Digit (cs ++ rest)) rest (let most = run_longest classes.Digit cs rest all in omega (arith, most)))

covers_digits : (word rest : List ℕ) → AreDigits word → Covers kinds.Whole (length word) rest (found_of (word ++ rest))
covers_digits [] rest h = absurd h
covers_digits (c ∷ cs) rest h =
    let P = Covers kinds.Whole (length (c ∷ cs)) rest in
    let parts = and_parts (is_ascii_digit c) (list_all is_ascii_digit cs) h in
    let r = digit_range c parts.0 in
    choose P (front_fits uuid_shape (c ∷ cs ++ rest)) (found.Token kinds.Uuid 36) _
    (λ e. inl (before_hyphen classes.Digit (c ∷ cs) rest e h refl))
    (λ _. subst P (sym (cond-false (is_ascii_alphabetic c) _ (cond (is_ascii_digit c) (number_found c (cs ++ rest)) (mark_found c (cs ++ rest))) (no_letter c (omega (arith, r.1)))))
    (subst P (sym (cond-true (is_ascii_digit c) (number_found c (cs ++ rest)) (mark_found c (cs ++ rest)) parts.0)) (covers_number c cs rest parts.1)))

covers_negative : (digits rest : List ℕ) → AreDigits digits → Covers kinds.Whole (length (45 ∷ digits)) rest (found_of (45 ∷ digits ++ rest))
covers_negative [] rest h = absurd h
covers_negative (d ∷ ds) rest h =
    let P = Covers kinds.Whole (length (45 ∷ d ∷ ds)) rest in
    let digit = (and_parts (is_ascii_digit d) (list_all is_ascii_digit ds) h).0 in
    let r = digit_range d digit in
    let number = found.Token kinds.Whole (1 + run classes.Digit (d ∷ ds ++ rest)) in
    subst P (sym (cond-false (eqb d 45) _ (cond (is_ascii_digit d) number found.Nothing) (not_one d 45 (λ e. omega (arith, r.0, e)))))
    (subst P (sym (cond-true (is_ascii_digit d) number found.Nothing digit))
    (covered kinds.Whole (length (45 ∷ d ∷ ds)) (1 + run classes.Digit (d ∷ ds ++ rest)) rest (let most = run_longest classes.Digit (d ∷ ds) rest h in omega (arith, most))))

covers_whole : (word rest : List ℕ) → IsWhole word → Covers kinds.Whole (length word) rest (found_of (word ++ rest))
covers_whole word rest (inl digits) = covers_digits word rest digits
covers_whole word rest (inr h) = subst (λ (w : List ℕ). Covers kinds.Whole (length w) rest (found_of (w ++ rest))) (sym h.2) (covers_negative h.0 rest h.1)

-- ---- blobs and uuids

blob_covered : (digits rest : List ℕ) → ArePairs digits → Covers kinds.Blob (suc (suc (length digits))) rest (found.Token kinds.Blob (blob_len (run classes.Hexadecimal (digits ++ rest))))
blob_covered digits rest pairs =
    covered kinds.Blob (suc (suc (length digits))) (blob_len (run classes.Hexadecimal (digits ++ rest))) rest (let most = pairs_longest digits rest pairs in omega (arith, most))

covers_blob : (word rest : List ℕ) → IsBlob word → Covers kinds.Blob (length word) rest (found_of (word ++ rest))
covers_blob word rest (digits, pairs, inl is) = subst (λ (w : List ℕ). Covers kinds.Blob (length w) rest (found_of (w ++ rest))) (sym is) (blob_covered digits rest pairs)
covers_blob word rest (digits, pairs, inr is) = subst (λ (w : List ℕ). Covers kinds.Blob (length w) rest (found_of (w ++ rest))) (sym is) (blob_covered digits rest pairs)

covers_uuid : (word rest : List ℕ) → IsUuid word → Covers kinds.Uuid (length word) rest (found_of (word ++ rest))
covers_uuid [] rest h = absurd (false≢true h)
covers_uuid (c ∷ cs) rest h =
    let s = shape_found uuid_shape (c ∷ cs) rest h in
    subst (Covers kinds.Uuid (length (c ∷ cs)) rest) (sym (cond-true (front_fits uuid_shape (c ∷ cs ++ rest)) (found.Token kinds.Uuid 36) _ s.0)) (inr (s.1, refl))

-- ---- texts in quotes

goes_on : (kind : TokenKind) (len : ℕ) (rest : List ℕ) (o : Option ℕ) → (Ends kind rest → ⊥) → Covers kind (suc len) rest (quoted_found_of kind (option_map (λ (n : ℕ). len + n) (option_map suc o)))
goes_on kind len rest None more = more
goes_on kind len rest (Some n) more = inl (omega arith)

quoted_covers : (q : ℕ) (kind : TokenKind) (len : ℕ) (rest : List ℕ) → (Ends kind rest → Begins (q ∷ []) rest → ⊥) → Covers kind (suc len) rest (quoted_found_of kind (option_map (λ (n : ℕ). len + n) (quoted_len q true rest)))
quoted_covers q kind len [] ends = inr (omega arith, refl)
quoted_covers q kind len (c ∷ cs) ends =
    let P = λ (o : Option ℕ). Covers kind (suc len) (c ∷ cs) (quoted_found_of kind (option_map (λ (n : ℕ). len + n) o)) in
    let more = option_map suc (quoted_len q false cs) in
    by_bool (eqb c q)
    (λ e. subst P (sym (cond-true (eqb c q) more (Some 0) e)) (goes_on kind len (c ∷ cs) (quoted_len q false cs) (λ done. ends done (cs, ap (λ (x : ℕ). x ∷ cs) (eqb-true c q e)))))
    (λ e. subst P (sym (cond-false (eqb c q) more (Some 0) e)) (inr (omega arith, refl)))

covers_string : (word rest : List ℕ) → IsQuoted 39 word → Covers kinds.Str (length word) rest (found_of (word ++ rest))
covers_string word rest (content, is) =
    subst (λ (w : List ℕ). Covers kinds.Str (length w) rest (found_of (w ++ rest))) (sym is)
    (subst (λ (o : Option ℕ). Covers kinds.Str (suc (length (closed 39 content))) rest (quoted_found_of kinds.Str o)) (sym (quoted_found 39 content rest))
    (quoted_covers 39 kinds.Str (length (closed 39 content)) rest (λ ends. ends)))

covers_quoted_name : (word rest : List ℕ) → IsQuoted 34 word → Covers kinds.QuotedName (length word) rest (found_of (word ++ rest))
covers_quoted_name word rest (content, is) =
    subst (λ (w : List ℕ). Covers kinds.QuotedName (length w) rest (found_of (w ++ rest))) (sym is)
    (subst (λ (o : Option ℕ). Covers kinds.QuotedName (suc (length (closed 34 content))) rest (quoted_found_of kinds.QuotedName o)) (sym (quoted_found 34 content rest))
    (quoted_covers 34 kinds.QuotedName (length (closed 34 content)) rest (λ ends. ends)))

-- ---- symbols

before_equal : (kind with_equal : TokenKind) (rest : List ℕ) → Covers kind 1 rest (symbol_found rest (found.Token kind 1) with_equal)
before_equal kind with_equal rest = choose (Covers kind 1 rest) (eqb (get_or rest 0 0) 61) (found.Token with_equal 2) (found.Token kind 1) (λ _. inl (omega arith)) (λ _. inr (refl, refl))

covers_same : (kind : TokenKind) (word text rest : List ℕ) → word ≡ text → Covers kind (length text) rest (found_of (text ++ rest)) → Covers kind (length word) rest (found_of (word ++ rest))
covers_same kind word text rest is h = subst (λ (w : List ℕ). Covers kind (length w) rest (found_of (w ++ rest))) (sym is) h

pub covers : (kind : TokenKind) (word rest : List ℕ) → IsWord kind word → Covers kind (length word) rest (found_of (word ++ rest))
covers kinds.Word word rest h = covers_name word rest h
covers kinds.QuotedName word rest h = covers_quoted_name word rest h
covers kinds.Str word rest h = covers_string word rest h
covers kinds.Whole word rest h = covers_whole word rest h
covers kinds.Blob word rest h = covers_blob word rest h
covers kinds.Uuid word rest h = covers_uuid word rest h
covers kinds.OpenParenthesis word rest h = covers_same kinds.OpenParenthesis word (40 ∷ []) rest h (inr (refl, refl))
covers kinds.CloseParenthesis word rest h = covers_same kinds.CloseParenthesis word (41 ∷ []) rest h (inr (refl, refl))
covers kinds.OpenBrace word rest h = covers_same kinds.OpenBrace word (123 ∷ []) rest h (inr (refl, refl))
covers kinds.CloseBrace word rest h = covers_same kinds.CloseBrace word (125 ∷ []) rest h (inr (refl, refl))
covers kinds.Comma word rest h = covers_same kinds.Comma word (44 ∷ []) rest h (inr (refl, refl))
covers kinds.Dot word rest h = covers_same kinds.Dot word (46 ∷ []) rest h (inr (refl, refl))
covers kinds.Semicolon word rest h = covers_same kinds.Semicolon word (59 ∷ []) rest h (inr (refl, refl))
covers kinds.Colon word rest h = covers_same kinds.Colon word (58 ∷ []) rest h (inr (refl, refl))
covers kinds.QuestionMark word rest h = covers_same kinds.QuestionMark word (63 ∷ []) rest h (inr (refl, refl))
covers kinds.Star word rest h = covers_same kinds.Star word (42 ∷ []) rest h (inr (refl, refl))
covers kinds.Equal word rest h = covers_same kinds.Equal word (61 ∷ []) rest h (inr (refl, refl))
covers kinds.NotEqual word rest h = covers_same kinds.NotEqual word (33 ∷ 61 ∷ []) rest h (inr (refl, refl))
covers kinds.Less word rest h = covers_same kinds.Less word (60 ∷ []) rest h (before_equal kinds.Less kinds.LessOrEqual rest)
covers kinds.LessOrEqual word rest h = covers_same kinds.LessOrEqual word (60 ∷ 61 ∷ []) rest h (inr (refl, refl))
covers kinds.Greater word rest h = covers_same kinds.Greater word (62 ∷ []) rest h (before_equal kinds.Greater kinds.GreaterOrEqual rest)
covers kinds.GreaterOrEqual word rest h = covers_same kinds.GreaterOrEqual word (62 ∷ 61 ∷ []) rest h (inr (refl, refl))

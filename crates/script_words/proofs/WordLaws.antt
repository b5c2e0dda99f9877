-- The words of a line, from the steps that find them.
use Rattle.std.proofs.Math.Seq.{drop-cons}
use Rattle.std.proofs.Common.{map, ◌++◌, append_assoc, ◌≡◌, ◌≢◌, ℕ, ◌+◌, ◌-◌, ◌<◌, take, drop, add-one, Bool, true, false, not, List, [], ◌∷◌, Some, length, filter, cond, get_or, refl, sym, ◌∙◌, ap, eqb, ◌==◌, Bor}
use Rattle.std.specs.Prelude.{ℤ, ◌&&◌}
use Rattle.std.specs.List.{slice_split, list_all}
use Rattle.std.specs.Str.Lossy.{utf8_valid_len}
use Rattle.std.proofs.lemmas.Bool.{and_from, and_parts, eq-eqb, ne_eqb, not_from_false, cond-true}
use Rattle.std.specs.Str.{bytes_eq}
use Rattle.script_words.specs.Words.{is_text, is_well_formed, words_in, words_of, signed_value, without_spaces, behind}
use Rattle.script_words.specs.Texts.{texts_of}

pub well_formed_line : (line : List ℕ) → utf8_valid_len line ≡ length line → get_or line 0 0 ≢ 32 → get_or line (length line - 1) 0 ≢ 32 → is_well_formed line ≡ true
well_formed_line line text first last =
    let a = eqb (utf8_valid_len line) (length line) in
    let b = not (eqb (get_or line 0 0) 32) in
    let c = not (eqb (get_or line (length line - 1) 0) 32) in
    and_from (a && b) c
    (and_from a b (eq-eqb (utf8_valid_len line) (length line) text) (not_from_false (eqb (get_or line 0 0) 32) (ne_eqb (get_or line 0 0) 32 first)))
    (not_from_false (eqb (get_or line (length line - 1) 0) 32) (ne_eqb (get_or line (length line - 1) 0) 32 last))

pub words_found : (line text : List ℕ) (words : List (Bor (List ℕ))) → text ≡ line → is_well_formed line ≡ true → texts_of words ≡ words_in text → Some (texts_of words) ≡ words_of line
words_found line text words same formed are =
    ap (λ (ws : List (List ℕ)). Some ws) (are ∙ ap words_in same) ∙ sym (cond-true (is_well_formed line) _ _ formed)

-- word i
abbrev pub word_at : List (Bor (List ℕ)) → ℕ → List ℕ
word_at ws i = (get_or ws i (record { ref_ptr = (0, 0); now = [] })).now

-- the words from word i on
texts_from : (ws : List (Bor (List ℕ))) (i : ℕ) → i < length ws → texts_of (drop i ws) ≡ word_at ws i ∷ texts_of (drop (i + 1) ws)
texts_from ws i within =
    ap texts_of (drop-cons ws i (record { ref_ptr = (0, 0); now = [] }) within) ∙ ap (λ (k : ℕ). word_at ws i ∷ texts_of (drop k ws)) (sym (add-one i))

-- the numbers of the words so far, and of one word more
pub read_more : (ws : List (Bor (List ℕ))) (i : ℕ) (tokens more : List ℤ) (token : ℤ) → i < length ws → more ≡ tokens ++ token ∷ [] → token ≡ signed_value (word_at ws i) → tokens ++ map signed_value (texts_of (drop i ws)) ≡ map signed_value (texts_of ws) → more ++ map signed_value (texts_of (drop (i + 1) ws)) ≡ map signed_value (texts_of ws)
read_more ws i tokens more token within pushed value before =
    let rest = map signed_value (texts_of (drop (i + 1) ws)) in
    ap (λ (xs : List ℤ). xs ++ rest) pushed ∙ append_assoc tokens (token ∷ []) rest ∙ ap (λ (t : ℤ). tokens ++ t ∷ rest) value
    ∙ ap (λ (texts : List (List ℕ)). tokens ++ map signed_value texts) (sym (texts_from ws i within)) ∙ before

-- a test of the words left, where the first of them passes it
pub passes_behind : (test : List ℕ → Bool) (ws : List (Bor (List ℕ))) (i : ℕ) → i < length ws → test (word_at ws i) ≡ true → list_all test (texts_of (drop i ws)) ≡ list_all test (texts_of (drop (i + 1) ws))
passes_behind test ws i within passes = ap (list_all test) (texts_from ws i within) ∙ ap (λ (b : Bool). b && list_all test (texts_of (drop (i + 1) ws))) passes

-- the first of the words left passes a test that all of them pass
pub passes_here : (test : List ℕ → Bool) (ws : List (Bor (List ℕ))) (i : ℕ) → i < length ws → list_all test (texts_of (drop i ws)) ≡ true → test (word_at ws i) ≡ true
passes_here test ws i within all = (and_parts (test (word_at ws i)) (list_all test (texts_of (drop (i + 1) ws))) (sym (ap (list_all test) (texts_from ws i within)) ∙ all)).0

-- ---- what stands behind the beginning of a line

pub behind_found : (beginning line rest text found : List ℕ) → bytes_eq (take (length beginning) line) beginning ≡ true → rest ≡ drop (length beginning) line → text ≡ rest → utf8_valid_len rest ≡ length rest → found ≡ without_spaces text → Some found ≡ behind beginning line
behind_found beginning line rest text found begins is same valid trimmed =
    let tail = drop (length beginning) line in
    let is_tail : is_text tail ≡ true = ap is_text (sym is) ∙ eq-eqb (utf8_valid_len rest) (length rest) valid in
    ap (λ (t : List ℕ). Some t) (trimmed ∙ ap without_spaces (same ∙ is))
    ∙ sym (cond-true (bytes_eq (take (length beginning) line) beginning && is_text tail) _ _ (and_from (bytes_eq (take (length beginning) line) beginning) (is_text tail) begins is_tail))

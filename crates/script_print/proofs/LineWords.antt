-- The words of a line, there and back.
use Rattle.std.proofs.Common.{◌≡◌, ◌⊎◌, inl, inr, ℕ, zero, suc, ◌<◌, ◌≤◌, ◌-◌, ◌+◌, Bool, true, false, not, List, [], ◌∷◌, ◌++◌, Option, Some, None, length, drop, filter, flat_map, cond, get_or, refl, sym, ◌∙◌, ap, subst, arith, eqb, IsUtf8, length-append, length-drop, append-nil, append_assoc}
use Rattle.std.specs.Prelude.{◌&&◌, ◌==◌, IfSome, slice_index}
use Rattle.std.specs.List.{list_all, onto_first, slice_split, position_or_len, AllByRecursion}
use Rattle.std.proofs.lemmas.Bool.{and_from, and_parts, cases_lt, cond-true, eqb-true, eqb-false, ne_eqb, not-true, not_from_false, cond_both}
use Rattle.std.proofs.lemmas.List.{get_or-append_right}
use Rattle.std.proofs.lemmas.List.Sums.{fails_before_first, passes_at_first}
use Rattle.std.proofs.lemmas.List.Splits.{slice_split_none, slice_split_at, slice_split_first}
use Rattle.std.proofs.lemmas.Str.{IsUtf8-append, IsUtf8-take, IsUtf8-drop, IsCharBoundary-before_ascii, IsCharBoundary-after_ascii}
use Rattle.script_words.specs.Words.{is_text, is_space, is_well_formed, words_of}
use Rattle.script_print.specs.Printed.{spaced, line_of_words}
use Rattle.script_print.proofs.Bytes.{lacks, lacks_both, lacks_all, text_is_utf8, utf8_is_text, ascii_is_utf8}

-- a word of a line: a text that is not empty, with no space and no line feed
pub record IsWord (word : List ℕ) : Type 0 where
  pub some : 0 < length word
  pub text : IsUtf8 word
  pub whole : lacks 32 word ≡ true
  pub inline : lacks 10 word ≡ true

abbrev pub AreWords : List (List ℕ) → Type 0
AreWords words = AllByRecursion IsWord words

-- ---- a line's words are words

-- the parts between spaces have no space
spaceless_onto : (b : ℕ) (parts : List (List ℕ)) (c : ℕ) → not (eqb b c) ≡ true → list_all (lacks c) parts ≡ true → list_all (lacks c) (onto_first b parts) ≡ true
spaceless_onto b [] c fresh h = and_from (not (eqb b c) && true) true (and_from (not (eqb b c)) true fresh refl) refl
spaceless_onto b (part ∷ parts) c fresh h =
    let both = and_parts (lacks c part) (list_all (lacks c) parts) h in
    and_from (not (eqb b c) && lacks c part) (list_all (lacks c) parts) (and_from (not (eqb b c)) (lacks c part) fresh both.0) both.1

parts_have_no_space : (line : List ℕ) → list_all (lacks 32) (slice_split is_space line) ≡ true
parts_have_no_space [] = refl
parts_have_no_space (b ∷ line) = by_test (eqb b 32) refl (parts_have_no_space line)
  where
    by_test : (t : Bool) → eqb b 32 ≡ t → list_all (lacks 32) (slice_split is_space line) ≡ true → list_all (lacks 32) (cond t ([] ∷ slice_split is_space line) (onto_first b (slice_split is_space line))) ≡ true
    by_test true space rest = rest
    by_test false other rest = spaceless_onto b (slice_split is_space line) 32 (not_from_false (eqb b 32) other) rest

-- and no byte that the line lacks
parts_lack : (c : ℕ) (line : List ℕ) → lacks c line ≡ true → list_all (lacks c) (slice_split is_space line) ≡ true
parts_lack c [] h = refl
parts_lack c (b ∷ line) h =
    let both = and_parts (not (eqb b c)) (lacks c line) h in
    let rest = parts_lack c line both.1 in
    cond_both (eqb b 32) ([] ∷ slice_split is_space line) (onto_first b (slice_split is_space line)) (λ (parts : List (List ℕ)). list_all (lacks c) parts ≡ true) (λ _. rest) (λ _. spaceless_onto b (slice_split is_space line) c both.0 rest)

-- and are texts
parts_are_texts : (bound : ℕ) (line : List ℕ) → length line < bound → IsUtf8 line → AllByRecursion IsUtf8 (slice_split is_space line)
parts_are_texts zero line short is = absurd (omega (arith, short))
parts_are_texts (suc bound) line short is = by_place (cases_lt place (length line)) (parts_are_texts bound (drop (place + 1) line))
  where
    place : ℕ
    place = position_or_len is_space line

    by_place : (place < length line) ⊎ (length line ≤ place) → (length (drop (place + 1) line) < bound → IsUtf8 (drop (place + 1) line) → AllByRecursion IsUtf8 (slice_split is_space (drop (place + 1) line))) → AllByRecursion IsUtf8 (slice_split is_space line)
    by_place (inl inside) rest =
        let space : get_or line place 0 ≡ 32 = eqb-true (get_or line place 0) 32 (passes_at_first is_space line 0 inside) in
        let shorter : length (drop (place + 1) line) ≡ length line - (place + 1) = length-drop (place + 1) line in
        subst (AllByRecursion IsUtf8) (sym (slice_split_first is_space line 0 inside))
        (IsUtf8-take line place is (IsCharBoundary-before_ascii line place inside (omega (arith, space))), rest (omega (arith, shorter, inside, short)) (IsUtf8-drop line (place + 1) is (IsCharBoundary-after_ascii line place is inside (omega (arith, space)))))
    by_place (inr none) rest =
        subst (AllByRecursion IsUtf8) (sym (slice_split_none is_space line (λ k d below. fails_before_first is_space line k d (omega (arith, below, none))))) (is, tt)

abbrev pub is_some_word : List ℕ → Bool
is_some_word w = not (length w == 0)

-- those that are not empty are words
kept_are_words : (parts : List (List ℕ)) → AllByRecursion IsUtf8 parts → list_all (lacks 32) parts ≡ true → list_all (lacks 10) parts ≡ true → AreWords (filter is_some_word parts)
kept_are_words [] texts whole inline = tt
kept_are_words (part ∷ parts) texts whole inline =
    let wholes = and_parts (lacks 32 part) (list_all (lacks 32) parts) whole in
    let inlines = and_parts (lacks 10 part) (list_all (lacks 10) parts) inline in
    let rest = kept_are_words parts texts.1 wholes.1 inlines.1 in
    cond_both (is_some_word part) (part ∷ filter is_some_word parts) (filter is_some_word parts) AreWords
    (λ some. (record { some = let long = eqb-false (length part) 0 (not-true (eqb (length part) 0) some) in omega (arith, long); text = texts.0; whole = wholes.0; inline = inlines.0 }, rest))
    (λ _. rest)

found_words : (line : List ℕ) (t : Bool) (words : List (List ℕ)) → (t ≡ true → AreWords (filter is_some_word (slice_split is_space line))) → cond t (Some (filter is_some_word (slice_split is_space line))) None ≡ Some words → AreWords words
found_words line true words are found = subst (λ (o : Option (List (List ℕ))). IfSome o AreWords) found (are refl)
found_words line false words are found = cc

pub words_are_words : (line : List ℕ) (words : List (List ℕ)) → lacks 10 line ≡ true → words_of line ≡ Some words → AreWords words
words_are_words line words inline found =
    let text = is_text line in
    let first = not (slice_index line 0 == 32) in
    let last = not (slice_index line (length line - 1) == 32) in
    found_words line (is_well_formed line) words
    (λ formed. kept_are_words (slice_split is_space line) (parts_are_texts (length line + 1) line (omega arith) (text_is_utf8 line (and_parts text first (and_parts (text && first) last formed).0).0)) (parts_have_no_space line) (parts_lack 10 line inline))
    found

-- ---- words that stand in a line are its words

-- the parts of a line of words
parts_back : (word : List ℕ) (words : List (List ℕ)) → IsWord word → AreWords words → slice_split is_space (line_of_words word words) ≡ word ∷ words
parts_back word [] is are = ap (slice_split is_space) (append-nil word) ∙ slice_split_none is_space word (lacks_all 32 word is.whole)
parts_back word (next ∷ words) is are =
    slice_split_at is_space word 32 (line_of_words next words) (lacks_all 32 word is.whole) refl ∙ ap (λ (parts : List (List ℕ)). word ∷ parts) (parts_back next words are.0 are.1)

all_kept : (words : List (List ℕ)) → AreWords words → filter is_some_word words ≡ words
all_kept [] are = refl
all_kept (word ∷ words) are =
    let long = are.0.some in
    cond-true (is_some_word word) (word ∷ filter is_some_word words) (filter is_some_word words) (not_from_false (eqb (length word) 0) (ne_eqb (length word) 0 (λ none. omega (arith, long, none))))
    ∙ ap (λ (ws : List (List ℕ)). word ∷ ws) (all_kept words are.1)

pub line_is_text : (word : List ℕ) (words : List (List ℕ)) → IsWord word → AreWords words → IsUtf8 (line_of_words word words)
line_is_text word [] is are = subst IsUtf8 (sym (append-nil word)) is.text
line_is_text word (next ∷ words) is are =
    IsUtf8-append word (32 ∷ line_of_words next words) is.text (IsUtf8-append (32 ∷ []) (line_of_words next words) (ascii_is_utf8 (32 ∷ []) refl) (line_is_text next words are.0 are.1))

pub line_is_inline : (word : List ℕ) (words : List (List ℕ)) → IsWord word → AreWords words → lacks 10 (line_of_words word words) ≡ true
line_is_inline word [] is are = ap (lacks 10) (append-nil word) ∙ is.inline
line_is_inline word (next ∷ words) is are = lacks_both 10 word (32 ∷ line_of_words next words) is.inline (line_is_inline next words are.0 are.1)

-- no byte of a word is a space
no_space_at : (word : List ℕ) (i : ℕ) → lacks 32 word ≡ true → i < length word → not (get_or word i 0 == 32) ≡ true
no_space_at word i whole inside = not_from_false (eqb (get_or word i 0) 32) (lacks_all 32 word whole i 0 inside)

pub first_is_no_space : (word rest : List ℕ) → IsWord word → not (get_or (word ++ rest) 0 0 == 32) ≡ true
first_is_no_space [] rest is = absurd (let some = is.some in omega (arith, some))
first_is_no_space (b ∷ word) rest is = no_space_at (b ∷ word) 0 is.whole is.some

longer : (word : List ℕ) (words : List (List ℕ)) → IsWord word → 0 < length (line_of_words word words)
longer word words is = let some = is.some in let sum : length (line_of_words word words) ≡ length word + length (flat_map spaced words) = length-append word (flat_map spaced words) in omega (arith, some, sum)

last_is_no_space : (word : List ℕ) (words : List (List ℕ)) → IsWord word → AreWords words → not (get_or (line_of_words word words) (length (line_of_words word words) - 1) 0 == 32) ≡ true
last_is_no_space word [] is are =
    let some = is.some in
    subst (λ (line : List ℕ). not (get_or line (length line - 1) 0 == 32) ≡ true) (sym (append-nil word)) (no_space_at word (length word - 1) is.whole (omega (arith, some)))
last_is_no_space word (next ∷ words) is are =
    let rest = line_of_words next words in
    let some = longer next words are.0 in
    let front : List ℕ = word ++ 32 ∷ [] in
    let parts : word ++ 32 ∷ rest ≡ front ++ rest = sym (append_assoc word (32 ∷ []) rest) in
    let sum : length (front ++ rest) ≡ length front + length rest = length-append front rest in
    let behind : get_or (front ++ rest) (length (front ++ rest) - 1) 0 ≡ get_or rest (length rest - 1) 0 =
    get_or-append_right front rest (length front) (length (front ++ rest) - 1) 0 refl (omega (arith, some, sum)) ∙ ap (λ (i : ℕ). get_or rest i 0) (omega (arith, some, sum)) in
    ap (λ (line : List ℕ). not (get_or line (length line - 1) 0 == 32)) parts ∙ ap (λ (b : ℕ). not (b == 32)) behind ∙ last_is_no_space next words are.0 are.1

pub words_back : (word : List ℕ) (words : List (List ℕ)) → IsWord word → AreWords words → words_of (line_of_words word words) ≡ Some (word ∷ words)
words_back word words is are =
    let line = line_of_words word words in
    let text = is_text line in
    let first = not (slice_index line 0 == 32) in
    let last = not (slice_index line (length line - 1) == 32) in
    cond-true (is_well_formed line) (Some (filter is_some_word (slice_split is_space line))) None
    (and_from (text && first) last (and_from text first (utf8_is_text line (line_is_text word words is are)) (first_is_no_space word (flat_map spaced words) is)) (last_is_no_space word words is are))
    ∙ ap (λ (parts : List (List ℕ)). Some (filter is_some_word parts)) (parts_back word words is are)
    ∙ ap (λ (ws : List (List ℕ)). Some ws) (all_kept (word ∷ words) (is, are))

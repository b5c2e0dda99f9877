-- How a text is cut behind its first word.
use Rattle.std.proofs.Common.{◌≡◌, ℕ, suc, ◌+◌, ◌<◌, ◌≤◌, Bool, true, false, not, cond, List, [], ◌∷◌, length, take, Option, Some, None, sym, subst, ◌∙◌, ap, arith, eqb, refl, nat_lt}
use Rattle.std.proofs.Math.Dec.{eqb-suc-zero}
use Rattle.std.specs.List.{All, slice_split, position_or_len, prefix_len, before_first, after_first}
use Rattle.std.proofs.lemmas.Bool.{ltb-true, ltb-false}
use Rattle.std.proofs.lemmas.List.{length-take}
use Rattle.std.proofs.lemmas.List.Splits.{slice_split_first, slice_split_none, slice_split_at}
use Rattle.std.proofs.lemmas.List.Sums.{fails_before_first}
use Rattle.std.proofs.lemmas.Option.{cond_some, none-some}
use Rattle.script_words.specs.Words.{some_of, words_in, is_space, without_spaces, first_word}

-- ---- spaces in front

nothing_before : All {X = ℕ} (λ c. eqb c 32 ≡ false) []
nothing_before k d below = absurd (omega (arith, below))

-- a space in front adds no word
space_gone : (b : ℕ) (bs : List ℕ) → eqb b 32 ≡ true → words_in (b ∷ bs) ≡ words_in bs
space_gone b bs is = ap some_of (slice_split_at (λ c. eqb c 32) [] b bs nothing_before is)

trimmed_by : (b : ℕ) (bs : List ℕ) (t : Bool) → eqb b 32 ≡ t → words_in (without_spaces bs) ≡ words_in bs → words_in (without_spaces (b ∷ bs)) ≡ words_in (b ∷ bs)
trimmed_by b bs true is same = ap words_in (ap (λ (c : Bool). cond c (without_spaces bs) (b ∷ bs)) is) ∙ (same ∙ sym (space_gone b bs is))
trimmed_by b bs false is same = ap words_in (ap (λ (c : Bool). cond c (without_spaces bs) (b ∷ bs)) is)

pub trimmed_words : (text : List ℕ) → words_in (without_spaces text) ≡ words_in text
trimmed_words [] = refl
trimmed_words (b ∷ bs) = trimmed_by b bs (eqb b 32) refl (trimmed_words bs)

trimmed_again : (b : ℕ) (bs : List ℕ) (t : Bool) → eqb b 32 ≡ t → without_spaces (without_spaces bs) ≡ without_spaces bs → without_spaces (without_spaces (b ∷ bs)) ≡ without_spaces (b ∷ bs)
trimmed_again b bs true is same =
    let here : without_spaces (b ∷ bs) ≡ without_spaces bs = ap (λ (c : Bool). cond c (without_spaces bs) (b ∷ bs)) is in
    ap without_spaces here ∙ (same ∙ sym here)
trimmed_again b bs false is same = ap without_spaces (ap (λ (c : Bool). cond c (without_spaces bs) (b ∷ bs)) is)

pub trimmed_once : (text : List ℕ) → without_spaces (without_spaces text) ≡ without_spaces text
trimmed_once [] = refl
trimmed_once (b ∷ bs) = trimmed_again b bs (eqb b 32) refl (trimmed_once bs)

shorter_by : (b : ℕ) (bs : List ℕ) (t : Bool) → eqb b 32 ≡ t → length (without_spaces bs) ≤ length bs → length (without_spaces (b ∷ bs)) ≤ length (b ∷ bs)
shorter_by b bs true is less = subst (λ (xs : List ℕ). length xs ≤ length (b ∷ bs)) (sym (ap (λ (c : Bool). cond c (without_spaces bs) (b ∷ bs)) is)) (omega (arith, less))
shorter_by b bs false is less = subst (λ (xs : List ℕ). length xs ≤ length (b ∷ bs)) (sym (ap (λ (c : Bool). cond c (without_spaces bs) (b ∷ bs)) is)) (omega arith)

trimmed_shorter : (text : List ℕ) → length (without_spaces text) ≤ length text
trimmed_shorter [] = omega arith
trimmed_shorter (b ∷ bs) = shorter_by b bs (eqb b 32) refl (trimmed_shorter bs)

-- what has no space in front begins with no space
first_is_none : (b : ℕ) (bs : List ℕ) (t : Bool) → eqb b 32 ≡ t → without_spaces (b ∷ bs) ≡ b ∷ bs → eqb b 32 ≡ false
first_is_none b bs false is same = is
first_is_none b bs true is same =
    let here : without_spaces (b ∷ bs) ≡ without_spaces bs = ap (λ (c : Bool). cond c (without_spaces bs) (b ∷ bs)) is in
    let long : length (b ∷ bs) ≤ length bs = subst (λ (xs : List ℕ). length xs ≤ length bs) (sym here ∙ same) (trimmed_shorter bs) in
    absurd (omega (arith, long))

-- ---- one word in front

word_first : (word : List ℕ) (words : List (List ℕ)) → 0 < length word → some_of (word ∷ words) ≡ word ∷ some_of words
word_first [] words some = absurd (omega (arith, some))
word_first (b ∷ bs) words some = ap (λ (t : Bool). cond (not t) ((b ∷ bs) ∷ some_of words) (some_of words)) (eqb-suc-zero (length bs))

some_taken : (n b : ℕ) (bs : List ℕ) → 0 < n → 0 < length (take n (b ∷ bs))
some_taken n b bs some = let long = length-take n (b ∷ bs) in omega (arith, some, long)

some_before : (b : ℕ) (bs : List ℕ) → eqb b 32 ≡ false → 0 < length (before_first is_space (b ∷ bs))
some_before b bs none =
    subst (λ (t : Bool). 0 < length (take (cond (not t) (1 + prefix_len (λ x. not (is_space x)) bs) 0) (b ∷ bs))) (sym none)
    (some_taken (1 + prefix_len (λ x. not (is_space x)) bs) b bs (omega arith))

cut_behind : (text : List ℕ) → 0 < length text → without_spaces text ≡ text → position_or_len is_space text < length text
    → words_in text ≡ before_first is_space text ∷ words_in (after_first is_space text)
cut_behind [] some same within = absurd (omega (arith, some))
cut_behind (b ∷ bs) some same within =
    ap some_of (slice_split_first is_space (b ∷ bs) 0 within)
    ∙ word_first (before_first is_space (b ∷ bs)) (slice_split is_space (after_first is_space (b ∷ bs))) (some_before b bs (first_is_none b bs (eqb b 32) refl same))

pub word_cut : (text w r : List ℕ) → 0 < length text → without_spaces text ≡ text → first_word text ≡ Some (w, r) → words_in text ≡ w ∷ words_in r
word_cut text w r some same found =
    let at = cond_some (nat_lt (position_or_len is_space text) (length text)) (before_first is_space text, without_spaces (after_first is_space text)) (w, r) found in
    let first : before_first is_space text ≡ w = ap (λ (x : List ℕ × List ℕ). x.0) at.1 in
    let rest : without_spaces (after_first is_space text) ≡ r = ap (λ (x : List ℕ × List ℕ). x.1) at.1 in
    cut_behind text some same (ltb-true (position_or_len is_space text) (length text) at.0)
    ∙ ap (λ (x : List ℕ). x ∷ words_in (after_first is_space text)) first
    ∙ ap (λ (xs : List (List ℕ)). w ∷ xs) (sym (trimmed_words (after_first is_space text)) ∙ ap words_in rest)

missed_by : (text : List ℕ) (x : List ℕ × List ℕ) (t : Bool) → nat_lt (position_or_len is_space text) (length text) ≡ t → cond t (Some x) None ≡ None → length text ≤ position_or_len is_space text
missed_by text x true is none = absurd (none-some x (sym none))
missed_by text x false is none = ltb-false (position_or_len is_space text) (length text) is

spaceless : (text : List ℕ) → length text ≤ position_or_len is_space text → All (λ b. eqb b 32 ≡ false) text
spaceless text none k d below = fails_before_first is_space text k d (omega (arith, below, none))

pub word_alone : (text : List ℕ) → 0 < length text → first_word text ≡ None → words_in text ≡ text ∷ []
word_alone text some none =
    let missed = missed_by text (before_first is_space text, without_spaces (after_first is_space text)) (nat_lt (position_or_len is_space text) (length text)) refl none in
    ap some_of (slice_split_none is_space text (spaceless text missed))
    ∙ word_first text [] some

-- a text without a byte has no word
pub none_in : (text : List ℕ) → length text ≡ 0 → words_in text ≡ []
none_in [] none = refl
none_in (b ∷ bs) none = absurd (omega (arith, none))

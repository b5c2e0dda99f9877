-- The words of a text, found one after another.
use Rattle.std.proofs.Common.{◌++◌, append_assoc, ◌≡◌, ◌≢◌, inl, inr, ℕ, ◌+◌, ◌-◌, ◌<◌, ◌≤◌, take, drop, false, not, List, [], ◌∷◌, length, get_or, refl, sym, subst, ◌∙◌, ap, arith, eqb, ◌==◌, IsUtf8}
use Rattle.std.specs.List.{All, slice_split}
use Rattle.std.specs.Str.{IsCharBoundary}
use Rattle.std.proofs.lemmas.Bool.{ne_eqb, cases_lt}
use Rattle.std.proofs.lemmas.List.{get_or-take, get_or-drop, get_or_default, length-take, length-drop, take-append-drop, drop-drop, drop_more}
use Rattle.std.proofs.lemmas.List.Elements.{filter-append}
use Rattle.std.proofs.lemmas.Str.{IsCharBoundary-start, IsCharBoundary-after_ascii}
use Rattle.std.proofs.lemmas.List.Splits.{slice_split_at, slice_split_none}
use Rattle.script_words.specs.Words.{some_of, words_in}

-- no space from one place on to another
abbrev pub IsSpaceless : List ℕ → ℕ → ℕ → Type 0
IsSpaceless text begin end = (k : ℕ) → begin ≤ k → k < end → get_or text k 0 ≢ 32

-- the words in front of one place were found, and the next begins there and has no end in front of the other place
pub record FoundTo (text : List ℕ) (words : List (List ℕ)) (begin at : ℕ) : Type 0 where
  pub within : begin ≤ at
  pub inside : begin ≤ length text
  pub boundary : IsCharBoundary text begin
  pub spaceless : IsSpaceless text begin at
  pub found : words ++ words_in (drop begin text) ≡ words_in text

piece_at : (text : List ℕ) (begin end k d : ℕ) → k < end - begin → begin + k < length text → get_or (take (end - begin) (drop begin text)) k d ≡ get_or text (begin + k) 0
piece_at text begin end k d within inside =
    get_or-take (end - begin) (drop begin text) k d within ∙ get_or-drop begin text k d ∙ get_or_default text (begin + k) d 0 inside

piece_is_whole : (text : List ℕ) (begin end : ℕ) → end ≤ length text → IsSpaceless text begin end → All (λ b. eqb b 32 ≡ false) (take (end - begin) (drop begin text))
piece_is_whole text begin end high none k d below =
    let long : length (take (end - begin) (drop begin text)) ≤ end - begin = omega (arith, length-take (end - begin) (drop begin text)) in
    let within : k < end - begin = omega (arith, below, long) in
    ap (λ (b : ℕ). eqb b 32) (piece_at text begin end k d within (omega (arith, within, high))) ∙ ne_eqb (get_or text (begin + k) 0) 32 (none (begin + k) (omega arith) (omega (arith, within)))

-- the text from one place on, cut at a space
cut_at : (text : List ℕ) (begin at : ℕ) → begin ≤ at → at < length text → get_or text at 0 ≡ 32 → drop begin text ≡ take (at - begin) (drop begin text) ++ 32 ∷ drop (at + 1) text
cut_at text begin at low inside space =
    let rest : drop (at - begin) (drop begin text) ≡ 32 ∷ drop (at + 1) text =
    drop-drop (at - begin) begin text ∙ (ap (λ (n : ℕ). drop n text) (omega (arith, low)) ∙ (drop_more text at 0 inside ∙ ap (λ (b : ℕ). b ∷ drop (at + 1) text) space)) in
    sym (take-append-drop (at - begin) (drop begin text)) ∙ ap (λ (xs : List ℕ). take (at - begin) (drop begin text) ++ xs) rest

first_of : (word : List ℕ) (words : List (List ℕ)) → some_of (word ∷ words) ≡ some_of (word ∷ []) ++ some_of words
first_of word words = filter-append (λ w. not (length w == 0)) (word ∷ []) words

-- behind a space
split_at : (text : List ℕ) (begin at : ℕ) → begin ≤ at → at < length text → get_or text at 0 ≡ 32 → IsSpaceless text begin at
    → words_in (drop begin text) ≡ some_of (take (at - begin) (drop begin text) ∷ []) ++ words_in (drop (at + 1) text)
split_at text begin at low inside space none =
    let word = take (at - begin) (drop begin text) in
    ap words_in (cut_at text begin at low inside space)
    ∙ ap some_of (slice_split_at (λ b. eqb b 32) word 32 (drop (at + 1) text) (piece_is_whole text begin at (omega (arith, inside)) none) refl)
    ∙ first_of word (slice_split (λ b. eqb b 32) (drop (at + 1) text))

pub more_words : (text word : List ℕ) (words more : List (List ℕ)) (begin at : ℕ) → at < length text → get_or text at 0 ≡ 32 → word ≡ take (at - begin) (drop begin text) → more ≡ words ++ some_of (word ∷ [])
    → FoundTo text words begin at → more ++ words_in (drop (at + 1) text) ≡ words_in text
more_words text word words more begin at inside space is pushed before =
    let rest = words_in (drop (at + 1) text) in
    ap (λ (ws : List (List ℕ)). ws ++ rest) (pushed ∙ ap (λ (w : List ℕ). words ++ some_of (w ∷ [])) is)
    ∙ append_assoc words (some_of (take (at - begin) (drop begin text) ∷ [])) rest
    ∙ ap (λ (ws : List (List ℕ)). words ++ ws) (sym (split_at text begin at before.within inside space before.spaceless))
    ∙ before.found

-- the last word
pub last_word : (text word : List ℕ) (words more : List (List ℕ)) (begin : ℕ) → word ≡ drop begin text → more ≡ words ++ some_of (word ∷ []) → FoundTo text words begin (length text) → more ≡ words_in text
last_word text word words more begin is pushed before =
    let all : All (λ b. eqb b 32 ≡ false) (drop begin text) = rest_is_whole in
    pushed ∙ ap (λ (w : List ℕ). words ++ some_of (w ∷ [])) is
    ∙ ap (λ (ws : List (List ℕ)). words ++ some_of ws) (sym (slice_split_none (λ b. eqb b 32) (drop begin text) all))
    ∙ before.found
  where
    rest_is_whole : All (λ b. eqb b 32 ≡ false) (drop begin text)
    rest_is_whole k d below =
        let inside : begin + k < length text = omega (arith, below, length-drop begin text) in
        ap (λ (b : ℕ). eqb b 32) (get_or-drop begin text k d ∙ get_or_default text (begin + k) d 0 inside) ∙ ne_eqb (get_or text (begin + k) 0) 32 (before.spaceless (begin + k) (omega arith) inside)

-- ---- steps

pub none_found : (text : List ℕ) (words : List (List ℕ)) → IsUtf8 text → words ≡ [] → FoundTo text words 0 0
none_found text words is none = record {
  within = omega arith;
  inside = omega arith;
  boundary = IsCharBoundary-start text is;
  spaceless = λ k low high. absurd (omega (arith, high));
  found = ap (λ (ws : List (List ℕ)). ws ++ words_in text) none;
}

pub past_space : (text word : List ℕ) (words more : List (List ℕ)) (begin at next : ℕ) → IsUtf8 text → at < length text → get_or text at 0 ≡ 32 → word ≡ take (at - begin) (drop begin text) → more ≡ words ++ some_of (word ∷ []) → next ≡ at + 1
    → FoundTo text words begin at → FoundTo text more next (at + 1)
past_space text word words more begin at next is inside space cut pushed stands before =
    subst (λ (n : ℕ). FoundTo text more n (at + 1)) (sym stands) (record {
      within = omega arith;
      inside = omega (arith, inside);
      boundary = IsCharBoundary-after_ascii text at is inside (omega (arith, space));
      spaceless = λ k low high. absurd (omega (arith, low, high));
      found = more_words text word words more begin at inside space cut pushed before;
    })

spaceless_more : (text : List ℕ) (begin at : ℕ) → IsSpaceless text begin at → get_or text at 0 ≢ 32 → IsSpaceless text begin (at + 1)
spaceless_more text begin at none here k low high = elim (cases_lt k at) [
  | inl below ↦ none k low below
  | inr above ↦ λ space. here (ap (λ (i : ℕ). get_or text i 0) (omega (arith, above, high)) ∙ space)
]

pub past_other : (text : List ℕ) (words more : List (List ℕ)) (begin at next : ℕ) → get_or text at 0 ≢ 32 → more ≡ words → next ≡ begin → FoundTo text words begin at → FoundTo text more next (at + 1)
past_other text words more begin at next here same stands before =
    subst (λ (ws : List (List ℕ)). FoundTo text ws next (at + 1)) (sym same) (subst (λ (n : ℕ). FoundTo text words n (at + 1)) (sym stands) (record {
      within = let low = before.within in omega (arith, low);
      inside = before.inside;
      boundary = before.boundary;
      spaceless = spaceless_more text begin at before.spaceless here;
      found = before.found;
    }))

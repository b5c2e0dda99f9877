-- The first line of a text, and the lines behind it.
use Rattle.std.proofs.Common.{◌≡◌, ◌≢◌, ℕ, zero, suc, ◌<◌, List, [], ◌∷◌, length, get_or, take, drop, eqb, ◌∙◌, ap, arith}
use Rattle.std.proofs.lemmas.Bool.{eq-eqb, ne_eqb, cond-true, cond-false}
use Rattle.script_words.specs.Words.{lines_of, onto_first}

-- behind the line feed at i
pub lines_at : (text : List ℕ) (i : ℕ) → i < length text → get_or text i 0 ≡ 10 → ((k : ℕ) → k < i → get_or text k 0 ≢ 10) → lines_of text ≡ take i text ∷ lines_of (drop (suc i) text)
lines_at [] i inside feed before = absurd (omega (arith, inside))
lines_at (b ∷ bs) zero inside feed before = cond-true (eqb b 10) ([] ∷ lines_of bs) (onto_first b (lines_of bs)) (eq-eqb b 10 feed)
lines_at (b ∷ bs) (suc i) inside feed before =
    let rest : lines_of bs ≡ take i bs ∷ lines_of (drop (suc i) bs) = lines_at bs i (omega (arith, inside)) feed (λ k below. before (suc k) (omega (arith, below))) in
    cond-false (eqb b 10) ([] ∷ lines_of bs) (onto_first b (lines_of bs)) (ne_eqb b 10 (before 0 (omega arith))) ∙ ap (onto_first b) rest

-- with no line feed
pub lines_alone : (text : List ℕ) → 0 < length text → ((k : ℕ) → k < length text → get_or text k 0 ≢ 10) → lines_of text ≡ text ∷ []
lines_alone [] some none = absurd (omega (arith, some))
lines_alone (b ∷ []) some none = cond-false (eqb b 10) ([] ∷ []) (onto_first b []) (ne_eqb b 10 (none 0 (omega arith)))
lines_alone (b ∷ c ∷ bs) some none =
    let rest : lines_of (c ∷ bs) ≡ (c ∷ bs) ∷ [] = lines_alone (c ∷ bs) (omega arith) (λ k below. none (suc k) (omega (arith, below))) in
    cond-false (eqb b 10) ([] ∷ lines_of (c ∷ bs)) (onto_first b (lines_of (c ∷ bs))) (ne_eqb b 10 (none 0 (omega arith))) ∙ ap (onto_first b) rest

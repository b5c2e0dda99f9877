-- One after another of a list, and counts that rose.
use Rattle.std.proofs.Common.{◌≡◌, ℕ, ◌+◌, ◌<◌, List, [], ◌∷◌, ◌++◌, length, sym, ap, ◌∙◌, arith, append-nil, append_assoc}
use Rattle.std.proofs.lemmas.List.{length-append}

pub next_split : {X : Type 0} (all front it rest : List X) (x : X) → front ++ it ≡ all → it ≡ x ∷ rest → (front ++ x ∷ []) ++ rest ≡ all
next_split {X} all front it rest x split next = append_assoc front (x ∷ []) rest ∙ ap (λ (xs : List X). front ++ xs) (sym next) ∙ split

pub next_count : {X : Type 0} (front : List X) (x : X) (n : ℕ) → n ≡ length front → n + 1 ≡ length (front ++ x ∷ [])
next_count front x n count = let e = length-append front (x ∷ []) in omega (arith, e, count)

pub next_room : {X : Type 0} (all front it rest : List X) (x : X) → front ++ it ≡ all → it ≡ x ∷ rest → length front < length all
next_room {X} all front it rest x split next =
    let whole : length all ≡ length front + length (x ∷ rest) = ap length (sym split) ∙ length-append front it ∙ ap (λ (xs : List X). length front + length xs) next in
    omega (arith, whole)

none_left : {X : Type 0} (xs : List X) → length xs ≡ 0 → xs ≡ []
none_left [] e = append-nil []
none_left (x ∷ xs) e = cc

pub all_passed : {X : Type 0} (all front it : List X) → front ++ it ≡ all → length it ≡ 0 → front ≡ all
all_passed {X} all front it split none = sym (append-nil front) ∙ ap (λ (xs : List X). front ++ xs) (sym (none_left it none)) ∙ split

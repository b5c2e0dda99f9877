-- Turns one after another.
use Rattle.std.proofs.Common.{◌≡◌, ℕ, true, false, List, [], ◌∷◌, ◌++◌, Option, Some, None, IfSome, refl, sym, ◌∙◌, ap, subst}
use Rattle.source_lines.specs.Lines.{behind_line, is_some_left, GivesLine, LosesPart}
use Rattle.served_console.specs.Turns.{TakesLines, Closing, AtFlag, AtInputEnd, AtReadFault, ReadsTo}

pub lines_then : (left mid rest : List ℕ) (xs ys : List (List ℕ)) → TakesLines left xs mid → TakesLines mid ys rest → TakesLines left (xs ++ ys) rest
lines_then left mid rest [] ys h k = subst (λ (l : List ℕ). TakesLines l ys rest) (sym h) k
lines_then left mid rest (x ∷ xs) ys h k = (h.0, h.1, lines_then (behind_line left) mid rest xs ys h.2 k)

-- what was read of an input that may tell nothing
abbrev pub Reads : Option (List ℕ) → List (List ℕ) → Option (List ℕ) → Type 0
Reads o lines o' = IfSome o (λ left. (mid : List ℕ) × TakesLines left lines mid × (o' ≡ Some mid))

abbrev pub ReadsUp : Closing → Option (List ℕ) → List (List ℕ) → List ℕ → Option (List ℕ) → Type 0
ReadsUp closing o lines line o' = IfSome o (λ left. ReadsTo closing lines left line o')

pub reads_none : (o : Option (List ℕ)) → Reads o [] o
reads_none None = tt
reads_none (Some left) = (left, refl, refl)

in_mid : (mid : List ℕ) (o o' : Option (List ℕ)) (lines : List (List ℕ)) → o ≡ Some mid → Reads o lines o' → (rest : List ℕ) × TakesLines mid lines rest × (o' ≡ Some rest)
in_mid mid o o' lines is h = subst (λ (k : Option (List ℕ)). Reads k lines o') is h

pub reads_then : (o mid o' : Option (List ℕ)) (xs ys : List (List ℕ)) → Reads o xs mid → Reads mid ys o' → Reads o (xs ++ ys) o'
reads_then None mid o' xs ys h k = tt
reads_then (Some left) mid o' xs ys h k =
    let r = in_mid h.0 mid o' ys h.2 k in (r.0, lines_then left h.0 r.0 xs ys h.1 r.1, r.2)

up_to : (closing : Closing) (mid : List ℕ) (o o' : Option (List ℕ)) (lines : List (List ℕ)) (line : List ℕ) → o ≡ Some mid → ReadsUp closing o lines line o' → ReadsTo closing lines mid line o'
up_to closing mid o o' lines line is h = subst (λ (k : Option (List ℕ)). ReadsUp closing k lines line o') is h

pub reads_up : (closing : Closing) (o mid o' : Option (List ℕ)) (xs ys : List (List ℕ)) (line : List ℕ) → Reads o xs mid → ReadsUp closing mid ys line o' → ReadsUp closing o (xs ++ ys) line o'
reads_up closing None mid o' xs ys line h k = tt
reads_up closing (Some left) mid o' xs ys line h k =
    let r = up_to closing h.0 mid o' ys line h.2 k in (r.0, lines_then left h.0 r.0 xs ys h.1 r.1, r.2)

-- ---- one line

pub reads_line : (o o' : Option (List ℕ)) (line : List ℕ) → IfSome o (λ left. GivesLine true left line o') → Reads o (line ∷ []) o'
reads_line None o' line g = tt
reads_line (Some left) o' line g = (behind_line left, (sym g.found_is, g.line_is, refl), g.rest_is)

none_left : (left : List ℕ) → false ≡ is_some_left left → left ≡ []
none_left [] e = refl
none_left (b ∷ bs) e = cc

pub reads_end : (o o' : Option (List ℕ)) (line last : List ℕ) → IfSome o (λ left. GivesLine false left line o') → ReadsUp AtInputEnd o [] last o'
reads_end None o' line last g = tt
reads_end (Some left) o' line last g =
    let none = none_left left g.found_is in ([], none, (refl, g.rest_is ∙ ap (λ (l : List ℕ). Some (behind_line l)) none))

pub reads_fault : (o o' : Option (List ℕ)) (line : List ℕ) → IfSome o (λ left. LosesPart left line o') → ReadsUp AtReadFault o [] line o'
reads_fault None o' line g = tt
reads_fault (Some left) o' line g = (left, refl, g)

pub reads_still : (o : Option (List ℕ)) (line : List ℕ) → ReadsUp AtFlag o [] line o
reads_still None line = tt
reads_still (Some left) line = (left, refl, refl)

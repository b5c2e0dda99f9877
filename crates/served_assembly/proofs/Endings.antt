-- What a loop has made when nothing is left of what it goes over.
use Rattle.std.proofs.Common.{◌≡◌, List, [], ◌∷◌, ◌++◌, length, map, refl, sym, ap, ◌∙◌, append-nil, arith}

pub none_left : {A : Type 0} (xs : List A) → length xs ≡ 0 → xs ≡ []
none_left [] none = refl
none_left (x ∷ xs) none = absurd (omega (arith, none))

pub maps_end : {A B : Type 0} (f : A → B) (whole : List B) (rest : List A) (made : List B) → made ++ map f rest ≡ whole → length rest ≡ 0 → made ≡ whole
maps_end {A} f whole rest made was none = sym (append-nil made) ∙ ap (λ (l : List A). made ++ map f l) (sym (none_left rest none)) ∙ was

-- One element more of a front, through a map and a filter.
use Rattle.std.proofs.Common.{◌≡◌, ◌+◌, ◌<◌, ℕ, Bool, List, [], ◌∷◌, ◌++◌, length, get_or, take, map, filter, ap, ◌∙◌}
use Rattle.std.proofs.lemmas.List.{map-append}
use Rattle.std.proofs.lemmas.List.Elements.{filter-append}
use Rattle.cs_base.proofs.Members.{front_more}

pub map_front : {X Y : Type 0} (f : X → Y) (xs : List X) (i : ℕ) (x : X) → i < length xs → x ≡ get_or xs i x → map f (take (i + 1) xs) ≡ map f (take i xs) ++ f x ∷ []
map_front {X} {Y} f xs i x lt is = ap (λ (ys : List X). map f ys) (front_more xs i x lt is) ∙ map-append f (take i xs) (x ∷ [])

pub filter_front : {X : Type 0} (keep : X → Bool) (xs : List X) (i : ℕ) (x : X) → i < length xs → x ≡ get_or xs i x → filter keep (take (i + 1) xs) ≡ filter keep (take i xs) ++ filter keep (x ∷ [])
filter_front {X} keep xs i x lt is = ap (λ (ys : List X). filter keep ys) (front_more xs i x lt is) ∙ filter-append keep (take i xs) (x ∷ [])

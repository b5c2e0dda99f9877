-- Lists that loops go over, and maps over lists.
use Rattle.std.proofs.Common.{◌≡◌, ℕ, ◌<◌, ◌+◌, List, [], ◌∷◌, ◌++◌, length, map, drop, get_or, refl, sym, ◌∙◌, ap, subst}
use Rattle.std.proofs.lemmas.List.{drop_more}
use Rattle.item_groups.specs.Zips.{AllZip3}
use Rattle.item_groups.proofs.ZipLaws.{Makes3}

-- what is behind a place begins with the item there
pub next_at : {A : Type 0} (xs : List A) (i : ℕ) (x : A) → i < length xs → x ≡ get_or xs i x → drop i xs ≡ x ∷ drop (i + 1) xs
next_at {A} xs i x less is = drop_more xs i x less ∙ ap (λ (y : A). y ∷ drop (i + 1) xs) (sym is)

-- a loop over two lists that has made nothing yet
pub start3 : {A B C : Type 0} (R : A → B → C → Type 0) (xs : List A) (ys ry : List B) (made : List C) → ry ≡ ys → made ≡ [] → Makes3 R xs ys xs ry made
start3 {B} {C} R xs ys ry made same none more h = subst (λ (l : List B). AllZip3 R xs l (made ++ more)) same (subst (λ (m : List C). AllZip3 R xs ry (m ++ more)) (sym none) h)

pub map_of_map : {A B C : Type 0} (f : A → B) (g : B → C) (xs : List A) → map g (map f xs) ≡ map (λ (x : A). g (f x)) xs
map_of_map f g [] = refl
map_of_map {A} {B} {C} f g (x ∷ xs) = ap (λ (l : List C). g (f x) ∷ l) (map_of_map f g xs)

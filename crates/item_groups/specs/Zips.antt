-- Three lists, place by place.
use Rattle.std.specs.Prelude.{List, [], ◌∷◌}

-- R holds of the items of three lists, place by place
abbrev pub AllZip3 : {A B C : Type 0} → (A → B → C → Type 0) → List A → List B → List C → Type 0
AllZip3 R [] [] [] = Unit {0}
AllZip3 R [] [] (z ∷ zs) = ⊥
AllZip3 R [] (y ∷ ys) zs = ⊥
AllZip3 R (x ∷ xs) [] zs = ⊥
AllZip3 R (x ∷ xs) (y ∷ ys) [] = ⊥
AllZip3 R (x ∷ xs) (y ∷ ys) (z ∷ zs) = R x y z × AllZip3 R xs ys zs

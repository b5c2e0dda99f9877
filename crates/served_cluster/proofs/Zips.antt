-- Two lists beside each other.
use Rattle.std.proofs.Common.{◌≡◌, suc, List, [], ◌∷◌, length, map, refl, ap}
use Rattle.std.specs.List.{AllByRecursion, AllZip}

module _ {A B : Type 0} (P : A → B → Type 0) where
  -- each pair has this too, where something is made of the second
  pub zip_map : {C : Type 0} (f : B → C) (Q : A → C → Type 0) → ((x : A) (y : B) → P x y → Q x (f y)) → (xs : List A) (ys : List B) → AllZip P xs ys → AllZip Q xs (map f ys)
  zip_map f Q g [] [] all = tt
  zip_map f Q g [] (y ∷ ys) all = absurd all
  zip_map f Q g (x ∷ xs) [] all = absurd all
  zip_map f Q g (x ∷ xs) (y ∷ ys) all = (g x y all.0, zip_map f Q g xs ys all.1)

  pub zip_to : (Q : A → B → Type 0) → ((x : A) (y : B) → P x y → Q x y) → (xs : List A) (ys : List B) → AllZip P xs ys → AllZip Q xs ys
  zip_to Q g [] [] all = tt
  zip_to Q g [] (y ∷ ys) all = absurd all
  zip_to Q g (x ∷ xs) [] all = absurd all
  zip_to Q g (x ∷ xs) (y ∷ ys) all = (g x y all.0, zip_to Q g xs ys all.1)

  -- the same is made of both
  pub zip_same : {C : Type 0} (f : A → C) (h : B → C) → ((x : A) (y : B) → P x y → h y ≡ f x) → (xs : List A) (ys : List B) → AllZip P xs ys → map h ys ≡ map f xs
  zip_same f h g [] [] all = refl
  zip_same f h g [] (y ∷ ys) all = absurd all
  zip_same f h g (x ∷ xs) [] all = absurd all
  zip_same f h g (x ∷ xs) (y ∷ ys) all = (λ i. g x y all.0 i ∷ zip_same f h g xs ys all.1 i)

  -- what is so of the one list is so of the other
  pub zip_on : (Q : A → Type 0) (S : B → Type 0) → ((x : A) (y : B) → P x y → Q x → S y) → (xs : List A) (ys : List B) → AllZip P xs ys → AllByRecursion Q xs → AllByRecursion S ys
  zip_on Q S g [] [] all q = tt
  zip_on Q S g [] (y ∷ ys) all q = absurd all
  zip_on Q S g (x ∷ xs) [] all q = absurd all
  zip_on Q S g (x ∷ xs) (y ∷ ys) all q = (g x y all.0 q.0, zip_on Q S g xs ys all.1 q.1)

  pub zip_back : (Q : A → Type 0) (S : B → Type 0) → ((x : A) (y : B) → P x y → S y → Q x) → (xs : List A) (ys : List B) → AllZip P xs ys → AllByRecursion S ys → AllByRecursion Q xs
  zip_back Q S g [] [] all s = tt
  zip_back Q S g [] (y ∷ ys) all s = absurd all
  zip_back Q S g (x ∷ xs) [] all s = absurd all
  zip_back Q S g (x ∷ xs) (y ∷ ys) all s = (g x y all.0 s.0, zip_back Q S g xs ys all.1 s.1)

  pub zip_long : (xs : List A) (ys : List B) → AllZip P xs ys → length ys ≡ length xs
  zip_long [] [] all = refl
  zip_long [] (y ∷ ys) all = absurd all
  zip_long (x ∷ xs) [] all = absurd all
  zip_long (x ∷ xs) (y ∷ ys) all = ap suc (zip_long xs ys all.1)

pub map_map : {A B C : Type 0} (f : B → C) (g : A → B) (xs : List A) → map f (map g xs) ≡ map (λ x. f (g x)) xs
map_map f g [] = refl
map_map f g (x ∷ xs) = ap (λ l. f (g x) ∷ l) (map_map f g xs)

pub map_long : {A B : Type 0} (f : A → B) (xs : List A) → length (map f xs) ≡ length xs
map_long f [] = refl
map_long f (x ∷ xs) = ap suc (map_long f xs)

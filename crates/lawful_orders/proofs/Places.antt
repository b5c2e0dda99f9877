-- Places of lists, by number.
use Rattle.std.proofs.Common.{◌≡◌, ℕ, zero, suc, ◌<◌, Some, List, [], ◌∷◌, ◌++◌, length, refl, ap, arith}
use Rattle.std.specs.Prelude.{slice_get, slice_set, map}
use Rattle.cs_base.proofs.Slots.{some_one}

pub get_below : {X : Type 0} (xs : List X) (k : ℕ) → k < length xs → (x : X) × (slice_get xs k ≡ Some x)
get_below [] k below = absurd (omega (arith, below))
get_below (x ∷ xs) zero below = (x, refl)
get_below (x ∷ xs) (suc k) below = get_below xs k (omega (arith, below))

pub get_within : {X : Type 0} (xs : List X) (k : ℕ) (x : X) → slice_get xs k ≡ Some x → k < length xs
get_within [] k x at = cc
get_within (y ∷ ys) zero x at = omega arith
get_within (y ∷ ys) (suc k) x at = let h = get_within ys k x at in omega (arith, h)

pub get_from_map : {X Y : Type 0} (f : X → Y) (xs : List X) (k : ℕ) (y : Y) → slice_get (map f xs) k ≡ Some y → (x : X) × (slice_get xs k ≡ Some x) × (f x ≡ y)
get_from_map f [] k y at = cc
get_from_map f (x ∷ xs) zero y at = (x, refl, some_one at)
get_from_map f (x ∷ xs) (suc k) y at = get_from_map f xs k y at

pub length_map : {X Y : Type 0} (f : X → Y) (xs : List X) → length (map f xs) ≡ length xs
length_map f [] = refl
length_map f (x ∷ xs) = ap suc (length_map f xs)

pub length_set : {X : Type 0} (xs : List X) (k : ℕ) (x : X) → length (slice_set xs k x) ≡ length xs
length_set [] k x = refl
length_set (y ∷ ys) zero x = refl
length_set (y ∷ ys) (suc k) x = ap suc (length_set ys k x)

pub front_get : {X : Type 0} (front : List X) (x : X) (rest : List X) → slice_get (front ++ x ∷ rest) (length front) ≡ Some x
front_get [] x rest = refl
front_get (y ∷ ys) x rest = front_get ys x rest

pub front_set : {X : Type 0} (front : List X) (x : X) (rest : List X) (y : X) → slice_set (front ++ x ∷ rest) (length front) y ≡ front ++ y ∷ rest
front_set [] x rest y = refl
front_set {X} (z ∷ zs) x rest y = ap (λ (l : List X). z ∷ l) (front_set zs x rest y)

-- Lists, place by place.
use Rattle.std.proofs.Common.{◌≡◌, ℕ, zero, suc, List, [], ◌∷◌, Option, None, Some, length, map, refl, sym, ◌∙◌, ap, subst, arith}
use Rattle.std.specs.List.{AllZip, slice_get}
use Rattle.item_groups.specs.Zips.{AllZip3}

none-some : {A : Type 0} (x : A) → None ≡ Some x → ⊥
none-some x e = cc

some-same : {A : Type 0} (x y : A) → Some x ≡ Some y → x ≡ y
some-same x y e = cc

-- where something stands at a place of a list, something does at this place of a list that is as long
pub there : {A B : Type 0} (xs : List A) (ys : List B) (k : ℕ) (x : A) → slice_get xs k ≡ Some x → length ys ≡ length xs → (y : B) × (slice_get ys k ≡ Some y)
there [] ys k x here long = absurd (none-some x here)
there (z ∷ xs) [] k x here long = absurd (omega (arith, long))
there (z ∷ xs) (y ∷ ys) zero x here long = (y, refl)
there (z ∷ xs) (y ∷ ys) (suc k) x here long = there xs ys k x here (omega (arith, long))

pub maps-at : {A B C : Type 0} (f : A → C) (g : B → C) (xs : List A) (ys : List B) (k : ℕ) (x : A) (y : B) → map f xs ≡ map g ys → slice_get xs k ≡ Some x → slice_get ys k ≡ Some y → f x ≡ g y
maps-at f g [] ys k x y same here here' = absurd (none-some x here)
maps-at f g (a ∷ xs) [] k x y same here here' = absurd (none-some y here')
maps-at f g (a ∷ xs) (b ∷ ys) zero x y same here here' =
    let head : f a ≡ g b = cc in ap f (sym (some-same a x here)) ∙ head ∙ ap g (some-same b y here')
maps-at f g (a ∷ xs) (b ∷ ys) (suc k) x y same here here' = let tail : map f xs ≡ map g ys = cc in maps-at f g xs ys k x y tail here here'

module _ {A B : Type 0} (R : A → B → Type 0) where
  pub zip2-long : (xs : List A) (ys : List B) → AllZip R xs ys → length ys ≡ length xs
  zip2-long [] [] h = refl
  zip2-long [] (y ∷ ys) h = absurd h
  zip2-long (x ∷ xs) [] h = absurd h
  zip2-long (x ∷ xs) (y ∷ ys) h = ap suc (zip2-long xs ys h.1)

  pub zip2-at : (xs : List A) (ys : List B) (k : ℕ) (x : A) (y : B) → AllZip R xs ys → slice_get xs k ≡ Some x → slice_get ys k ≡ Some y → R x y
  zip2-at [] ys k x y h here here' = absurd (none-some x here)
  zip2-at (a ∷ xs) [] k x y h here here' = absurd h
  zip2-at (a ∷ xs) (b ∷ ys) zero x y h here here' =
      subst (λ (u : A). R u y) (some-same a x here) (subst (λ (v : B). R a v) (some-same b y here') h.0)
  zip2-at (a ∷ xs) (b ∷ ys) (suc k) x y h here here' = zip2-at xs ys k x y h.1 here here'

  pub zip2-by : (xs : List A) (ys : List B) → length ys ≡ length xs → ((k : ℕ) (x : A) (y : B) → slice_get xs k ≡ Some x → slice_get ys k ≡ Some y → R x y) → AllZip R xs ys
  zip2-by [] [] long f = tt
  zip2-by [] (y ∷ ys) long f = absurd (omega (arith, long))
  zip2-by (x ∷ xs) [] long f = absurd (omega (arith, long))
  zip2-by (x ∷ xs) (y ∷ ys) long f = (f 0 x y refl refl, zip2-by xs ys (omega (arith, long)) (λ k a b. f (suc k) a b))

module _ {A B C : Type 0} (R : A → B → C → Type 0) where
  pub zip3-at : (xs : List A) (ys : List B) (zs : List C) (k : ℕ) (x : A) (y : B) (z : C) → AllZip3 R xs ys zs → slice_get xs k ≡ Some x → slice_get ys k ≡ Some y → slice_get zs k ≡ Some z → R x y z
  zip3-at [] ys zs k x y z h here here' here'' = absurd (none-some x here)
  zip3-at (a ∷ xs) [] zs k x y z h here here' here'' = absurd h
  zip3-at (a ∷ xs) (b ∷ ys) [] k x y z h here here' here'' = absurd h
  zip3-at (a ∷ xs) (b ∷ ys) (c ∷ zs) zero x y z h here here' here'' =
      subst (λ (u : A). R u y z) (some-same a x here) (subst (λ (v : B). R a v z) (some-same b y here') (subst (λ (w : C). R a b w) (some-same c z here'') h.0))
  zip3-at (a ∷ xs) (b ∷ ys) (c ∷ zs) (suc k) x y z h here here' here'' = zip3-at xs ys zs k x y z h.1 here here' here''

  pub zip3-by : (xs : List A) (ys : List B) (zs : List C) → length ys ≡ length xs → length zs ≡ length xs
      → ((k : ℕ) (x : A) (y : B) (z : C) → slice_get xs k ≡ Some x → slice_get ys k ≡ Some y → slice_get zs k ≡ Some z → R x y z) → AllZip3 R xs ys zs
  zip3-by [] [] [] long long' f = tt
  zip3-by [] [] (z ∷ zs) long long' f = absurd (omega (arith, long'))
  zip3-by [] (y ∷ ys) zs long long' f = absurd (omega (arith, long))
  zip3-by (x ∷ xs) [] zs long long' f = absurd (omega (arith, long))
  zip3-by (x ∷ xs) (y ∷ ys) [] long long' f = absurd (omega (arith, long'))
  zip3-by (x ∷ xs) (y ∷ ys) (z ∷ zs) long long' f = (f 0 x y z refl refl refl, zip3-by xs ys zs (omega (arith, long)) (omega (arith, long')) (λ k a b c. f (suc k) a b c))

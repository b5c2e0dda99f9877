-- Lists, place by place.
use Rattle.std.proofs.Common.{◌≡◌, ℕ, zero, suc, Some, List, [], ◌∷◌, length, map, refl, ap, subst}
use Rattle.std.specs.Prelude.{slice_get}
use Rattle.std.specs.List.{AllByRecursion}
use Rattle.cs_base.proofs.Slots.{some_one}
use Rattle.item_groups.specs.Zips.{AllZip3}

pub all_at : {X : Type 0} (P : X → Type 0) (xs : List X) (k : ℕ) (x : X) → AllByRecursion P xs → slice_get xs k ≡ Some x → P x
all_at P [] k x all at = cc
all_at P (y ∷ xs) zero x all at = subst P (some_one at) all.0
all_at P (y ∷ xs) (suc k) x all at = all_at P xs k x all.1 at

pub get_map : {X Y : Type 0} (f : X → Y) (xs : List X) (k : ℕ) (x : X) → slice_get xs k ≡ Some x → slice_get (map f xs) k ≡ Some (f x)
get_map f [] k x at = cc
get_map {X} {Y} f (y ∷ xs) zero x at = ap (λ (z : X). Some (f z)) (some_one at)
get_map f (y ∷ xs) (suc k) x at = get_map f xs k x at

-- of three lists, what stands at one place
pub record AtPlace {A B C : Type 0} (P : A → B → C → Type 0) (xs : List A) (ys : List B) (k : ℕ) (z : C) : Type 0 where
  pub one : A
  pub one_at : slice_get xs k ≡ Some one
  pub two : B
  pub two_at : slice_get ys k ≡ Some two
  pub holds : P one two z

pub zip3_at : {A B C : Type 0} (P : A → B → C → Type 0) (xs : List A) (ys : List B) (zs : List C) → AllZip3 P xs ys zs → (k : ℕ) (z : C) → slice_get zs k ≡ Some z → AtPlace P xs ys k z
zip3_at P [] [] [] all k z at = cc
zip3_at P [] [] (c ∷ zs) all k z at = absurd all
zip3_at P [] (b ∷ ys) zs all k z at = absurd all
zip3_at P (a ∷ xs) [] zs all k z at = absurd all
zip3_at P (a ∷ xs) (b ∷ ys) [] all k z at = absurd all
zip3_at {A} {B} {C} P (a ∷ xs) (b ∷ ys) (c ∷ zs) all zero z at = record { one = a; one_at = refl; two = b; two_at = refl; holds = subst (λ (x : C). P a b x) (some_one at) all.0 }
zip3_at P (a ∷ xs) (b ∷ ys) (c ∷ zs) all (suc k) z at =
    let rest = zip3_at P xs ys zs all.1 k z at in record { one = rest.one; one_at = rest.one_at; two = rest.two; two_at = rest.two_at; holds = rest.holds }

pub zip3_long : {A B C : Type 0} (P : A → B → C → Type 0) (xs : List A) (ys : List B) (zs : List C) → AllZip3 P xs ys zs → length zs ≡ length xs
zip3_long P [] [] [] all = refl
zip3_long P [] [] (c ∷ zs) all = absurd all
zip3_long P [] (b ∷ ys) zs all = absurd all
zip3_long P (a ∷ xs) [] zs all = absurd all
zip3_long P (a ∷ xs) (b ∷ ys) [] all = absurd all
zip3_long P (a ∷ xs) (b ∷ ys) (c ∷ zs) all = ap suc (zip3_long P xs ys zs all.1)

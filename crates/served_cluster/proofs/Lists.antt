-- Lists, place by place, and what tests of their items tell.
use Rattle.std.proofs.Common.{◌≡◌, ℕ, zero, suc, ◌+◌, ◌<◌, Bool, true, false, ◌||◌, cond, Some, None, List, [], ◌∷◌, length, map, refl, sym, subst, ◌∙◌, arith}
use Rattle.std.specs.List.{AllByRecursion, AllZip, list_any, position, position_from, slice_get}
use Rattle.std.proofs.lemmas.Bool.{true≢false}
use Rattle.std.proofs.lemmas.Iterator.Adapters.{position_from-zero}
use Rattle.std.proofs.lemmas.List.Quantifiers.{position-Some}
use Rattle.std.proofs.lemmas.Option.{slice_get-get_or}

nothing : {A : Type 0} (x : A) → None ≡ Some x → ⊥
nothing x e = cc

same_item : {A : Type 0} (x y : A) → Some x ≡ Some y → x ≡ y
same_item x y e = cc

pub within : {A : Type 0} (xs : List A) (k : ℕ) (x : A) → slice_get xs k ≡ Some x → k < length xs
within [] k x at = absurd (nothing x at)
within (y ∷ xs) zero x at = omega arith
within (y ∷ xs) (suc k) x at = let lt = within xs k x at in omega (arith, lt)

module _ {A : Type 0} (P : A → Type 0) where
  pub all_at : (xs : List A) (k : ℕ) (x : A) → AllByRecursion P xs → slice_get xs k ≡ Some x → P x
  all_at [] k x all at = absurd (nothing x at)
  all_at (y ∷ xs) zero x all at = subst P (same_item y x at) all.0
  all_at (y ∷ xs) (suc k) x all at = all_at xs k x all.1 at

  pub all_by : (xs : List A) → ((k : ℕ) (x : A) → slice_get xs k ≡ Some x → P x) → AllByRecursion P xs
  all_by [] f = tt
  all_by (x ∷ xs) f = (f 0 x refl, all_by xs (λ k y at. f (suc k) y at))

pub all_of_map : {A B : Type 0} (f : A → B) (P : B → Type 0) (xs : List A) → AllByRecursion P (map f xs) → AllByRecursion (λ x. P (f x)) xs
all_of_map f P [] all = tt
all_of_map f P (x ∷ xs) all = (all.0, all_of_map f P xs all.1)

pub all_and : {A : Type 0} (P Q R : A → Type 0) → ((x : A) → P x → Q x → R x) → (xs : List A) → AllByRecursion P xs → AllByRecursion Q xs → AllByRecursion R xs
all_and P Q R f [] p q = tt
all_and P Q R f (x ∷ xs) p q = (f x p.0 q.0, all_and P Q R f xs p.1 q.1)

-- ---- tests

module _ {A : Type 0} (f : A → Bool) where
  any_cases : (x : A) (xs : List A) (b : Bool) → f x ≡ b → (b || list_any f xs) ≡ true → (list_any f xs ≡ true → (k : ℕ) × (y : A) × (slice_get xs k ≡ Some y) × (f y ≡ true))
      → (k : ℕ) × (y : A) × (slice_get (x ∷ xs) k ≡ Some y) × (f y ≡ true)
  any_cases x xs true here is more = (0, x, refl, here)
  any_cases x xs false here is more = let r = more is in (suc r.0, r.1, r.2, r.3)

  -- an item passes
  pub any_at : (xs : List A) → list_any f xs ≡ true → (k : ℕ) × (x : A) × (slice_get xs k ≡ Some x) × (f x ≡ true)
  any_at [] is = absurd (true≢false (sym is))
  any_at (x ∷ xs) is = any_cases x xs (f x) refl is (λ more. any_at xs more)

  none_cases : (b rest : Bool) → (b || rest) ≡ false → (b ≡ false) × (rest ≡ false)
  none_cases true rest is = absurd (true≢false is)
  none_cases false rest is = (refl, is)

  -- none passes
  pub none_any : (xs : List A) → list_any f xs ≡ false → AllByRecursion (λ x. f x ≡ false) xs
  none_any [] is = tt
  none_any (x ∷ xs) is = let both = none_cases (f x) (list_any f xs) is in (both.0, none_any xs both.1)

  pub at_position : (xs : List A) (n : ℕ) → position f xs ≡ Some n → (x : A) × (slice_get xs n ≡ Some x) × (f x ≡ true)
  at_position [] n is = absurd (nothing n is)
  at_position (y ∷ xs) n is = let found = position-Some f (y ∷ xs) n y is in (_, slice_get-get_or (y ∷ xs) n y found.0, found.1)

  none_from_cases : (n : ℕ) (x : A) (xs : List A) (b : Bool) → f x ≡ b → cond b (Some n) (position_from f (n + 1) xs) ≡ None → (b ≡ false) × (position_from f (n + 1) xs ≡ None)
  none_from_cases n x xs true here is = absurd (nothing n (sym is))
  none_from_cases n x xs false here is = (refl, is)

  none_from : (n : ℕ) (xs : List A) → position_from f n xs ≡ None → AllByRecursion (λ x. f x ≡ false) xs
  none_from n [] is = tt
  none_from n (x ∷ xs) is = let both = none_from_cases n x xs (f x) refl is in (both.0, none_from (n + 1) xs both.1)

  pub none_position : (xs : List A) → position f xs ≡ None → AllByRecursion (λ x. f x ≡ false) xs
  none_position xs is = none_from 0 xs (sym (position_from-zero f xs) ∙ is)

-- ---- two lists whose items pass alike

module _ {A B : Type 0} (f : A → Bool) (g : B → Bool) where
  abbrev Alike : A → B → Type 0
  Alike x y = f x ≡ g y

  pub same_any : (xs : List A) (ys : List B) → AllZip Alike xs ys → list_any f xs ≡ list_any g ys
  same_any [] [] all = refl
  same_any [] (y ∷ ys) all = absurd all
  same_any (x ∷ xs) [] all = absurd all
  same_any (x ∷ xs) (y ∷ ys) all = (λ i. all.0 i || same_any xs ys all.1 i)

  same_from : (n : ℕ) (xs : List A) (ys : List B) → AllZip Alike xs ys → position_from f n xs ≡ position_from g n ys
  same_from n [] [] all = refl
  same_from n [] (y ∷ ys) all = absurd all
  same_from n (x ∷ xs) [] all = absurd all
  same_from n (x ∷ xs) (y ∷ ys) all = (λ i. cond (all.0 i) (Some n) (same_from (n + 1) xs ys all.1 i))

  pub same_position : (xs : List A) (ys : List B) → AllZip Alike xs ys → position f xs ≡ position g ys
  same_position xs ys all = position_from-zero f xs ∙ same_from 0 xs ys all ∙ sym (position_from-zero g ys)

-- ---- places

pub at_below : {A : Type 0} (xs : List A) (k : ℕ) → k < length xs → (x : A) × (slice_get xs k ≡ Some x)
at_below [] k lt = absurd (omega (arith, lt))
at_below (x ∷ xs) zero lt = (x, refl)
at_below (x ∷ xs) (suc k) lt = at_below xs k (omega (arith, lt))

pub all_to : {A : Type 0} (P Q : A → Type 0) → ((x : A) → P x → Q x) → (xs : List A) → AllByRecursion P xs → AllByRecursion Q xs
all_to P Q f [] all = tt
all_to P Q f (x ∷ xs) all = (f x all.0, all_to P Q f xs all.1)

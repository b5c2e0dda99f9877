-- Elements by their places, in lists that grow at their end.
use Rattle.std.proofs.Common.{◌≡◌, ◌≢◌, ℕ, zero, suc, ◌+◌, ◌-◌, ◌<◌, ◌≤◌, List, [], ◌∷◌, ◌++◌, length, map, Some, None, slice_get, cond, refl, ap, sym, subst, ◌∙◌, ◌⊎◌, inl, inr, arith, lt-ltb, le-ltb}
use Rattle.std.specs.List.{AllByRecursion}
use mathlib.Core.Logic.{dite}
use native.Mathlib.Decide.{dec_le}
use Rattle.served_links.specs.Ends.{place_of}

module _ {A : Type 0} where
  pub same_some : (x y : A) → Some x ≡ Some y → x ≡ y
  same_some x y e = cc

  pub get_below : (xs : List A) (i : ℕ) (x : A) → slice_get xs i ≡ Some x → i < length xs
  get_below [] i x e = absurd (no_none x e)
    where
      no_none : (x : A) → None ≡ Some x → ⊥
      no_none x e = cc
  get_below (y ∷ xs) zero x e = omega arith
  get_below (y ∷ xs) (suc i) x e = omega (arith, get_below xs i x e)

  pub get_front : (xs ys : List A) (i : ℕ) → i < length xs → slice_get (xs ++ ys) i ≡ slice_get xs i
  get_front [] ys i below = absurd (omega arith)
  get_front (x ∷ xs) ys zero below = refl
  get_front (x ∷ xs) ys (suc i) below = get_front xs ys i (omega arith)

  pub get_kept : (xs ys : List A) (i : ℕ) (x : A) → slice_get xs i ≡ Some x → slice_get (xs ++ ys) i ≡ Some x
  get_kept xs ys i x e = get_front xs ys i (get_below xs i x e) ∙ e

  pub get_last : (xs : List A) (x : A) (i : ℕ) → i ≡ length xs → slice_get (xs ++ x ∷ []) i ≡ Some x
  get_last [] x zero e = refl
  get_last [] x (suc i) e = absurd (omega arith)
  get_last (y ∷ xs) x zero e = absurd (omega arith)
  get_last (y ∷ xs) x (suc i) e = get_last xs x i (omega arith)

  pub get_cases : (xs : List A) (x a : A) (i : ℕ) → slice_get (xs ++ x ∷ []) i ≡ Some a → ((i < length xs) × (slice_get xs i ≡ Some a)) ⊎ ((i ≡ length xs) × (x ≡ a))
  get_cases xs x a i e =
      let below : i < length (xs ++ x ∷ []) = get_below (xs ++ x ∷ []) i a e in
      dite (dec_le (suc i) (length xs)) (λ le. inl (omega arith, sym (get_front xs (x ∷ []) i (omega arith)) ∙ e))
      (λ nle. let here : i ≡ length xs = omega (arith, below, nle, length-push xs x) in inr (here, same_some x a (sym (get_last xs x i here) ∙ e)))
    where
      length-push : (xs : List A) (x : A) → length (xs ++ x ∷ []) ≡ suc (length xs)
      length-push [] x = refl
      length-push (y ∷ xs) x = omega (arith, length-push xs x)

  pub all_at : (P : A → Type 0) (xs : List A) (i : ℕ) (x : A) → AllByRecursion P xs → slice_get xs i ≡ Some x → P x
  all_at P [] i x all e = absurd (omega (arith, get_below [] i x e))
  all_at P (y ∷ xs) zero x all e = subst P (same_some y x e) all.0
  all_at P (y ∷ xs) (suc i) x all e = all_at P xs i x all.1 e

  pub all_from : (P : A → Type 0) (xs : List A) → ((i : ℕ) (x : A) → slice_get xs i ≡ Some x → P x) → AllByRecursion P xs
  all_from P [] h = tt
  all_from P (x ∷ xs) h = (h 0 x refl, all_from P xs (λ i y e. h (suc i) y e))

  -- a list with some elements has a last one
  pub last_of : (xs : List A) → 0 < length xs → (front : List A) × (x : A) × (xs ≡ front ++ x ∷ [])
  last_of [] some = absurd (omega arith)
  last_of (x ∷ []) some = ([], x, refl)
  last_of (x ∷ y ∷ xs) some = let rest = last_of (y ∷ xs) (omega arith) in (x ∷ rest.0, rest.1, ap (λ (l : List A). x ∷ l) rest.2)

module _ {A B : Type 0} (f : A → B) where
  pub length_map : (xs : List A) → length (map f xs) ≡ length xs
  length_map [] = refl
  length_map (x ∷ xs) = ap suc (length_map xs)

  pub get_map : (xs : List A) (i : ℕ) (a : A) → slice_get xs i ≡ Some a → slice_get (map f xs) i ≡ Some (f a)
  get_map [] i a e = absurd (omega (arith, get_below [] i a e))
  get_map (x ∷ xs) zero a e = ap (λ (y : A). Some (f y)) (same_some x a e)
  get_map (x ∷ xs) (suc i) a e = get_map xs i a e

  pub from_map : (xs : List A) (i : ℕ) (b : B) → slice_get (map f xs) i ≡ Some b → (a : A) × (slice_get xs i ≡ Some a) × (f a ≡ b)
  from_map [] i b e = absurd (omega (arith, get_below [] i b e))
  from_map (x ∷ xs) zero b e = (x, refl, same_some (f x) b e)
  from_map (x ∷ xs) (suc i) b e = from_map xs i b e

-- ---- places among the others

pub place_below : (other me : ℕ) → other < me → place_of other me ≡ other
place_below other me below = ap (λ b. cond b other (other - 1)) (lt-ltb other me below)

pub place_above : (other me : ℕ) → me ≤ other → place_of other me ≡ other - 1
place_above other me above = ap (λ b. cond b other (other - 1)) (le-ltb other me above)

pub place_within : (nodes other me : ℕ) → other < nodes → me < nodes → other ≢ me → place_of other me + 1 < nodes
place_within nodes other me below here apart =
    dite (dec_le (suc other) me) (λ le. let e = place_below other me (omega arith) in omega arith)
    (λ nle. let e = place_above other me (omega arith) in let more : me < other = after (λ same. apart (sym same)) (omega arith) in omega arith)
  where
    after : me ≢ other → me ≤ other → me < other
    after ne le = omega arith

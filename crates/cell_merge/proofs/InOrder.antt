-- Lists in strict order, and the place up to which a test holds of them.
use Rattle.std.proofs.Common.{◌≡◌, ℕ, zero, suc, ◌<◌, ◌≤◌, inl, inr, Bool, true, false, not, cond, ◌&&◌, min, List, [], ◌∷◌, ◌++◌, filter, length, get_or, take, drop, refl, sym, ◌∙◌, ap, subst, arith, Contains, length-take}
use Rattle.std.specs.List.{AllByRecursion, AllWithin}
use Rattle.std.specs.List.Sorted.{IsStrictlySortedBy, IsPartitionedBy, IsPartitionPoint}
use Rattle.std.specs.declared.cmp.Ordering.{Ordering}
use Rattle.std.specs.declared.cmp.Ordering.TheVariants.{Less}
use Rattle.std.proofs.lemmas.Bool.{cases_lt}
use Rattle.std.proofs.lemmas.List.{get_or-take}
use Rattle.std.proofs.lemmas.List.Elements.{All-from_recursion, All-contains, recursion_from_All, Contains-get_or, Contains-append_right}
use Rattle.cs_base.proofs.Members.{contains_nil, contains_here, contains_there, contains_cases}

-- each stands below those behind it
pub sorted_at : {K : Type 0} (R : K → K → Ordering) (xs : List K) (i j : ℕ) (d : K) → IsStrictlySortedBy R xs → i < j → j < length xs → R (get_or xs i d) (get_or xs j d) ≡ Less
unfolding IsStrictlySortedBy
sorted_at R [] i j d s h b = absurd (omega (arith, b))
sorted_at R (x ∷ xs) zero zero d s h b = absurd (omega (arith, h))
sorted_at R (x ∷ xs) zero (suc j) d s h b = All-from_recursion (λ y. R x y ≡ Less) xs s.0 j d (omega (arith, b))
sorted_at R (x ∷ xs) (suc i) zero d s h b = absurd (omega (arith, h))
sorted_at R (x ∷ xs) (suc i) (suc j) d s h b = sorted_at R xs i j d s.1 (omega (arith, h)) (omega (arith, b))

-- a test that holds of all that stand below what it holds of
pub partitioned : {K : Type 0} (R : K → K → Ordering) (p : K → Bool) (xs : List K) → ((x y : K) → R x y ≡ Less → p y ≡ true → p x ≡ true) → IsStrictlySortedBy R xs → IsPartitionedBy p xs
partitioned R p xs down s i j d le below t =
    elim (cases_lt i j) [
      | inl lt ↦ down (get_or xs i d) (get_or xs j d) (sorted_at R xs i j d s lt below) t
      | inr ge ↦ let e : j ≡ i = omega (arith, le, ge) in subst (λ (k : ℕ). p (get_or xs k d) ≡ true) e t
    ]

none_pass : {X : Type 0} (p : X → Bool) (xs : List X) → AllWithin (λ y. p y ≡ false) xs 0 (length xs) → filter p xs ≡ []
none_pass p [] h = refl
none_pass {X} p (x ∷ xs) h =
    ap (λ (b : Bool). cond b (x ∷ filter p xs) (filter p xs)) (h 0 x (omega arith) (omega arith)) ∙ none_pass p xs (λ k d low b. h (suc k) d (omega arith) (omega (arith, b)))

all_pass : {X : Type 0} (p : X → Bool) (xs : List X) → AllWithin (λ y. p y ≡ true) xs 0 (length xs) → filter p xs ≡ xs
all_pass p [] h = refl
all_pass {X} p (x ∷ xs) h =
    ap (λ (b : Bool). cond b (x ∷ filter p xs) (filter p xs)) (h 0 x (omega arith) (omega arith)) ∙ ap (λ (l : List X). x ∷ l) (all_pass p xs (λ k d low b. h (suc k) d (omega arith) (omega (arith, b))))

-- what passes stands before the place
pub passes_before : {X : Type 0} (p : X → Bool) (xs : List X) (i : ℕ) → IsPartitionPoint (λ y. p y ≡ true) (λ y. p y ≡ false) xs i → filter p xs ≡ take i xs
passes_before p [] zero h = refl
passes_before p [] (suc i) h = refl
passes_before p (x ∷ xs) zero h = none_pass p (x ∷ xs) h.1
passes_before {X} p (x ∷ xs) (suc i) h =
    ap (λ (b : Bool). cond b (x ∷ filter p xs) (filter p xs)) (h.0 0 x (omega arith) (omega arith))
    ∙ ap (λ (l : List X). x ∷ l) (passes_before p xs i (λ k d low b. h.0 (suc k) d (omega arith) (omega (arith, b)), λ k d low b. h.1 (suc k) d (omega (arith, low)) (omega (arith, b))))

-- or from the place on
pub passes_from : {X : Type 0} (p : X → Bool) (xs : List X) (i : ℕ) → IsPartitionPoint (λ y. p y ≡ false) (λ y. p y ≡ true) xs i → filter p xs ≡ drop i xs
passes_from p [] zero h = refl
passes_from p [] (suc i) h = refl
passes_from p (x ∷ xs) zero h = all_pass p (x ∷ xs) h.1
passes_from {X} p (x ∷ xs) (suc i) h =
    ap (λ (b : Bool). cond b (x ∷ filter p xs) (filter p xs)) (h.0 0 x (omega arith) (omega arith))
    ∙ passes_from p xs i (λ k d low b. h.0 (suc k) d (omega arith) (omega (arith, b)), λ k d low b. h.1 (suc k) d (omega (arith, low)) (omega (arith, b)))

filter_at : {X : Type 0} (p q : X → Bool) (x : X) (xs : List X) (a b : Bool) → p x ≡ a → q x ≡ b → filter (λ y. p y && q y) xs ≡ filter p (filter q xs)
    → cond (a && b) (x ∷ filter (λ y. p y && q y) xs) (filter (λ y. p y && q y) xs) ≡ filter p (cond b (x ∷ filter q xs) (filter q xs))
filter_at {X} p q x xs true true e f rest = ap (λ (l : List X). x ∷ l) rest ∙ sym (ap (λ (c : Bool). cond c (x ∷ filter p (filter q xs)) (filter p (filter q xs))) e)
filter_at p q x xs true false e f rest = rest
filter_at p q x xs false true e f rest = rest ∙ sym (ap (λ (c : Bool). cond c (x ∷ filter p (filter q xs)) (filter p (filter q xs))) e)
filter_at p q x xs false false e f rest = rest

pub filter_both : {X : Type 0} (p q : X → Bool) (xs : List X) → filter (λ y. p y && q y) xs ≡ filter p (filter q xs)
filter_both p q [] = refl
filter_both p q (x ∷ xs) = filter_at p q x xs (p x) (q x) refl refl (filter_both p q xs)

-- between two places
pub passes_between : {X : Type 0} (p q : X → Bool) (xs : List X) (start end least : ℕ) → IsPartitionPoint (λ y. p y ≡ false) (λ y. p y ≡ true) xs start → IsPartitionPoint (λ y. q y ≡ true) (λ y. q y ≡ false) xs end
    → end ≤ length xs → least ≡ min start end → drop least (take end xs) ≡ filter (λ y. p y && q y) xs
passes_between {X} p q xs start end least h g within e =
    let size : length (take end xs) ≤ end = omega (arith, length-take end xs) in
    sym (filter_both p q xs ∙ ap (filter p) (passes_before q xs end g) ∙ passes_from p (take end xs) least (
      λ k d low b. subst (λ (x : X). p x ≡ false) (sym (get_or-take end xs k d (omega (arith, b, e)))) (h.0 k d low (omega (arith, b, e))),
      λ k d low b. subst (λ (x : X). p x ≡ true) (sym (get_or-take end xs k d (omega (arith, b, size)))) (h.1 k d (omega (arith, low, b, e, size)) (omega (arith, b, size, within))),
    ))

not_true : (b : Bool) → not b ≡ true → b ≡ false
not_true true h = cc
not_true false h = refl

not_false : (b : Bool) → not b ≡ false → b ≡ true
not_false true h = refl
not_false false h = cc

pub point_of_not : {X : Type 0} (p : X → Bool) (xs : List X) (i : ℕ) → IsPartitionPoint (λ y. not (p y) ≡ true) (λ y. not (p y) ≡ false) xs i → IsPartitionPoint (λ y. p y ≡ false) (λ y. p y ≡ true) xs i
point_of_not p xs i h = (λ k d low b. not_true (p (get_or xs k d)) (h.0 k d low b), λ k d low b. not_false (p (get_or xs k d)) (h.1 k d low b))

-- ---- parts of a list in order

all_front : {K : Type 0} (P : K → Type 0) (xs ys : List K) → AllByRecursion P (xs ++ ys) → AllByRecursion P xs
all_front P [] ys h = tt
all_front P (x ∷ xs) ys h = (h.0, all_front P xs ys h.1)

pub sorted_front : {K : Type 0} (R : K → K → Ordering) (xs ys : List K) → IsStrictlySortedBy R (xs ++ ys) → IsStrictlySortedBy R xs
unfolding IsStrictlySortedBy
sorted_front R [] ys h = tt
sorted_front R (x ∷ xs) ys h = (all_front (λ y. R x y ≡ Less) xs ys h.0, sorted_front R xs ys h.1)

pub sorted_back : {K : Type 0} (R : K → K → Ordering) (xs ys : List K) → IsStrictlySortedBy R (xs ++ ys) → IsStrictlySortedBy R ys
unfolding IsStrictlySortedBy
sorted_back R [] ys h = h
sorted_back R (x ∷ xs) ys h = sorted_back R xs ys h.1

all_has : {K : Type 0} (P : K → Type 0) (xs : List K) (y : K) → AllByRecursion P xs → Contains xs y → P y
all_has P xs y h k = All-contains P xs y (All-from_recursion P xs h) k

all_both : {K : Type 0} (P : K → Type 0) (xs ys : List K) → AllByRecursion P xs → ((y : K) → Contains ys y → P y) → AllByRecursion P (xs ++ ys)
all_both P [] ys h more = recursion_from_All P ys (λ k d below. more (get_or ys k d) (Contains-get_or ys k d below))
all_both P (x ∷ xs) ys h more = (h.0, all_both P xs ys h.1 more)

-- the elements of the front stand before those of the back
pub sorted_across : {K : Type 0} (R : K → K → Ordering) (xs ys : List K) → IsStrictlySortedBy R (xs ++ ys) → (x y : K) → Contains xs x → Contains ys y → R x y ≡ Less
unfolding IsStrictlySortedBy
sorted_across R [] ys h x y hx hy = absurd (contains_nil x hx)
sorted_across {K} R (z ∷ xs) ys h x y hx hy =
    elim (contains_cases z xs x hx) [
      | inl e ↦ subst (λ (w : K). R w y ≡ Less) e (all_has (λ w. R z w ≡ Less) (xs ++ ys) y h.0 (Contains-append_right xs ys y hy))
      | inr later ↦ sorted_across R xs ys h.1 x y later hy
    ]

pub sorted_both : {K : Type 0} (R : K → K → Ordering) (xs ys : List K) → IsStrictlySortedBy R xs → IsStrictlySortedBy R ys → ((x y : K) → Contains xs x → Contains ys y → R x y ≡ Less) → IsStrictlySortedBy R (xs ++ ys)
unfolding IsStrictlySortedBy
sorted_both R [] ys h g across = g
sorted_both R (x ∷ xs) ys h g across =
    (all_both (λ w. R x w ≡ Less) xs ys h.0 (λ y hy. across x y (contains_here x xs) hy), sorted_both R xs ys h.1 g (λ z y hz hy. across z y (contains_there x xs z hz) hy))

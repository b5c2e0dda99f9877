-- Lists in strict order, and what is left of a sorted list where of each run of equals the first is kept.
use Rattle.std.proofs.Common.{◌≡◌, ℕ, ◌+◌, ◌-◌, ◌<◌, ◌⊎◌, ◌↔◌, inl, inr, List, [], ◌∷◌, length, get_or, Bool, IsTrue, true, false, zero, suc, refl, sym, ◌∙◌, ap, subst, arith, add-one, Contains}
use Rattle.std.specs.Cmp.{IsTotalOrder, IsEquivalence, IsStrictWeakOrder}
use Rattle.std.specs.List.{AllByRecursion, AllPairs, AllAdjacentBelow, IsAllAdjacentAnswer, dedup, dedup_from}
use Rattle.std.specs.List.Sorted.{IsSortedBy, IsStrictlySortedBy}
use Rattle.std.specs.Ordering.{is_lt}
use Rattle.std.specs.declared.cmp.Ordering.{Ordering}
use Rattle.std.specs.declared.cmp.Ordering.TheVariants.{Less, Equal}
use Rattle.std.proofs.lemmas.Bool.{cond_both, false≢true}
use Rattle.std.proofs.lemmas.Cmp.{tied_itself}
use Rattle.std.proofs.lemmas.List.Sorted.{sorted_far}
use Rattle.std.proofs.lemmas.Map.Keys.{sorted_from_all_adjacent}
use Rattle.cs_base.proofs.Members.{contains_nil, contains_here, contains_there, contains_cases}
use Rattle.changes.proofs.Orderings.{less_back, less_is}

pub all_at : {X : Type 0} (P : X → Type 0) (xs : List X) (y : X) → AllByRecursion P xs → Contains xs y → P y
all_at P [] y all at = absurd (contains_nil y at)
all_at P (x ∷ xs) y all at = elim (contains_cases x xs y at) [ inl e ↦ subst P e all.0 | inr rest ↦ all_at P xs y all.1 rest ]

pub all_from : {X : Type 0} (P : X → Type 0) (xs : List X) → ((y : X) → Contains xs y → P y) → AllByRecursion P xs
all_from P [] each = tt
all_from P (x ∷ xs) each = (each x (contains_here x xs), all_from P xs (λ y at. each y (contains_there x xs y at)))

module _ {X : Type 0} {R : X → X → Ordering} (total : IsTotalOrder R) where
  not_itself : (x : X) → R x x ≡ Less → ⊥
  not_itself x e = let tied = tied_itself total x in cc

  not_both : (x y : X) → R x y ≡ Less → R y x ≡ Less → ⊥
  not_both x y p q = let back = less_back total x y p in cc

  -- what compares as equal in a list in order is one
  pub one_at : (xs : List X) → IsStrictlySortedBy R xs → (x y : X) → Contains xs x → Contains xs y → R x y ≡ Equal → x ≡ y
  unfolding IsStrictlySortedBy
  one_at [] up x y at there e = absurd (contains_nil x at)
  one_at (z ∷ zs) up x y at there e =
      elim (contains_cases z zs x at) [
        | inl is_x ↦ elim (contains_cases z zs y there) [
          | inl is_y ↦ sym is_x ∙ is_y
          | inr later ↦ let less : R x y ≡ Less = subst (λ (v : X). R v y ≡ Less) is_x (all_at (λ v. R z v ≡ Less) zs y up.0 later) in cc
        ]
        | inr behind ↦ elim (contains_cases z zs y there) [
          | inl is_y ↦
              let less : R y x ≡ Less = subst (λ (v : X). R v x ≡ Less) is_y (all_at (λ v. R z v ≡ Less) zs x up.0 behind) in
              let back = less_back total y x less in cc
          | inr later ↦ one_at zs up.1 x y behind later e
        ]
      ]

  tail_in : (x y : X) (xs ys : List X) → AllByRecursion (λ v. R x v ≡ Less) xs → x ≡ y → ((z : X) → Contains (x ∷ xs) z → Contains (y ∷ ys) z) → (z : X) → Contains xs z → Contains ys z
  tail_in x y xs ys below same to z at =
      elim (contains_cases y ys z (to z (contains_there x xs z at))) [
        | inl e ↦ absurd (not_itself x (subst (λ (v : X). R x v ≡ Less) (sym (same ∙ e)) (all_at (λ v. R x v ≡ Less) xs z below at)))
        | inr later ↦ later
      ]

  -- lists in order with the same elements are one
  pub sorted_one : (xs ys : List X) → IsStrictlySortedBy R xs → IsStrictlySortedBy R ys → ((z : X) → Contains xs z → Contains ys z) → ((z : X) → Contains ys z → Contains xs z) → xs ≡ ys
  unfolding IsStrictlySortedBy
  sorted_one [] [] up high to back = refl
  sorted_one [] (y ∷ ys) up high to back = absurd (contains_nil y (back y (contains_here y ys)))
  sorted_one (x ∷ xs) [] up high to back = absurd (contains_nil x (to x (contains_here x xs)))
  sorted_one (x ∷ xs) (y ∷ ys) up high to back =
      let same : x ≡ y =
      elim (contains_cases y ys x (to x (contains_here x xs))) [
        | inl e ↦ sym e
        | inr behind ↦ elim (contains_cases x xs y (back y (contains_here y ys))) [
          | inl e ↦ e
          | inr later ↦ absurd (not_both x y (all_at (λ v. R x v ≡ Less) xs y up.0 later) (all_at (λ v. R y v ≡ Less) ys x high.0 behind))
        ]
      ]
      in
      ap (λ (v : X). v ∷ xs) same ∙ ap (λ (l : List X). y ∷ l) (sorted_one xs ys up.1 high.1 (tail_in x y xs ys up.0 same to) (tail_in y x ys xs high.0 (sym same) back))

  -- each element stands before the next
  steps_of : (k : ℕ) (xs : List X) (d : X) → IsStrictlySortedBy R xs → k < length xs - 1 → R (get_or xs k d) (get_or xs (k + 1) d) ≡ Less
  unfolding IsStrictlySortedBy
  steps_of k [] d up inside = absurd (omega (arith, inside))
  steps_of k (x ∷ []) d up inside = absurd (omega (arith, inside))
  steps_of zero (x ∷ y ∷ ys) d up inside = up.0.0
  steps_of (suc k) (x ∷ y ∷ ys) d up inside = rw add-one (let deeper = steps_of k (y ∷ ys) d up.1 (omega (arith, inside)) in rw add-one at deeper)

  pub sorted_steps : (xs : List X) (k : ℕ) (d : X) → IsStrictlySortedBy R xs → k + 1 < length xs → R (get_or xs k d) (get_or xs (k + 1) d) ≡ Less
  sorted_steps xs k d up inside = steps_of k xs d up (omega (arith, inside))

  pub sorted_from_steps : (xs : List X) → AllAdjacentBelow (λ x y. R x y ≡ Less) xs (length xs) → IsStrictlySortedBy R xs
  unfolding IsStrictlySortedBy
  sorted_from_steps [] steps = tt
  sorted_from_steps (x ∷ xs) steps = sorted_from_all_adjacent total (x ∷ xs) x (λ k inside. steps k x inside)

  less_true : (xs : List X) (r : Bool) → IsAllAdjacentAnswer (λ x y b. b ≡ is_lt (R x y)) xs r → r ≡ true → IsStrictlySortedBy R xs
  less_true xs true steps e = sorted_from_steps xs (λ k d inside. less_is (R (get_or xs k d) (get_or xs (k + 1) d)) (sym (steps k d inside)))
  less_true xs false steps e = absurd (false≢true e)

  true_less : (xs : List X) (r : Bool) → IsAllAdjacentAnswer (λ x y b. b ≡ is_lt (R x y)) xs r → IsStrictlySortedBy R xs → r ≡ true
  true_less xs true steps up = refl
  true_less [] false (k, inside, step) up = absurd (omega (arith, inside))
  true_less (x ∷ xs) false (k, inside, step) up = absurd (false≢true (step x ∙ ap is_lt (sorted_steps (x ∷ xs) k x up inside)))

  -- whether each stands before the next tells whether they are in order
  pub sorted_by_steps : (xs : List X) (r : Bool) → IsAllAdjacentAnswer (λ x y b. b ≡ is_lt (R x y)) xs r → IsTrue r ↔ IsStrictlySortedBy R xs
  sorted_by_steps xs r steps = (less_true xs r steps, true_less xs r steps)

-- ---- the first of each run

module _ {X : Type 0} {same : X → X → Bool} (equals : IsEquivalence same) {below : X → X → Bool} (order : IsStrictWeakOrder below) where
  -- y is as good as z where they are the same, and z is not below y
  abbrev pub StandsFor : X → X → Type 0
  StandsFor z y = (same z y ≡ true) × (below z y ≡ false)

  abbrev pub HasOneFor : List X → X → Type 0
  HasOneFor kept z = (y : X) × Contains kept y × StandsFor z y

  not_below : (b : Bool) → (b ≡ true → b ≡ false) → b ≡ false
  not_below false h = refl
  not_below true h = h refl

  stands_itself : (x : X) → StandsFor x x
  stands_itself x = (equals.refl x, not_below (below x x) (order.one_way x x))

  -- each element of a list stands before those behind it
  abbrev InOrder : List X → Type 0
  InOrder [] = Unit {0}
  InOrder (x ∷ xs) = ((z : X) → Contains xs z → below z x ≡ false) × InOrder xs

  in_order : (xs : List X) → AllPairs (λ a b. below b a ≡ false) xs → InOrder xs
  in_order [] far = tt
  in_order (x ∷ xs) far = (
    λ z h. subst (λ (v : X). below v x ≡ false) h.2 (far zero (suc h.0) z (omega arith) (omega (arith, h.1))),
    in_order xs (λ i j d before inside. far (suc i) (suc j) d (omega arith) (omega arith)),
  )

  one_more : (k : X) (xs : List X) (z : X) → HasOneFor xs z → HasOneFor (k ∷ xs) z
  one_more k xs z (y, at, stands) = (y, contains_there k xs y at, stands)

  -- k is the last that was kept
  kept_from : (xs : List X) (k z : X) → InOrder (k ∷ xs) → StandsFor z k ⊎ Contains xs z → HasOneFor (dedup_from same k xs) z
  kept_from [] k z up (inl stands) = (k, contains_here k [], stands)
  kept_from [] k z up (inr at) = absurd (contains_nil z at)
  kept_from (x ∷ xs) k z up h =
      cond_both (same x k) (dedup_from same k xs) (k ∷ dedup_from same x xs) (λ (l : List X). HasOneFor l z)
      (λ t. kept_from xs k z (λ w at. up.0 w (contains_there x xs w at), up.1.1)
      (elim h [
        | inl stands ↦ inl stands
        | inr at ↦ elim (contains_cases x xs z at) [
          | inl e ↦ inl (subst (λ (v : X). StandsFor v k) e (t, up.0 x (contains_here x xs)))
          | inr rest ↦ inr rest
        ]
      ]))
      (λ t. elim h [
        | inl stands ↦ (k, contains_here k (dedup_from same x xs), stands)
        | inr at ↦ one_more k (dedup_from same x xs) z (kept_from xs x z up.1
            (elim (contains_cases x xs z at) [
              | inl e ↦ inl (subst (λ (v : X). StandsFor v x) e (stands_itself x))
              | inr rest ↦ inr rest
            ]))
      ])

  -- one is kept for each
  pub kept_for : (xs : List X) → IsSortedBy below xs → (z : X) → Contains xs z → HasOneFor (dedup same xs) z
  kept_for [] up z at = absurd (contains_nil z at)
  kept_for (x ∷ xs) up z at =
      let far : AllPairs (λ a b. below b a ≡ false) (x ∷ xs) = λ i j d before inside. sorted_far below order (x ∷ xs) up i j d (omega arith) inside in
      kept_from xs x z (in_order (x ∷ xs) far)
      (elim (contains_cases x xs z at) [
        | inl e ↦ inl (subst (λ (v : X). StandsFor v x) e (stands_itself x))
        | inr rest ↦ inr rest
      ])

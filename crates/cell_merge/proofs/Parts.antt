-- What is left of a list, element by element.
use Rattle.std.proofs.Common.{◌≡◌, ◌==◌, ℕ, ◌+◌, ◌<◌, ◌⊎◌, ◌↔◌, inl, inr, Bool, true, false, not, IsTrue, List, [], ◌∷◌, ◌++◌, length, get_or, take, refl, sym, ◌∙◌, ap, subst, arith, Contains}
use Rattle.std.specs.Prelude.{MatchBool}
use Rattle.std.specs.List.{AllByRecursion, items_where_true}
use Rattle.std.specs.List.Retain.{ReturnsInTurn, IsFiltered}
use Rattle.std.specs.List.Sorted.{IsStrictlySortedBy}
use Rattle.std.specs.declared.cmp.Ordering.{Ordering}
use Rattle.std.specs.declared.cmp.Ordering.TheVariants.{Less}
use Rattle.std.proofs.lemmas.Bool.{false≢true}
use Rattle.std.proofs.Common.{eqb-true}
use Rattle.cs_base.proofs.Members.{contains_nil, contains_here, contains_there, contains_cases, front_more}
use Rattle.cell_merge.specs.Parts.{IsParted}

module _ {X : Type 0} (K G : X → Type 0) where
  -- what is left was there, and has K
  pub from_parted : (xs ys : List X) → IsParted K G xs ys → (y : X) → Contains ys y → Contains xs y × K y
  from_parted [] ys e y h = absurd (contains_nil y (subst (λ (l : List X). Contains l y) e h))
  from_parted (x ∷ xs) ys (rest, more, inl (k, e)) y h =
      elim (contains_cases x rest y (subst (λ (l : List X). Contains l y) e h)) [
        | inl same ↦ (subst (λ (z : X). Contains (x ∷ xs) z) same (contains_here x xs), subst K same k)
        | inr later ↦ (let r : Contains xs y × K y = from_parted xs rest more y later in (contains_there x xs y r.0, r.1))
      ]
  from_parted (x ∷ xs) ys (rest, more, inr (g, e)) y h =
      let r : Contains xs y × K y = from_parted xs rest more y (subst (λ (l : List X). Contains l y) e h) in
      (contains_there x xs y r.0, r.1)

  -- what was there is left, or has G
  pub kept_or_gone : (xs ys : List X) → IsParted K G xs ys → (y : X) → Contains xs y → Contains ys y ⊎ G y
  kept_or_gone [] ys e y h = absurd (contains_nil y h)
  kept_or_gone (x ∷ xs) ys (rest, more, inl (k, e)) y h =
      subst (λ (l : List X). Contains l y ⊎ G y) (sym e) (elim (contains_cases x xs y h) [
        | inl same ↦ inl (subst (λ (z : X). Contains (x ∷ rest) z) same (contains_here x rest))
        | inr later ↦ elim (kept_or_gone xs rest more y later) [ inl c ↦ inl (contains_there x rest y c) | inr g ↦ inr g ]
      ])
  kept_or_gone (x ∷ xs) ys (rest, more, inr (g, e)) y h =
      subst (λ (l : List X). Contains l y ⊎ G y) (sym e) (elim (contains_cases x xs y h) [
        | inl same ↦ inr (subst G same g)
        | inr later ↦ kept_or_gone xs rest more y later
      ])

  all_parted : (Q : X → Type 0) (xs ys : List X) → IsParted K G xs ys → AllByRecursion Q xs → AllByRecursion Q ys
  all_parted Q [] ys e h = subst (λ (l : List X). AllByRecursion Q l) (sym e) tt
  all_parted Q (x ∷ xs) ys (rest, more, inl (k, e)) h = subst (λ (l : List X). AllByRecursion Q l) (sym e) (h.0, all_parted Q xs rest more h.1)
  all_parted Q (x ∷ xs) ys (rest, more, inr (g, e)) h = subst (λ (l : List X). AllByRecursion Q l) (sym e) (all_parted Q xs rest more h.1)

  pub sorted_parted : (R : X → X → Ordering) (xs ys : List X) → IsParted K G xs ys → IsStrictlySortedBy R xs → IsStrictlySortedBy R ys
  unfolding IsStrictlySortedBy
  sorted_parted R [] ys e h = subst (λ (l : List X). IsStrictlySortedBy R l) (sym e) tt
  sorted_parted R (x ∷ xs) ys (rest, more, inl (k, e)) h =
      subst (λ (l : List X). IsStrictlySortedBy R l) (sym e) (all_parted (λ y. R x y ≡ Less) xs rest more h.0, sorted_parted R xs rest more h.1)
  sorted_parted R (x ∷ xs) ys (rest, more, inr (g, e)) h = subst (λ (l : List X). IsStrictlySortedBy R l) (sym e) (sorted_parted R xs rest more h.1)

  -- all that has K is left
  pub all_left : (xs : List X) → ((x : X) → K x) → IsParted K G xs xs
  all_left [] h = refl
  all_left (x ∷ xs) h = (xs, all_left xs h, inl (h x, refl))

  -- ---- one element more

  push_taken : (xs ys : List X) (x : X) → IsParted K G xs ys → K x → IsParted K G (xs ++ x ∷ []) (ys ++ x ∷ [])
  push_taken [] ys x e k = ([], refl, inl (k, ap (λ (l : List X). l ++ x ∷ []) e))
  push_taken (y ∷ xs) ys x (rest, more, inl (here, e)) k = (rest ++ x ∷ [], push_taken xs rest x more k, inl (here, ap (λ (l : List X). l ++ x ∷ []) e))
  push_taken (y ∷ xs) ys x (rest, more, inr (here, e)) k = (rest ++ x ∷ [], push_taken xs rest x more k, inr (here, ap (λ (l : List X). l ++ x ∷ []) e))

  push_passed : (xs ys : List X) (x : X) → IsParted K G xs ys → G x → IsParted K G (xs ++ x ∷ []) ys
  push_passed [] ys x e g = ([], refl, inr (g, e))
  push_passed (y ∷ xs) ys x (rest, more, inl (here, e)) g = (rest, push_passed xs rest x more g, inl (here, e))
  push_passed (y ∷ xs) ys x (rest, more, inr (here, e)) g = (rest, push_passed xs rest x more g, inr (here, e))

  pub parted_taken : (xs ys zs : List X) (i : ℕ) (x z : X) → i < length xs → x ≡ get_or xs i x → IsParted K G (take i xs) ys → K x → zs ≡ ys ++ z ∷ [] → z ≡ x → IsParted K G (take (i + 1) xs) zs
  parted_taken xs ys zs i x z below is before k e same =
      subst (λ (l : List X). IsParted K G l zs) (sym (front_more xs i x below is))
      (subst (λ (l : List X). IsParted K G (take i xs ++ x ∷ []) l) (sym (e ∙ ap (λ (w : X). ys ++ w ∷ []) same)) (push_taken (take i xs) ys x before k))

  pub parted_passed : (xs ys zs : List X) (i : ℕ) (x : X) → i < length xs → x ≡ get_or xs i x → IsParted K G (take i xs) ys → G x → zs ≡ ys → IsParted K G (take (i + 1) xs) zs
  parted_passed xs ys zs i x below is before g e =
      subst (λ (l : List X). IsParted K G l zs) (sym (front_more xs i x below is))
      (subst (λ (l : List X). IsParted K G (take i xs ++ x ∷ []) l) (sym e) (push_passed (take i xs) ys x before g))

  -- ---- what `retain` leaves

  retained_at : {F : Type 0} (R : F → X → Bool → F → Type 0) (f q : F) → ((x : X) (b : Bool) (g : F) → R f x b g → MatchBool b (K x) (G x) × (g ≡ f)) → (xs : List X) (bs : List Bool) → length bs ≡ length xs
      → ReturnsInTurn R f bs xs q → IsParted K G xs (items_where_true bs xs)
  retained_at R f q h [] [] size told = refl
  retained_at R f q h [] (b ∷ bs) size told = absurd (omega (arith, size))
  retained_at R f q h (x ∷ xs) [] size told = absurd (omega (arith, size))
  retained_at {F} R f q h (x ∷ xs) (true ∷ bs) size (g, here, more) =
      let step = h x true g here in
      (items_where_true bs xs, retained_at R f q h xs bs (omega (arith, size)) (subst (λ (k : F). ReturnsInTurn R k bs xs q) step.1 more), inl (step.0, refl))
  retained_at {F} R f q h (x ∷ xs) (false ∷ bs) size (g, here, more) =
      let step = h x false g here in
      (items_where_true bs xs, retained_at R f q h xs bs (omega (arith, size)) (subst (λ (k : F). ReturnsInTurn R k bs xs q) step.1 more), inr (step.0, refl))

  pub retained : {F : Type 0} (R : F → X → Bool → F → Type 0) (f : F) → ((x : X) (b : Bool) (g : F) → R f x b g → MatchBool b (K x) (G x) × (g ≡ f)) → (xs ys : List X) → IsFiltered R f xs ys → IsParted K G xs ys
  retained R f h xs ys (bs, q, size, told, is) = subst (λ (l : List X). IsParted K G xs l) (sym is) (retained_at R f q h xs bs size told)

-- a test that tells P, turned round
pub told_by : (b : Bool) (P : Type 0) → (IsTrue b ↔ P) → MatchBool (not b) (P → ⊥) P
told_by true P h = h.0 refl
told_by false P h = λ p. false≢true (h.1 p)

-- what a test of the length tells
pub empty_is : {X : Type 0} (xs : List X) (b : Bool) → b ≡ (length xs == 0) → b ≡ true → xs ≡ []
empty_is [] b e t = refl
empty_is (x ∷ xs) b e t = let z = eqb-true (length (x ∷ xs)) 0 (sym e ∙ t) in absurd (omega (arith, z))

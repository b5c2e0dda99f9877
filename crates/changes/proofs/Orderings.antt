-- Orders that tell what they compare apart, and how orderings follow one another.
use Rattle.std.proofs.Common.{◌≡◌, ℕ, ◌⊎◌, inl, inr, List, [], ◌∷◌, refl, ◌∙◌, ap, true}
use Rattle.std.specs.Prelude.{ℤ}
use Rattle.std.specs.Cmp.{IsTotalOrder}
use Rattle.std.specs.Cmp.Lexicographic.{slice_cmp}
use Rattle.std.specs.Ordering.{nat_cmp, int_cmp, ordering_then, ordering_reverse, is_eq, is_lt, is_gt}
use Rattle.std.specs.declared.cmp.Ordering.{Ordering}
use Rattle.std.specs.declared.cmp.Ordering.TheVariants.{Less, Equal, Greater}
use Rattle.std.proofs.lemmas.Cmp.{int_ranked}
use Rattle.std.proofs.lemmas.Map.Lookups.{exact_unsigned}

pub cases_ordering : (o : Ordering) → (o ≡ Less) ⊎ ((o ≡ Equal) ⊎ (o ≡ Greater))
cases_ordering Less = inl refl
cases_ordering Equal = inr (inl refl)
cases_ordering Greater = inr (inr refl)

pub less_is : (o : Ordering) → is_lt o ≡ true → o ≡ Less
less_is Less h = refl
less_is Equal h = cc
less_is Greater h = cc

pub equal_is : (o : Ordering) → is_eq o ≡ true → o ≡ Equal
equal_is Less h = cc
equal_is Equal h = refl
equal_is Greater h = cc

pub greater_is : (o : Ordering) → is_gt o ≡ true → o ≡ Greater
greater_is Less h = cc
greater_is Equal h = cc
greater_is Greater h = refl

-- ---- one after the other

pub then_assoc : (a b c : Ordering) → ordering_then (ordering_then a b) c ≡ ordering_then a (ordering_then b c)
then_assoc Less b c = refl
then_assoc Equal b c = refl
then_assoc Greater b c = refl

pub then_equal : (a b : Ordering) → ordering_then a b ≡ Equal → (a ≡ Equal) × (b ≡ Equal)
then_equal Less b p = cc
then_equal Equal b p = (refl, p)
then_equal Greater b p = cc

pub then_less : (a b : Ordering) → ordering_then a b ≡ Less → (a ≡ Less) ⊎ ((a ≡ Equal) × (b ≡ Less))
then_less Less b p = inl refl
then_less Equal b p = inr (refl, p)
then_less Greater b p = cc

pub then_greater : (a b : Ordering) → ordering_then a b ≡ Greater → (a ≡ Greater) ⊎ (a ≡ Equal)
then_greater Less b p = cc
then_greater Equal b p = inr refl
then_greater Greater b p = inl refl

pub then_end : (a : Ordering) → ordering_then a Equal ≡ a
then_end Less = refl
then_end Equal = refl
then_end Greater = refl

pub then_on : (a b : Ordering) → a ≡ Equal → ordering_then a b ≡ b
then_on a b p = ap (λ (o : Ordering). ordering_then o b) p

-- ---- what compares alike is one

pub int_exact : (x y : ℤ) → int_cmp x y ≡ Equal → x ≡ y
int_exact x y p = let r = int_ranked x y (int_cmp x y) refl in rw p at r

-- lists that compare alike are one, where elements are
pub lists_exact : {X : Type 0} (R : X → X → Ordering) → ((a b : X) → R a b ≡ Equal → a ≡ b) → (a b : List X) → slice_cmp R a b ≡ Equal → a ≡ b
lists_exact R exact [] [] p = refl
lists_exact R exact [] (y ∷ ys) p = cc
lists_exact R exact (x ∷ xs) [] p = cc
lists_exact {X} R exact (x ∷ xs) (y ∷ ys) p =
    let parts = then_equal _ _ p in
    ap (λ (z : X). z ∷ xs) (exact x y parts.0) ∙ ap (λ (zs : List X). y ∷ zs) (lists_exact R exact xs ys parts.1)

pub bytes_exact : (a b : List ℕ) → slice_cmp nat_cmp a b ≡ Equal → a ≡ b
bytes_exact a b p = lists_exact nat_cmp exact_unsigned a b p

-- ---- the other way round

pub less_back : {X : Type 0} {R : X → X → Ordering} → IsTotalOrder R → (x y : X) → R x y ≡ Less → R y x ≡ Greater
less_back total x y p = total.antisymm y x ∙ ap ordering_reverse p

pub greater_back : {X : Type 0} {R : X → X → Ordering} → IsTotalOrder R → (x y : X) → R x y ≡ Greater → R y x ≡ Less
greater_back total x y p = total.antisymm y x ∙ ap ordering_reverse p

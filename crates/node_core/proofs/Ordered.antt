-- The test of the order of changes is what it tests.
use Rattle.std.proofs.Common.{◌≡◌, ◌↔◌, Bool, true, false, List, [], ◌∷◌, refl, sym}
use Rattle.std.specs.Prelude.{◌&&◌, IsTrue}
use Rattle.std.specs.List.{list_all, AllByRecursion}
use Rattle.std.specs.List.Sorted.{IsStrictlySortedBy}
use Rattle.std.specs.Ordering.{is_lt}
use Rattle.std.specs.declared.cmp.Ordering.{Ordering}
use Rattle.std.specs.declared.cmp.Ordering.TheVariants.{Less, Equal, Greater}
use Rattle.std.proofs.lemmas.Bool.{and_parts, and_from}
use Rattle.changes.specs.declared.Held.{Held}
use Rattle.changes.specs.Places.{stored_cmp, AreInOrder}
use Rattle.node_steps.specs.Fitting.{are_in_order}

abbrev Tests : Bool → Type 0 → Type 0
Tests b P = IsTrue b ↔ P

both : (a b : Bool) (P Q : Type 0) → Tests a P → Tests b Q → Tests (a && b) (P × Q)
both a b P Q p q = (λ h. let parts = and_parts a b h in (p.0 parts.0, q.0 parts.1), λ h. and_from a b (p.1 h.0) (q.1 h.1))

passed : Tests true (Unit {0})
passed = (λ h. tt, λ h. refl)

all_tested : {X : Type 0} (f : X → Bool) (P : X → Type 0) (xs : List X) → ((x : X) → Tests (f x) (P x)) → Tests (list_all f xs) (AllByRecursion P xs)
all_tested f P [] each = passed
all_tested f P (x ∷ xs) each = both (f x) (list_all f xs) _ _ (each x) (all_tested f P xs each)

less_tested : (o : Ordering) → Tests (is_lt o) (o ≡ Less)
less_tested Less = (λ h. refl, λ h. refl)
less_tested Equal = (λ h. cc, λ h. cc)
less_tested Greater = (λ h. cc, λ h. cc)

order_tested : (xs : List Held) → Tests (are_in_order xs) (AreInOrder xs)
unfolding IsStrictlySortedBy
order_tested [] = passed
order_tested (x ∷ xs) = both (list_all (λ y. is_lt (stored_cmp x y)) xs) (are_in_order xs) _ _ (all_tested (λ y. is_lt (stored_cmp x y)) (λ y. stored_cmp x y ≡ Less) xs (λ y. less_tested (stored_cmp x y))) (order_tested xs)

by_both : (a b : Bool) (P : Type 0) → Tests a P → Tests b P → a ≡ b
by_both true true P p q = refl
by_both false false P p q = refl
by_both true false P p q = sym (q.1 (p.0 refl))
by_both false true P p q = p.1 (q.0 refl)

pub order_is : (b : Bool) (xs : List Held) → Tests b (AreInOrder xs) → b ≡ are_in_order xs
order_is b xs h = by_both b (are_in_order xs) (AreInOrder xs) h (order_tested xs)

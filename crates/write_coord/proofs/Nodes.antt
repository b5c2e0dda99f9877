-- Nodes that were heard of, and one more.
use Rattle.std.proofs.Common.{◌≡◌, ◌⊎◌, inl, inr, ℕ, ◌+◌, ◌<◌, ◌≤◌, Bool, true, false, ◌||◌, refl, sym, ap, ◌∙◌, arith, List, [], ◌∷◌, ◌++◌, length, take}
use Rattle.std.specs.Prelude.{nat_eq}
use Rattle.std.specs.List.{list_any}
use Rattle.std.specs.Set.{distinct_count}
use Rattle.std.proofs.lemmas.Bool.{eqb-true, false≢true}
use Rattle.std.proofs.lemmas.Cmp.{nat_eq_equiv}
use Rattle.std.proofs.lemmas.List.{length_push, length-take-le}
use Rattle.std.proofs.lemmas.List.Folds.{list_any-append}
use Rattle.std.proofs.lemmas.Map.Keys.{IsDistinct-push}
use Rattle.std.proofs.lemmas.Map.Made.{IsDistinct-from_count, distinct_count-le}
use Rattle.std.proofs.lemmas.Map.Steps.{length-le_from_distinct_below}
use Rattle.cs_base.specs.Quorums.{is_in}
use Rattle.write_coord.specs.Nodes.{AreNodes}

any_turned : (xs : List ℕ) (y : ℕ) → list_any (nat_eq y) xs ≡ is_in xs y
any_turned [] y = refl
any_turned (x ∷ xs) y =
    ap (λ (b : Bool). b || list_any (nat_eq y) xs) (nat_eq_equiv.symm y x) ∙ ap (λ (b : Bool). nat_eq x y || b) (any_turned xs y)

either_true : (a b : Bool) → (a || (b || false)) ≡ true → (a ≡ true) ⊎ (b ≡ true)
either_true true b e = inl refl
either_true false true e = inr refl
either_true false false e = inr e

below_more : (xs : List ℕ) (y : ℕ) → y ≤ 6 → AreNodes xs → (k : ℕ) → list_any (nat_eq k) (xs ++ y ∷ []) ≡ true → k < 7
below_more xs y low are k found =
    elim (either_true (list_any (nat_eq k) xs) (nat_eq k y) (sym (list_any-append (nat_eq k) xs (y ∷ [])) ∙ found)) [
      | inl before ↦ are.below k before
      | inr here ↦ let same : k ≡ y = eqb-true k y here in omega (arith, same, low)
    ]

no_count : distinct_count nat_eq [] ≡ length {A = ℕ} []
no_count =
    let few : distinct_count nat_eq [] ≤ length {A = ℕ} [] = distinct_count-le nat_eq [] in
    omega (arith, few)

pub no_nodes : AreNodes []
no_nodes = record { distinct = IsDistinct-from_count nat_eq_equiv [] no_count; below = λ k found. absurd (false≢true found) }

pub and_one_more : (xs : List ℕ) (y : ℕ) → y ≤ 6 → AreNodes xs → is_in xs y ≡ false → AreNodes (xs ++ y ∷ [])
and_one_more xs y low are new = record {
  distinct = IsDistinct-push nat_eq_equiv xs y are.distinct (any_turned xs y ∙ new);
  below = below_more xs y low are;
}

pub there_is_room : (nodes : List ℕ) (count y : ℕ) → length nodes ≡ 7 → count ≤ 7 → y ≤ 6 → AreNodes (take count nodes) → is_in (take count nodes) y ≡ false → count < 7
there_is_room nodes count y seven few low are new =
    let more : AreNodes (take count nodes ++ y ∷ []) = and_one_more (take count nodes) y low are new in
    let fit : length (take count nodes ++ y ∷ []) ≤ 7 = length-le_from_distinct_below (take count nodes ++ y ∷ []) 7 more.distinct more.below in
    let grown : length (take count nodes ++ y ∷ []) ≡ length (take count nodes) + 1 = length_push (take count nodes) y in
    let short : count ≤ length nodes = omega (arith, seven, few) in
    let as_many : length (take count nodes) ≡ count = length-take-le count nodes short in
    omega (arith, fit, grown, as_many)

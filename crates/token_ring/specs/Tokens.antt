-- The array in which a ring is kept.
use Rattle.std.proofs.Common.{◌≡◌, ℕ, ◌-◌, ◌≤◌, sym, ap, ◌∙◌, arith, List, ◌++◌, length, take, drop, ℤ, pos, length-take}
use Rattle.std.specs.Prelude.{replicate}
use Rattle.std.proofs.lemmas.List.{take-append-drop}
use Rattle.cs_base.specs.Ring.{IsRing}

-- the first of seven places hold the ring's tokens, and the others 0
pub record HoldsRing (array : List ℤ) (nodes : ℕ) : Type 0 where
  pub long : length array ≡ 7
  pub few : nodes ≤ 7
  pub rest : drop nodes array ≡ replicate (7 - nodes) (pos 0)
  pub ring : IsRing (take nodes array)

abbrev pub array_of : List ℤ → List ℤ
array_of ring = ring ++ replicate (7 - length ring) (pos 0)

-- the array is given back by the ring
pub count_back : (array : List ℤ) (n : ℕ) → HoldsRing array n → length (take n array) ≡ n
count_back array n h = let long = h.long in let few = h.few in omega (arith, length-take n array)

pub array_back : (array : List ℤ) (n : ℕ) → HoldsRing array n → array_of (take n array) ≡ array
array_back array n h =
    ap (λ (k : ℕ). take n array ++ replicate (7 - k) (pos 0)) (count_back array n h)
    ∙ ap (λ (xs : List ℤ). take n array ++ xs) (sym h.rest)
    ∙ take-append-drop n array

-- What a list has after one of its places is written.
use Rattle.std.proofs.Common.{◌≡◌, ◌≢◌, ℕ, zero, suc, ◌⊎◌, inl, inr, Some, List, [], ◌∷◌, refl, sym, ap, arith}
use Rattle.std.specs.Prelude.{slice_get, slice_set}

pub some_one : {X : Type 0} {x y : X} → Some x ≡ Some y → x ≡ y
some_one h = cc

-- what stands at j after v was written at k
pub get_set : {X : Type 0} (xs : List X) (k : ℕ) (v : X) (j : ℕ) (x : X) → slice_get (slice_set xs k v) j ≡ Some x → ((j ≡ k) × (x ≡ v)) ⊎ ((j ≢ k) × (slice_get xs j ≡ Some x))
get_set [] k v j x h = cc
get_set (y ∷ ys) zero v zero x h = inl (refl, sym (some_one h))
get_set (y ∷ ys) zero v (suc j) x h = inr (omega arith, h)
get_set (y ∷ ys) (suc k) v zero x h = inr (omega arith, h)
get_set (y ∷ ys) (suc k) v (suc j) x h = elim (get_set ys k v j x h) [ inl e ↦ inl (ap suc e.0, e.1) | inr e ↦ inr (omega (arith, e.0), e.1) ]

pub set_get : {X : Type 0} (xs : List X) (k : ℕ) (x v : X) → slice_get xs k ≡ Some x → slice_get (slice_set xs k v) k ≡ Some v
set_get [] k x v h = cc
set_get (y ∷ ys) zero x v h = refl
set_get (y ∷ ys) (suc k) x v h = set_get ys k x v h

pub set_other : {X : Type 0} (xs : List X) (k : ℕ) (v : X) (j : ℕ) (x : X) → j ≢ k → slice_get xs j ≡ Some x → slice_get (slice_set xs k v) j ≡ Some x
set_other [] k v j x other h = cc
set_other (y ∷ ys) zero v zero x other h = absurd (other refl)
set_other (y ∷ ys) zero v (suc j) x other h = h
set_other (y ∷ ys) (suc k) v zero x other h = h
set_other (y ∷ ys) (suc k) v (suc j) x other h = set_other ys k v j x (λ e. other (ap suc e)) h

pub set_same : {X : Type 0} (xs : List X) (k : ℕ) (x : X) → slice_get xs k ≡ Some x → slice_set xs k x ≡ xs
set_same [] k x h = cc
set_same (y ∷ ys) zero x h = ap (λ z. z ∷ ys) (sym (some_one h))
set_same (y ∷ ys) (suc k) x h = ap (λ zs. y ∷ zs) (set_same ys k x h)

pub set_set : {X : Type 0} (xs : List X) (k : ℕ) (u v : X) → slice_set (slice_set xs k u) k v ≡ slice_set xs k v
set_set [] k u v = refl
set_set (y ∷ ys) zero u v = refl
set_set (y ∷ ys) (suc k) u v = ap (λ zs. y ∷ zs) (set_set ys k u v)

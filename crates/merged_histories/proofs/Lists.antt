-- Lists that are merged: what is in them, and that a function may be mapped before or after.
use Rattle.std.proofs.Common.{◌≡◌, ◌⊎◌, ℕ, inl, inr, Bool, true, false, List, [], ◌∷◌, Contains, map, refl, ap, subst}
use Rattle.std.specs.Prelude.{if◌then◌else◌}
use Rattle.cs_base.proofs.Members.{contains_cases, contains_here, contains_nil, contains_there}
use Rattle.merged_histories.specs.Merging.{is_first, put_in, merged}

-- each element is of one of two lists
abbrev pub IsOf : {X : Type 0} → List X → List X → List X → Type 0
IsOf {X} xs ys all = (z : X) → Contains all z → Contains xs z ⊎ Contains ys z

module _ {X : Type 0} (key : X → ℕ × ℕ) where
  put_of_if : (x y : X) (xs ys : List X) (rest : List X → List X) (b : Bool) → IsOf xs (y ∷ ys) (rest (y ∷ ys)) → IsOf (x ∷ xs) ys (put_in key x rest ys) → IsOf (x ∷ xs) (y ∷ ys) (if b then x ∷ rest (y ∷ ys) else y ∷ put_in key x rest ys)
  put_of_if x y xs ys rest true behind more z h = elim (contains_cases x (rest (y ∷ ys)) z h) [
    | inl same ↦ inl (subst (λ (v : X). Contains (x ∷ xs) v) same (contains_here x xs))
    | inr there ↦ elim (behind z there) [ inl left ↦ inl (contains_there x xs z left) | inr right ↦ inr right ]
  ]
  put_of_if x y xs ys rest false behind more z h = elim (contains_cases y (put_in key x rest ys) z h) [
    | inl same ↦ inr (subst (λ (v : X). Contains (y ∷ ys) v) same (contains_here y ys))
    | inr there ↦ elim (more z there) [ inl left ↦ inl left | inr right ↦ inr (contains_there y ys z right) ]
  ]

  pub put_of : (x : X) (xs : List X) (rest : List X → List X) → ((zs : List X) → IsOf xs zs (rest zs)) → (ys : List X) → IsOf (x ∷ xs) ys (put_in key x rest ys)
  put_of x xs rest behind [] z h = elim (contains_cases x (rest []) z h) [
    | inl same ↦ inl (subst (λ (v : X). Contains (x ∷ xs) v) same (contains_here x xs))
    | inr there ↦ elim (behind [] z there) [ inl left ↦ inl (contains_there x xs z left) | inr right ↦ absurd (contains_nil z right) ]
  ]
  put_of x xs rest behind (y ∷ ys) z h = put_of_if x y xs ys rest (is_first (key x) (key y)) (behind (y ∷ ys)) (put_of x xs rest behind ys) z h

  pub merged_of : (xs ys : List X) → IsOf xs ys (merged key xs ys)
  merged_of [] ys z h = inr h
  merged_of (x ∷ xs) ys z h = put_of x xs (λ zs. merged key xs zs) (λ zs. merged_of xs zs) ys z h

module _ {X Y : Type 0} (f : X → Y) (key : Y → ℕ × ℕ) where
  abbrev key_by : X → ℕ × ℕ
  key_by x = key (f x)

  put_map_if : (x y : X) (ys : List X) (rest : List X → List X) (rest' : List Y → List Y) (b : Bool) → map f (rest (y ∷ ys)) ≡ rest' (map f (y ∷ ys)) → map f (put_in key_by x rest ys) ≡ put_in key (f x) rest' (map f ys)
      → map f (if b then x ∷ rest (y ∷ ys) else y ∷ put_in key_by x rest ys) ≡ (if b then f x ∷ rest' (map f (y ∷ ys)) else f y ∷ put_in key (f x) rest' (map f ys))
  put_map_if x y ys rest rest' true behind more = ap (λ (zs : List Y). f x ∷ zs) behind
  put_map_if x y ys rest rest' false behind more = ap (λ (zs : List Y). f y ∷ zs) more

  put_map : (x : X) (ys : List X) (rest : List X → List X) (rest' : List Y → List Y) → ((zs : List X) → map f (rest zs) ≡ rest' (map f zs)) → map f (put_in key_by x rest ys) ≡ put_in key (f x) rest' (map f ys)
  put_map x [] rest rest' behind = ap (λ (zs : List Y). f x ∷ zs) (behind [])
  put_map x (y ∷ ys) rest rest' behind = put_map_if x y ys rest rest' (is_first (key_by x) (key_by y)) (behind (y ∷ ys)) (put_map x ys rest rest' behind)

  pub merged_map : (xs ys : List X) → map f (merged (λ (x : X). key (f x)) xs ys) ≡ merged key (map f xs) (map f ys)
  merged_map [] ys = refl
  merged_map (x ∷ xs) ys = put_map x ys (λ zs. merged key_by xs zs) (λ zs. merged key (map f xs) zs) (λ zs. merged_map xs zs)

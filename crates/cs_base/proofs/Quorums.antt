-- Two counts of more than all replicas share one.
use Rattle.std.proofs.Common.{◌≡◌, ℕ, ◌<◌, ◌≤◌, ◌+◌, inl, inr, List, [], ◌∷◌, Bool, true, false, cond, subst, arith, Contains, length, eqb}
use Rattle.std.specs.Prelude.{count_by}
use Rattle.std.proofs.lemmas.Bool.{cases_Bool, eqb-true}
use Rattle.std.proofs.lemmas.List.Sums.{sum_by-cons}
use Rattle.cs_base.specs.Levels.{Meets}
use Rattle.cs_base.specs.Quorums.{is_in, heard_of}
use Rattle.cs_base.proofs.Members.{contains_here, contains_there, some_passes}

at_most_one : (b : Bool) → cond b 1 0 ≤ 1
at_most_one true = omega arith
at_most_one false = omega arith

at_least_none : (b : Bool) → b ≡ false → cond b 1 0 ≤ 0
at_least_none true h = cc
at_least_none false h = omega arith

-- tests that pass more members than there are pass a member in common
pub both_pass : (ks : List ℕ) (p q : ℕ → Bool) → length ks < count_by p ks + count_by q ks → (k : ℕ) × Contains ks k × (p k ≡ true) × (q k ≡ true)
both_pass [] p q h = absurd (omega arith)
both_pass (k ∷ ks) p q h =
    let pk = sum_by-cons (λ x. cond (p x) 1 0) k ks in
    let qk = sum_by-cons (λ x. cond (q x) 1 0) k ks in
    let p_most = at_most_one (p k) in
    let q_most = at_most_one (q k) in
    elim (cases_Bool (p k)) [
      | inl t ↦ elim (cases_Bool (q k)) [
        | inl u ↦ (k, contains_here k ks, t, u)
        | inr f ↦ let none = at_least_none (q k) f in later p q k ks (both_pass ks p q (omega arith))
      ]
      | inr f ↦ let none = at_least_none (p k) f in later p q k ks (both_pass ks p q (omega arith))
    ]
  where
    later : (p q : ℕ → Bool) (k : ℕ) (ks : List ℕ) → (j : ℕ) × Contains ks j × (p j ≡ true) × (q j ≡ true) → (j : ℕ) × Contains (k ∷ ks) j × (p j ≡ true) × (q j ≡ true)
    later p q k ks r = (r.0, contains_there k ks r.0 r.1, r.2, r.3)

pub is_in_contains : (heard : List ℕ) (k : ℕ) → is_in heard k ≡ true → Contains heard k
is_in_contains heard k h = let one = some_passes (λ j. eqb j k) heard h in subst (Contains heard) (eqb-true one.0 k one.2) one.1

-- two sets of nodes heard of that make more than all replicas share a replica
pub shared : (replicas first second : List ℕ) → Meets (heard_of replicas first) (heard_of replicas second) (length replicas) → (k : ℕ) × Contains replicas k × Contains first k × Contains second k
shared replicas first second h =
    let r = both_pass replicas (is_in first) (is_in second) h in
    (r.0, r.1, is_in_contains first r.0 r.2, is_in_contains second r.0 r.3)

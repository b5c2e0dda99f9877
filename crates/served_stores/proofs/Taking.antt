-- Nodes that are loaded, one after another.
use Rattle.std.proofs.Common.{◌≡◌, ◌≢◌, ℕ, zero, suc, ◌+◌, ◌<◌, ◌≤◌, Some, List, [], ◌∷◌, ◌++◌, length, refl, sym, subst, ◌∙◌, arith, inl, inr}
use Rattle.std.specs.Prelude.{slice_get}
use Rattle.std.proofs.lemmas.Bool.Decides.{leb_tells}
use mathlib.Core.Path.{fun_ext}
use Rattle.peer_messages.specs.declared.setting.Setting.{Setting}
use Rattle.node_core.specs.Nodes.{Core}
use Rattle.node_core.specs.declared.node.Node.{Node}
use Rattle.served_stores.specs.Shown.{Shown, IsSameAt}
use Rattle.served_stores.specs.Loading.{Keeper, IsLoaded, IsTaken, AreTakenFrom}

module _ {R : Type 0} (m : Keeper R) (setting : Setting) where
  loaded_as : (n : ℕ) (held held' : ℕ → List ℕ) (core : Core) (replica : R) → ((k : ℕ) → held k ≡ held' k) → IsLoaded m setting n held core replica → IsLoaded m setting n held' core replica
  loaded_as n held held' core replica same h = subst (λ (files : ℕ → List ℕ). IsLoaded m setting n files core replica) (fun_ext same) h

  taken_stays : (n : ℕ) (old mid new : Shown) (core : Core) (replica : R) → IsTaken m setting n old mid core replica → IsSameAt n mid new → IsTaken m setting n old new core replica
  taken_stays n old mid new core replica h same = record {
    loaded = h.loaded;
    was_home = h.was_home;
    out = same.is_out ∙ h.out;
    taken = (let e = same.taken in let le = h.taken in omega arith);
    later = (let e = same.faults in let le = h.later in omega arith);
  }

  taken_since : (n : ℕ) (old mid new : Shown) (core : Core) (replica : R) → IsSameAt n old mid → IsTaken m setting n mid new core replica → IsTaken m setting n old new core replica
  taken_since n old mid new core replica same h = record {
    loaded = loaded_as n (mid.holds n) (old.holds n) core replica same.holds h.loaded;
    was_home = sym same.is_out ∙ h.was_home;
    out = h.out;
    taken = h.taken;
    later = (let e = same.faults in let le = h.later in omega arith);
  }

module _ {R D : Type 0} (m : Keeper R) (setting : Setting) where
  stay_taken : (n : ℕ) (xs : List (Node R D)) (old mid new : Shown) → AreTakenFrom m setting n xs old mid → ((k : ℕ) → k < n + length xs → IsSameAt k mid new) → AreTakenFrom m setting n xs old new
  stay_taken n [] old mid new h same = tt
  stay_taken n (x ∷ xs) old mid new h same =
      (taken_stays m setting n old mid new x.core x.replica h.0 (same n (omega arith)), stay_taken (n + 1) xs old mid new h.1 (λ k lt. same k (omega (arith, lt))))

  snoc_taken : (n : ℕ) (xs : List (Node R D)) (x : Node R D) (old new : Shown) → AreTakenFrom m setting n xs old new → IsTaken m setting (n + length xs) old new x.core x.replica → AreTakenFrom m setting n (xs ++ x ∷ []) old new
  snoc_taken n [] x old new h one = (subst (λ (k : ℕ). IsTaken m setting k old new x.core x.replica) (let e : n + 0 ≡ n = omega arith in e) one, tt)
  snoc_taken n (y ∷ xs) x old new h one =
      (h.0, snoc_taken (n + 1) xs x old new h.1 (subst (λ (k : ℕ). IsTaken m setting k old new x.core x.replica) (let e : n + suc (length xs) ≡ n + 1 + length xs = omega arith in e) one))

  -- one more node is loaded
  pub more_taken : (n : ℕ) (xs : List (Node R D)) (x : Node R D) (old mid new : Shown) → n ≡ length xs → AreTakenFrom m setting 0 xs old mid → ((k : ℕ) → n ≤ k → IsSameAt k old mid)
      → IsTaken m setting n mid new x.core x.replica → ((k : ℕ) → k ≢ n → IsSameAt k mid new) → AreTakenFrom m setting 0 (xs ++ x ∷ []) old new
  more_taken n xs x old mid new count h past one others =
      let here = taken_since m setting n old mid new x.core x.replica (past n (omega arith)) one in
      snoc_taken 0 xs x old new (stay_taken 0 xs old mid new h (λ k lt. others k (omega (arith, lt, count))))
      (subst (λ (k : ℕ). IsTaken m setting k old new x.core x.replica) (let e : n ≡ 0 + length xs = omega (arith, count) in e) here)

  taken_from : (n k : ℕ) (xs : List (Node R D)) (old new : Shown) → AreTakenFrom m setting n xs old new → k < length xs → (x : Node R D) × (slice_get xs k ≡ Some x) × IsTaken m setting (n + k) old new x.core x.replica
  taken_from n k [] old new h lt = absurd (omega (arith, lt))
  taken_from n zero (x ∷ xs) old new h lt = (x, refl, subst (λ (j : ℕ). IsTaken m setting j old new x.core x.replica) (let e : n ≡ n + 0 = omega arith in e) h.0)
  taken_from n (suc k) (x ∷ xs) old new h lt =
      let (y, at, one) = taken_from (n + 1) k xs old new h.1 (omega (arith, lt)) in
      (y, at, subst (λ (j : ℕ). IsTaken m setting j old new y.core y.replica) (let e : n + 1 + k ≡ n + suc k = omega arith in e) one)

  -- the node at a place of the list
  pub taken_at : (k : ℕ) (xs : List (Node R D)) (old new : Shown) → AreTakenFrom m setting 0 xs old new → k < length xs → (x : Node R D) × (slice_get xs k ≡ Some x) × IsTaken m setting k old new x.core x.replica
  taken_at k xs old new h lt =
      let (x, at, one) = taken_from 0 k xs old new h lt in
      (x, at, subst (λ (j : ℕ). IsTaken m setting j old new x.core x.replica) (let e : 0 + k ≡ k = omega arith in e) one)

  -- no count fell
  pub taken_later : (n : ℕ) (xs : List (Node R D)) (old new : Shown) → n ≡ length xs → AreTakenFrom m setting 0 xs old new → ((k : ℕ) → n ≤ k → IsSameAt k old new) → (k : ℕ) → old.faults k ≤ new.faults k
  taken_later n xs old new count h past k =
      elim (leb_tells n k) [
        | inl behind ↦ (let e = (past k behind.1).faults in omega arith)
        | inr before ↦ (let lt = before.1 in let (x, at, one) = taken_at k xs old new h (omega (arith, lt, count)) in one.later)
      ]

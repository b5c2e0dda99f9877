-- Stores that are back, one after another.
use Rattle.std.proofs.Common.{◌≡◌, ◌≢◌, ℕ, zero, suc, ◌+◌, ◌<◌, ◌≤◌, Some, None, List, [], ◌∷◌, ◌++◌, length, refl, sym, subst, ◌∙◌, arith}
use Rattle.std.specs.Prelude.{slice_get}
use Rattle.cs_base.specs.Faults.{HasRisen}
use Rattle.served_stores.specs.Shown.{Shown, IsSameAt}
use Rattle.served_stores.specs.Releasing.{IsBackAt, AreBackFrom}

pub same_at : (n : ℕ) (here : Shown) → IsSameAt n here here
same_at n here = record { holds = λ k. refl; faults = refl; taken = refl; is_out = refl }

pub same_on : (n : ℕ) (old mid new : Shown) → IsSameAt n old mid → IsSameAt n mid new → IsSameAt n old new
same_on n old mid new h g = record { holds = λ k. g.holds k ∙ h.holds k; faults = g.faults ∙ h.faults; taken = g.taken ∙ h.taken; is_out = g.is_out ∙ h.is_out }

risen_same : (a b c d : ℕ) → a ≡ b → c ≡ d → HasRisen a c → HasRisen b d
risen_same a b c d e f h = subst (λ (x : ℕ). HasRisen x d) e (subst (λ (y : ℕ). HasRisen a y) f h)

module _ (is_honest : Type 0) (seen : ℕ → List ℕ) (count : ℕ) where
  back_stays : (n : ℕ) (old mid new : Shown) → IsBackAt is_honest seen count n old mid → IsSameAt n mid new → IsBackAt is_honest seen count n old new
  back_stays n old mid new h same = record {
    home = same.is_out ∙ h.home;
    holds = λ honest k. same.holds k ∙ h.holds honest k;
    later = (let e = same.faults in let le = h.later in omega arith);
    rose = λ up. risen_same (old.faults n) (old.faults n) (mid.faults n) (new.faults n) refl (sym same.faults) (h.rose up);
    stays = λ not. same.faults ∙ h.stays not;
  }

  back_since : (n : ℕ) (old mid new : Shown) → IsSameAt n old mid → IsBackAt is_honest seen count n mid new → IsBackAt is_honest seen count n old new
  back_since n old mid new same h = record {
    home = h.home;
    holds = h.holds;
    later = (let e = same.faults in let le = h.later in omega arith);
    rose = λ up. risen_same (mid.faults n) (old.faults n) (new.faults n) (new.faults n) same.faults refl (h.rose (risen_same (old.taken n) (mid.taken n) count count (sym same.taken) refl up));
    stays = λ not. h.stays (λ up. not (risen_same (mid.taken n) (old.taken n) count count same.taken refl up)) ∙ same.faults;
  }

nothing : {R : Type 0} {x : R} → None ≡ Some x → ⊥
nothing e = cc

module _ {R : Type 0} (is_honest : Type 0) (seen_of : R → ℕ → List ℕ) (count_of : R → ℕ) where
  stay_back : (n : ℕ) (xs : List R) (old mid new : Shown) → AreBackFrom is_honest seen_of count_of n xs old mid → ((k : ℕ) → k < n + length xs → IsSameAt k mid new) → AreBackFrom is_honest seen_of count_of n xs old new
  stay_back n [] old mid new h same = tt
  stay_back n (x ∷ xs) old mid new h same =
      (back_stays is_honest (seen_of x) (count_of x) n old mid new h.0 (same n (omega arith)), stay_back (n + 1) xs old mid new h.1 (λ k lt. same k (omega (arith, lt))))

  snoc_back : (n : ℕ) (xs : List R) (x : R) (old new : Shown) → AreBackFrom is_honest seen_of count_of n xs old new → IsBackAt is_honest (seen_of x) (count_of x) (n + length xs) old new → AreBackFrom is_honest seen_of count_of n (xs ++ x ∷ []) old new
  snoc_back n [] x old new h one = (subst (λ (k : ℕ). IsBackAt is_honest (seen_of x) (count_of x) k old new) (let e : n + 0 ≡ n = omega arith in e) one, tt)
  snoc_back n (y ∷ xs) x old new h one =
      (h.0, snoc_back (n + 1) xs x old new h.1 (subst (λ (k : ℕ). IsBackAt is_honest (seen_of x) (count_of x) k old new) (let e : n + suc (length xs) ≡ n + 1 + length xs = omega arith in e) one))

  -- one more store is back
  pub more_back : (n : ℕ) (xs : List R) (x : R) (old mid new : Shown) → n ≡ length xs → AreBackFrom is_honest seen_of count_of 0 xs old mid → ((k : ℕ) → n ≤ k → IsSameAt k old mid)
      → IsBackAt is_honest (seen_of x) (count_of x) n mid new → ((k : ℕ) → k ≢ n → IsSameAt k mid new) → AreBackFrom is_honest seen_of count_of 0 (xs ++ x ∷ []) old new
  more_back n xs x old mid new count h past one others =
      let here = back_since is_honest (seen_of x) (count_of x) n old mid new (past n (omega arith)) one in
      snoc_back 0 xs x old new (stay_back 0 xs old mid new h (λ k lt. others k (omega (arith, lt, count))))
      (subst (λ (k : ℕ). IsBackAt is_honest (seen_of x) (count_of x) k old new) (let e : n ≡ 0 + length xs = omega (arith, count) in e) here)

  back_from : (n k : ℕ) (xs : List R) (x : R) (old new : Shown) → AreBackFrom is_honest seen_of count_of n xs old new → slice_get xs k ≡ Some x → IsBackAt is_honest (seen_of x) (count_of x) (n + k) old new
  back_from n k [] x old new h at = absurd (nothing at)
  back_from n zero (y ∷ xs) x old new h at =
      let same : y ≡ x = cc in
      subst (λ (j : ℕ). IsBackAt is_honest (seen_of x) (count_of x) j old new) (let e : n ≡ n + 0 = omega arith in e)
      (subst (λ (z : R). IsBackAt is_honest (seen_of z) (count_of z) n old new) same h.0)
  back_from n (suc k) (y ∷ xs) x old new h at =
      subst (λ (j : ℕ). IsBackAt is_honest (seen_of x) (count_of x) j old new) (let e : n + 1 + k ≡ n + suc k = omega arith in e) (back_from (n + 1) k xs x old new h.1 at)

  -- the store of the node at a place of the list
  pub back_at : (k : ℕ) (xs : List R) (x : R) (old new : Shown) → AreBackFrom is_honest seen_of count_of 0 xs old new → slice_get xs k ≡ Some x → IsBackAt is_honest (seen_of x) (count_of x) k old new
  back_at k xs x old new h at =
      subst (λ (j : ℕ). IsBackAt is_honest (seen_of x) (count_of x) j old new) (let e : 0 + k ≡ k = omega arith in e) (back_from 0 k xs x old new h at)

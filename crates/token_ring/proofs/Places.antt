-- Places in a list by a measure of its elements: how many elements measure less.
use Rattle.std.proofs.Common.{◌≡◌, inl, inr, ℕ, zero, suc, ◌+◌, ◌-◌, ◌<◌, ◌≤◌, Bool, true, false, cond, refl, sym, ◌∙◌, subst, arith, List, [], ◌∷◌, length, Some, ltb, eqb, ℤ}
use Rattle.std.specs.Prelude.{slice_get, count_by}
use Rattle.std.proofs.lemmas.Bool.{cases_Bool, cases_lt, ltb-true, ltb-false, lt-ltb, le-ltb, eqb-true, eq-eqb, ne_eqb}
use Rattle.std.proofs.lemmas.List.Sums.{sum_by-cons, count_by-le-length}

-- how many of the list measure less
abbrev pub rank : (ℤ → ℕ) → List ℤ → ℤ → ℕ
rank f xs t = count_by (λ u. ltb (f u) (f t)) xs

-- different elements measure differently
abbrev pub Apart : (ℤ → ℕ) → List ℤ → Type 0
Apart f xs = (j k : ℕ) (s t : ℤ) → slice_get xs j ≡ Some s → slice_get xs k ≡ Some t → f s ≡ f t → j ≡ k

-- an element of this rank
pub record Ranked (f : ℤ → ℕ) (xs : List ℤ) (i : ℕ) : Type 0 where
  pub at : ℕ
  pub token : ℤ
  pub there : slice_get xs at ≡ Some token
  pub ranked : rank f xs token ≡ i

step_le : (b c : Bool) → (b ≡ true → c ≡ true) → cond b 1 0 ≤ cond c 1 0
step_le true c h = rw (h refl) (omega arith)
step_le false c h = omega arith

passes : (b : Bool) → b ≡ true → 1 ≤ cond b 1 0
passes true h = omega arith
passes false h = cc

fails : (b : Bool) → b ≡ false → cond b 1 0 ≤ 0
fails true h = cc
fails false h = omega arith

never_passes : (b : Bool) → (b ≡ true → ⊥) → cond b 1 0 ≤ 0
never_passes true h = absurd (h refl)
never_passes false h = omega arith

at_most : (b : Bool) → cond b 1 0 ≤ 1
at_most true = omega arith
at_most false = omega arith

rank_step : (f : ℤ → ℕ) (y : ℤ) (ys : List ℤ) (t : ℤ) → rank f (y ∷ ys) t ≡ cond (ltb (f y) (f t)) 1 0 + rank f ys t
rank_step f y ys t = sum_by-cons (λ x. cond (ltb (f x) (f t)) 1 0) y ys

-- who measures no more ranks no higher
pub rank_le : (f : ℤ → ℕ) (xs : List ℤ) (s t : ℤ) → f s ≤ f t → rank f xs s ≤ rank f xs t
rank_le f [] s t h = omega arith
rank_le f (y ∷ ys) s t h =
    let one = rank_step f y ys s in
    let two = rank_step f y ys t in
    let here = step_le (ltb (f y) (f s)) (ltb (f y) (f t)) (λ e. lt-ltb (f y) (f t) (let less = ltb-true (f y) (f s) e in omega arith)) in
    let rest = rank_le f ys s t h in
    omega arith

-- an element of the list ranks below those that measure more
pub rank_lt : (f : ℤ → ℕ) (xs : List ℤ) (s t : ℤ) (k : ℕ) → slice_get xs k ≡ Some s → f s < f t → rank f xs s < rank f xs t
rank_lt f [] s t k at h = cc
rank_lt f (y ∷ ys) s t zero at h =
    let same : y ≡ s = cc in
    let one = rank_step f y ys s in
    let two = rank_step f y ys t in
    let mine : ltb (f y) (f s) ≡ false = le-ltb (f y) (f s) (subst (λ (z : ℤ). f s ≤ f z) (sym same) (omega arith)) in
    let theirs : ltb (f y) (f t) ≡ true = lt-ltb (f y) (f t) (subst (λ (z : ℤ). f z < f t) (sym same) h) in
    let none = fails (ltb (f y) (f s)) mine in
    let some = passes (ltb (f y) (f t)) theirs in
    let rest = rank_le f ys s t (omega arith) in
    omega arith
rank_lt f (y ∷ ys) s t (suc k) at h =
    let one = rank_step f y ys s in
    let two = rank_step f y ys t in
    let here = step_le (ltb (f y) (f s)) (ltb (f y) (f t)) (λ e. lt-ltb (f y) (f t) (let less = ltb-true (f y) (f s) e in omega arith)) in
    let rest = rank_lt f ys s t k at h in
    omega arith

-- ---- each rank below the length is some element's

later : (f : ℤ → ℕ) (y : ℤ) (ys : List ℤ) → Apart f (y ∷ ys) → Apart f ys
later f y ys apart j k s t at_j at_k same = let e : suc j ≡ suc k = apart (suc j) (suc k) s t at_j at_k same in omega arith

-- the element at the head, or one of the tail, by how the rank stands to the head's
below_head : (f : ℤ → ℕ) (y : ℤ) (ys : List ℤ) (i : ℕ) → i < rank f ys y → Ranked f ys i → Ranked f (y ∷ ys) i
below_head f y ys i h r =
    let nearer : f r.token < f y = elim (cases_Bool (ltb (f r.token) (f y))) [
      | inl t ↦ ltb-true (f r.token) (f y) t
      | inr t ↦ let le = rank_le f ys y r.token (ltb-false (f r.token) (f y) t) in let old = r.ranked in absurd (omega arith)
    ] in
    let none = fails (ltb (f y) (f r.token)) (le-ltb (f y) (f r.token) (omega arith)) in
    let step = rank_step f y ys r.token in
    let old = r.ranked in
    record { at = suc r.at; token = r.token; there = r.there; ranked = omega arith }

above_head : (f : ℤ → ℕ) (y : ℤ) (ys : List ℤ) (i : ℕ) → Apart f (y ∷ ys) → rank f ys y ≤ i → Ranked f ys i → Ranked f (y ∷ ys) (i + 1)
above_head f y ys i apart h r =
    let farther : f y < f r.token = elim (cases_Bool (ltb (f y) (f r.token))) [
      | inl t ↦ ltb-true (f y) (f r.token) t
      | inr t ↦ elim (cases_Bool (ltb (f r.token) (f y))) [
        | inl u ↦ let less = rank_lt f ys r.token y r.at r.there (ltb-true (f r.token) (f y) u) in let old = r.ranked in absurd (omega arith)
        | inr u ↦ let le = ltb-false (f y) (f r.token) t in let ge = ltb-false (f r.token) (f y) u in
            let same : zero ≡ suc r.at = apart zero (suc r.at) y r.token refl r.there (omega arith) in absurd (omega arith)
      ]
    ] in
    let some = passes (ltb (f y) (f r.token)) (lt-ltb (f y) (f r.token) farther) in
    let most = at_most (ltb (f y) (f r.token)) in
    let step = rank_step f y ys r.token in
    let old = r.ranked in
    record { at = suc r.at; token = r.token; there = r.there; ranked = omega arith }

head_ranked : (f : ℤ → ℕ) (y : ℤ) (ys : List ℤ) → Ranked f (y ∷ ys) (rank f ys y)
head_ranked f y ys =
    let none = fails (ltb (f y) (f y)) (le-ltb (f y) (f y) (omega arith)) in
    let step = rank_step f y ys y in
    record { at = zero; token = y; there = refl; ranked = omega arith }

-- some element has each rank below the length
pub ranked_at : (f : ℤ → ℕ) (xs : List ℤ) → Apart f xs → (i : ℕ) → i < length xs → Ranked f xs i
ranked_at f [] apart i h = absurd (omega arith)
ranked_at f (y ∷ ys) apart i h =
    elim (cases_Bool (ltb i (rank f ys y))) [
      | inl t ↦ let less = ltb-true i (rank f ys y) t in let short = count_by-le-length (λ u. ltb (f u) (f y)) ys in
          below_head f y ys i less (ranked_at f ys (later f y ys apart) i (omega arith))
      | inr t ↦ let more = ltb-false i (rank f ys y) t in
          elim (cases_Bool (ltb (rank f ys y) i)) [
            | inl u ↦ let above = ltb-true (rank f ys y) i u in
                subst (λ (n : ℕ). Ranked f (y ∷ ys) n) (let e : i - 1 + 1 ≡ i = omega arith in e)
                (above_head f y ys (i - 1) apart (omega arith) (ranked_at f ys (later f y ys apart) (i - 1) (omega arith)))
            | inr u ↦ let same = ltb-false (rank f ys y) i u in
                subst (λ (n : ℕ). Ranked f (y ∷ ys) n) (let e : rank f ys y ≡ i = omega arith in e) (head_ranked f y ys)
          ]
    ]

-- an element of the list has a rank below the length
pub rank_short : (f : ℤ → ℕ) (xs : List ℤ) (t : ℤ) (k : ℕ) → slice_get xs k ≡ Some t → rank f xs t < length xs
rank_short f [] t k at = cc
rank_short f (y ∷ ys) t zero at =
    let same : y ≡ t = cc in
    let step = rank_step f y ys t in
    let none = fails (ltb (f y) (f t)) (le-ltb (f y) (f t) (subst (λ (z : ℤ). f t ≤ f z) (sym same) (omega arith))) in
    let most = count_by-le-length (λ u. ltb (f u) (f t)) ys in
    omega arith
rank_short f (y ∷ ys) t (suc k) at =
    let step = rank_step f y ys t in
    let one = at_most (ltb (f y) (f t)) in
    let rest = rank_short f ys t k at in
    omega arith

-- an element that nothing measures less than has rank 0
pub rank_first : (f : ℤ → ℕ) (xs : List ℤ) (t : ℤ) → ((k : ℕ) (u : ℤ) → slice_get xs k ≡ Some u → f t ≤ f u) → rank f xs t ≡ 0
rank_first f [] t least = refl
rank_first f (y ∷ ys) t least =
    let step = rank_step f y ys t in
    let here = least 0 y refl in
    let none = fails (ltb (f y) (f t)) (le-ltb (f y) (f t) here) in
    let rest = rank_first f ys t (λ k u at. least (suc k) u at) in
    omega arith

-- ---- how many elements pass a test

pub count_step : (p : ℤ → Bool) (y : ℤ) (ys : List ℤ) → count_by p (y ∷ ys) ≡ cond (p y) 1 0 + count_by p ys
count_step p y ys = sum_by-cons (λ x. cond (p x) 1 0) y ys

count_none : (p : ℤ → Bool) (xs : List ℤ) → ((j : ℕ) (s : ℤ) → slice_get xs j ≡ Some s → p s ≡ true → ⊥) → count_by p xs ≡ 0
count_none p [] never = refl
count_none p (y ∷ ys) never =
    let step = count_step p y ys in
    let none = never_passes (p y) (never 0 y refl) in
    let rest = count_none p ys (λ j s at. never (suc j) s at) in
    omega arith

-- just one does, where one does and no other
pub count_one : (p : ℤ → Bool) (xs : List ℤ) (k : ℕ) (t : ℤ) → slice_get xs k ≡ Some t → p t ≡ true → ((j : ℕ) (s : ℤ) → slice_get xs j ≡ Some s → p s ≡ true → j ≡ k) → count_by p xs ≡ 1
count_one p [] k t at pass only = cc
count_one p (y ∷ ys) zero t at pass only =
    let same : t ≡ y = cc in
    let step = count_step p y ys in
    let some = passes (p y) (subst (λ (z : ℤ). p z ≡ true) same pass) in
    let one = at_most (p y) in
    let rest = count_none p ys (λ j s at_j q. let e : suc j ≡ 0 = only (suc j) s at_j q in omega arith) in
    omega arith
count_one p (y ∷ ys) (suc k) t at pass only =
    let step = count_step p y ys in
    let none = never_passes (p y) (λ q. let e : 0 ≡ suc k = only 0 y refl q in omega arith) in
    let rest = count_one p ys k t at pass (λ j s at_j q. let e : suc j ≡ suc k = only (suc j) s at_j q in omega arith) in
    omega arith

one_or_none : (a n : ℕ) → cond (ltb a (n + 1)) 1 0 ≡ cond (ltb a n) 1 0 + cond (eqb a n) 1 0
one_or_none a n =
    elim (cases_lt a n) [
      | inl low ↦ let x = passes (ltb a (n + 1)) (lt-ltb a (n + 1) (omega arith)) in let x' = at_most (ltb a (n + 1)) in let y = passes (ltb a n) (lt-ltb a n low) in let y' = at_most (ltb a n) in
          let z = fails (eqb a n) (ne_eqb a n (λ e. omega arith)) in omega arith
      | inr high ↦ elim (cases_lt n a) [
        | inl above ↦ let x = fails (ltb a (n + 1)) (le-ltb a (n + 1) (omega arith)) in let y = fails (ltb a n) (le-ltb a n high) in let z = fails (eqb a n) (ne_eqb a n (λ e. omega arith)) in omega arith
        | inr same ↦ let x = passes (ltb a (n + 1)) (lt-ltb a (n + 1) (omega arith)) in let x' = at_most (ltb a (n + 1)) in let y = fails (ltb a n) (le-ltb a n high) in
            let z = passes (eqb a n) (eq-eqb a n (omega arith)) in let z' = at_most (eqb a n) in omega arith
      ]
    ]

-- below n + 1 are those below n and those at n
count_below_more : (g : ℤ → ℕ) (xs : List ℤ) (n : ℕ) → count_by (λ t. ltb (g t) (n + 1)) xs ≡ count_by (λ t. ltb (g t) n) xs + count_by (λ t. eqb (g t) n) xs
count_below_more g [] n = omega arith
count_below_more g (y ∷ ys) n =
    let one = count_step (λ t. ltb (g t) (n + 1)) y ys in
    let two = count_step (λ t. ltb (g t) n) y ys in
    let three = count_step (λ t. eqb (g t) n) y ys in
    let here = one_or_none (g y) n in
    let rest = count_below_more g ys n in
    omega arith

count_below_none : (g : ℤ → ℕ) (xs : List ℤ) → count_by (λ t. ltb (g t) 0) xs ≡ 0
count_below_none g xs = count_none (λ t. ltb (g t) 0) xs (λ j s at h. let low = ltb-true (g s) 0 h in omega arith)

-- elements of one rank are one
pub same_rank : (f : ℤ → ℕ) (xs : List ℤ) → Apart f xs → (j k : ℕ) (s t : ℤ) → slice_get xs j ≡ Some s → slice_get xs k ≡ Some t → rank f xs s ≡ rank f xs t → j ≡ k
same_rank f xs apart j k s t at_j at_k e =
    elim (cases_lt (f s) (f t)) [
      | inl low ↦ let less = rank_lt f xs s t j at_j low in absurd (omega arith)
      | inr high ↦ elim (cases_lt (f t) (f s)) [
        | inl low ↦ let less = rank_lt f xs t s k at_k low in absurd (omega arith)
        | inr same ↦ apart j k s t at_j at_k (omega arith)
      ]
    ]

-- as many elements have a rank below n as n says
pub count_ranked : (f : ℤ → ℕ) (xs : List ℤ) → Apart f xs → (n : ℕ) → n ≤ length xs → count_by (λ t. ltb (rank f xs t) n) xs ≡ n
count_ranked f xs apart zero h = count_below_none (rank f xs) xs
count_ranked f xs apart (suc n) h =
    let found = ranked_at f xs apart n (omega arith) in
    let one = count_one (λ t. eqb (rank f xs t) n) xs found.at found.token found.there (eq-eqb (rank f xs found.token) n found.ranked)
    (λ j s at q. same_rank f xs apart j found.at s found.token at found.there (eqb-true (rank f xs s) n q ∙ sym found.ranked)) in
    let more = count_below_more (rank f xs) xs n in
    let rest = count_ranked f xs apart n (omega arith) in
    subst (λ (m : ℕ). count_by (λ t. ltb (rank f xs t) m) xs ≡ m) (let e : n + 1 ≡ suc n = omega arith in e) (omega arith)

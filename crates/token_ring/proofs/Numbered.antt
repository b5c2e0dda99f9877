-- The replicas of a token by rising node number.
use Rattle.std.proofs.Common.{◌≡◌, ◌↔◌, inl, inr, ℕ, zero, suc, ◌+◌, ◌<◌, ◌≤◌, Bool, true, false, cond, refl, sym, ap, ◌∙◌, subst, arith, List, [], ◌∷◌, length, take, filter, Option, Some, Contains, get_or, ltb, eqb, ℤ, pos, FitsSigned, w64, add-one, ◌≢◌}
use Rattle.std.specs.Prelude.{slice_get, count_by, ◌&&◌, ◌||◌, AllPairs}
use Rattle.std.specs.List.{range_with_len}
use Rattle.std.proofs.lemmas.Bool.{cases_lt, false≢true, eq-eqb, ne_eqb}
use Rattle.std.proofs.lemmas.Option.{slice_get-get_or, slice_get_within}
use Rattle.std.proofs.lemmas.List.{take_all}
use Rattle.std.proofs.lemmas.List.FromFn.{length-range_with_len, get_or-range_with_len}
use Rattle.std.proofs.lemmas.List.Sums.{sum_by-cons, sum_by_more}
use Rattle.cs_base.specs.Ring.{clockwise, place_of, is_replica_at, replicas_at, IsRing}
use Rattle.cs_base.proofs.LeafSets.{one_more}
use Rattle.cs_base.proofs.Members.{contains_here, contains_there, contains_filter, contains_from_filter, none_passes}
use Rattle.cs_base.proofs.Quorums.{is_in_contains}
use Rattle.cs_base.specs.Quorums.{is_in}
use Rattle.token_ring.specs.Placement.{AreReplicas}
use Rattle.token_ring.proofs.Places.{count_ranked}
use Rattle.token_ring.proofs.Rings.{ring_apart, place_of_replica, replicas_distinct, replicas_within}

-- as many numbers pass as elements at them
by_number : (q : Option ℤ → Bool) (xs : List ℤ) (n : ℕ) → n ≤ length xs
    → length (filter (λ k. q (slice_get xs k)) (range_with_len 0 n)) ≡ count_by (λ t. q (Some t)) (take n xs)
by_number q xs zero h = refl
by_number q xs (suc n) h =
    let front = by_number q xs n (omega arith) in
    let numbers : length (filter (λ k. q (slice_get xs k)) (range_with_len 0 (n + 1))) ≡ length (filter (λ k. q (slice_get xs k)) (range_with_len 0 n)) + cond (q (slice_get xs (0 + n))) 1 0 = one_more (λ k. q (slice_get xs k)) 0 n in
    let elements = sum_by_more (λ t. cond (q (Some t)) 1 0) xs n (pos 0) (omega arith) in
    let here : cond {A = ℕ} (q (slice_get xs (0 + n))) 1 0 ≡ cond {A = ℕ} (q (Some (get_or xs n (pos 0)))) 1 0 =
    ap (λ (k : ℕ). cond {A = ℕ} (q (slice_get xs k)) 1 0) (let e : 0 + n ≡ n = omega arith in e) ∙ ap (λ (o : Option ℤ). cond {A = ℕ} (q o) 1 0) (slice_get-get_or xs n (pos 0) (omega arith)) in
    subst (λ (m : ℕ). length (filter (λ k. q (slice_get xs k)) (range_with_len 0 m)) ≡ count_by (λ t. q (Some t)) (take m xs)) (let e : n + 1 ≡ suc n = omega arith in e) (omega arith)

-- as many as the factor says
pub numbered_count : (ring : List ℤ) (rf : ℕ) (token : ℤ) → IsRing ring → FitsSigned w64 token → rf ≤ length ring → length (replicas_at ring rf token) ≡ rf
numbered_count ring rf token r f h =
    by_number (is_replica_at ring rf token) ring (length ring) (omega arith)
    ∙ ap (count_by (λ t. ltb (place_of ring token t) rf)) (take_all (length ring) ring (omega arith))
    ∙ count_ranked (clockwise token) ring (ring_apart ring token r f) rf h

in_numbers : (n k : ℕ) → k < n → Contains (range_with_len 0 n) k
in_numbers n k h = (k, (let e = length-range_with_len 0 n in omega arith), get_or-range_with_len 0 n k k h ∙ (let e : 0 + k ≡ k = omega arith in e))

-- the same nodes
pub numbered_members : (ring : List ℤ) (rf : ℕ) (token : ℤ) (nodes : List ℕ) → AreReplicas ring rf token nodes → (k : ℕ) → Contains nodes k ↔ Contains (replicas_at ring rf token) k
numbered_members ring rf token nodes a k = (
  λ h. let pass = (a.members k).0 h in
      let p = place_of_replica ring rf token k pass in
      contains_filter (λ j. is_replica_at ring rf token (slice_get ring j)) (range_with_len 0 (length ring)) k (in_numbers (length ring) k (slice_get_within ring k p.2.own p.2.there)) pass,
  λ h. (a.members k).1 (contains_from_filter (λ j. is_replica_at ring rf token (slice_get ring j)) (range_with_len 0 (length ring)) k h).1,
)

-- ---- counts over the two lists

step : (p : ℕ → Bool) (y : ℕ) (ys : List ℕ) → count_by p (y ∷ ys) ≡ cond (p y) 1 0 + count_by p ys
step p y ys = sum_by-cons (λ x. cond (p x) 1 0) y ys

filtered : (q p : ℕ → Bool) (y : ℕ) (ys : List ℕ) (b : Bool) → q y ≡ b → count_by p (filter q ys) ≡ count_by (λ k. q k && p k) ys
    → count_by p (cond b (y ∷ filter q ys) (filter q ys)) ≡ cond (b && p y) 1 0 + count_by (λ k. q k && p k) ys
filtered q p y ys true e rest = step p y (filter q ys) ∙ ap (λ (n : ℕ). cond {A = ℕ} (p y) 1 0 + n) rest
filtered q p y ys false e rest = rest ∙ (let z : count_by (λ k. q k && p k) ys ≡ 0 + count_by (λ k. q k && p k) ys = omega arith in z)

-- those that pass of a filter
count_filter : (q p : ℕ → Bool) (xs : List ℕ) → count_by p (filter q xs) ≡ count_by (λ k. q k && p k) xs
count_filter q p [] = refl
count_filter q p (y ∷ ys) = filtered q p y ys (q y) refl (count_filter q p ys) ∙ sym (step (λ k. q k && p k) y ys)

same_count : (p q : ℕ → Bool) (a n : ℕ) → ((k : ℕ) → a ≤ k → k < a + n → p k ≡ q k) → count_by p (range_with_len a n) ≡ count_by q (range_with_len a n)
same_count p q a zero h = refl
same_count p q a (suc n) h =
    step p a (range_with_len (a + 1) n)
    ∙ ap (λ (b : Bool). cond {A = ℕ} b 1 0 + count_by p (range_with_len (a + 1) n)) (h a (omega arith) (omega arith))
    ∙ ap (λ (m : ℕ). cond {A = ℕ} (q a) 1 0 + m) (same_count p q (a + 1) n (λ k low high. h k (omega arith) (omega arith)))
    ∙ sym (step q a (range_with_len (a + 1) n))

-- a test that passes one number more
one_more_passes : (q q' : ℕ → Bool) (y a n : ℕ) → a ≤ y → y < a + n → ((k : ℕ) → k ≢ y → q' k ≡ q k) → q y ≡ false
    → count_by q' (range_with_len a n) ≡ cond (q' y) 1 0 + count_by q (range_with_len a n)
one_more_passes q q' y a zero low high same none = absurd (omega arith)
one_more_passes q q' y a (suc n) low high same none =
    elim (cases_lt a y) [
      | inl before ↦
          let head = step q' a (range_with_len (a + 1) n) in
          let head' = step q a (range_with_len (a + 1) n) in
          let here : cond {A = ℕ} (q' a) 1 0 ≡ cond {A = ℕ} (q a) 1 0 = ap (λ (b : Bool). cond {A = ℕ} b 1 0) (same a (λ e. omega arith)) in
          let rest = one_more_passes q q' y (a + 1) n (omega arith) (omega arith) same none in
          omega arith
      | inr at ↦
          let e : a ≡ y = omega arith in
          let head = step q' a (range_with_len (a + 1) n) in
          let head' = step q a (range_with_len (a + 1) n) in
          let here : cond {A = ℕ} (q' a) 1 0 ≡ cond {A = ℕ} (q' y) 1 0 = ap (λ (k : ℕ). cond {A = ℕ} (q' k) 1 0) e in
          let nothing : cond {A = ℕ} (q a) 1 0 ≡ 0 = ap (λ (b : Bool). cond {A = ℕ} b 1 0) (ap q e ∙ none) in
          let rest = same_count q' q (a + 1) n (λ k later below. same k (λ f. omega arith)) in
          omega arith
    ]

-- numbers that are all different, by cases
AllDifferent : List ℕ → Type 0
AllDifferent [] = Unit {0}
AllDifferent (y ∷ ys) = (is_in ys y ≡ false) × AllDifferent ys

is_in_from : (ys : List ℕ) (y : ℕ) → Contains ys y → (b : Bool) → is_in ys y ≡ b → is_in ys y ≡ true
is_in_from ys y h true e = e
is_in_from ys y h false e = absurd (false≢true (sym (none_passes (λ j. eqb j y) ys e y h) ∙ eq-eqb y y refl))

not_in : (ys : List ℕ) (y : ℕ) → (Contains ys y → ⊥) → (b : Bool) → is_in ys y ≡ b → is_in ys y ≡ false
not_in ys y h true e = absurd (h (is_in_contains ys y e))
not_in ys y h false e = e

different : (ys : List ℕ) → AllPairs (λ j k. j ≢ k) ys → AllDifferent ys
unfolding AllDifferent
different [] h = tt
different (y ∷ ys) h = (
  not_in ys y (λ found. h 0 (found.0 + 1) y (omega arith) (let low = found.1 in omega arith) (sym (rw add-one found.2))) (is_in ys y) refl,
  different ys (λ i j d low within. let r : get_or (y ∷ ys) (suc i) d ≢ get_or (y ∷ ys) (suc j) d = h (suc i) (suc j) d (omega arith) (omega arith) in r),
)

none_counted : (a n : ℕ) → count_by (λ (k : ℕ). false) (range_with_len a n) ≡ 0
none_counted a zero = refl
none_counted a (suc n) = step (λ k. false) a (range_with_len (a + 1) n) ∙ none_counted_next (none_counted (a + 1) n)
  where
    none_counted_next : count_by (λ (k : ℕ). false) (range_with_len (a + 1) n) ≡ 0 → 0 + count_by (λ (k : ℕ). false) (range_with_len (a + 1) n) ≡ 0
    none_counted_next h = omega arith

-- a list of different numbers is counted over the numbers
count_over : (p : ℕ → Bool) (ys : List ℕ) (n : ℕ) → AllDifferent ys → ((k : ℕ) → Contains ys k → k < n) → count_by p ys ≡ count_by (λ k. is_in ys k && p k) (range_with_len 0 n)
unfolding AllDifferent
count_over p [] n h below = sym (none_counted 0 n)
count_over p (y ∷ ys) n h below =
    let low = below y (contains_here y ys) in
    let q : ℕ → Bool = λ k. is_in ys k && p k in
    let q' : ℕ → Bool = λ k. (eqb y k || is_in ys k) && p k in
    let more : count_by q' (range_with_len 0 n) ≡ cond {A = ℕ} (q' y) 1 0 + count_by q (range_with_len 0 n) =
    one_more_passes q q' y 0 n (omega arith) (omega arith)
    (λ k other. ap (λ (b : Bool). (b || is_in ys k) && p k) (ne_eqb y k (λ e. other (sym e))))
    (ap (λ (b : Bool). b && p y) h.0) in
    let here : cond {A = ℕ} (q' y) 1 0 ≡ cond {A = ℕ} (p y) 1 0 = ap (λ (b : Bool). cond {A = ℕ} ((b || is_in ys y) && p y) 1 0) (eq-eqb y y refl) in
    let rest : count_by p ys ≡ count_by q (range_with_len 0 n) = count_over p ys n h.1 (λ k found. below k (contains_there y ys k found)) in
    step p y ys ∙ ap (λ (m : ℕ). cond {A = ℕ} (p y) 1 0 + m) rest ∙ ap (λ (m : ℕ). m + count_by q (range_with_len 0 n)) (sym here) ∙ sym more

is_in_exactly : (ring : List ℤ) (rf : ℕ) (token : ℤ) (nodes : List ℕ) → AreReplicas ring rf token nodes → (k : ℕ) (b : Bool) → is_replica_at ring rf token (slice_get ring k) ≡ b → is_in nodes k ≡ b
is_in_exactly ring rf token nodes a k true e = is_in_from nodes k ((a.members k).1 e) (is_in nodes k) refl
is_in_exactly ring rf token nodes a k false e = not_in nodes k (λ h. false≢true (sym e ∙ (a.members k).0 h)) (is_in nodes k) refl

-- a test passes as many of the one as of the other
pub numbered_counts : (ring : List ℤ) (rf : ℕ) (token : ℤ) (nodes : List ℕ) → AreReplicas ring rf token nodes → (p : ℕ → Bool) → count_by p nodes ≡ count_by p (replicas_at ring rf token)
numbered_counts ring rf token nodes a p =
    count_over p nodes (length ring) (different nodes (replicas_distinct ring rf token nodes a)) (replicas_within ring rf token nodes a)
    ∙ same_count (λ k. is_in nodes k && p k) (λ k. is_replica_at ring rf token (slice_get ring k) && p k) 0 (length ring)
    (λ k low high. ap (λ (b : Bool). b && p k) (is_in_exactly ring rf token nodes a k (is_replica_at ring rf token (slice_get ring k)) refl))
    ∙ sym (count_filter (λ k. is_replica_at ring rf token (slice_get ring k)) p (range_with_len 0 (length ring)))

-- Adding the next node to the replicas found so far.
use Rattle.std.proofs.Common.{◌≡◌, ℕ, ◌+◌, ℤ, List, [], ◌∷◌, ◌++◌, Bool, true, false, Option, Some, None, cond, sym, refl, ap, subst, ◌∙◌, map, map-id, append-nil, arith, ◌<◌, ◌≤◌, length, get_or, pos, FitsSigned, w64}
use Rattle.std.specs.Prelude.{nat_lt, slice_get}
use Rattle.std.specs.List.{filter, range_with_len}
use Rattle.std.proofs.lemmas.List.FromFn.{filter_of_map_range_with_len_more}
use Rattle.std.proofs.lemmas.Option.{slice_get-get_or}
use Rattle.std.proofs.lemmas.List.{length-append}
use Rattle.cs_base.specs.Ring.{IsRing, place_of, is_replica_at}

pub is_replica_some : (ring : List ℤ) (rf : ℕ) (token token' own : ℤ) (i p : ℕ) → token' ≡ token → i < length ring → own ≡ get_or ring i (pos 0) → p ≡ place_of ring token' own
    → nat_lt p rf ≡ is_replica_at ring rf token (slice_get ring i)
is_replica_some ring rf token token' own i p same within at place =
    ap (λ (n : ℕ). nat_lt n rf) place ∙ ap (λ (t : ℤ). nat_lt (place_of ring token' t) rf) at
    ∙ ap (λ (t : ℤ). nat_lt (place_of ring t (get_or ring i (pos 0))) rf) same
    ∙ sym (ap (is_replica_at ring rf token) (slice_get-get_or ring i (pos 0) within))

pub own_fits : (ring : List ℤ) (i : ℕ) → IsRing ring → i < length ring → FitsSigned w64 (get_or ring i (pos 0))
own_fits ring i r within = r.tokens i (get_or ring i (pos 0)) (slice_get-get_or ring i (pos 0) within)

pub with_true : (ring : List ℤ) (rf : ℕ) (token token' : ℤ) (o : Option ℤ) (out : List ℕ) (k : ℕ) (new : List ℕ) → token' ≡ token → new ≡ out ++ k ∷ []
    → true ≡ is_replica_at ring rf token' o → new ≡ out ++ cond (is_replica_at ring rf token o) (k ∷ []) []
with_true ring rf token token' o out k new same is test =
    is ∙ ap (λ (c : Bool). out ++ cond c (k ∷ []) []) test ∙ ap (λ (t : ℤ). out ++ cond (is_replica_at ring rf t o) (k ∷ []) []) same

pub with_false : (ring : List ℤ) (rf : ℕ) (token token' : ℤ) (o : Option ℤ) (out : List ℕ) (k : ℕ) → token' ≡ token
    → false ≡ is_replica_at ring rf token' o → out ≡ out ++ cond (is_replica_at ring rf token o) (k ∷ []) []
with_false ring rf token token' o out k same test =
    sym (append-nil out) ∙ ap (λ (c : Bool). out ++ cond c (k ∷ []) []) test ∙ ap (λ (t : ℤ). out ++ cond (is_replica_at ring rf t o) (k ∷ []) []) same

one_more : (q : ℕ → Bool) (n : ℕ) → filter q (range_with_len 0 (n + 1)) ≡ filter q (range_with_len 0 n) ++ cond (q n) (n ∷ []) []
one_more q n =
    ap (filter q) (sym (map-id (range_with_len 0 (n + 1)))) ∙ filter_of_map_range_with_len_more q (λ k. k) 0 n n (omega arith)
    ∙ ap (λ (xs : List ℕ). filter q xs ++ cond (q n) (n ∷ []) []) (map-id (range_with_len 0 n))

pub replicas_more : (ring ring' : List ℤ) (rf : ℕ) (token : ℤ) (out new : List ℕ) (n m : ℕ) → ring' ≡ ring
    → out ≡ filter (λ k. is_replica_at ring rf token (slice_get ring k)) (range_with_len 0 n)
    → new ≡ out ++ cond (is_replica_at ring' rf token (slice_get ring' n)) (n ∷ []) [] → m ≡ n + 1
    → new ≡ filter (λ k. is_replica_at ring rf token (slice_get ring k)) (range_with_len 0 m)
replicas_more ring ring' rf token out new n m same so_far more next =
    more ∙ ap (λ (r : List ℤ). out ++ cond (is_replica_at r rf token (slice_get r n)) (n ∷ []) []) same
    ∙ ap (λ (xs : List ℕ). xs ++ cond (is_replica_at ring rf token (slice_get ring n)) (n ∷ []) []) so_far
    ∙ sym (one_more (λ k. is_replica_at ring rf token (slice_get ring k)) n)
    ∙ ap (λ (i : ℕ). filter (λ k. is_replica_at ring rf token (slice_get ring k)) (range_with_len 0 i)) (sym next)

one_at_most : (b : Bool) (n : ℕ) → length (cond b (n ∷ []) []) ≤ 1
one_at_most true n = let r : 1 ≤ 1 = omega arith in r
one_at_most false n = let r : 0 ≤ 1 = omega arith in r

pub length_more : (out new : List ℕ) (b : Bool) (n : ℕ) → new ≡ out ++ cond b (n ∷ []) [] → length out ≤ n → length new ≤ n + 1
length_more out new b n is few =
    let one = one_at_most b n in
    let both : length (out ++ cond b (n ∷ []) []) ≡ length out + length (cond b (n ∷ []) []) = length-append out (cond b (n ∷ []) []) in
    subst (λ (xs : List ℕ). length xs ≤ n + 1) (sym is) (omega arith)

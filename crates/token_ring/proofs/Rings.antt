-- Places on a ring, and the replicas and ranges that they make.
use Rattle.std.proofs.Common.{◌≡◌, ◌≢◌, inl, inr, ℕ, zero, suc, ◌+◌, ◌<◌, ◌≤◌, true, refl, sym, ap, ◌∙◌, subst, arith, List, length, Option, Some, None, Contains, get_or, ℤ, FitsSigned, w64}
use Rattle.std.specs.Prelude.{slice_get, AllPairs}
use Rattle.std.proofs.lemmas.Bool.{cases_lt, lt-ltb, ltb-true}
use Rattle.std.proofs.lemmas.Option.{slice_get-get_or, slice_get_within, get_or_from_slice_get}
use Rattle.cs_base.specs.Ring.{clockwise, place_of, is_replica_at, IsRing}
use Rattle.cs_base.proofs.Circle.{place_below, clockwise_is, same_place}
use Rattle.token_ring.specs.Placement.{IsNearer, AreReplicas, IsAtPlace}
use Rattle.token_ring.proofs.Repeats.{get_from_contains, contains_from_get}
use Rattle.token_ring.proofs.Places.{Apart, rank_le, rank_lt, rank_short, ranked_at, same_rank}

-- ---- different tokens are at different distances

pub same_distance : (token s t : ℤ) → FitsSigned w64 token → FitsSigned w64 s → FitsSigned w64 t → clockwise token s ≡ clockwise token t → s ≡ t
same_distance token s t f g h e =
    let s_below = place_below s g in
    let t_below = place_below t h in
    let token_below = place_below token f in
    same_place s t g h (elim (clockwise_is token s f g) [
      | inl (s_side, s_is) ↦ elim (clockwise_is token t f h) [ inl (t_side, t_is) ↦ omega arith | inr (t_side, t_is) ↦ omega arith ]
      | inr (s_side, s_is) ↦ elim (clockwise_is token t f h) [ inl (t_side, t_is) ↦ omega arith | inr (t_side, t_is) ↦ omega arith ]
    ])

pub ring_apart : (ring : List ℤ) (token : ℤ) → IsRing ring → FitsSigned w64 token → Apart (clockwise token) ring
ring_apart ring token r f j k s t at_j at_k e =
    let same = same_distance token s t f (r.tokens j s at_j) (r.tokens k t at_k) e in
    r.apart j k t (at_j ∙ ap Some same) at_k

-- ---- nodes at places

-- some node has each place
pub node_there : (ring : List ℤ) (token : ℤ) (i : ℕ) → IsRing ring → FitsSigned w64 token → i < length ring → (k : ℕ) × IsAtPlace ring token i k
node_there ring token i r f h =
    let found = ranked_at (clockwise token) ring (ring_apart ring token r f) i h in
    (found.at, record { own = found.token; there = found.there; before = found.ranked })

-- and just one
pub place_is_one : (ring : List ℤ) (token : ℤ) (i j k : ℕ) → IsRing ring → FitsSigned w64 token → IsAtPlace ring token i j → IsAtPlace ring token i k → j ≡ k
place_is_one ring token i j k r f one two =
    same_rank (clockwise token) ring (ring_apart ring token r f) j k one.own two.own one.there two.there (one.before ∙ sym two.before)

-- a lower place is nearer
pub place_nearer : (ring : List ℤ) (token : ℤ) (i i' j k : ℕ) → IsAtPlace ring token i j → IsAtPlace ring token i' k → i < i' → IsNearer ring token j k
place_nearer ring token i i' j k one two h t u at_t at_u =
    let first = one.before in
    let second = two.before in
    let t_is : one.own ≡ t = let e : Some one.own ≡ Some t = sym one.there ∙ at_t in cc in
    let u_is : two.own ≡ u = let e : Some two.own ≡ Some u = sym two.there ∙ at_u in cc in
    let nearer : clockwise token one.own < clockwise token two.own = elim (cases_lt (clockwise token one.own) (clockwise token two.own)) [
      | inl low ↦ low
      | inr high ↦ let more = rank_le (clockwise token) ring two.own one.own high in absurd (omega arith)
    ] in
    subst (λ (s : ℤ). clockwise token s < clockwise token u) t_is (subst (λ (s : ℤ). clockwise token one.own < clockwise token s) u_is nearer)

-- ---- replicas

pub replica_of : (ring : List ℤ) (rf : ℕ) (token : ℤ) (i k : ℕ) → IsAtPlace ring token i k → i < rf → is_replica_at ring rf token (slice_get ring k) ≡ true
replica_of ring rf token i k p h = ap (is_replica_at ring rf token) p.there ∙ lt-ltb (place_of ring token p.own) rf (let e = p.before in omega arith)

-- a replica's place
place_at : (ring : List ℤ) (rf : ℕ) (token : ℤ) (k : ℕ) (o : Option ℤ) → slice_get ring k ≡ o → is_replica_at ring rf token o ≡ true → (i : ℕ) × (i < rf) × IsAtPlace ring token i k
place_at ring rf token k None at h = cc
place_at ring rf token k (Some t) at h = (place_of ring token t, ltb-true (place_of ring token t) rf h, record { own = t; there = at; before = refl })

pub place_of_replica : (ring : List ℤ) (rf : ℕ) (token : ℤ) (k : ℕ) → is_replica_at ring rf token (slice_get ring k) ≡ true → (i : ℕ) × (i < rf) × IsAtPlace ring token i k
place_of_replica ring rf token k h = place_at ring rf token k (slice_get ring k) refl h

-- nodes at the first places, in order
pub replicas_from_places : (ring : List ℤ) (rf : ℕ) (token : ℤ) (nodes : List ℕ) → IsRing ring → FitsSigned w64 token → length nodes ≡ rf
    → ((i k : ℕ) → slice_get nodes i ≡ Some k → IsAtPlace ring token i k) → AreReplicas ring rf token nodes
replicas_from_places ring rf token nodes r f long places = record {
  members = λ k. (λ h. is_replica k (get_from_contains nodes k h), λ h. is_member k (place_of_replica ring rf token k h));
  nearer_first = λ i j d low within.
      place_nearer ring token i j (get_or nodes i d) (get_or nodes j d)
      (places i (get_or nodes i d) (slice_get-get_or nodes i d (omega arith)))
      (places j (get_or nodes j d) (slice_get-get_or nodes j d within)) low;
}
  where
    is_replica : (k : ℕ) → (i : ℕ) × (slice_get nodes i ≡ Some k) → is_replica_at ring rf token (slice_get ring k) ≡ true
    is_replica k (i, at) = let within = slice_get_within nodes i k at in replica_of ring rf token i k (places i k at) (omega arith)

    is_member : (k : ℕ) → (i : ℕ) × (i < rf) × IsAtPlace ring token i k → Contains nodes k
    is_member k (i, low, p) =
        let there : slice_get nodes i ≡ Some (get_or nodes i 0) = slice_get-get_or nodes i 0 (omega arith) in
        let same = place_is_one ring token i (get_or nodes i 0) k r f (places i (get_or nodes i 0) there) p in
        contains_from_get nodes i k (there ∙ ap Some same)

-- ---- replicas are as many as the factor says

same_node_place : (ring : List ℤ) (token : ℤ) (i j k : ℕ) → IsAtPlace ring token i k → IsAtPlace ring token j k → i ≡ j
same_node_place ring token i j k one two =
    let tokens : one.own ≡ two.own = let e : Some one.own ≡ Some two.own = sym one.there ∙ two.there in cc in
    sym one.before ∙ ap (place_of ring token) tokens ∙ two.before

nearer : (ring : List ℤ) (rf : ℕ) (token : ℤ) (nodes : List ℕ) → AreReplicas ring rf token nodes → (j l x y : ℕ) → slice_get nodes j ≡ Some x → slice_get nodes l ≡ Some y → j < l → IsNearer ring token x y
nearer ring rf token nodes a j l x y at_j at_l low =
    let within = slice_get_within nodes l y at_l in
    subst (λ (v : ℕ). IsNearer ring token v y) (get_or_from_slice_get nodes j x 0 at_j)
    (subst (λ (v : ℕ). IsNearer ring token (get_or nodes j 0) v) (get_or_from_slice_get nodes l y 0 at_l) (a.nearer_first j l 0 low within))

-- a node that is nearer has a lower place
lower : (ring : List ℤ) (token : ℤ) (p q x y : ℕ) → IsAtPlace ring token p x → IsAtPlace ring token q y → IsNearer ring token x y → p < q
lower ring token p q x y one two near =
    let less = rank_lt (clockwise token) ring one.own two.own x one.there (near one.own two.own one.there two.there) in
    let first = one.before in
    let second = two.before in
    omega arith

-- where the replicas before it are at their places, the next one is
next_place : (ring : List ℤ) (rf : ℕ) (token : ℤ) (nodes : List ℕ) → IsRing ring → FitsSigned w64 token → AreReplicas ring rf token nodes
    → (n k : ℕ) → ((i j : ℕ) → i < n → slice_get nodes i ≡ Some j → IsAtPlace ring token i j) → slice_get nodes n ≡ Some k → IsAtPlace ring token n k
next_place ring rf token nodes r f a n k earlier at = here (place_of_replica ring rf token k ((a.members k).0 (contains_from_get nodes n k at)))
  where
    -- the node at a place that was left out would stand nowhere in the list
    no_gap : (q x : ℕ) → IsAtPlace ring token q k → n < q → IsAtPlace ring token n x → (j : ℕ) × (slice_get nodes j ≡ Some x) → ⊥
    no_gap q x p gap at_n (j, at_j) =
        elim (cases_lt j n) [
          | inl before ↦ let e = same_node_place ring token j n x (earlier j x before at_j) at_n in omega arith
          | inr behind ↦ elim (cases_lt n j) [
            | inl later ↦ let less = lower ring token q n k x p at_n (nearer ring rf token nodes a n j k x at at_j later) in omega arith
            | inr same ↦
                let e : j ≡ n = omega arith in
                let node : Some x ≡ Some k = sym at_j ∙ ap (slice_get nodes) e ∙ at in
                let x_is : x ≡ k = cc in
                let places = same_node_place ring token n q k (subst (λ (v : ℕ). IsAtPlace ring token n v) x_is at_n) p in
                omega arith
          ]
        ]

    here : (q : ℕ) × (q < rf) × IsAtPlace ring token q k → IsAtPlace ring token n k
    here (q, q_low, p) =
        elim (cases_lt q n) [
          | inl below ↦
              let within = slice_get_within nodes n k at in
              let there : slice_get nodes q ≡ Some (get_or nodes q 0) = slice_get-get_or nodes q 0 (omega arith) in
              let less = lower ring token q q (get_or nodes q 0) k (earlier q (get_or nodes q 0) below there) p (nearer ring rf token nodes a q n (get_or nodes q 0) k there at below) in
              absurd (omega arith)
          | inr above ↦ elim (cases_lt n q) [
            | inl gap ↦
                let short = rank_short (clockwise token) ring p.own k p.there in
                let e = p.before in
                let found = node_there ring token n r f (omega arith) in
                absurd (no_gap q found.0 p gap found.1 (get_from_contains nodes found.0 ((a.members found.0).1 (replica_of ring rf token n found.0 found.1 (omega arith)))))
            | inr same ↦ subst (λ (m : ℕ). IsAtPlace ring token m k) (let e : q ≡ n = omega arith in e) p
          ]
        ]

places_below : (ring : List ℤ) (rf : ℕ) (token : ℤ) (nodes : List ℕ) → IsRing ring → FitsSigned w64 token → AreReplicas ring rf token nodes
    → (n i k : ℕ) → i < n → slice_get nodes i ≡ Some k → IsAtPlace ring token i k
places_below ring rf token nodes r f a zero i k low at = absurd (omega arith)
places_below ring rf token nodes r f a (suc n) i k low at =
    elim (cases_lt i n) [
      | inl below ↦ places_below ring rf token nodes r f a n i k below at
      | inr last ↦
          let e : n ≡ i = omega arith in
          subst (λ (m : ℕ). IsAtPlace ring token m k) e
          (next_place ring rf token nodes r f a n k (λ j l below at_j. places_below ring rf token nodes r f a n j l below at_j) (ap (slice_get nodes) e ∙ at))
    ]

-- each replica is at its place
pub replicas_at_places : (ring : List ℤ) (rf : ℕ) (token : ℤ) (nodes : List ℕ) → IsRing ring → FitsSigned w64 token → AreReplicas ring rf token nodes
    → (i k : ℕ) → slice_get nodes i ≡ Some k → IsAtPlace ring token i k
replicas_at_places ring rf token nodes r f a i k at = places_below ring rf token nodes r f a (i + 1) i k (omega arith) at

-- as many as the factor says
pub replicas_count : (ring : List ℤ) (rf : ℕ) (token : ℤ) (nodes : List ℕ) → IsRing ring → FitsSigned w64 token → rf ≤ length ring → AreReplicas ring rf token nodes → length nodes ≡ rf
replicas_count ring rf token nodes r f fits a =
    elim (cases_lt (length nodes) rf) [
      | inl short ↦
          let found = node_there ring token (length nodes) r f (omega arith) in
          let member = get_from_contains nodes found.0 ((a.members found.0).1 (replica_of ring rf token (length nodes) found.0 found.1 short)) in
          let within = slice_get_within nodes member.0 found.0 member.1 in
          let same = same_node_place ring token member.0 (length nodes) found.0 (replicas_at_places ring rf token nodes r f a member.0 found.0 member.1) found.1 in
          absurd (omega arith)
      | inr long ↦ elim (cases_lt rf (length nodes)) [
        | inl more ↦
            let there : slice_get nodes rf ≡ Some (get_or nodes rf 0) = slice_get-get_or nodes rf 0 more in
            let p = place_of_replica ring rf token (get_or nodes rf 0) ((a.members (get_or nodes rf 0)).0 (contains_from_get nodes rf (get_or nodes rf 0) there)) in
            let low = p.1 in
            let same = same_node_place ring token p.0 rf (get_or nodes rf 0) p.2 (replicas_at_places ring rf token nodes r f a rf (get_or nodes rf 0) there) in
            absurd (omega arith)
        | inr same ↦ omega arith
      ]
    ]

-- all different
pub replicas_distinct : (ring : List ℤ) (rf : ℕ) (token : ℤ) (nodes : List ℕ) → AreReplicas ring rf token nodes → AllPairs (λ j k. j ≢ k) nodes
replicas_distinct ring rf token nodes a i j d low within same =
    let x = get_or nodes i d in
    let there : slice_get nodes i ≡ Some x = slice_get-get_or nodes i d (omega arith) in
    let p = place_of_replica ring rf token x ((a.members x).0 (contains_from_get nodes i x there)) in
    let less = subst (λ (v : ℕ). IsNearer ring token x v) (sym same) (a.nearer_first i j d low within) p.2.own p.2.own p.2.there p.2.there in
    omega arith

-- all of the ring
pub replicas_within : (ring : List ℤ) (rf : ℕ) (token : ℤ) (nodes : List ℕ) → AreReplicas ring rf token nodes → (k : ℕ) → Contains nodes k → k < length ring
replicas_within ring rf token nodes a k h = let p = place_of_replica ring rf token k ((a.members k).0 h) in slice_get_within ring k p.2.own p.2.there

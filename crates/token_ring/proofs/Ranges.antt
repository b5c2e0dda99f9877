-- The ranges that the nodes of a ring own.
use Rattle.std.proofs.Common.{◌≡◌, ◌⊎◌, ◌↔◌, inl, inr, ℕ, ◌+◌, ◌-◌, ◌^◌, ◌<◌, ◌≤◌, true, sym, ap, ◌∙◌, subst, arith, List, length, Some, get_or, ℤ, pos, to_z, of_z, FitsSigned, w64}
use Rattle.std.specs.Prelude.{slice_get}
use Rattle.std.proofs.lemmas.Bool.{cases_lt, lt-ltb, ltb-true}
use Rattle.std.proofs.lemmas.Option.{slice_get-get_or, slice_get_within}
use Rattle.cs_base.specs.declared.range.Range.{Range}
use Rattle.cs_base.specs.Ring.{clockwise, width, in_range, place_of, IsRing, IsOwnRange}
use Rattle.cs_base.proofs.Circle.{place, place_below, clockwise_is, width_is, same_place}
use Rattle.token_ring.specs.Placement.{AreReplicas, IsAtPlace}
use Rattle.token_ring.proofs.Places.{rank_lt, rank_short, rank_first}
use Rattle.token_ring.proofs.Repeats.{get_from_contains, read_here}
use Rattle.token_ring.proofs.Rings.{node_there, place_is_one, replica_of, replicas_at_places}

-- d is the way from a to b
abbrev pub IsWay : ℕ → ℕ → ℕ → Type 0
IsWay a b d = ((a ≤ b) × (d + a ≡ b)) ⊎ ((b < a) × (d + a ≡ b + 2 ^ 64))

-- on the way from a to c, b is passed where the way to it is no longer
way_through : (a b c d e f : ℕ) → a < 2 ^ 64 → b < 2 ^ 64 → c < 2 ^ 64 → IsWay a b d → IsWay a c e → IsWay b c f → d ≤ e → d + f ≡ e
way_through a b c d e f a_low b_low c_low (inl (ab, one)) (inl (ac, two)) (inl (bc, three)) h = omega arith
way_through a b c d e f a_low b_low c_low (inl (ab, one)) (inl (ac, two)) (inr (bc, three)) h = omega arith
way_through a b c d e f a_low b_low c_low (inl (ab, one)) (inr (ac, two)) (inl (bc, three)) h = omega arith
way_through a b c d e f a_low b_low c_low (inl (ab, one)) (inr (ac, two)) (inr (bc, three)) h = omega arith
way_through a b c d e f a_low b_low c_low (inr (ab, one)) (inl (ac, two)) (inl (bc, three)) h = omega arith
way_through a b c d e f a_low b_low c_low (inr (ab, one)) (inl (ac, two)) (inr (bc, three)) h = omega arith
way_through a b c d e f a_low b_low c_low (inr (ab, one)) (inr (ac, two)) (inl (bc, three)) h = omega arith
way_through a b c d e f a_low b_low c_low (inr (ab, one)) (inr (ac, two)) (inr (bc, three)) h = omega arith

-- and where the way from it is no longer
way_before : (a b c d e f : ℕ) → a < 2 ^ 64 → b < 2 ^ 64 → c < 2 ^ 64 → IsWay a b d → IsWay a c e → IsWay b c f → f ≤ e → d + f ≡ e
way_before a b c d e f a_low b_low c_low (inl (ab, one)) (inl (ac, two)) (inl (bc, three)) h = omega arith
way_before a b c d e f a_low b_low c_low (inl (ab, one)) (inl (ac, two)) (inr (bc, three)) h = omega arith
way_before a b c d e f a_low b_low c_low (inl (ab, one)) (inr (ac, two)) (inl (bc, three)) h = omega arith
way_before a b c d e f a_low b_low c_low (inl (ab, one)) (inr (ac, two)) (inr (bc, three)) h = omega arith
way_before a b c d e f a_low b_low c_low (inr (ab, one)) (inl (ac, two)) (inl (bc, three)) h = omega arith
way_before a b c d e f a_low b_low c_low (inr (ab, one)) (inl (ac, two)) (inr (bc, three)) h = omega arith
way_before a b c d e f a_low b_low c_low (inr (ab, one)) (inr (ac, two)) (inl (bc, three)) h = omega arith
way_before a b c d e f a_low b_low c_low (inr (ab, one)) (inr (ac, two)) (inr (bc, three)) h = omega arith

-- the way there and the way back are the whole ring, unless there is no way
way_back : (a b d e : ℕ) → a < 2 ^ 64 → b < 2 ^ 64 → IsWay a b d → IsWay b a e → 0 < d → d + e ≡ 2 ^ 64
way_back a b d e a_low b_low (inl (ab, one)) (inl (ba, two)) h = omega arith
way_back a b d e a_low b_low (inl (ab, one)) (inr (ba, two)) h = omega arith
way_back a b d e a_low b_low (inr (ab, one)) (inl (ba, two)) h = omega arith
way_back a b d e a_low b_low (inr (ab, one)) (inr (ba, two)) h = omega arith

way_short : (a b d : ℕ) → a < 2 ^ 64 → b < 2 ^ 64 → IsWay a b d → d < 2 ^ 64
way_short a b d a_low b_low (inl (ab, one)) = omega arith
way_short a b d a_low b_low (inr (ab, one)) = omega arith

no_way : (a b d : ℕ) → a < 2 ^ 64 → b < 2 ^ 64 → IsWay a b d → d ≡ 0 → a ≡ b
no_way a b d a_low b_low (inl (ab, one)) h = omega arith
no_way a b d a_low b_low (inr (ab, one)) h = omega arith

-- a range's width is the way through it, or the whole ring
width_cases : (r : Range) → FitsSigned w64 r.after → FitsSigned w64 r.upto → ((0 < clockwise r.after r.upto) × (width r ≡ clockwise r.after r.upto)) ⊎ ((clockwise r.after r.upto ≡ 0) × (width r ≡ 2 ^ 64))
width_cases r f g = let low = place_below r.after f in let low' = place_below r.upto g in elim (clockwise_is r.after r.upto f g) [
  | inl (ab, one) ↦ elim (width_is r f g) [ inl (x, w) ↦ inl (omega arith, omega arith) | inr (x, w) ↦ inr (omega arith, omega arith) ]
  | inr (ab, one) ↦ elim (width_is r f g) [ inl (x, w) ↦ absurd (omega arith) | inr (x, w) ↦ inl (omega arith, omega arith) ]
]

-- ---- the node that owns a token

-- a token in a node's own range has no other before the node's
owner_from_range : (ring : List ℤ) (token : ℤ) (j : ℕ) (range : Range) → IsRing ring → FitsSigned w64 token → IsOwnRange ring j range → in_range range token ≡ true → IsAtPlace ring token 0 j
owner_from_range ring token j range r f own inside = record {
  own = range.upto;
  there = own.upto;
  before = rank_first (clockwise token) ring range.upto least;
}
  where
    least : (k : ℕ) (u : ℤ) → slice_get ring k ≡ Some u → clockwise token range.upto ≤ clockwise token u
    least k u at =
        let g = r.tokens k u at in
        let h = r.tokens j range.upto own.upto in
        elim (cases_lt (clockwise token u) (clockwise token range.upto)) [
          | inl low ↦
              let through = way_through (place token) (place u) (place range.upto) (clockwise token u) (clockwise token range.upto) (clockwise u range.upto)
              (place_below token f) (place_below u g) (place_below range.upto h) (clockwise_is token u f g) (clockwise_is token range.upto f h) (clockwise_is u range.upto g h) (omega arith) in
              let short = ltb-true (clockwise token range.upto) (width range) inside in
              let node = own.alone k u at (lt-ltb (clockwise u range.upto) (width range) (omega arith)) in
              let same : Some u ≡ Some range.upto = sym at ∙ ap (slice_get ring) node ∙ own.upto in
              let u_is : u ≡ range.upto = cc in
              let e = ap (clockwise token) u_is in
              omega arith
          | inr high ↦ high
        ]

-- and where a node's token is the first, the token is in the node's own range
range_from_owner : (ring : List ℤ) (token : ℤ) (j : ℕ) (range : Range) → IsRing ring → FitsSigned w64 token → IsOwnRange ring j range → IsAtPlace ring token 0 j → in_range range token ≡ true
range_from_owner ring token j range r f own p =
    let g = r.tokens own.after.0 range.after own.after.1 in
    let h = r.tokens j range.upto own.upto in
    let upto_is : p.own ≡ range.upto = let e : Some p.own ≡ Some range.upto = sym p.there ∙ own.upto in cc in
    let place_is : place_of ring token range.upto ≡ 0 = ap (place_of ring token) (sym upto_is) ∙ p.before in
    let short = way_short (place token) (place range.upto) (clockwise token range.upto) (place_below token f) (place_below range.upto h) (clockwise_is token range.upto f h) in
    elim (cases_lt (clockwise token range.upto) (width range)) [
      | inl inside ↦ lt-ltb (clockwise token range.upto) (width range) inside
      | inr outside ↦ elim (width_cases range g h) [
        | inl (some, w) ↦
            let through = way_before (place token) (place range.after) (place range.upto) (clockwise token range.after) (clockwise token range.upto) (clockwise range.after range.upto)
            (place_below token f) (place_below range.after g) (place_below range.upto h) (clockwise_is token range.after f g) (clockwise_is token range.upto f h) (clockwise_is range.after range.upto g h) (omega arith) in
            let less = rank_lt (clockwise token) ring range.after range.upto own.after.0 own.after.1 (omega arith) in
            absurd (omega arith)
        | inr (none, w) ↦ absurd (omega arith)
      ]
    ]

-- a token is in the own range of the node at its first place
pub owner_range : (ring : List ℤ) (token : ℤ) (j : ℕ) (range : Range) → IsRing ring → FitsSigned w64 token → IsOwnRange ring j range → (in_range range token ≡ true) ↔ IsAtPlace ring token 0 j
owner_range ring token j range r f own = (owner_from_range ring token j range r f own, range_from_owner ring token j range r f own)

-- each token is in the range of just one node
pub ranges_share_out : (ring : List ℤ) (token : ℤ) → IsRing ring → FitsSigned w64 token
    → (k : ℕ) × (k < length ring) × ((j : ℕ) (range : Range) → IsOwnRange ring j range → (in_range range token ≡ true) ↔ (j ≡ k))
ranges_share_out ring token r f =
    let some = r.some in
    let found = node_there ring token 0 r f some in (
      found.0,
      slice_get_within ring found.0 found.1.own found.1.there,
      λ j range own. (
        λ h. place_is_one ring token 0 j found.0 r f ((owner_range ring token j range r f own).0 h) found.1,
        λ e. (owner_range ring token j range r f own).1 (subst (λ (m : ℕ). IsAtPlace ring token 0 m) (sym e) found.1),
      ),
    )

-- which is the first replica
pub first_replica_owns : (ring : List ℤ) (rf : ℕ) (token : ℤ) (nodes : List ℕ) (j : ℕ) (range : Range) → IsRing ring → FitsSigned w64 token → 1 ≤ rf
    → AreReplicas ring rf token nodes → IsOwnRange ring j range → (in_range range token ≡ true) ↔ (slice_get nodes 0 ≡ Some j)
first_replica_owns ring rf token nodes j range r f some a own =
    let nodes_some = r.some in
    let owner = node_there ring token 0 r f nodes_some in
    let member = get_from_contains nodes owner.0 ((a.members owner.0).1 (replica_of ring rf token 0 owner.0 owner.1 some)) in
    let within = slice_get_within nodes member.0 owner.0 member.1 in
    let there : slice_get nodes 0 ≡ Some (get_or nodes 0 0) = slice_get-get_or nodes 0 0 (omega arith) in (
      λ h. there ∙ ap Some (place_is_one ring token 0 (get_or nodes 0 0) j r f (replicas_at_places ring rf token nodes r f a 0 (get_or nodes 0 0) there) ((owner_range ring token j range r f own).0 h)),
      λ at. (owner_range ring token j range r f own).1 (replicas_at_places ring rf token nodes r f a 0 j at),
    )

-- ---- the range up to a node's token

-- the range above the token of the node that is last, clockwise from the own token
pub own_range : (ring : List ℤ) (k last : ℕ) (range : Range) → IsRing ring → slice_get ring k ≡ Some range.upto → slice_get ring last ≡ Some range.after
    → place_of ring range.upto range.after ≡ length ring - 1 → IsOwnRange ring k range
own_range ring k last range r at at_last place_is = record {
  upto = at;
  after = (last, at_last);
  next = λ j t at_j e. r.apart j k range.upto (at_j ∙ ap Some e) at;
  alone = λ j t at_j inside. alone j t at_j inside;
}
  where
    alone : (j : ℕ) (t : ℤ) → slice_get ring j ≡ Some t → in_range range t ≡ true → j ≡ k
    alone j t at_j inside =
        let f = r.tokens k range.upto at in
        let g = r.tokens last range.after at_last in
        let h = r.tokens j t at_j in
        let short = rank_short (clockwise range.upto) ring t j at_j in
        let u_low = place_below range.upto f in
        let a_low = place_below range.after g in
        let t_low = place_below t h in
        let within = ltb-true (clockwise t range.upto) (width range) inside in
        elim (cases_lt 0 (clockwise range.upto t)) [
          | inl some ↦
              let farthest : clockwise range.upto t ≤ clockwise range.upto range.after = elim (cases_lt (clockwise range.upto range.after) (clockwise range.upto t)) [
                | inl beyond ↦ let less = rank_lt (clockwise range.upto) ring range.after t last at_last beyond in absurd (omega arith)
                | inr near ↦ near
              ] in
              let back = way_back (place range.upto) (place t) (clockwise range.upto t) (clockwise t range.upto) u_low t_low (clockwise_is range.upto t f h) (clockwise_is t range.upto h f) some in
              let span = way_back (place range.upto) (place range.after) (clockwise range.upto range.after) (clockwise range.after range.upto) u_low a_low (clockwise_is range.upto range.after f g) (clockwise_is range.after range.upto g f) (omega arith) in
              let reach = way_short (place range.upto) (place range.after) (clockwise range.upto range.after) u_low a_low (clockwise_is range.upto range.after f g) in
              elim (width_cases range g f) [
                | inl (some_width, w) ↦ absurd (omega arith)
                | inr (no_width, w) ↦ absurd (omega arith)
              ]
          | inr none ↦
              let same = same_place range.upto t f h (no_way (place range.upto) (place t) (clockwise range.upto t) u_low t_low (clockwise_is range.upto t f h) (omega arith)) in
              r.apart j k range.upto (at_j ∙ ap Some (sym same)) at
        ]

-- the same, as the code reads the tokens
pub own_range_read : (ring : List ℤ) (node before : ℕ) → IsRing ring → node < length ring → IsAtPlace ring (to_z w64 (of_z w64 (get_or ring node (pos 0)))) (length ring - 1) before
    → IsOwnRange ring node (record { after = to_z w64 (of_z w64 (get_or ring before (pos 0))); upto = to_z w64 (of_z w64 (get_or ring node (pos 0))) })
own_range_read ring node before r within p =
    let upto = read_here ring node within (r.tokens node (get_or ring node (pos 0)) (slice_get-get_or ring node (pos 0) within)) in
    let there = slice_get_within ring before p.own p.there in
    let after = read_here ring before there (r.tokens before (get_or ring before (pos 0)) (slice_get-get_or ring before (pos 0) there)) in
    let own : p.own ≡ to_z w64 (of_z w64 (get_or ring before (pos 0))) = let e : Some p.own ≡ Some (to_z w64 (of_z w64 (get_or ring before (pos 0)))) = sym p.there ∙ after in cc in
    own_range ring node before (record { after = to_z w64 (of_z w64 (get_or ring before (pos 0))); upto = to_z w64 (of_z w64 (get_or ring node (pos 0))) }) r upto after
    (ap (place_of ring (to_z w64 (of_z w64 (get_or ring node (pos 0))))) (sym own) ∙ p.before)

-- The entries of nodes that are merged one after another are in order, those of each node as they stand in its history.
use Rattle.std.proofs.Common.{◌≡◌, ◌≢◌, ℕ, zero, suc, ◌+◌, ◌<◌, inl, inr, Bool, true, false, Some, List, [], ◌∷◌, Contains, length, map, refl, sym, ap, subst, ◌∙◌, arith, ltb-true, ltb-false, leb-true, leb-false, eqb-true}
use Rattle.std.specs.Prelude.{◌==◌, ◌&&◌, ◌||◌, if◌then◌else◌, nat_le, nat_lt, slice_get}
use Rattle.std.proofs.lemmas.Bool.{eqb-false}
use Rattle.cs_base.proofs.Members.{contains_cases, contains_from_map, contains_here, contains_nil, contains_there}
use Rattle.cs_base.proofs.Slots.{some_one}
use Rattle.lawful_orders.specs.Histories.{Taken}
use Rattle.lawful_orders.specs.Orders.{Placed, history_in}
use Rattle.lawful_orders.specs.Merged.{IsByTime, IsNoLater}
use Rattle.lawful_orders.proofs.Orders.{history_away, history_here}
use Rattle.lawful_orders.proofs.Times.{AreRising}
use Rattle.merged_histories.specs.Merging.{is_first, put_in, merged}
use Rattle.merged_histories.proofs.Lists.{IsOf, put_of, merged_of}

abbrev pub place_of : Placed → ℕ × ℕ
place_of p = (p.taken.outputs.time, p.node)

-- ---- in order

first_no_later : (p q : Placed) → is_first (place_of p) (place_of q) ≡ true → IsNoLater p q
first_no_later p q h = by (nat_lt p.taken.outputs.time q.taken.outputs.time) (p.taken.outputs.time == q.taken.outputs.time) refl refl h
  where
    by : (a b : Bool) → nat_lt p.taken.outputs.time q.taken.outputs.time ≡ a → (p.taken.outputs.time == q.taken.outputs.time) ≡ b → (a || (b && nat_le p.node q.node)) ≡ true → IsNoLater p q
    by true b less same h = inl (ltb-true p.taken.outputs.time q.taken.outputs.time less)
    by false true less same h = inr (eqb-true p.taken.outputs.time q.taken.outputs.time same, leb-true p.node q.node h)
    by false false less same h = cc

not_first_later : (p q : Placed) → is_first (place_of p) (place_of q) ≡ false → IsNoLater q p
not_first_later p q h = by (nat_lt p.taken.outputs.time q.taken.outputs.time) (p.taken.outputs.time == q.taken.outputs.time) refl refl h
  where
    by : (a b : Bool) → nat_lt p.taken.outputs.time q.taken.outputs.time ≡ a → (p.taken.outputs.time == q.taken.outputs.time) ≡ b → (a || (b && nat_le p.node q.node)) ≡ false → IsNoLater q p
    by true b less same h = cc
    by false true less same h = let node = leb-false p.node q.node h in inr (sym (eqb-true p.taken.outputs.time q.taken.outputs.time same), omega (arith, node))
    by false false less same h =
        let x = ltb-false p.taken.outputs.time q.taken.outputs.time less in
        let y = eqb-false p.taken.outputs.time q.taken.outputs.time same in
        inl (omega (arith, x, y))

no_later_on : (p q r : Placed) → IsNoLater p q → IsNoLater q r → IsNoLater p r
no_later_on p q r (inl a) (inl b) = inl (omega (arith, a, b))
no_later_on p q r (inl a) (inr (b, m)) = inl (omega (arith, a, b))
no_later_on p q r (inr (a, n)) (inl b) = inl (omega (arith, a, b))
no_later_on p q r (inr (a, n)) (inr (b, m)) = inr (a ∙ b, omega (arith, n, m))

put_by_time_if : (p q : Placed) (ps qs : List Placed) (rest : List Placed → List Placed) (b : Bool) → is_first (place_of p) (place_of q) ≡ b → IsByTime (p ∷ ps) → IsByTime (q ∷ qs)
    → IsOf ps (q ∷ qs) (rest (q ∷ qs)) → IsByTime (rest (q ∷ qs)) → IsOf (p ∷ ps) qs (put_in place_of p rest qs) → IsByTime (put_in place_of p rest qs)
    → IsByTime (if b then p ∷ rest (q ∷ qs) else q ∷ put_in place_of p rest qs)
put_by_time_if p q ps qs rest true test left right of behind more_of more = (
  (λ x h. elim (of x h) [
    | inl old ↦ left.0 x old
    | inr new ↦ elim (contains_cases q qs x new) [
      | inl same ↦ subst (λ (y : Placed). IsNoLater p y) same (first_no_later p q test)
      | inr later ↦ no_later_on p q x (first_no_later p q test) (right.0 x later)
    ]
  ]),
  behind,
)
put_by_time_if p q ps qs rest false test left right of behind more_of more = (
  (λ x h. elim (more_of x h) [
    | inl old ↦ elim (contains_cases p ps x old) [
      | inl same ↦ subst (λ (y : Placed). IsNoLater q y) same (not_first_later p q test)
      | inr later ↦ no_later_on q p x (not_first_later p q test) (left.0 x later)
    ]
    | inr new ↦ right.0 x new
  ]),
  more,
)

put_by_time : (p : Placed) (ps qs : List Placed) (rest : List Placed → List Placed) → IsByTime (p ∷ ps) → IsByTime qs → ((zs : List Placed) → IsOf ps zs (rest zs)) → ((zs : List Placed) → IsByTime zs → IsByTime (rest zs)) → IsByTime (put_in place_of p rest qs)
put_by_time p ps [] rest left right of behind = (
  (λ x h. elim (of [] x h) [ inl old ↦ left.0 x old | inr none ↦ absurd (contains_nil x none) ]),
  behind [] tt,
)
put_by_time p ps (q ∷ qs) rest left right of behind =
    put_by_time_if p q ps qs rest (is_first (place_of p) (place_of q)) refl left right (of (q ∷ qs)) (behind (q ∷ qs) right) (put_of place_of p ps rest of qs) (put_by_time p ps qs rest left right.1 of behind)

merged_by_time : (ps qs : List Placed) → IsByTime ps → IsByTime qs → IsByTime (merged place_of ps qs)
merged_by_time [] qs left right = right
merged_by_time (p ∷ ps) qs left right = put_by_time p ps qs (λ zs. merged place_of ps zs) left right (λ zs. merged_of place_of ps zs) (λ zs sorted. merged_by_time ps zs left.1 sorted)

-- ---- the entries of one node

abbrev AreAway : ℕ → List Placed → Type 0
AreAway j ps = (p : Placed) → Contains ps p → p.node ≢ j

behind_first : (j : ℕ) (p : Placed) (ps qs : List Placed) → history_in j ps ≡ history_in j qs → history_in j (p ∷ ps) ≡ history_in j (p ∷ qs)
behind_first j p ps qs same = ap (λ (ts : List Taken). if p.node == j then p.taken ∷ ts else ts) same

put_other_if : (j : ℕ) (p q : Placed) (qs : List Placed) (rest : List Placed → List Placed) (b : Bool) → p.node ≢ j → history_in j (rest (q ∷ qs)) ≡ history_in j (q ∷ qs) → history_in j (put_in place_of p rest qs) ≡ history_in j qs
    → history_in j (if b then p ∷ rest (q ∷ qs) else q ∷ put_in place_of p rest qs) ≡ history_in j (q ∷ qs)
put_other_if j p q qs rest true other behind more = history_away j p (rest (q ∷ qs)) other ∙ behind
put_other_if j p q qs rest false other behind more = behind_first j q (put_in place_of p rest qs) qs more

put_other : (j : ℕ) (p : Placed) (qs : List Placed) (rest : List Placed → List Placed) → p.node ≢ j → ((zs : List Placed) → history_in j (rest zs) ≡ history_in j zs) → history_in j (put_in place_of p rest qs) ≡ history_in j qs
put_other j p [] rest other behind = history_away j p (rest []) other ∙ behind []
put_other j p (q ∷ qs) rest other behind = put_other_if j p q qs rest (is_first (place_of p) (place_of q)) other (behind (q ∷ qs)) (put_other j p qs rest other behind)

-- none of the first list is of the node
others_first : (j : ℕ) (ps qs : List Placed) → AreAway j ps → history_in j (merged place_of ps qs) ≡ history_in j qs
others_first j [] qs away = refl
others_first j (p ∷ ps) qs away = put_other j p qs (λ zs. merged place_of ps zs) (away p (contains_here p ps)) (λ zs. others_first j ps zs (λ q h. away q (contains_there p ps q h)))

put_own_if : (j : ℕ) (p q : Placed) (ps qs : List Placed) (rest : List Placed → List Placed) (b : Bool) → q.node ≢ j → history_in j (rest (q ∷ qs)) ≡ history_in j ps → history_in j (put_in place_of p rest qs) ≡ history_in j (p ∷ ps)
    → history_in j (if b then p ∷ rest (q ∷ qs) else q ∷ put_in place_of p rest qs) ≡ history_in j (p ∷ ps)
put_own_if j p q ps qs rest true other behind more = behind_first j p (rest (q ∷ qs)) ps behind
put_own_if j p q ps qs rest false other behind more = history_away j q (put_in place_of p rest qs) other ∙ more

put_own : (j : ℕ) (p : Placed) (ps qs : List Placed) (rest : List Placed → List Placed) → AreAway j qs → ((zs : List Placed) → AreAway j zs → history_in j (rest zs) ≡ history_in j ps) → history_in j (put_in place_of p rest qs) ≡ history_in j (p ∷ ps)
put_own j p ps [] rest away behind = behind_first j p (rest []) ps (behind [] away)
put_own j p ps (q ∷ qs) rest away behind =
    put_own_if j p q ps qs rest (is_first (place_of p) (place_of q)) (away q (contains_here q qs)) (behind (q ∷ qs) away) (put_own j p ps qs rest (λ x h. away x (contains_there q qs x h)) behind)

nothing_of : (j : ℕ) (qs : List Placed) → AreAway j qs → history_in j qs ≡ []
nothing_of j [] away = refl
nothing_of j (q ∷ qs) away = history_away j q qs (away q (contains_here q qs)) ∙ nothing_of j qs (λ x h. away x (contains_there q qs x h))

-- none of the second list is
others_second : (j : ℕ) (ps qs : List Placed) → AreAway j qs → history_in j (merged place_of ps qs) ≡ history_in j ps
others_second j [] qs away = nothing_of j qs away
others_second j (p ∷ ps) qs away = put_own j p ps qs (λ zs. merged place_of ps zs) away (λ zs more. others_second j ps zs more)

-- ---- a history with its node

abbrev pub placed_at : ℕ → Taken → Placed
placed_at k t = record { node = k; taken = t }

at_node : (k : ℕ) (ts : List Taken) (p : Placed) → Contains (map (placed_at k) ts) p → p.node ≡ k
at_node k ts p h = let from = contains_from_map (placed_at k) ts p h in sym (ap (λ (q : Placed). q.node) from.2)

whole_at : (k : ℕ) (ts : List Taken) → history_in k (map (placed_at k) ts) ≡ ts
whole_at k [] = refl
whole_at k (t ∷ ts) = history_here k (placed_at k t) (map (placed_at k) ts) refl ∙ ap (λ (us : List Taken). t ∷ us) (whole_at k ts)

rising_at : (k : ℕ) (ts : List Taken) → AreRising ts → IsByTime (map (placed_at k) ts)
rising_at k [] rising = tt
rising_at k (t ∷ ts) rising = (
  (λ p h. let from = contains_from_map (placed_at k) ts p h in subst (λ (q : Placed). IsNoLater (placed_at k t) q) from.2 (inl (rising.0 from.0 from.1))),
  rising_at k ts rising.1,
)

-- ---- all nodes

-- the histories of the nodes from this number on are merged with what is there
abbrev pub order_on : ℕ → List (List Taken) → List Placed → List Placed
order_on k [] all = all
order_on k (h ∷ hs) all = order_on (k + 1) hs (merged place_of all (map (placed_at k) h))

abbrev AreBelow : ℕ → List Placed → Type 0
AreBelow k ps = (p : Placed) → Contains ps p → p.node < k

abbrev pub AllRise : List (List Taken) → Type 0
AllRise hs = (i : ℕ) (h : List Taken) → slice_get hs i ≡ Some h → AreRising h

more_below : (k : ℕ) (h : List Taken) (all : List Placed) → AreBelow k all → AreBelow (k + 1) (merged place_of all (map (placed_at k) h))
more_below k h all below p there = elim (merged_of place_of all (map (placed_at k) h) p there) [
  | inl old ↦ let less = below p old in omega (arith, less)
  | inr new ↦ let same = at_node k h p new in omega (arith, same)
]

pub order_by_time : (k : ℕ) (hs : List (List Taken)) (all : List Placed) → AllRise hs → IsByTime all → IsByTime (order_on k hs all)
order_by_time k [] all rise sorted = sorted
order_by_time k (h ∷ hs) all rise sorted =
    order_by_time (k + 1) hs (merged place_of all (map (placed_at k) h)) (λ i g at. rise (suc i) g at) (merged_by_time all (map (placed_at k) h) sorted (rising_at k h (rise 0 h refl)))

pub order_within : (k : ℕ) (hs : List (List Taken)) (all : List Placed) → AreBelow k all → AreBelow (k + length hs) (order_on k hs all)
order_within k [] all below p there = let less = below p there in omega (arith, less)
order_within k (h ∷ hs) all below p there =
    let less = order_within (k + 1) hs (merged place_of all (map (placed_at k) h)) (more_below k h all below) p there in
    omega (arith, less)

order_keeps : (j k : ℕ) (hs : List (List Taken)) (all : List Placed) → j < k → history_in j (order_on k hs all) ≡ history_in j all
order_keeps j k [] all less = refl
order_keeps j k (h ∷ hs) all less =
    order_keeps j (k + 1) hs (merged place_of all (map (placed_at k) h)) (omega (arith, less))
    ∙ others_second j all (map (placed_at k) h) (λ p there same. let node = at_node k h p there in omega (arith, node, same, less))

pub order_each : (k : ℕ) (hs : List (List Taken)) (all : List Placed) → AreBelow k all → (i : ℕ) (h : List Taken) → slice_get hs i ≡ Some h → history_in (k + i) (order_on k hs all) ≡ h
order_each k [] all below i h at = cc
order_each k (g ∷ hs) all below zero h at =
    let same : k + 0 ≡ k = omega arith in
    subst (λ (j : ℕ). history_in j (order_on k (g ∷ hs) all) ≡ h) (sym same) (
    order_keeps k (k + 1) hs (merged place_of all (map (placed_at k) g)) (omega arith)
    ∙ others_first k all (map (placed_at k) g) (λ p there node. let less = below p there in omega (arith, less, node))
    ∙ whole_at k g
    ∙ some_one at
    )
order_each k (g ∷ hs) all below (suc i) h at =
    let same : k + suc i ≡ (k + 1) + i = omega arith in
    subst (λ (j : ℕ). history_in j (order_on k (g ∷ hs) all) ≡ h) (sym same) (order_each (k + 1) hs (merged place_of all (map (placed_at k) g)) (more_below k g all below) i h at)

-- A change of one cell outranks what is at its place, and nothing else.
use Rattle.std.proofs.Common.{◌≡◌, ℕ, ◌+◌, ◌≤◌, inl, inr, Bool, true, false, cond, List, [], ◌∷◌, Option, Some, None, Contains, refl, sym, ◌∙◌, ap, subst, arith}
use Rattle.std.specs.BTreeMap.{is_at}
use Rattle.std.specs.List.{sum_by}
use Rattle.std.specs.List.Sorted.{IsStrictlySortedBy}
use Rattle.std.specs.Option.{option_to_list}
use Rattle.std.proofs.lemmas.List.Sums.{sum_by-cons}
use Rattle.std.specs.Map.{keys_of, lookup, set_value}
use Rattle.std.specs.Ordering.{is_eq}
use Rattle.std.specs.declared.cmp.Ordering.{Ordering}
use Rattle.std.specs.declared.cmp.Ordering.TheVariants.{Less, Equal, Greater}
use Rattle.std.proofs.lemmas.Bool.{cases_Bool, both_ways}
use Rattle.std.proofs.lemmas.Cmp.{tied_itself}
use Rattle.std.proofs.lemmas.Map.Keys.{sorted_head, sorted_tail}
use Rattle.changes.specs.declared.Held.{Held}
use Rattle.changes.specs.declared.Place.{Place}
use Rattle.changes.specs.Lengths.{held_length}
use Rattle.changes.specs.Order.{Outranks}
use Rattle.changes.proofs.Ranks.{above}
use Rattle.cs_base.proofs.Members.{contains_here, contains_there, contains_map}
use Rattle.partition_content.specs.declared.spots.Spot.{Spot}
use Rattle.partition_content.specs.declared.spots.Spot.TheVariants.{At}
use Rattle.partition_content.specs.Spots.{spot_cmp}
use Rattle.partition_content.specs.SpotLaws.{spot_total}
use Rattle.cell_merge.specs.Parts.{IsInnermost}
use Rattle.partition_content.specs.Slots.{changes_of, AreFiled, IsCleared, AreCleared, OutranksOnlyAt, IsCountedWith, IsLengthOf}
use Rattle.partition_content.proofs.SlotLemmas.{IsLostWith, AreLost, sum_changes}
use Rattle.partition_content.proofs.SpotLemmas.{key_exact}
use Rattle.partition_content.proofs.OrderLemmas.{key_at}
use Rattle.partition_content.proofs.ReachLemmas.{innermost_alone}

pub only_own : (x : Held) (es : List (Spot × Option Held)) → IsInnermost x.place → AreFiled es → OutranksOnlyAt x (At x.place) es
only_own x es narrow filed s y h over =
    elim (above x y over) [
      | inl b ↦ filed s y h ∙ ap (λ (p : Place). At p) (sym b.0)
      | inr i ↦ absurd (innermost_alone x.place y.place narrow i.0)
    ]

-- ---- nothing is outranked

stays : (x : Held) (o : Option Held) → ((y : Held) → o ≡ Some y → Outranks x y → ⊥) → IsCleared x o o
stays x None free = refl
stays x (Some y) free = inr (free y refl, refl)

none_lost : (x : Held) (o : Option Held) → ((y : Held) → o ≡ Some y → Outranks x y → ⊥) → IsLostWith x o 0 0
none_lost x None free = refl
none_lost x (Some y) free = inr (free y refl, refl)

abbrev Free : Held → List (Spot × Option Held) → Type 0
Free x es = (s : Spot) (y : Held) → Contains es (s, Some y) → Outranks x y → ⊥

free_here : (x : Held) (e : Spot × Option Held) (es : List (Spot × Option Held)) → Free x (e ∷ es) → (y : Held) → e.1 ≡ Some y → Outranks x y → ⊥
free_here x e es free y is = free e.0 y (subst (λ (o : Option Held). Contains {X = Spot × Option Held} (e ∷ es) (e.0, o)) is (contains_here {X = Spot × Option Held} e es))

free_later : (x : Held) (e : Spot × Option Held) (es : List (Spot × Option Held)) → Free x (e ∷ es) → Free x es
free_later x e es free s y h = free s y (contains_there {X = Spot × Option Held} e es (s, Some y) h)

pub untouched : (x : Held) (es : List (Spot × Option Held)) → ((s : Spot) (y : Held) → Contains es (s, Some y) → Outranks x y → ⊥) → AreCleared x es es
untouched x [] free = refl
untouched x (e ∷ es) free = (e.1, es, stays x e.1 (free_here x e es free), untouched x es (free_later x e es free), refl)

pub nothing_lost : (x : Held) (es : List (Spot × Option Held)) → ((s : Spot) (y : Held) → Contains es (s, Some y) → Outranks x y → ⊥) → AreLost x es 0
nothing_lost x [] free = refl
nothing_lost x (e ∷ es) free = (0, nothing_lost x es (free_later x e es free), none_lost x e.1 (free_here x e es free))

-- ---- one key

eq_tells : (at k : Spot) → is_at (spot_cmp at) k ≡ true → spot_cmp at k ≡ Equal
eq_tells at k h = by (spot_cmp at k) h
  where
    by : (o : Ordering) → is_eq o ≡ true → o ≡ Equal
    by Less t = cc
    by Equal t = refl
    by Greater t = cc

-- behind the key is nothing that x outranks
free_behind : (x : Held) (at : Spot) (e : Spot × Option Held) (es : List (Spot × Option Held)) → OutranksOnlyAt x at (e ∷ es) → IsStrictlySortedBy spot_cmp (keys_of (e ∷ es)) → is_at (spot_cmp at) e.0 ≡ true → Free x es
free_behind x at e es only sorted t s y h over =
    let key : s ≡ at = only s y (contains_there {X = Spot × Option Held} e es (s, Some y) h) over in
    let first : e.0 ≡ at = key_exact at e.0 (eq_tells at e.0 t) in
    let less : spot_cmp e.0 s ≡ Less = key_at (λ q. spot_cmp e.0 q ≡ Less) (keys_of es) s (sorted_head spot_cmp e.0 (keys_of es) sorted) (contains_map {X = Spot × Option Held} (λ d. d.0) es (s, Some y) h) in
    let same : spot_cmp at at ≡ Less = subst (λ (q : Spot). spot_cmp q at ≡ Less) first (subst (λ (q : Spot). spot_cmp e.0 q ≡ Less) key less) in
    let tie = sym (tied_itself spot_total at) ∙ same in cc

-- another key's change stays
free_before : (x : Held) (at : Spot) (e : Spot × Option Held) (es : List (Spot × Option Held)) → OutranksOnlyAt x at (e ∷ es) → is_at (spot_cmp at) e.0 ≡ false → (y : Held) → e.1 ≡ Some y → Outranks x y → ⊥
free_before x at e es only f y is over =
    let key : e.0 ≡ at = only e.0 y (subst (λ (o : Option Held). Contains {X = Spot × Option Held} (e ∷ es) (e.0, o)) is (contains_here {X = Spot × Option Held} e es)) over in
    both_ways (is_at (spot_cmp at) e.0) f (subst (λ (q : Spot). is_at (spot_cmp at) q ≡ true) (sym key) (ap is_eq (tied_itself spot_total at)))

only_later : (x : Held) (at : Spot) (e : Spot × Option Held) (es : List (Spot × Option Held)) → OutranksOnlyAt x at (e ∷ es) → OutranksOnlyAt x at es
only_later x at e es only s y h = only s y (contains_there {X = Spot × Option Held} e es (s, Some y) h)

pub cleared_at : (x : Held) (at : Spot) (es : List (Spot × Option Held)) (v w : Option Held) → IsStrictlySortedBy spot_cmp (keys_of es) → OutranksOnlyAt x at es → lookup (is_at (spot_cmp at)) es ≡ Some v → IsCleared x v w → AreCleared x es (set_value (is_at (spot_cmp at)) es w)
cleared_at x at [] v w sorted only found one = cc
cleared_at x at (e ∷ es) v w sorted only found one =
    elim (cases_Bool (is_at (spot_cmp at) e.0)) [
      | inl t ↦
          let is : Some e.1 ≡ Some v = sym (ap (λ (b : Bool). cond b (Some e.1) (lookup (is_at (spot_cmp at)) es)) t) ∙ found in
          let same : v ≡ e.1 = cc in
          (w, es, subst (λ (o : Option Held). IsCleared x o w) same one, untouched x es (free_behind x at e es only sorted t), ap (λ (b : Bool). cond b ((e.0, w) ∷ es) (e ∷ set_value (is_at (spot_cmp at)) es w)) t)
      | inr f ↦ (
        e.1,
        set_value (is_at (spot_cmp at)) es w,
        stays x e.1 (free_before x at e es only f),
        cleared_at x at es v w (sorted_tail spot_cmp e.0 (keys_of es) sorted) (only_later x at e es only)
            (sym (ap (λ (b : Bool). cond b (Some e.1) (lookup (is_at (spot_cmp at)) es)) f) ∙ found) one,
        ap (λ (b : Bool). cond b ((e.0, w) ∷ es) (e ∷ set_value (is_at (spot_cmp at)) es w)) f,
      )
    ]

pub lost_at_key : (x : Held) (at : Spot) (es : List (Spot × Option Held)) (v : Option Held) (n : ℕ) → IsStrictlySortedBy spot_cmp (keys_of es) → OutranksOnlyAt x at es → lookup (is_at (spot_cmp at)) es ≡ Some v → IsLostWith x v 0 n → AreLost x es n
lost_at_key x at [] v n sorted only found one = cc
lost_at_key x at (e ∷ es) v n sorted only found one =
    elim (cases_Bool (is_at (spot_cmp at) e.0)) [
      | inl t ↦
          let is : Some e.1 ≡ Some v = sym (ap (λ (b : Bool). cond b (Some e.1) (lookup (is_at (spot_cmp at)) es)) t) ∙ found in
          let same : v ≡ e.1 = cc in
          (0, nothing_lost x es (free_behind x at e es only sorted t), subst (λ (o : Option Held). IsLostWith x o 0 n) same one)
      | inr f ↦ (
        n,
        lost_at_key x at es v n (sorted_tail spot_cmp e.0 (keys_of es) sorted) (only_later x at e es only)
            (sym (ap (λ (b : Bool). cond b (Some e.1) (lookup (is_at (spot_cmp at)) es)) f) ∙ found) one,
        passed x e.1 n (free_before x at e es only f),
      )
    ]
  where
    passed : (x : Held) (o : Option Held) (n : ℕ) → ((y : Held) → o ≡ Some y → Outranks x y → ⊥) → IsLostWith x o n n
    passed x None n free = refl
    passed x (Some y) n free = inr (free y refl, refl)

-- ---- as the code asks it

pub slot_most : (t : Spot → Bool) (es : List (Spot × Option Held)) (v : Option Held) → lookup t es ≡ Some v → sum_by held_length (option_to_list v) ≤ sum_by held_length (changes_of es)
slot_most t [] v found = cc
slot_most t (e ∷ es) v found =
    let split = sum_changes e es in
    elim (cases_Bool (t e.0)) [
      | inl y ↦
          let is : Some e.1 ≡ Some v = sym (ap (λ (b : Bool). cond b (Some e.1) (lookup t es)) y) ∙ found in
          let same : e.1 ≡ v = cc in
          let here = ap (λ (o : Option Held). sum_by held_length (option_to_list o)) same in omega (arith, split, here)
      | inr n ↦ let ih = slot_most t es v (sym (ap (λ (b : Bool). cond b (Some e.1) (lookup t es)) n) ∙ found) in omega (arith, split, ih)
    ]

-- ---- all keys, one after another

-- what the walk has counted, and what the rest counts, is counted of all
abbrev pub LostSoFar : (Held → Type 0) → List (Spot × Option Held) → List (Spot × Option Held) → ℕ → Type 0
LostSoFar P all rest lost = (r n : ℕ) → IsLengthOf P rest r → n ≡ lost + r → IsLengthOf P all n

pub lost_start : (P : Held → Type 0) (all it : List (Spot × Option Held)) → it ≡ all → LostSoFar P all it 0
lost_start P all it e r n h is = subst (IsLengthOf P all) (sym (let z : n ≡ r = omega (arith, is) in z)) (subst (λ (l : List (Spot × Option Held)). IsLengthOf P l r) e h)

lost_next : (P : Held → Type 0) (o : Option Held) (a b r : ℕ) → IsCountedWith P o a b → (s : ℕ) × IsCountedWith P o r s × (a + s ≡ b + r)
lost_next P None a b r e = (r, refl, omega (arith, e))
lost_next P (Some y) a b r (inl (over, e)) = (held_length y + r, inl (over, refl), omega (arith, e))
lost_next P (Some y) a b r (inr (free, e)) = (r, inr (free, refl), omega (arith, e))

pub lost_step : (P : Held → Type 0) (all it rest : List (Spot × Option Held)) (k : Spot) (v : Option Held) (a b : ℕ) → it ≡ (k, v) ∷ rest → LostSoFar P all it a → IsCountedWith P v a b → LostSoFar P all rest b
lost_step P all it rest k v a b split so_far one r n h is =
    let f = lost_next P v a b r one in
    so_far f.0 n (subst (λ (l : List (Spot × Option Held)). IsLengthOf P l f.0) (sym split) (r, h, f.1)) (let e = f.2 in omega (arith, e, is))

pub lost_done : (P : Held → Type 0) (all it : List (Spot × Option Held)) (lost : ℕ) → it ≡ [] → LostSoFar P all it lost → IsLengthOf P all lost
lost_done P all it lost none so_far = so_far 0 lost (subst (λ (l : List (Spot × Option Held)). IsLengthOf P l 0) (sym none) refl) (omega arith)

pub sum_front : (it rest : List (Spot × Option Held)) (k : Spot) (v : Option Held) → it ≡ (k, v) ∷ rest → sum_by held_length (changes_of it) ≡ sum_by held_length (option_to_list v) + sum_by held_length (changes_of rest)
sum_front it rest k v e = ap (λ (l : List (Spot × Option Held)). sum_by held_length (changes_of l)) e ∙ sum_changes (k, v) rest

pub lost_one : (P : Held → Type 0) (o : Option Held) (m n : ℕ) → IsCountedWith P o m n → n ≤ sum_by held_length (option_to_list o) + m
lost_one P None m n e = omega (arith, e)
lost_one P (Some y) m n (inl (over, e)) = let f = sum_by-cons held_length y [] in omega (arith, e, f)
lost_one P (Some y) m n (inr (free, e)) = omega (arith, e)

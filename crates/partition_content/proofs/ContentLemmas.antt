-- The content after one change, and after several.
use Rattle.std.proofs.Common.{◌≡◌, ◌≢◌, ℕ, ◌+◌, ◌≤◌, ◌⊎◌, ◌↔◌, inl, inr, Bool, true, false, List, [], ◌∷◌, Option, Some, None, IsSome, Contains, refl, sym, ◌∙◌, ap, subst, arith, IsTrue}
use Rattle.std.specs.BTreeMap.{is_at}
use Rattle.std.specs.List.{sum_by}
use Rattle.std.specs.Option.{option_to_list}
use Rattle.std.proofs.lemmas.List.Sums.{sum_by-cons}
use Rattle.std.specs.List.Sorted.{IsStrictlySortedBy}
use Rattle.std.specs.Map.{keys_of, lookup, set_value}
use Rattle.std.specs.Ordering.{ordering_reverse}
use Rattle.std.specs.declared.cmp.Ordering.{Ordering}
use Rattle.std.specs.declared.cmp.Ordering.TheVariants.{Less, Equal, Greater}
use Rattle.changes.specs.declared.Held.{Held}
use Rattle.changes.specs.Contents.{Either, AreApart, IsContent, IsReachedBy}
use Rattle.changes.specs.Lengths.{held_length, changes_length}
use Rattle.partition_content.specs.Partition.{IsTakenIn}
use Rattle.changes.specs.Order.{Outranks, rank_cmp}
use Rattle.changes.proofs.Ranks.{rank_total}
use Rattle.change_laws.proofs.Outranking.{Outranks_irrefl}
use Rattle.partition_content.specs.declared.spots.Spot.{Spot}
use Rattle.partition_content.specs.declared.spots.Spot.TheVariants.{At}
use Rattle.partition_content.specs.Spots.{spot_cmp}
use Rattle.partition_content.specs.Slots.{SlotMap, changes_of, change_in, AreFiled, HasSlot, AreCleared, IsCountedWith, IsLengthOf, IsReachedAt, IsGood, slot_at, spots_in}
use Rattle.std.proofs.lemmas.Bool.{both_ways}
use Rattle.partition_content.proofs.SpotLemmas.{spot_found, place_kept}
use Rattle.partition_content.proofs.SlotLemmas.{AreLost, from_changes, to_changes, cleared_keys, cleared_from, cleared_to, lost_length, sum_changes}
use Rattle.partition_content.proofs.PutLemmas.{set_from, set_old, set_new, set_length, slot_found}
use Rattle.partition_content.proofs.ReachLemmas.{own_reaches}
use Rattle.std.proofs.lemmas.Map.{keys-set_value}

-- some change of the list outranks x or is x, and so nothing changes
pub reached_content : (kept : List Held) (x : Held) → AreApart kept → IsReachedBy kept x → IsContent kept (Either (Contains kept) (λ y. x ≡ y))
reached_content kept x apart reached = record {
  within = λ y k. inl k;
  reached = λ y u. elim u [ inl k ↦ inl k | inr is ↦ subst (IsReachedBy kept) is reached ];
  apart = apart;
}

greater_of : (x y : Held) → rank_cmp x y ≡ Greater ⊎ (rank_cmp y x ≢ Less)
greater_of x y = by (rank_cmp x y) refl
  where
    by : (o : Ordering) → rank_cmp x y ≡ o → rank_cmp x y ≡ Greater ⊎ (rank_cmp y x ≢ Less)
    by Greater e = inl e
    by Less e = inr (λ l. let f = sym e ∙ rank_total.antisymm x y ∙ ap ordering_reverse l in cc)
    by Equal e = inr (λ l. let f = sym e ∙ rank_total.antisymm x y ∙ ap ordering_reverse l in cc)

-- ---- a change that nothing reaches is put in, and what it outranks goes

-- there is nothing at its place any more
emptied : (es fs : List (Spot × Option Held)) (x : Held) → AreFiled es → (IsReachedBy (changes_of es) x → ⊥) → AreCleared x es fs → (s : Spot) (y : Held) → Contains fs (s, Some y) → is_at (spot_cmp (At x.place)) s ≡ true → ⊥
emptied es fs x filed free clear s y here t =
    let old = cleared_from x es fs clear s y here in
    let same : y.place ≡ x.place = place_kept y.place x.place (sym (filed s y old.0) ∙ spot_found x.place s t) in
    elim (greater_of x y) [
      | inl g ↦ old.1 (inl (sym same, g))
      | inr up ↦ free (own_reaches es x y (to_changes es s y old.0) same up)
    ]

put_from : (es fs : List (Spot × Option Held)) (x : Held) → AreCleared x es fs → (s : Spot) (y : Held) → Contains (set_value (is_at (spot_cmp (At x.place))) fs (Some x)) (s, Some y) → (Contains es (s, Some y) × (Outranks x y → ⊥)) ⊎ ((x ≡ y) × (s ≡ At x.place))
put_from es fs x clear s y h =
    elim (set_from (is_at (spot_cmp (At x.place))) fs (Some x) (s, Some y) h) [
      | inl old ↦ inl (cleared_from x es fs clear s y old)
      | inr new ↦ let is : Some y ≡ Some x = new.0 in let same : x ≡ y = cc in inr (same, spot_found x.place s new.1)
    ]

pub put_content : (es fs gs : List (Spot × Option Held)) (x : Held) → AreFiled es → AreApart (changes_of es) → (IsReachedBy (changes_of es) x → ⊥) → IsSome (lookup (is_at (spot_cmp (At x.place))) fs) → AreCleared x es fs → gs ≡ set_value (is_at (spot_cmp (At x.place))) fs (Some x) → IsContent (changes_of gs) (Either (Contains (changes_of es)) (λ y. x ≡ y))
put_content es fs gs x filed apart free slot clear e =
    let new : List (Spot × Option Held) = set_value (is_at (spot_cmp (At x.place))) fs (Some x) in
    let origin : (y : Held) → Contains (changes_of (set_value (is_at (spot_cmp (At x.place))) fs (Some x))) y → (Contains (changes_of es) y × (Outranks x y → ⊥)) ⊎ (x ≡ y) =
    λ y k. let f = from_changes (set_value (is_at (spot_cmp (At x.place))) fs (Some x)) y k in
    elim (put_from es fs x clear f.0 y f.1) [ inl old ↦ inl (to_changes es f.0 y old.0, old.1) | inr is ↦ inr is.0 ] in
    let there : Contains (changes_of (set_value (is_at (spot_cmp (At x.place))) fs (Some x))) x =
    let f = set_new (is_at (spot_cmp (At x.place))) fs (Some x) slot in to_changes (set_value (is_at (spot_cmp (At x.place))) fs (Some x)) f.0 x f.2 in
    subst (λ (l : List (Spot × Option Held)). IsContent (changes_of l) (Either (Contains (changes_of es)) (λ y. x ≡ y))) (sym e) (record {
      within = λ y k. elim (origin y k) [ inl old ↦ inl old.0 | inr is ↦ inr is ];
      reached = λ y u. elim u [
        | inl old ↦
            let f = from_changes es y old in
            elim (cleared_to x es fs clear f.0 y f.1) [
              | inl still ↦ inl (to_changes (set_value (is_at (spot_cmp (At x.place))) fs (Some x)) f.0 y
                  (set_old (is_at (spot_cmp (At x.place))) fs (Some x) (f.0, Some y) (emptied es fs x filed free clear f.0 y still) still))
              | inr over ↦ inr (x, there, over)
            ]
        | inr is ↦ inl (subst (Contains (changes_of (set_value (is_at (spot_cmp (At x.place))) fs (Some x)))) is there)
      ];
      apart = λ y z ky kz over. elim (origin y ky) [
        | inl a ↦ elim (origin z kz) [
          | inl b ↦ apart y z a.0 b.0 over
          | inr is ↦ free (inr (y, a.0, subst (Outranks y) (sym is) over))
        ]
        | inr is ↦ elim (origin z kz) [
          | inl b ↦ b.1 (subst (λ (v : Held). Outranks v z) (sym is) over)
          | inr also ↦ Outranks_irrefl x (subst (Outranks x) (sym also) (subst (λ (v : Held). Outranks v z) (sym is) over))
        ]
      ];
    })

pub put_filed : (es fs gs : List (Spot × Option Held)) (x : Held) → AreFiled es → AreCleared x es fs → gs ≡ set_value (is_at (spot_cmp (At x.place))) fs (Some x) → AreFiled gs
put_filed es fs gs x filed clear e s y h =
    elim (put_from es fs x clear s y (subst (λ (l : List (Spot × Option Held)). Contains l (s, Some y)) e h)) [
      | inl old ↦ filed s y old.0
      | inr is ↦ is.1 ∙ ap (λ (v : Held). At v.place) is.0
    ]

pub put_keys : (es fs gs : List (Spot × Option Held)) (x : Held) → AreCleared x es fs → gs ≡ set_value (is_at (spot_cmp (At x.place))) fs (Some x) → keys_of gs ≡ keys_of es
put_keys es fs gs x clear e = ap keys_of e ∙ keys-set_value (is_at (spot_cmp (At x.place))) fs (Some x) ∙ cleared_keys x es fs clear

pub put_length : (es fs gs : List (Spot × Option Held)) (x : Held) (n : ℕ) → AreFiled es → (IsReachedBy (changes_of es) x → ⊥) → IsSome (lookup (is_at (spot_cmp (At x.place))) fs) → AreCleared x es fs → AreLost x es n → gs ≡ set_value (is_at (spot_cmp (At x.place))) fs (Some x) → sum_by held_length (changes_of gs) + n ≡ sum_by held_length (changes_of es) + held_length x
put_length es fs gs x n filed free slot clear lost e =
    let a = ap (λ (l : List (Spot × Option Held)). sum_by held_length (changes_of l)) e in
    let b = set_length (is_at (spot_cmp (At x.place))) fs x slot (emptied es fs x filed free clear) in
    let c = lost_length x es fs n clear lost in omega (arith, a, b, c)

-- ---- as the code puts it in

pub put_room : (old cleared : SlotMap) (x : Held) (at : Spot) → at ≡ At x.place → HasSlot old x.place → spots_in cleared ≡ spots_in old → IsSome (slot_at cleared at)
put_room old cleared x at is slot same =
    subst (λ (s : Spot). IsSome (slot_at cleared s)) (sym is) (slot_found x.place cleared (subst (λ (l : List Spot). Contains l (At x.place)) (sym same) slot))

-- the entries after a change was put in
pub record IsPut (old middle new : SlotMap) (x : Held) : Type 0 where
  pub good : IsGood old
  pub free : IsReachedBy (changes_of old.entries) x → ⊥
  pub cleared : AreCleared x old.entries middle.entries
  pub slot : IsSome (lookup (is_at (spot_cmp (At x.place))) middle.entries)
  pub entries : new.entries ≡ set_value (is_at (spot_cmp (At x.place))) middle.entries (Some x)

pub is_put : (old middle new : SlotMap) (x : Held) (at : Spot) (b : Bool) → IsGood old → at ≡ At x.place → HasSlot old x.place → (IsReachedBy (changes_of old.entries) x → IsReachedAt (change_in (slot_at old (At x.place))) x) → (IsTrue b ↔ IsReachedAt (change_in (slot_at old at)) x) → b ≡ false → AreCleared x old.entries middle.entries → spots_in middle ≡ spots_in old → new.entries ≡ set_value (is_at (spot_cmp at)) middle.entries (Some x) → IsPut old middle new x
is_put old middle new x at b good is slot own told f clear same e = record {
  good = good;
  free = λ r. both_ways b f (told.1 (subst (λ (s : Spot). IsReachedAt (change_in (slot_at old s)) x) (sym is) (own r)));
  cleared = clear;
  slot = subst (λ (s : Spot). IsSome (slot_at middle s)) is (put_room old middle x at is slot same);
  entries = subst (λ (s : Spot). new.entries ≡ set_value (is_at (spot_cmp s)) middle.entries (Some x)) is e;
}

pub put_is_content : (old middle new : SlotMap) (x : Held) → IsPut old middle new x → IsContent (changes_of new.entries) (Either (Contains (changes_of old.entries)) (λ y. x ≡ y))
put_is_content old middle new x p = put_content old.entries middle.entries new.entries x p.good.filed p.good.apart p.free p.slot p.cleared p.entries

pub put_same_keys : (old middle new : SlotMap) (x : Held) → IsPut old middle new x → spots_in new ≡ spots_in old
put_same_keys old middle new x p = put_keys old.entries middle.entries new.entries x p.cleared p.entries

pub put_is_good : (old middle new : SlotMap) (x : Held) → IsPut old middle new x → IsGood new
put_is_good old middle new x p = record {
  sorted = subst (IsStrictlySortedBy spot_cmp) (sym (put_same_keys old middle new x p)) p.good.sorted;
  filed = put_filed old.entries middle.entries new.entries x p.good.filed p.cleared p.entries;
  apart = (put_is_content old middle new x p).apart;
}

pub put_sum : (old middle new : SlotMap) (x : Held) (n : ℕ) → IsPut old middle new x → AreLost x old.entries n → sum_by held_length (changes_of new.entries) + n ≡ sum_by held_length (changes_of old.entries) + held_length x
put_sum old middle new x n p lost = put_length old.entries middle.entries new.entries x n p.good.filed p.free p.slot p.cleared lost p.entries

lost_one : (P : Held → Type 0) (o : Option Held) (m n : ℕ) → IsCountedWith P o m n → n ≤ sum_by held_length (option_to_list o) + m
lost_one P None m n e = omega (arith, e)
lost_one P (Some y) m n (inl (over, e)) = let f = sum_by-cons held_length y [] in omega (arith, e, f)
lost_one P (Some y) m n (inr (free, e)) = omega (arith, e)

-- what is counted was there
pub lost_most : (P : Held → Type 0) (es : List (Spot × Option Held)) (n : ℕ) → IsLengthOf P es n → n ≤ sum_by held_length (changes_of es)
lost_most P [] n lost = omega (arith, lost)
lost_most P (e ∷ es) n (m, fewer, one) =
    let ih = lost_most P es m fewer in
    let split = sum_changes e es in
    let here = lost_one P e.1 m n one in omega (arith, ih, split, here)

-- ---- taken in

-- what is reached already changes nothing
pub not_taken : (slots : SlotMap) (x : Held) (length : ℕ) → IsGood slots → length ≡ changes_length (changes_of slots.entries) → IsReachedBy (changes_of slots.entries) x → IsTakenIn slots slots x length length
not_taken slots x length good long reached = record {
  content = reached_content (changes_of slots.entries) x good.apart reached;
  good = good;
  same = refl;
  long = long;
  most = omega arith;
}

pub put_taken : (old middle new : SlotMap) (x : Held) (before after n : ℕ) → IsPut old middle new x → before ≡ changes_length (changes_of old.entries) → AreLost x old.entries n → after + n ≡ before + held_length x → IsTakenIn old new x before after
put_taken old middle new x before after n p long lost e =
    let sum = put_sum old middle new x n p lost in
    record {
      content = put_is_content old middle new x p;
      good = put_is_good old middle new x p;
      same = put_same_keys old middle new x p;
      long = omega (arith, sum, e, long);
      most = omega (arith, e);
    }

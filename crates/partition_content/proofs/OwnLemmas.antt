-- A cell or a marker is put in at its key, and nothing else is changed.
use Rattle.std.proofs.Common.{◌≡◌, ℕ, ◌+◌, ◌≤◌, inl, inr, Bool, cond, List, [], ◌∷◌, Option, Some, None, IsSome, Contains, refl, sym, ◌∙◌, ap, subst, arith}
use Rattle.std.specs.BTreeMap.{is_at}
use Rattle.std.specs.List.Sorted.{IsStrictlySortedBy}
use Rattle.std.specs.Map.{keys_of, lookup, set_value}
use Rattle.std.specs.Ordering.{ordering_reverse}
use Rattle.std.specs.declared.cmp.Ordering.TheVariants.{Less}
use Rattle.std.proofs.lemmas.Bool.{cases_Bool}
use Rattle.changes.specs.declared.Held.{Held}
use Rattle.changes.specs.Contents.{Either, AreApart, IsContent, IsReachedBy}
use Rattle.changes.specs.Lengths.{held_length, changes_length}
use Rattle.changes.specs.Order.{Outranks, rank_cmp}
use Rattle.changes.proofs.Ranks.{rank_total}
use Rattle.cell_merge.specs.Parts.{IsInnermost}
use Rattle.partition_content.specs.declared.spots.Spot.{Spot}
use Rattle.partition_content.specs.declared.spots.Spot.TheVariants.{At}
use Rattle.partition_content.specs.Spots.{spot_cmp}
use Rattle.partition_content.specs.declared.Arrived.{Arrived}
use Rattle.partition_content.specs.Slots.{SlotMap, SlotTree, held_in, helds_in, helds_of, ComesAlone, changes_of, change_in, AreFiled, AreCleared, IsReachedAt, IsPutIn, IsPutAt, IsGood, slot_at}
use Rattle.partition_content.specs.Partition.{IsTakenIn}
use Rattle.partition_content.proofs.SpotLemmas.{place_kept}
use Rattle.partition_content.proofs.HeldLemmas.{helds-found, helds-set_value}
use Rattle.partition_content.proofs.ArrivalLemmas.{comes_own}
use Rattle.partition_content.proofs.SlotLemmas.{AreLost, to_changes}
use Rattle.partition_content.proofs.PutLemmas.{found_at}
use Rattle.partition_content.proofs.ReachLemmas.{own_reaches}
use Rattle.partition_content.proofs.ClearLemmas.{only_own, cleared_at, lost_at_key}
use Rattle.partition_content.proofs.ContentLemmas.{reached_content, put_content, put_filed, put_keys, put_length}

abbrev Entries : Type 0
Entries = List (Spot × Option Held)

abbrev at_place_of : Held → Spot → Bool
at_place_of x = is_at (spot_cmp (At x.place))

-- ---- one key

set_same : (t : Spot → Bool) (es : List (Spot × Option Held)) (v : Option Held) → lookup t es ≡ Some v → set_value t es v ≡ es
set_same t [] v found = cc
set_same t (d ∷ es) v found =
    elim (cases_Bool (t d.0)) [
      | inl y ↦
          let is : Some d.1 ≡ Some v = sym (ap (λ (b : Bool). cond b (Some d.1) (lookup t es)) y) ∙ found in
          let same : v ≡ d.1 = cc in
          ap (λ (b : Bool). cond b ((d.0, v) ∷ es) (d ∷ set_value t es v)) y ∙ ap (λ (o : Option Held). (d.0, o) ∷ es) same
      | inr n ↦
          ap (λ (b : Bool). cond b ((d.0, v) ∷ es) (d ∷ set_value t es v)) n
          ∙ ap (λ (l : List (Spot × Option Held)). d ∷ l) (set_same t es v (sym (ap (λ (b : Bool). cond b (Some d.1) (lookup t es)) n) ∙ found))
    ]

set_twice : (t : Spot → Bool) (es : List (Spot × Option Held)) (v w : Option Held) → set_value t (set_value t es v) w ≡ set_value t es w
set_twice t [] v w = refl
set_twice t (d ∷ es) v w =
    elim (cases_Bool (t d.0)) [
      | inl y ↦
          ap (λ (b : Bool). set_value t (cond b ((d.0, v) ∷ es) (d ∷ set_value t es v)) w) y
          ∙ ap (λ (b : Bool). cond b ((d.0, w) ∷ es) ((d.0, v) ∷ set_value t es w)) y
          ∙ sym (ap (λ (b : Bool). cond b ((d.0, w) ∷ es) (d ∷ set_value t es w)) y)
      | inr n ↦
          ap (λ (b : Bool). set_value t (cond b ((d.0, v) ∷ es) (d ∷ set_value t es v)) w) n
          ∙ ap (λ (b : Bool). cond b ((d.0, w) ∷ set_value t es v) (d ∷ set_value t (set_value t es v) w)) n
          ∙ ap (λ (l : List (Spot × Option Held)). d ∷ l) (set_twice t es v w)
          ∙ sym (ap (λ (b : Bool). cond b ((d.0, w) ∷ es) (d ∷ set_value t es w)) n)
    ]

set_found : (t : Spot → Bool) (es : List (Spot × Option Held)) (v w : Option Held) → lookup t es ≡ Some v → IsSome (lookup t (set_value t es w))
set_found t [] v w found = cc
set_found t (d ∷ es) v w found =
    elim (cases_Bool (t d.0)) [
      | inl y ↦
          subst (λ (b : Bool). IsSome (lookup t (cond b ((d.0, w) ∷ es) (d ∷ set_value t es w)))) (sym y)
          (subst (λ (b : Bool). IsSome (cond b (Some w) (lookup t es))) (sym y) refl)
      | inr n ↦
          subst (λ (b : Bool). IsSome (lookup t (cond b ((d.0, w) ∷ es) (d ∷ set_value t es w)))) (sym n)
          (subst (λ (b : Bool). IsSome (cond b (Some d.1) (lookup t (set_value t es w)))) (sym n)
          (set_found t es v w (sym (ap (λ (b : Bool). cond b (Some d.1) (lookup t es)) n) ∙ found)))
    ]

-- ---- a cell put in

-- the entries after a cell was put in
pub record IsOwnTaken (es gs : List (Spot × Option Held)) (x : Held) (before after : ℕ) : Type 0 where
  pub content : IsContent (changes_of gs) (Either (Contains (changes_of es)) (λ y. x ≡ y))
  pub filed : AreFiled gs
  pub same : keys_of gs ≡ keys_of es
  pub long : after ≡ changes_length (changes_of gs)
  pub most : after ≤ before + held_length x

own_free : (es gs : List (Spot × Option Held)) (x : Held) (v : Option Held) (before after n : ℕ) → IsStrictlySortedBy spot_cmp (keys_of es) → AreFiled es → AreApart (changes_of es) → IsInnermost x.place → (IsReachedBy (changes_of es) x → ⊥) → lookup (is_at (spot_cmp (At x.place))) es ≡ Some v
    → AreCleared x es (set_value (is_at (spot_cmp (At x.place))) es None) → AreLost x es n → before ≡ changes_length (changes_of es) → after + n ≡ before + held_length x → gs ≡ set_value (is_at (spot_cmp (At x.place))) es (Some x) → IsOwnTaken es gs x before after
own_free es gs x v before after n sorted filed apart narrow free found clear lost long e is =
    let new : gs ≡ set_value (is_at (spot_cmp (At x.place))) (set_value (is_at (spot_cmp (At x.place))) es None) (Some x) = is ∙ sym (set_twice (is_at (spot_cmp (At x.place))) es None (Some x)) in
    let slot = set_found (is_at (spot_cmp (At x.place))) es v None found in
    let sum = put_length es (set_value (is_at (spot_cmp (At x.place))) es None) gs x n filed free slot clear lost new in
    record {
      content = put_content es (set_value (is_at (spot_cmp (At x.place))) es None) gs x filed apart free slot clear new;
      filed = put_filed es (set_value (is_at (spot_cmp (At x.place))) es None) gs x filed clear new;
      same = put_keys es (set_value (is_at (spot_cmp (At x.place))) es None) gs x clear new;
      long = omega (arith, sum, e, long);
      most = omega (arith, e);
    }

beaten : (x y : Held) → y.place ≡ x.place → rank_cmp y x ≡ Less → Outranks x y
beaten x y same less = inl (sym same, rank_total.antisymm x y ∙ ap ordering_reverse less)

pub own_taken : (es gs : List (Spot × Option Held)) (x : Held) (v w : Option Held) (before after : ℕ) → IsStrictlySortedBy spot_cmp (keys_of es) → AreFiled es → AreApart (changes_of es) → IsInnermost x.place → (IsReachedBy (changes_of es) x → IsReachedAt v x)
    → lookup (is_at (spot_cmp (At x.place))) es ≡ Some v → IsPutIn x v w before after → before ≡ changes_length (changes_of es) → gs ≡ set_value (is_at (spot_cmp (At x.place))) es w → IsOwnTaken es gs x before after
own_taken es gs x None w before after sorted filed apart narrow own found (new, e) long is =
    let only = only_own x es narrow filed in
    own_free es gs x None before after 0 sorted filed apart narrow own found (cleared_at x (At x.place) es None None sorted only found refl) (lost_at_key x (At x.place) es None 0 sorted only found refl) long (omega (arith, e))
    (is ∙ ap (λ (o : Option Held). set_value (is_at (spot_cmp (At x.place))) es o) new)
own_taken es gs x (Some y) w before after sorted filed apart narrow own found (inl (rank, new, e)) long is =
    let here = found_at x.place es (Some y) found in
    let same : y.place ≡ x.place = sym (place_kept x.place y.place (filed (At x.place) y here)) in
    let reached = own_reaches es x y (to_changes es (At x.place) y here) same rank in
    let kept : gs ≡ es = is ∙ ap (λ (o : Option Held). set_value (is_at (spot_cmp (At x.place))) es o) new ∙ set_same (is_at (spot_cmp (At x.place))) es (Some y) found in
    let long_now = ap (λ (l : List (Spot × Option Held)). changes_length (changes_of l)) kept in
    record {
      content = subst (λ (l : List (Spot × Option Held)). IsContent (changes_of l) (Either (Contains (changes_of es)) (λ z. x ≡ z))) (sym kept) (reached_content (changes_of es) x apart reached);
      filed = subst AreFiled (sym kept) filed;
      same = ap keys_of kept;
      long = omega (arith, e, long, long_now);
      most = omega (arith, e);
    }
own_taken es gs x (Some y) w before after sorted filed apart narrow own found (inr (less, new, e)) long is =
    let here = found_at x.place es (Some y) found in
    let same : y.place ≡ x.place = sym (place_kept x.place y.place (filed (At x.place) y here)) in
    let over = beaten x y same less in
    let only = only_own x es narrow filed in
    own_free es gs x (Some y) before after (held_length y) sorted filed apart narrow (λ r. own r less) found
    (cleared_at x (At x.place) es (Some y) None sorted only found (inl (over, refl)))
    (lost_at_key x (At x.place) es (Some y) (held_length y) sorted only found (inl (over, omega arith))) long (omega (arith, e))
    (is ∙ ap (λ (o : Option Held). set_value (is_at (spot_cmp (At x.place))) es o) new)

change_found : (slots : SlotMap) (s : Spot) (v : Option Held) → lookup (is_at (spot_cmp s)) slots.entries ≡ Some v → change_in (slot_at slots s) ≡ v
change_found slots s v found = ap change_in found

own_reached : (old : SlotTree) (x : Held) (v : Option Arrived) → (IsReachedBy (changes_of (helds_in old.entries)) x → IsReachedAt (change_in (slot_at (helds_of old) (At x.place))) x) → lookup (is_at (spot_cmp (At x.place))) (helds_in old.entries) ≡ Some (held_in v) → IsReachedBy (changes_of (helds_in old.entries)) x → IsReachedAt (held_in v) x
own_reached old x v own found r = subst (λ (o : Option Held). IsReachedAt o x) (change_found (helds_of old) (At x.place) (held_in v) found) (own r)

pub cell_taken : (time : ℕ) (old new : SlotTree) (x : Held) (at : Spot) (before after : ℕ) → at ≡ At x.place → IsInnermost x.place → IsGood (helds_of old) → before ≡ changes_length (changes_of (helds_in old.entries)) → (IsReachedBy (changes_of (helds_in old.entries)) x → IsReachedAt (change_in (slot_at (helds_of old) (At x.place))) x)
    → IsPutAt time x at old.entries new.entries before after → IsTakenIn (helds_of old) (helds_of new) x before after
cell_taken time old new x at before after is narrow good long own put =
    let own_put : IsPutAt time x (At x.place) old.entries new.entries before after = subst (λ (s : Spot). IsPutAt time x s old.entries new.entries before after) is put in
    let found = helds-found (is_at (spot_cmp (At x.place))) old.entries own_put.was own_put.found in
    let t = own_taken (helds_in old.entries) (helds_in new.entries) x (held_in own_put.was) (held_in own_put.left) before after good.sorted good.filed good.apart narrow
    (own_reached old x own_put.was own found) found own_put.put long (ap helds_in own_put.entries ∙ helds-set_value (is_at (spot_cmp (At x.place))) old.entries own_put.left) in
    record {
      content = t.content;
      good = record { sorted = subst (IsStrictlySortedBy spot_cmp) (sym t.same) good.sorted; filed = t.filed; apart = t.content.apart };
      same = t.same;
      long = t.long;
      most = t.most;
    }

pub cell_comes : (time : ℕ) (old new : SlotTree) (x : Held) (at : Spot) (before after : ℕ) → at ≡ At x.place → (IsReachedBy (changes_of (helds_in old.entries)) x → IsReachedAt (change_in (slot_at (helds_of old) (At x.place))) x) → IsPutAt time x at old.entries new.entries before after → ComesAlone time x old.entries new.entries
cell_comes time old new x at before after is own put =
    let own_put : IsPutAt time x (At x.place) old.entries new.entries before after = subst (λ (s : Spot). IsPutAt time x s old.entries new.entries before after) is put in
    let found = helds-found (is_at (spot_cmp (At x.place))) old.entries own_put.was own_put.found in
    comes_own time x (is_at (spot_cmp (At x.place))) old.entries new.entries own_put.was own_put.left own_put.found (own_reached old x own_put.was own found) own_put.comes own_put.entries

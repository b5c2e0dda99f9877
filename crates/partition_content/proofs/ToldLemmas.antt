-- The length of a content is told before it is made: what comes of each change is seen at its place.
use Rattle.std.proofs.Common.{◌≡◌, ℕ, ◌+◌, ◌≤◌, ◌<◌, inl, inr, Bool, cond, List, [], ◌∷◌, ◌++◌, length, take, drop, get_or, Option, Some, None, IsSome, Contains, refl, sym, ◌∙◌, ap, subst, arith}
use Rattle.std.specs.BTreeMap.{is_at}
use Rattle.std.specs.List.{sum_by}
use Rattle.std.specs.Option.{option_to_list}
use Rattle.std.specs.List.Sorted.{IsStrictlySortedBy}
use Rattle.std.specs.Map.{keys_of, lookup, set_value}
use Rattle.std.specs.declared.cmp.Ordering.TheVariants.{Less}
use Rattle.std.proofs.lemmas.Bool.{cases_Bool}
use Rattle.std.proofs.lemmas.List.{take-append-drop, drop_more}
use Rattle.std.proofs.lemmas.List.Elements.{Contains-append_left, Contains-append_right, Contains-push}
use Rattle.std.proofs.lemmas.Map.Keys.{sorted_head, sorted_tail}
use Rattle.changes.specs.declared.Held.{Held}
use Rattle.changes.specs.declared.Place.{Place}
use Rattle.changes.specs.Contents.{Either, IsContent, IsReachedBy}
use Rattle.changes.specs.Lengths.{held_length, changes_length}
use Rattle.changes.specs.Order.{Outranks}
use Rattle.changes.specs.Places.{AreInOrder, place_cmp, stored_cmp}
use Rattle.changes.proofs.Places.{place_tied}
use Rattle.changes.proofs.Sorted.{all_at}
use Rattle.change_laws.proofs.Contents.{IsContent-itself, content_in_order_is_one, reached_on}
use Rattle.cell_merge.specs.Parts.{IsInnermost}
use Rattle.cs_base.proofs.Members.{contains_nil, contains_here, contains_cases}
use Rattle.partition_content.specs.declared.spots.Spot.{Spot}
use Rattle.partition_content.specs.declared.spots.Spot.TheVariants.{At}
use Rattle.partition_content.specs.Spots.{spot_cmp}
use Rattle.partition_content.specs.Slots.{SlotMap, changes_of, change_in, AreFiled, HasSlot, IsPutIn, IsGood, slot_at, spots_in}
use Rattle.partition_content.specs.Lengths.{IsMergedLength, IsLengthAt, IsLengthBeside}
use Rattle.partition_content.proofs.SpotLemmas.{spot_found, place_kept}
use Rattle.partition_content.proofs.PutLemmas.{slot_found}
use Rattle.partition_content.proofs.OrderLemmas.{changes_in_order}
use Rattle.partition_content.proofs.ClearLemmas.{slot_most}
use Rattle.partition_content.proofs.ContentLemmas.{reached_content}
use Rattle.partition_content.proofs.OwnLemmas.{own_taken}
use Rattle.partition_content.proofs.MemoryLemmas.{content_start, content_more}

-- entries that would have the changes of the front beside those that are there, each at its key
pub record IsForetold (slots : SlotMap) (front : List Held) (length : ℕ) : Type 0 where
  pub made : List (Spot × Option Held)
  pub content : IsContent (changes_of made) (Either (Contains (changes_of slots.entries)) (Contains front))
  pub filed : AreFiled made
  pub same : keys_of made ≡ spots_in slots
  pub others : (p : Place) → ((y : Held) → Contains front y → y.place ≡ p → ⊥) → lookup (is_at (spot_cmp (At p))) made ≡ lookup (is_at (spot_cmp (At p))) slots.entries
  pub long : length ≡ changes_length (changes_of made)

pub told_start : (slots : SlotMap) (n : ℕ) → IsGood slots → n ≡ changes_length (changes_of slots.entries) → IsForetold slots [] n
told_start slots n good long = record {
  made = slots.entries;
  content = content_start (changes_of slots.entries) (IsContent-itself (changes_of slots.entries) good.apart);
  filed = good.filed;
  same = refl;
  others = λ p none. refl;
  long = long;
}

pub told_end : (slots : SlotMap) (xs : List Held) (n : ℕ) → IsGood slots → IsForetold slots xs n → IsMergedLength (changes_of slots.entries) xs n
told_end slots xs n good f merged c ordered =
    f.long
    ∙ ap changes_length (sym (content_in_order_is_one (Either (Contains (changes_of slots.entries)) (Contains xs)) merged (changes_of f.made) c f.content ordered
    (changes_in_order f.made f.filed (subst (IsStrictlySortedBy spot_cmp) (sym f.same) good.sorted))))

-- ---- one change more

set_other : (es : List (Spot × Option Held)) (p q : Place) (w : Option Held) → (q ≡ p → ⊥) → lookup (is_at (spot_cmp (At p))) (set_value (is_at (spot_cmp (At q))) es w) ≡ lookup (is_at (spot_cmp (At p))) es
set_other [] p q w other = refl
set_other (d ∷ es) p q w other =
    elim (cases_Bool (is_at (spot_cmp (At q)) d.0)) [
      | inl y ↦
          ap (λ (b : Bool). lookup (is_at (spot_cmp (At p))) (cond b ((d.0, w) ∷ es) (d ∷ set_value (is_at (spot_cmp (At q))) es w))) y
          ∙ elim (cases_Bool (is_at (spot_cmp (At p)) d.0)) [
            | inl also ↦ absurd (other (place_kept q p (sym (spot_found q d.0 y) ∙ spot_found p d.0 also)))
            | inr n ↦ ap (λ (b : Bool). cond b (Some w) (lookup (is_at (spot_cmp (At p))) es)) n ∙ sym (ap (λ (b : Bool). cond b (Some d.1) (lookup (is_at (spot_cmp (At p))) es)) n)
          ]
      | inr n ↦
          ap (λ (b : Bool). lookup (is_at (spot_cmp (At p))) (cond b ((d.0, w) ∷ es) (d ∷ set_value (is_at (spot_cmp (At q))) es w))) n
          ∙ ap (λ (o : Option (Option Held)). cond (is_at (spot_cmp (At p)) d.0) (Some d.1) o) (set_other es p q w other)
    ]

some_slot : (o : Option (Option Held)) → IsSome o → o ≡ Some (change_in o)
some_slot None h = cc
some_slot (Some v) h = refl

-- what the look-up at a place gives that has memory
slot_value : (slots : SlotMap) (p : Place) → HasSlot slots p → lookup (is_at (spot_cmp (At p))) slots.entries ≡ Some (change_in (slot_at slots (At p)))
slot_value slots p h = some_slot (slot_at slots (At p)) (slot_found p slots h)

-- what reaches x among both is there already
reached_back : (kept held front : List Held) (x : Held) → IsContent kept (Either (Contains held) (Contains front)) → (Contains front x → ⊥) → ((y : Held) → Contains front y → Outranks y x → ⊥) → IsReachedBy kept x → IsReachedBy held x
reached_back kept held front x c new free (inl here) = elim (c.within x here) [ inl h ↦ inl h | inr f ↦ absurd (new f) ]
reached_back kept held front x c new free (inr (y, here, over)) = elim (c.within y here) [ inl h ↦ inr (y, h, over) | inr f ↦ absurd (free y f over) ]

put_of : (x : Held) (v : Option Held) (a b : ℕ) → IsLengthAt x v a b → (w : Option Held) × IsPutIn x v w a b
put_of x None a b e = (Some x, (refl, e))
put_of x (Some y) a b (inl (rank, e)) = (Some y, inl (rank, refl, e))
put_of x (Some y) a b (inr (less, e)) = (Some x, inr (less, refl, e))

pub told_step : (slots : SlotMap) (front more : List Held) (x : Held) (before after : ℕ) → IsGood slots → more ≡ front ++ x ∷ [] → IsInnermost x.place → HasSlot slots x.place → ((y : Held) → Contains front y → y.place ≡ x.place → ⊥) → ((y : Held) → Contains front y → Outranks y x → ⊥)
    → IsForetold slots front before → IsLengthBeside slots x before after → IsForetold slots more after
told_step slots front more x before after good e narrow slot apart free f (inl (reached, same)) = record {
  made = f.made;
  content = subst (λ (l : List Held). IsContent (changes_of f.made) (Either (Contains (changes_of slots.entries)) (Contains l))) (sym e)
      (content_more (changes_of slots.entries) (changes_of f.made) (changes_of f.made) front x f.content
      (reached_content (changes_of f.made) x f.content.apart (reached_on (changes_of slots.entries) (changes_of f.made) (Contains front) f.content x reached)));
  filed = f.filed;
  same = f.same;
  others = λ p none. f.others p (λ y h. none y (subst (λ (l : List Held). Contains l y) (sym e) (Contains-append_left front (x ∷ []) y h)));
  long = same ∙ f.long;
}
told_step slots front more x before after good e narrow slot apart free f (inr (own, len)) =
    let put = put_of x (change_in (slot_at slots (At x.place))) before after len in
    let found : lookup (is_at (spot_cmp (At x.place))) f.made ≡ Some (change_in (slot_at slots (At x.place))) = f.others x.place apart ∙ slot_value slots x.place slot in
    let t = own_taken f.made (set_value (is_at (spot_cmp (At x.place))) f.made put.0) x (change_in (slot_at slots (At x.place))) put.0 before after (subst (IsStrictlySortedBy spot_cmp) (sym f.same) good.sorted) f.filed f.content.apart narrow
    (λ r. own (reached_back (changes_of f.made) (changes_of slots.entries) front x f.content (λ h. apart x h refl) free r)) found put.1 f.long refl in
    record {
      made = set_value (is_at (spot_cmp (At x.place))) f.made put.0;
      content = subst (λ (l : List Held). IsContent (changes_of (set_value (is_at (spot_cmp (At x.place))) f.made put.0)) (Either (Contains (changes_of slots.entries)) (Contains l))) (sym e)
          (content_more (changes_of slots.entries) (changes_of f.made) (changes_of (set_value (is_at (spot_cmp (At x.place))) f.made put.0)) front x f.content t.content);
      filed = t.filed;
      same = t.same ∙ f.same;
      others = λ p none.
          set_other f.made p x.place put.0 (none x (subst (λ (l : List Held). Contains l x) (sym e) (Contains-push front x)))
          ∙ f.others p (λ y h. none y (subst (λ (l : List Held). Contains l y) (sym e) (Contains-append_left front (x ∷ []) y h)));
      long = t.long;
    }

at_most : (x : Held) (v : Option Held) (a b : ℕ) → IsLengthAt x v a b → b ≤ a + held_length x
at_most x None a b e = omega (arith, e)
at_most x (Some y) a b (inl (rank, e)) = omega (arith, e)
at_most x (Some y) a b (inr (less, e)) = omega (arith, e)

pub beside_most : (slots : SlotMap) (x : Held) (a b : ℕ) → IsLengthBeside slots x a b → b ≤ a + held_length x
beside_most slots x a b (inl (reached, e)) = omega (arith, e)
beside_most slots x a b (inr (own, len)) = at_most x (change_in (slot_at slots (At x.place))) a b len

-- the change that x may replace is part of what is there
pub told_there : (slots : SlotMap) (front : List Held) (x : Held) (n : ℕ) → HasSlot slots x.place → ((y : Held) → Contains front y → y.place ≡ x.place → ⊥) → IsForetold slots front n → sum_by held_length (option_to_list (change_in (slot_at slots (At x.place)))) ≤ n
told_there slots front x n slot apart f =
    let most = slot_most (is_at (spot_cmp (At x.place))) f.made (change_in (slot_at slots (At x.place))) (f.others x.place apart ∙ slot_value slots x.place slot) in
    let long = f.long in omega (arith, most, long)

-- ---- changes in order

pub split_at : (xs : List Held) (i : ℕ) (x : Held) → i < length xs → x ≡ get_or xs i x → take i xs ++ x ∷ drop (i + 1) xs ≡ xs
split_at xs i x below is =
    ap (λ (y : Held). take i xs ++ y ∷ drop (i + 1) xs) is ∙ ap (λ (l : List Held). take i xs ++ l) (sym (drop_more xs i x below)) ∙ take-append-drop i xs

pub below_next : (front rest : List Held) (x y : Held) → AreInOrder (front ++ x ∷ rest) → Contains front y → stored_cmp y x ≡ Less
below_next [] rest x y ordered h = absurd (contains_nil y h)
below_next (z ∷ front) rest x y ordered h =
    elim (contains_cases z front y h) [
      | inl same ↦ subst (λ (v : Held). stored_cmp v x ≡ Less) same
          (all_at (λ v. stored_cmp z v ≡ Less) (front ++ x ∷ rest) x (sorted_head stored_cmp z (front ++ x ∷ rest) ordered) (Contains-append_right front (x ∷ rest) x (contains_here x rest)))
      | inr later ↦ below_next front rest x y (sorted_tail stored_cmp z (front ++ x ∷ rest) ordered) later
    ]

-- those before a change are of other places
pub front_apart : (xs : List Held) (i : ℕ) (x : Held) → AreInOrder xs → i < length xs → x ≡ get_or xs i x → (y : Held) → Contains (take i xs) y → y.place ≡ x.place → ⊥
front_apart xs i x ordered below is y h same =
    let less : place_cmp y.place x.place ≡ Less = below_next (take i xs) (drop (i + 1) xs) x y (subst AreInOrder (sym (split_at xs i x below is)) ordered) h in
    let e = sym (place_tied y.place x.place same) ∙ less in cc

pub in_front : (xs : List Held) (i : ℕ) (y : Held) → Contains (take i xs) y → Contains xs y
in_front xs i y h = subst (λ (l : List Held). Contains l y) (take-append-drop i xs) (Contains-append_left (take i xs) (drop i xs) y h)

-- The changes stand in the tree in the order of their places; memory that is taken or given back changes nothing.
use Rattle.std.proofs.Common.{◌≡◌, ◌⊎◌, inl, inr, Bool, true, false, cond, List, [], ◌∷◌, ◌++◌, Option, Some, None, is_some, Contains, filter, refl, sym, ◌∙◌, ap, subst}
use Rattle.std.specs.Option.{option_to_list}
use Rattle.std.specs.BTreeMap.{is_at, insert_entry}
use Rattle.std.specs.List.{AllByRecursion}
use Rattle.std.specs.List.Sorted.{IsStrictlySortedBy}
use Rattle.std.specs.Map.{keys_of, lookup, remove_entry}
use Rattle.std.specs.Ordering.{match_ordering, is_eq}
use Rattle.std.specs.declared.cmp.Ordering.{Ordering}
use Rattle.std.specs.declared.cmp.Ordering.TheVariants.{Less, Equal, Greater}
use Rattle.std.proofs.lemmas.Bool.{cases_Bool}
use Rattle.std.proofs.lemmas.Map.Keys.{sorted_head, sorted_tail}
use Rattle.changes.specs.declared.Held.{Held}
use Rattle.changes.specs.Contents.{AreApart}
use Rattle.changes.specs.Places.{stored_cmp, AreInOrder}
use Rattle.changes.proofs.Orderings.{less_back}
use Rattle.cs_base.proofs.Members.{contains_nil, contains_here, contains_there, contains_cases, contains_map}
use Rattle.partition_content.specs.declared.spots.Spot.{Spot}
use Rattle.partition_content.specs.declared.spots.Spot.TheVariants.{At}
use Rattle.partition_content.specs.Spots.{spot_cmp}
use Rattle.partition_content.specs.SpotLaws.{spot_total}
use Rattle.partition_content.specs.declared.Arrived.{Arrived}
use Rattle.partition_content.specs.Slots.{SlotMap, stored_of, stored_in, changes_of, AreFiled, IsGood, spots_in}
use Rattle.partition_content.proofs.SpotLemmas.{key_exact}
use Rattle.partition_content.proofs.SlotLemmas.{at_place}

-- ---- order

sorted_from : (x : Held) (xs : List Held) → AllByRecursion (λ y. stored_cmp x y ≡ Less) xs → AreInOrder xs → AreInOrder (x ∷ xs)
unfolding IsStrictlySortedBy
sorted_from x xs h s = (h, s)

pub none_in_order : AreInOrder []
unfolding IsStrictlySortedBy
none_in_order = tt

all_from : (P : Held → Type 0) (xs : List Held) → ((y : Held) → Contains xs y → P y) → AllByRecursion P xs
all_from P [] h = tt
all_from P (x ∷ xs) h = (h x (contains_here x xs), all_from P xs (λ y k. h y (contains_there x xs y k)))

pub key_at : (P : Spot → Type 0) (ks : List Spot) (s : Spot) → AllByRecursion P ks → Contains ks s → P s
key_at P [] s h k = absurd (contains_nil s k)
key_at P (q ∷ ks) s h k = elim (contains_cases q ks s k) [ inl e ↦ subst P e h.0 | inr later ↦ key_at P ks s h.1 later ]

filed_less : (e : Spot × Option Held) (es : List (Spot × Option Held)) → AreFiled (e ∷ es) → AreFiled es
filed_less e es filed s x k = filed s x (contains_there {X = Spot × Option Held} e es (s, Some x) k)

in_order_by : (s : Spot) (o : Option Held) (es : List (Spot × Option Held)) → AreFiled ((s, o) ∷ es) → AllByRecursion (λ k. spot_cmp s k ≡ Less) (keys_of es) → AreInOrder (changes_of es) → AreInOrder (option_to_list o ++ changes_of es)
in_order_by s None es filed above rest = rest
in_order_by s (Some x) es filed above rest =
    let key : s ≡ At x.place = filed s x (contains_here {X = Spot × Option Held} (s, Some x) es) in
    sorted_from x (changes_of es)
    (all_from (λ y. stored_cmp x y ≡ Less) (changes_of es) (λ y k.
    let entry = at_place es (filed_less (s, Some x) es filed) y k in
    subst (λ (q : Spot). spot_cmp q (At y.place) ≡ Less) key (key_at (λ q. spot_cmp s q ≡ Less) (keys_of es) (At y.place) above (contains_map {X = Spot × Option Held} (λ e. e.0) es (At y.place, Some y) entry))))
    rest

pub changes_in_order : (es : List (Spot × Option Held)) → AreFiled es → IsStrictlySortedBy spot_cmp (keys_of es) → AreInOrder (changes_of es)
changes_in_order [] filed sorted = none_in_order
changes_in_order (e ∷ es) filed sorted =
    in_order_by e.0 e.1 es filed (sorted_head spot_cmp e.0 (keys_of es) sorted)
    (changes_in_order es (filed_less e es filed) (sorted_tail spot_cmp e.0 (keys_of es) sorted))

-- ---- memory taken

inserted_at : (o : Ordering) (k : Spot) (e : Spot × Option Arrived) (es more : List (Spot × Option Arrived)) (r : Option (Option Arrived)) → cond (is_eq o) (Some e.1) r ≡ None → (r ≡ None → stored_of more ≡ stored_of es) → stored_of (match_ordering o ((k, None) ∷ e ∷ es) ((e.0, None) ∷ es) (e ∷ more)) ≡ stored_of (e ∷ es)
inserted_at Less k e es more r h rest = refl
inserted_at Equal k e es more r h rest = cc
inserted_at Greater k e es more r h rest = ap (λ (l : List Arrived). option_to_list e.1 ++ l) (rest h)

pub inserted_stored : (es : List (Spot × Option Arrived)) (k : Spot) → lookup (is_at (spot_cmp k)) es ≡ None → stored_of (insert_entry spot_cmp es k None) ≡ stored_of es
inserted_stored [] k h = refl
inserted_stored (e ∷ es) k h = inserted_at (spot_cmp k e.0) k e es (insert_entry spot_cmp es k None) (lookup (is_at (spot_cmp k)) es) h (λ r. inserted_stored es k r)

from_inserted_at : (o : Ordering) (k : Spot) (e d : Spot × Option Held) (es more : List (Spot × Option Held)) → (Contains more d → Contains es d ⊎ (d.1 ≡ None)) → Contains (match_ordering o ((k, None) ∷ e ∷ es) ((e.0, None) ∷ es) (e ∷ more)) d → Contains (e ∷ es) d ⊎ (d.1 ≡ None)
from_inserted_at Less k e d es more rest h =
    elim (contains_cases {X = Spot × Option Held} (k, None) (e ∷ es) d h) [ inl new ↦ inr (ap (λ (p : Spot × Option Held). p.1) (sym new)) | inr old ↦ inl old ]
from_inserted_at Equal k e d es more rest h =
    elim (contains_cases {X = Spot × Option Held} (e.0, None) es d h) [ inl new ↦ inr (ap (λ (p : Spot × Option Held). p.1) (sym new)) | inr old ↦ inl (contains_there {X = Spot × Option Held} e es d old) ]
from_inserted_at Greater k e d es more rest h =
    elim (contains_cases {X = Spot × Option Held} e more d h) [
      | inl here ↦ inl (subst (λ (v : Spot × Option Held). Contains {X = Spot × Option Held} (e ∷ es) v) here (contains_here {X = Spot × Option Held} e es))
      | inr later ↦ elim (rest later) [ inl old ↦ inl (contains_there {X = Spot × Option Held} e es d old) | inr none ↦ inr none ]
    ]

from_inserted : (es : List (Spot × Option Held)) (k : Spot) (d : Spot × Option Held) → Contains (insert_entry spot_cmp es k None) d → Contains es d ⊎ (d.1 ≡ None)
from_inserted [] k d h = elim (contains_cases {X = Spot × Option Held} (k, None) [] d h) [ inl new ↦ inr (ap (λ (p : Spot × Option Held). p.1) (sym new)) | inr none ↦ inl none ]
from_inserted (e ∷ es) k d h = from_inserted_at (spot_cmp k e.0) k e d es (insert_entry spot_cmp es k None) (λ later. from_inserted es k d later) h

pub inserted_filed : (es fs : List (Spot × Option Held)) (k : Spot) → fs ≡ insert_entry spot_cmp es k None → AreFiled es → AreFiled fs
inserted_filed es fs k e filed s x h =
    elim (from_inserted es k (s, Some x) (subst (λ (l : List (Spot × Option Held)). Contains l (s, Some x)) e h)) [ inl old ↦ filed s x old | inr none ↦ cc ]

key_inserted_at : (o : Ordering) (k q : Spot) (e : Spot × Option Held) (es more : List (Spot × Option Held)) → (o ≡ Equal → e.0 ≡ k) → ((q ≡ k) ⊎ Contains (keys_of es) q → Contains (keys_of more) q) → (q ≡ k) ⊎ Contains (keys_of (e ∷ es)) q → Contains (keys_of (match_ordering o ((k, None) ∷ e ∷ es) ((e.0, None) ∷ es) (e ∷ more))) q
key_inserted_at Less k q e es more same rest (inl is) = subst (Contains (k ∷ e.0 ∷ keys_of es)) (sym is) (contains_here k (e.0 ∷ keys_of es))
key_inserted_at Less k q e es more same rest (inr old) = contains_there k (e.0 ∷ keys_of es) q old
key_inserted_at Equal k q e es more same rest (inl is) = subst (Contains (e.0 ∷ keys_of es)) (same refl ∙ sym is) (contains_here e.0 (keys_of es))
key_inserted_at Equal k q e es more same rest (inr old) = old
key_inserted_at Greater k q e es more same rest (inl is) = contains_there e.0 (keys_of more) q (rest (inl is))
key_inserted_at Greater k q e es more same rest (inr old) =
    elim (contains_cases e.0 (keys_of es) q old) [ inl here ↦ subst (Contains (e.0 ∷ keys_of more)) here (contains_here e.0 (keys_of more)) | inr later ↦ contains_there e.0 (keys_of more) q (rest (inr later)) ]

key_inserted : (es : List (Spot × Option Held)) (k q : Spot) → (q ≡ k) ⊎ Contains (keys_of es) q → Contains (keys_of (insert_entry spot_cmp es k None)) q
key_inserted [] k q (inl is) = subst (Contains (k ∷ [])) (sym is) (contains_here k [])
key_inserted [] k q (inr none) = absurd (contains_nil q none)
key_inserted (e ∷ es) k q h = key_inserted_at (spot_cmp k e.0) k q e es (insert_entry spot_cmp es k None) (λ t. key_exact k e.0 t) (λ u. key_inserted es k q u) h

pub inserted_key : (es fs : List (Spot × Option Held)) (k at : Spot) → fs ≡ insert_entry spot_cmp es k None → k ≡ at → Contains (keys_of fs) at
inserted_key es fs k at e same = subst (λ (l : List (Spot × Option Held)). Contains (keys_of l) at) (sym e) (key_inserted es k at (inl (sym same)))

pub inserted_others : (es fs : List (Spot × Option Held)) (k q : Spot) → fs ≡ insert_entry spot_cmp es k None → Contains (keys_of es) q → Contains (keys_of fs) q
inserted_others es fs k q e old = subst (λ (l : List (Spot × Option Held)). Contains (keys_of l) q) (sym e) (key_inserted es k q (inr old))

eq_tells : (o : Ordering) → is_eq o ≡ true → o ≡ Equal
eq_tells Less h = cc
eq_tells Equal h = refl
eq_tells Greater h = cc

pub key_there : (k : Spot) (es : List (Spot × Option Arrived)) → is_some (lookup (is_at (spot_cmp k)) es) ≡ true → Contains (keys_of es) k
key_there k [] h = cc
key_there k (e ∷ es) h =
    elim (cases_Bool (is_at (spot_cmp k) e.0)) [
      | inl t ↦ subst (Contains (e.0 ∷ keys_of es)) (key_exact k e.0 (eq_tells (spot_cmp k e.0) t)) (contains_here e.0 (keys_of es))
      | inr f ↦ contains_there e.0 (keys_of es) k (key_there k es (subst (λ (b : Bool). is_some (cond b (Some e.1) (lookup (is_at (spot_cmp k)) es)) ≡ true) f h))
    ]

pub none_is : (o : Option (Option Arrived)) (b : Bool) → b ≡ is_some o → b ≡ false → o ≡ None
none_is None b e f = refl
none_is (Some v) b e f = cc

-- what is there at a key, put in there again, changes nothing
same_at : (o : Ordering) (k : Spot) (v : Option Arrived) (e : Spot × Option Arrived) (es more : List (Spot × Option Arrived)) (r : Option (Option Arrived)) → spot_cmp k e.0 ≡ o → cond (is_eq o) (Some e.1) r ≡ Some v → (r ≡ Some v → spot_cmp e.0 k ≡ Less) → (r ≡ Some v → more ≡ es) → match_ordering o ((k, v) ∷ e ∷ es) ((e.0, v) ∷ es) (e ∷ more) ≡ e ∷ es
same_at Less k v e es more r p h above rest = let back = less_back spot_total e.0 k (above h) in cc
same_at Equal k v e es more r p h above rest = let is : e.1 ≡ v = cc in ap (λ (w : Option Arrived). (e.0, w) ∷ es) (sym is)
same_at Greater k v e es more r p h above rest = ap (λ (l : List (Spot × Option Arrived)). e ∷ l) (rest h)

inserted_same : (es : List (Spot × Option Arrived)) (k : Spot) (v : Option Arrived) → IsStrictlySortedBy spot_cmp (keys_of es) → lookup (is_at (spot_cmp k)) es ≡ Some v → insert_entry spot_cmp es k v ≡ es
inserted_same [] k v sorted h = cc
inserted_same (e ∷ es) k v sorted h =
    same_at (spot_cmp k e.0) k v e es (insert_entry spot_cmp es k v) (lookup (is_at (spot_cmp k)) es) refl h
    (λ r. key_at (λ q. spot_cmp e.0 q ≡ Less) (keys_of es) k (sorted_head spot_cmp e.0 (keys_of es) sorted) (key_there k es (ap is_some r)))
    (λ r. inserted_same es k v (sorted_tail spot_cmp e.0 (keys_of es) sorted) r)

-- the key was there and nothing changes, or memory is taken at it
abbrev pub IsMade : Spot → List (Spot × Option Arrived) → List (Spot × Option Arrived) → Type 0
IsMade k es fs = ((fs ≡ es) × Contains (keys_of es) k) ⊎ ((lookup (is_at (spot_cmp k)) es ≡ None) × (fs ≡ insert_entry spot_cmp es k None))

made_by : (o : Option (Option Arrived)) (es fs : List (Spot × Option Arrived)) (k : Spot) → lookup (is_at (spot_cmp k)) es ≡ o → IsStrictlySortedBy spot_cmp (keys_of es) → fs ≡ insert_entry spot_cmp es k (stored_in o) → IsMade k es fs
made_by None es fs k e sorted is = inr (e, is)
made_by (Some v) es fs k e sorted is = inl (is ∙ inserted_same es k v sorted e, key_there k es (ap is_some e))

pub made : (es fs : List (Spot × Option Arrived)) (k : Spot) → IsStrictlySortedBy spot_cmp (keys_of es) → fs ≡ insert_entry spot_cmp es k (stored_in (lookup (is_at (spot_cmp k)) es)) → IsMade k es fs
made es fs k sorted is = made_by (lookup (is_at (spot_cmp k)) es) es fs k refl sorted is

-- ---- memory given back

nothing_removed_at : (b : Bool) (e : Spot × Option Arrived) (es more : List (Spot × Option Arrived)) (o : Option (Option Arrived)) → stored_in (cond b (Some e.1) o) ≡ None → (stored_in o ≡ None → stored_of more ≡ stored_of es) → stored_of (cond b es (e ∷ more)) ≡ stored_of (e ∷ es)
nothing_removed_at true e es more o h rest = sym (ap (λ (v : Option Arrived). option_to_list v ++ stored_of es) h)
nothing_removed_at false e es more o h rest = ap (λ (l : List Arrived). option_to_list e.1 ++ l) (rest h)

pub nothing_removed : (t : Spot → Bool) (es : List (Spot × Option Arrived)) → stored_in (lookup t es) ≡ None → stored_of (remove_entry t es) ≡ stored_of es
nothing_removed t [] h = refl
nothing_removed t (e ∷ es) h = nothing_removed_at (t e.0) e es (remove_entry t es) (lookup t es) h (λ k. nothing_removed t es k)

from_removed_at : (b : Bool) (e d : Spot × Option Held) (es more : List (Spot × Option Held)) → (Contains more d → Contains es d) → Contains (cond b es (e ∷ more)) d → Contains (e ∷ es) d
from_removed_at true e d es more rest h = contains_there {X = Spot × Option Held} e es d h
from_removed_at false e d es more rest h =
    elim (contains_cases {X = Spot × Option Held} e more d h) [
      | inl here ↦ subst (λ (v : Spot × Option Held). Contains {X = Spot × Option Held} (e ∷ es) v) here (contains_here {X = Spot × Option Held} e es)
      | inr later ↦ contains_there {X = Spot × Option Held} e es d (rest later)
    ]

from_removed : (t : Spot → Bool) (es : List (Spot × Option Held)) (d : Spot × Option Held) → Contains (remove_entry t es) d → Contains es d
from_removed t [] d h = h
from_removed t (e ∷ es) d h = from_removed_at (t e.0) e d es (remove_entry t es) (λ k. from_removed t es d k) h

pub removed_filed : (t : Spot → Bool) (es fs : List (Spot × Option Held)) → fs ≡ remove_entry t es → AreFiled es → AreFiled fs
removed_filed t es fs e filed s x h = filed s x (from_removed t es (s, Some x) (subst (λ (l : List (Spot × Option Held)). Contains l (s, Some x)) e h))

from_filter_at : (b : Bool) (e d : Spot × Option Held) (es more : List (Spot × Option Held)) → (Contains more d → Contains es d) → Contains (cond b (e ∷ more) more) d → Contains (e ∷ es) d
from_filter_at false e d es more rest h = contains_there {X = Spot × Option Held} e es d (rest h)
from_filter_at true e d es more rest h = from_removed_at false e d es more rest h

pub from_filter : (p : Spot × Option Held → Bool) (es : List (Spot × Option Held)) (d : Spot × Option Held) → Contains (filter p es) d → Contains es d
from_filter p [] d h = h
from_filter p (e ∷ es) d h = from_filter_at (p e) e d es (filter p es) (λ k. from_filter p es d k) h

to_filter_at : (b : Bool) (e d : Spot × Option Held) (es more : List (Spot × Option Held)) → (e ≡ d → b ≡ true) → (Contains es d → Contains more d) → Contains (e ∷ es) d → Contains (cond b (e ∷ more) more) d
to_filter_at true e d es more pass rest h =
    elim (contains_cases {X = Spot × Option Held} e es d h) [
      | inl same ↦ subst (λ (v : Spot × Option Held). Contains {X = Spot × Option Held} (e ∷ more) v) same (contains_here {X = Spot × Option Held} e more)
      | inr later ↦ contains_there {X = Spot × Option Held} e more d (rest later)
    ]
to_filter_at false e d es more pass rest h =
    elim (contains_cases {X = Spot × Option Held} e es d h) [ inl same ↦ (let t = pass same in cc) | inr later ↦ rest later ]

pub to_filter : (p : Spot × Option Held → Bool) (es : List (Spot × Option Held)) (d : Spot × Option Held) → Contains es d → p d ≡ true → Contains (filter p es) d
to_filter p [] d h t = h
to_filter p (e ∷ es) d h t = to_filter_at (p e) e d es (filter p es) (λ same. ap p same ∙ t) (λ k. to_filter p es d k t) h

-- ---- all of it

pub between_whole : (es : List (Spot × Option Arrived)) → filter (λ (e : Spot × Option Arrived). true) es ≡ es
between_whole [] = refl
between_whole (e ∷ es) = ap (λ (l : List (Spot × Option Arrived)). e ∷ l) (between_whole es)

-- a change of memory alone leaves the content
pub good_still : (old new : SlotMap) → IsGood old → changes_of new.entries ≡ changes_of old.entries → (AreFiled old.entries → AreFiled new.entries) → (IsStrictlySortedBy spot_cmp (spots_in old) → IsStrictlySortedBy spot_cmp (spots_in new)) → IsGood new
good_still old new good same filed sorted = record {
  sorted = sorted good.sorted;
  filed = filed good.filed;
  apart = subst AreApart (sym same) good.apart;
}

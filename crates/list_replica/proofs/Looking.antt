-- What is stored, by the look-up of a partition.
use Rattle.std.proofs.Common.{◌≡◌, ◌≢◌, ◌↔◌, ℕ, inl, inr, Bool, true, false, cond, Option, Some, None, List, [], ◌∷◌, ◌++◌, Contains, refl, sym, ◌∙◌, ap, subst}
use Rattle.std.specs.Prelude.{map, IsSome}
use Rattle.std.specs.Map.{lookup, set_value}
use Rattle.std.specs.Ordering.{is_eq, match_ordering, eq_by_cmp}
use Rattle.std.specs.declared.cmp.Ordering.{Ordering}
use Rattle.std.specs.declared.cmp.Ordering.TheVariants.{Less, Equal, Greater}
use Rattle.std.specs.BTreeMap.{BTreeMap, is_at, get, insert_entry, IsOrdered}
use Rattle.std.proofs.lemmas.Cmp.{eq_by_cmp_equiv, tied_itself}
use Rattle.std.proofs.lemmas.Map.Keys.{IsDistinct-from_sorted}
use Rattle.std.proofs.lemmas.Map.Views.{Contains-from_lookup, lookup-from_Contains}
use Rattle.cs_base.proofs.Members.{contains_nil, contains_map, contains_from_map, contains_flat, contains_from_flat}
use Rattle.changes.specs.declared.Change.{Change}
use Rattle.changes.specs.declared.Held.{Held}
use Rattle.changes.specs.declared.Partition.{Partition}
use Rattle.changes.specs.declared.Bound.{Bound}
use Rattle.changes.specs.Contents.{Either, IsMergeOf}
use Rattle.changes.specs.Order.{partition_cmp}
use Rattle.changes.specs.Queries.{IsSlice, MeetsBounds}
use Rattle.changes.specs.Totals.{partition_total}
use Rattle.changes.proofs.Orderings.{equal_is}
use Rattle.changes.proofs.Partitions.{partition_exact, same_or_apart}
use Rattle.change_laws.proofs.Contents.{IsContent-same}
use Rattle.partition_content.specs.declared.Arrived.{Arrived}
use Rattle.partition_content.specs.Arrivals.{held_of, ComeAt}
use Rattle.partition_content.specs.Partition.{Partition as Content, changes_in}
use Rattle.durable_state.specs.State.{Stored, change_of, changes_of, Holds}
use Rattle.durable_state.specs.Taking.{TakesIn, ArriveAt}
use Rattle.list_replica.specs.declared.staging.Staged.{Staged}
use Rattle.list_replica.specs.Staging.{Comes}
use Rattle.list_replica.specs.Stores.{stored, stored_all, all_of, stored_if, stored_at}

abbrev Map : Type 0
Map = BTreeMap Partition Content

pub same_partition : (a b : Partition) → eq_by_cmp partition_cmp a b ≡ true → a ≡ b
same_partition a b t = partition_exact a b (equal_is (partition_cmp a b) t)

pub is_itself : (a b : Partition) → a ≡ b → eq_by_cmp partition_cmp a b ≡ true
is_itself a b e = subst (λ (p : Partition). eq_by_cmp partition_cmp a p ≡ true) e (ap is_eq (tied_itself partition_total a))

-- ---- look-ups

pub found_in : (o : Option Content) (x : Arrived) → Contains (stored_if o) x → (c : Content) × (o ≡ Some c) × Contains c.stored x
found_in None x k = absurd (contains_nil x k)
found_in (Some c) x k = (c, refl, k)

-- what a look-up finds is stored
pub stored_from : (m : Map) (p : Partition) (x : Arrived) → Contains (stored_at m p) x → Contains (all_of m.entries) (stored p x)
stored_from m p x k =
    let c = found_in (get partition_cmp m p) x k in
    contains_flat stored_all m.entries (p, c.0) (stored p x) (Contains-from_lookup same_partition p c.0 m.entries c.1) (contains_map (stored p) c.0.stored x c.2)

-- and nothing else is
pub stored_to : (m : Map) (s : Stored) → IsOrdered partition_cmp m → Contains (all_of m.entries) s → (x : Arrived) × Contains (stored_at m s.partition) x × (stored s.partition x ≡ s)
stored_to m s ordered k =
    let e = contains_from_flat stored_all m.entries s k in
    let x = contains_from_map (stored e.0.0) e.0.1.stored s e.2 in
    let at : e.0.0 ≡ s.partition = ap (λ (v : Stored). v.partition) x.2 in
    let found = lookup-from_Contains (eq_by_cmp_equiv partition_total) e.0.0 e.0.1 m.entries (IsDistinct-from_sorted partition_cmp _ ordered) e.1 in (
      x.0,
      subst (λ (q : Partition). Contains (stored_at m q) x.0) at (subst (λ (o : Option Content). Contains (stored_if o) x.0) (sym found) x.1),
      subst (λ (q : Partition). stored q x.0 ≡ s) at x.2,
    )

pub holds_from : (m : Map) (p : Partition) (x : Held) → Contains (map held_of (stored_at m p)) x → Holds (changes_of (all_of m.entries)) p x
holds_from m p x k =
    let a = contains_from_map held_of (stored_at m p) x k in
    subst (λ (z : Held). Holds (changes_of (all_of m.entries)) p z) a.2 (contains_map change_of (all_of m.entries) (stored p a.0) (stored_from m p a.0 a.1))

pub holds_to : (m : Map) (p : Partition) (x : Held) → IsOrdered partition_cmp m → Holds (changes_of (all_of m.entries)) p x → Contains (map held_of (stored_at m p)) x
holds_to m p x ordered h =
    let s = contains_from_map change_of (all_of m.entries) _ h in
    let a = stored_to m s.0 ordered s.1 in
    let at : s.0.partition ≡ p = ap (λ (c : Change). c.partition) s.2 in
    let is : a.0.held ≡ x = ap (λ (v : Stored). v.held) a.2 ∙ ap (λ (c : Change). c.held) s.2 in
    subst (λ (z : Held). Contains (map held_of (stored_at m p)) z) is (contains_map held_of (stored_at m p) a.0 (subst (λ (q : Partition). Contains (stored_at m q) a.0) at a.1))

-- ---- changes come to a partition

not_equal : (b : Bool) → (b ≡ true → ⊥) → b ≡ false
not_equal true h = absurd (h refl)
not_equal false h = refl

pub away : (p q : Partition) → q ≢ p → is_at (partition_cmp p) q ≡ false
away p q other = not_equal _ (λ t. other (sym (same_partition p q t)))

pub takes_in : (m n : Map) (p : Partition) (incoming : List Held) → IsOrdered partition_cmp m → IsOrdered partition_cmp n
    → IsMergeOf (map held_of (stored_at n p)) (map held_of (stored_at m p)) incoming → ((q : Partition) → q ≢ p → get partition_cmp n q ≡ get partition_cmp m q)
    → TakesIn (changes_of (all_of m.entries)) p incoming (changes_of (all_of n.entries))
takes_in m n p incoming ordered ordered' merge others = record {
  kept = map held_of (stored_at n p);
  held = λ x. (λ k. holds_from n p x k, λ h. holds_to n p x ordered' h);
  merged = IsContent-same (map held_of (stored_at n p)) (Either (Contains (map held_of (stored_at m p))) (Contains incoming)) (Either (Holds (changes_of (all_of m.entries)) p) (Contains incoming))
      (λ x u. elim u [ inl k ↦ inl (holds_from m p x k) | inr came ↦ inr came ])
      (λ x u. elim u [ inl h ↦ inl (holds_to m p x ordered h) | inr came ↦ inr came ])
      merge;
  others = λ q x other.
      let same : stored_at n q ≡ stored_at m q = ap stored_if (others q other) in (
        λ h. holds_from m q x (subst (λ (l : List Arrived). Contains (map held_of l) x) same (holds_to n q x ordered' h)),
        λ h. holds_from n q x (subst (λ (l : List Arrived). Contains (map held_of l) x) (sym same) (holds_to m q x ordered h)),
      );
}

pub arrives : (m n : Map) (p : Partition) (time : ℕ) → IsOrdered partition_cmp m → IsOrdered partition_cmp n → ComeAt time (stored_at m p) (stored_at n p)
    → ((q : Partition) → q ≢ p → get partition_cmp n q ≡ get partition_cmp m q) → ArriveAt time (all_of m.entries) (all_of n.entries)
arrives m n p time ordered ordered' come others s k =
    let x = stored_to n s ordered' k in
    elim (same_or_apart s.partition p) [
      | inl at ↦ elim (come x.0 (subst (λ (q : Partition). Contains (stored_at n q) x.0) at x.1)) [
        | inl old ↦
            let there : Contains (all_of m.entries) (stored p x.0) = stored_from m p x.0 old in
            inl (subst (λ (v : Stored). Contains (all_of m.entries) v) (ap (λ (q : Partition). stored q x.0) (sym at) ∙ x.2) there)
        | inr (new, when) ↦
            inr (
              (λ h.
                  let as_p : Holds (changes_of (all_of m.entries)) s.partition s.held = h in
                  let held = holds_to m s.partition s.held ordered as_p in
                  new (subst (λ (q : Partition). Contains (map held_of (stored_at m q)) x.0.held) at (subst (λ (z : Held). Contains (map held_of (stored_at m s.partition)) z) (sym (ap (λ (v : Stored). v.held) x.2)) held))),
              sym (ap (λ (v : Stored). v.arrival) x.2) ∙ when,
            )
      ]
      | inr other ↦
          let same : stored_at n s.partition ≡ stored_at m s.partition = ap stored_if (others s.partition other) in
          inl (subst (λ (v : Stored). Contains (all_of m.entries) v) x.2 (stored_from m s.partition x.0 (subst (λ (l : List Arrived). Contains l x.0) same x.1)))
    ]

-- ---- what is stored stays

some_not_none : {X : Type 0} (x : X) → Some x ≡ None → ⊥
some_not_none x e = cc

abbrev Entries : Type 0
Entries = List (Partition × Content)

-- a partition comes of which nothing is stored
pub all_inserted : (p : Partition) (c : Content) (es : Entries) → c.stored ≡ [] → lookup (is_at (partition_cmp p)) es ≡ None → all_of (insert_entry partition_cmp es p c) ≡ all_of es
all_inserted p c [] empty none = ap (λ (l : List Arrived). map (stored p) l ++ []) empty
all_inserted p c (e ∷ es) empty none = go (λ rest. all_inserted p c es empty rest) (partition_cmp p e.0) refl
  where
    go : (lookup (is_at (partition_cmp p)) es ≡ None → all_of (insert_entry partition_cmp es p c) ≡ all_of es) → (o : Ordering) → partition_cmp p e.0 ≡ o
        → all_of (match_ordering o ((p, c) ∷ e ∷ es) ((e.0, c) ∷ es) (e ∷ insert_entry partition_cmp es p c)) ≡ all_of (e ∷ es)
    go more Less at = ap (λ (l : List Arrived). map (stored p) l ++ all_of (e ∷ es)) empty
    go more Equal at = absurd (some_not_none e.1 (sym (ap (λ (o : Ordering). cond (is_eq o) (Some e.1) (lookup (is_at (partition_cmp p)) es)) at) ∙ none))
    go more Greater at = ap (λ (l : List Stored). stored_all e ++ l) (more (sym (ap (λ (o : Ordering). cond (is_eq o) (Some e.1) (lookup (is_at (partition_cmp p)) es)) at) ∙ none))

-- a content is written back of which the same is stored
pub all_written : (test : Partition → Bool) (es : Entries) (old new : Content) → lookup test es ≡ Some old → new.stored ≡ old.stored → all_of (set_value test es new) ≡ all_of es
all_written test [] old new found same = refl
all_written test (e ∷ es) old new found same = go (λ rest. all_written test es old new rest same) (test e.0) refl
  where
    go : (lookup test es ≡ Some old → all_of (set_value test es new) ≡ all_of es) → (b : Bool) → test e.0 ≡ b → all_of (cond b ((e.0, new) ∷ es) (e ∷ set_value test es new)) ≡ all_of (e ∷ es)
    go more true at =
        let is : Some e.1 ≡ Some old = sym (ap (λ (b : Bool). cond b (Some e.1) (lookup test es)) at) ∙ found in
        let one : e.1 ≡ old = cc in
        ap (λ (l : List Arrived). map (stored e.0) l ++ all_of es) (same ∙ ap (λ (c : Content). c.stored) (sym one))
    go more false at = ap (λ (l : List Stored). stored_all e ++ l) (more (sym (ap (λ (b : Bool). cond b (Some e.1) (lookup test es)) at) ∙ found))

-- ---- with what is found

pub is_found : (m : Map) (p : Partition) (c : Content) → Some c ≡ get partition_cmp m p → IsSome (get partition_cmp m p)
is_found m p c at = subst (λ (o : Option Content). IsSome o) at refl

pub takes_found : (m n : Map) (p : Partition) (old new : Content) (incoming : List Held) → IsOrdered partition_cmp m → IsOrdered partition_cmp n → Some old ≡ get partition_cmp m p → get partition_cmp n p ≡ Some new
    → IsMergeOf (changes_in new) (changes_in old) incoming → ((q : Partition) → q ≢ p → get partition_cmp n q ≡ get partition_cmp m q) → TakesIn (changes_of (all_of m.entries)) p incoming (changes_of (all_of n.entries))
takes_found m n p old new incoming ordered ordered' at at' merge others =
    takes_in m n p incoming ordered ordered'
    (subst (λ (o : Option Content). IsMergeOf (map held_of (stored_if o)) (map held_of (stored_at m p)) incoming) (sym at')
    (subst (λ (o : Option Content). IsMergeOf (changes_in new) (map held_of (stored_if o)) incoming) at merge))
    others

pub arrives_found : (m n : Map) (p : Partition) (old new : Content) (time : ℕ) → IsOrdered partition_cmp m → IsOrdered partition_cmp n → Some old ≡ get partition_cmp m p → get partition_cmp n p ≡ Some new
    → ComeAt time old.stored new.stored → ((q : Partition) → q ≢ p → get partition_cmp n q ≡ get partition_cmp m q) → ArriveAt time (all_of m.entries) (all_of n.entries)
arrives_found m n p old new time ordered ordered' at at' come others =
    arrives m n p time ordered ordered'
    (subst (λ (o : Option Content). ComeAt time (stored_at m p) (stored_if o)) (sym at') (subst (λ (o : Option Content). ComeAt time (stored_if o) new.stored) at come))
    others

pub comes_found : (m n : Map) (s : Staged) (old new : Content) (time : ℕ) → Some old ≡ get partition_cmp m s.partition → get partition_cmp n s.partition ≡ Some new
    → IsMergeOf (changes_in new) (changes_in old) s.changes → ComeAt time old.stored new.stored → Comes time m n s
comes_found m n s old new time at at' merge come = record {
  merged = subst (λ (o : Option Content). IsMergeOf (map held_of (stored_if o)) (map held_of (stored_at m s.partition)) s.changes) (sym at')
      (subst (λ (o : Option Content). IsMergeOf (changes_in new) (map held_of (stored_if o)) s.changes) at merge);
  arrivals = subst (λ (o : Option Content). ComeAt time (stored_at m s.partition) (stored_if o)) (sym at') (subst (λ (o : Option Content). ComeAt time (stored_if o) new.stored) at come);
}

-- ---- what is asked

pub answers : (m : Map) (p : Partition) (from upto : Bound) (part : List Held) → IsOrdered partition_cmp m → IsSlice from upto (map held_of (stored_at m p)) part
    → (x : Held) → Contains part x ↔ (Holds (changes_of (all_of m.entries)) p x × MeetsBounds from upto x.place)
answers m p from upto part ordered slice x = (
  λ k. let h = (slice x).0 k in (holds_from m p x h.0, h.1),
  λ h. (slice x).1 (holds_to m p x ordered h.0, h.1),
)

pub answers_found : (m : Map) (p : Partition) (o : Option Content) (from upto : Bound) (part : List Held) → IsOrdered partition_cmp m → o ≡ get partition_cmp m p → IsSlice from upto (map held_of (stored_if o)) part
    → (x : Held) → Contains part x ↔ (Holds (changes_of (all_of m.entries)) p x × MeetsBounds from upto x.place)
answers_found m p o from upto part ordered at slice = answers m p from upto part ordered (subst (λ (w : Option Content). IsSlice from upto (map held_of (stored_if w)) part) at slice)

pub nothing_found : (from upto : Bound) (part : List Held) → part ≡ [] → IsSlice from upto [] part
nothing_found from upto part none x = (
  λ k. absurd (contains_nil x (subst (λ (l : List Held). Contains l x) none k)),
  λ h. absurd (contains_nil x h.0),
)

-- The partitions of which something is held.
use Rattle.std.proofs.Common.{◌≡◌, ◌↔◌, Bool, true, false, Option, List, [], ◌∷◌, Contains, refl, sym, ◌∙◌, ap, subst}
use Rattle.std.specs.Prelude.{filter, map, ◌&&◌, if◌then◌else◌, IsTrue}
use Rattle.std.specs.Map.{keys_of}
use Rattle.std.specs.List.Sorted.{IsStrictlySortedBy}
use Rattle.std.specs.declared.cmp.Ordering.TheVariants.{Less}
use Rattle.std.specs.BTreeMap.{BTreeMap, get, IsOrdered}
use Rattle.std.proofs.lemmas.Cmp.{eq_by_cmp_equiv}
use Rattle.std.proofs.lemmas.Map.Keys.{IsDistinct-from_sorted}
use Rattle.std.proofs.lemmas.Map.Views.{Contains-from_lookup, lookup-from_Contains}
use Rattle.cs_base.specs.declared.range.Range.{Range}
use Rattle.cs_base.specs.Ring.{in_range}
use Rattle.cs_base.proofs.Members.{contains_nil, contains_here, contains_map, contains_from_map, contains_filter, contains_from_filter}
use Rattle.changes.specs.declared.Held.{Held}
use Rattle.changes.specs.declared.Partition.{Partition}
use Rattle.changes.specs.Order.{partition_cmp}
use Rattle.changes.specs.Totals.{partition_total}
use Rattle.changes.proofs.Sorted.{all_at, all_from}
use Rattle.partition_content.specs.declared.Arrived.{Arrived}
use Rattle.partition_content.specs.Arrivals.{held_of}
use Rattle.partition_content.specs.Partition.{Partition as Content}
use Rattle.durable_state.specs.State.{changes_of, Holds}
use Rattle.list_replica.specs.Stores.{all_of, stored_if, stored_at, has_any, is_listed, listed}
use Rattle.list_replica.proofs.Looking.{holds_from, holds_to, same_partition, found_in}

-- ---- in order

keys_below : (P : Partition → Type 0) (test : Partition × Content → Bool) (es : List (Partition × Content)) (p : Partition) → Contains (keys_of (filter test es)) p → Contains (keys_of es) p
keys_below P test es p k =
    let e = contains_from_map (λ (f : Partition × Content). f.0) (filter test es) p k in
    subst (λ (q : Partition). Contains (keys_of es) q) e.2 (contains_map (λ (f : Partition × Content). f.0) es e.0 (contains_from_filter test es e.0 e.1).0)

pub keys_in_order : (test : Partition × Content → Bool) (es : List (Partition × Content)) → IsStrictlySortedBy partition_cmp (keys_of es) → IsStrictlySortedBy partition_cmp (keys_of (filter test es))
unfolding IsStrictlySortedBy
keys_in_order test [] up = tt
keys_in_order test (e ∷ es) up = go (test e) (keys_in_order test es up.1)
  where
    go : (b : Bool) → IsStrictlySortedBy partition_cmp (keys_of (filter test es)) → IsStrictlySortedBy partition_cmp (keys_of (if b then e ∷ filter test es else filter test es))
    go false rest = rest
    go true rest = (
      all_from (λ (q : Partition). partition_cmp e.0 q ≡ Less) (keys_of (filter test es))
          (λ q k. all_at (λ (r : Partition). partition_cmp e.0 r ≡ Less) (keys_of es) q up.0 (keys_below (λ r. Unit {0}) test es q k)),
      rest,
    )

-- ---- of which something is held

both : (a b : Bool) → (a && b) ≡ true → (a ≡ true) × (b ≡ true)
both true b e = (refl, e)
both false b e = cc

and_true : (a b : Bool) → a ≡ true → b ≡ true → (a && b) ≡ true
and_true a b e f = ap (λ (c : Bool). c && b) e ∙ f

any_is : (xs : List Arrived) → has_any xs ≡ true → (x : Arrived) × Contains xs x
any_is [] e = cc
any_is (x ∷ xs) e = (x, contains_here x xs)

any_of : (xs : List Arrived) (x : Arrived) → Contains xs x → has_any xs ≡ true
any_of [] x k = absurd (contains_nil x k)
any_of (y ∷ ys) x k = refl

abbrev pub AreListed : BTreeMap Partition Content → Range → List Partition → Type 0
AreListed m range ps = (p : Partition) → Contains ps p ↔ (((x : Held) × Holds (changes_of (all_of m.entries)) p x) × IsTrue (in_range range p.token))

pub listed_are : (m : BTreeMap Partition Content) (range : Range) (p : Partition) → IsOrdered partition_cmp m
    → Contains (listed range m.entries) p ↔ (((x : Held) × Holds (changes_of (all_of m.entries)) p x) × IsTrue (in_range range p.token))
listed_are m range p ordered = (
  λ k.
      let e = contains_from_map (λ (f : Partition × Content). f.0) (filter (is_listed range) m.entries) p k in
      let there = contains_from_filter (is_listed range) m.entries e.0 e.1 in
      let tests = both (has_any e.0.1.stored) (in_range range e.0.0.token) there.1 in
      let x = any_is e.0.1.stored tests.0 in
      let found = lookup-from_Contains (eq_by_cmp_equiv partition_total) e.0.0 e.0.1 m.entries (IsDistinct-from_sorted partition_cmp _ ordered) there.0 in
      let held = contains_map held_of e.0.1.stored x.0 x.1 in
      let at : Contains (map held_of (stored_at m e.0.0)) x.0.held = subst (λ (o : Option Content). Contains (map held_of (stored_if o)) x.0.held) (sym found) held in
      ((x.0.held, subst (λ (q : Partition). Holds (changes_of (all_of m.entries)) q x.0.held) e.2 (holds_from m e.0.0 x.0.held at)), subst (λ (q : Partition). in_range range q.token ≡ true) e.2 tests.1),
  λ h.
      let k = holds_to m p h.0.0 ordered h.0.1 in
      let a = contains_from_map held_of (stored_at m p) h.0.0 k in
      let c = found_in (get partition_cmp m p) a.0 a.1 in
      let there : Contains m.entries (p, c.0) = Contains-from_lookup same_partition p c.0 m.entries c.1 in
      contains_map (λ (f : Partition × Content). f.0) (filter (is_listed range) m.entries) (p, c.0)
      (contains_filter (is_listed range) m.entries (p, c.0) there (and_true (has_any c.0.stored) (in_range range p.token) (any_of c.0.stored a.0 c.2) h.1)),
)

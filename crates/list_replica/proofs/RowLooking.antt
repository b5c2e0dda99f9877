-- Rows and last numbers as lists, by their look-ups.
use Rattle.std.proofs.Common.{◌≡◌, ℕ, ◌==◌, Bool, true, false, cond, Option, Some, List, [], ◌∷◌, refl, sym, ◌∙◌, ap, subst, eqb-true}
use Rattle.std.specs.Prelude.{map, if◌then◌else◌}
use Rattle.std.specs.Cmp.{unsigned_ties}
use Rattle.std.specs.Map.{lookup, keys_of}
use Rattle.std.specs.List.Sorted.{IsStrictlySortedBy}
use Rattle.std.specs.Option.{unwrap_or}
use Rattle.std.specs.Ordering.{is_eq, nat_cmp}
use Rattle.std.specs.declared.cmp.Ordering.TheVariants.{Less, Equal}
use Rattle.std.specs.BTreeMap.{is_at}
use Rattle.std.proofs.lemmas.Bool.{eq-eqb}
use Rattle.std.proofs.lemmas.Cmp.{tied_itself}
use Rattle.cs_base.proofs.Members.{contains_map, contains_from_map}
use Rattle.changes.specs.declared.Partition.{Partition}
use Rattle.changes.specs.Order.{partition_cmp}
use Rattle.changes.specs.Totals.{partition_total}
use Rattle.changes.proofs.Orderings.{equal_is}
use Rattle.changes.proofs.Partitions.{partition_exact}
use Rattle.changes.proofs.Sorted.{all_at, all_from}
use Rattle.row_change.specs.declared.entry.PaxosRow.{PaxosRow}
use Rattle.durable_state.specs.declared.parts.LastNumber.{LastNumber}
use Rattle.durable_state.specs.declared.parts.RowAt.{RowAt}
use Rattle.durable_state.specs.Partitions.{is_partition}
use Rattle.durable_state.specs.State.{row_at, last_of}
use Rattle.replica.specs.Kept.{by_partition, by_peer}
use Rattle.list_replica.specs.Rows.{row_entry, number_entry}

-- ---- rows

-- which of two is asked of which, is one
both_ways : (a b : Partition) → is_partition a b ≡ is_at (partition_cmp b) a
both_ways a b = go (is_partition a b) (is_at (partition_cmp b) a) refl refl
  where
    go : (s t : Bool) → is_partition a b ≡ s → is_at (partition_cmp b) a ≡ t → s ≡ t
    go true true e f = refl
    go false false e f = refl
    go true false e f =
        let same : a ≡ b = partition_exact a b (equal_is (partition_cmp a b) e) in
        sym (ap is_eq (subst (λ (p : Partition). partition_cmp b p ≡ Equal) (sym same) (tied_itself partition_total b))) ∙ f
    go false true e f =
        let same : b ≡ a = partition_exact b a (equal_is (partition_cmp b a) f) in
        sym e ∙ ap is_eq (subst (λ (p : Partition). partition_cmp a p ≡ Equal) (sym same) (tied_itself partition_total a))

pub row_looked : (es : List (Partition × PaxosRow)) (p : Partition) → row_at (map row_entry es) p ≡ lookup (is_at (partition_cmp p)) es
row_looked [] p = refl
row_looked (e ∷ es) p =
    ap (λ (t : Bool). if t then Some e.1 else row_at (map row_entry es) p) (both_ways e.0 p)
    ∙ ap (λ (o : Option PaxosRow). cond (is_at (partition_cmp p) e.0) (Some e.1) o) (row_looked es p)

pub rows_in_order : (es : List (Partition × PaxosRow)) → IsStrictlySortedBy partition_cmp (keys_of es) → IsStrictlySortedBy by_partition (map row_entry es)
unfolding IsStrictlySortedBy
rows_in_order [] up = tt
rows_in_order (e ∷ es) up = (
  all_from (λ (r : RowAt). by_partition (row_entry e) r ≡ Less) (map row_entry es)
      (λ r k.
      let f = contains_from_map row_entry es r k in
      subst (λ (z : RowAt). by_partition (row_entry e) z ≡ Less) f.2
      (all_at (λ (q : Partition). partition_cmp e.0 q ≡ Less) (keys_of es) f.0.0 up.0 (contains_map (λ (g : Partition × PaxosRow). g.0) es f.0 f.1))),
  rows_in_order es up.1,
)

-- ---- last numbers

same_number : (a b : ℕ) → (a == b) ≡ is_at (nat_cmp b) a
same_number a b = go (a == b) (b == a) refl refl ∙ unsigned_ties b a
  where
    go : (s t : Bool) → (a == b) ≡ s → (b == a) ≡ t → (a == b) ≡ (b == a)
    go true t e f = e ∙ sym (eq-eqb b a (sym (eqb-true a b e)))
    go false true e f = absurd (cc (e, eq-eqb a b (sym (eqb-true b a f))))
    go false false e f = e ∙ sym f

pub number_looked : (es : List (ℕ × ℕ)) (peer : ℕ) → last_of (map number_entry es) peer ≡ unwrap_or (lookup (is_at (nat_cmp peer)) es) 0
number_looked [] peer = refl
number_looked (e ∷ es) peer =
    ap (λ (t : Bool). if t then e.1 else last_of (map number_entry es) peer) (same_number e.0 peer)
    ∙ go (is_at (nat_cmp peer) e.0) (number_looked es peer)
  where
    go : (t : Bool) → last_of (map number_entry es) peer ≡ unwrap_or (lookup (is_at (nat_cmp peer)) es) 0
        → (if t then e.1 else last_of (map number_entry es) peer) ≡ unwrap_or (cond t (Some e.1) (lookup (is_at (nat_cmp peer)) es)) 0
    go true rest = refl
    go false rest = rest

pub numbers_in_order : (es : List (ℕ × ℕ)) → IsStrictlySortedBy nat_cmp (keys_of es) → IsStrictlySortedBy by_peer (map number_entry es)
unfolding IsStrictlySortedBy
numbers_in_order [] up = tt
numbers_in_order (e ∷ es) up = (
  all_from (λ (n : LastNumber). by_peer (number_entry e) n ≡ Less) (map number_entry es)
      (λ n k.
      let f = contains_from_map number_entry es n k in
      subst (λ (z : LastNumber). by_peer (number_entry e) z ≡ Less) f.2
      (all_at (λ (q : ℕ). nat_cmp e.0 q ≡ Less) (keys_of es) f.0.0 up.0 (contains_map (λ (g : ℕ × ℕ). g.0) es f.0 f.1))),
  numbers_in_order es up.1,
)

-- The order of partitions: total, and equal only for the same.
use Rattle.std.proofs.Common.{◌≡◌, ◌≢◌, ◌⊎◌, inl, inr, ℕ, List, ap, ◌∙◌, sym}
use Rattle.std.specs.Prelude.{ℤ}
use Rattle.std.specs.Ordering.{nat_cmp, int_cmp}
use Rattle.std.specs.declared.cmp.Ordering.{Ordering}
use Rattle.std.specs.declared.cmp.Ordering.TheVariants.{Less, Equal, Greater}
use Rattle.std.proofs.lemmas.Cmp.{tied_itself}
use Rattle.std.proofs.lemmas.Map.Lookups.{exact_unsigned}
use Rattle.changes.specs.declared.Partition.{Partition}
use Rattle.changes.specs.Order.{partition_cmp}
use Rattle.changes.specs.Totals.{partition_total}
use Rattle.changes.proofs.Orderings.{then_equal, cases_ordering, bytes_exact, int_exact}

pub partition_made : {a b : Partition} → a.token ≡ b.token → a.table ≡ b.table → a.key ≡ b.key → a ≡ b
partition_made {a} {b} token table key =
    ap (λ (n : ℤ). let p : Partition = record { table = a.table; token = n; key = a.key } in p) token
    ∙ ap (λ (n : ℕ). let p : Partition = record { table = n; token = b.token; key = a.key } in p) table
    ∙ ap (λ (n : List ℕ). let p : Partition = record { table = b.table; token = b.token; key = n } in p) key

pub partition_exact : (a b : Partition) → partition_cmp a b ≡ Equal → a ≡ b
partition_exact a b e =
    let first = then_equal (int_cmp a.token b.token) _ e in
    let second = then_equal (nat_cmp a.table b.table) _ first.1 in
    partition_made (int_exact a.token b.token first.0) (exact_unsigned a.table b.table second.0) (bytes_exact a.key b.key second.1)

apart_by : (a b : Partition) (o : Ordering) → partition_cmp a b ≡ o → o ≢ Equal → a ≢ b
apart_by a b o is other same = other (sym is ∙ ap (partition_cmp a) (sym same) ∙ tied_itself partition_total a)

-- two partitions are one, or they differ
pub same_or_apart : (a b : Partition) → (a ≡ b) ⊎ (a ≢ b)
same_or_apart a b = elim (cases_ordering (partition_cmp a b)) [
  | inl less ↦ inr (apart_by a b Less less (λ e. cc))
  | inr (inl equal) ↦ inl (partition_exact a b equal)
  | inr (inr greater) ↦ inr (apart_by a b Greater greater (λ e. cc))
]

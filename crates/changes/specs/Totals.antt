-- The orders of partitions, signs, bounds and places are total.
use Rattle.std.specs.Prelude.{◌≡◌, ◌==◌, ◌&&◌, ℕ, refl}
use Rattle.std.specs.Cmp.{IsTotalOrder, both_tied, unsigned_ties}
use Rattle.std.specs.Cmp.Lexicographic.{pointwise, texts_ties}
use Rattle.std.specs.Ordering.{int_eq, is_eq}
use Rattle.std.proofs.lemmas.Cmp.{nat_cmp_total, int_cmp_total, nat_list_cmp_total, on_total, then_total, lists_total}
use Rattle.changes.specs.declared.Partition.{Partition}
use Rattle.changes.specs.Order.{bound_signs, partition_cmp, sign_cmp, signs_cmp}
use Rattle.changes.specs.Places.{bound_cmp, place_cmp, place_signs}

sign_total : IsTotalOrder sign_cmp
sign_total = then_total (on_total (λ (s : ℕ × ℕ). s.0) nat_cmp_total) (on_total (λ (s : ℕ × ℕ). s.1) nat_cmp_total)

pub signs_total : IsTotalOrder signs_cmp
signs_total = lists_total sign_total

pub bound_total : IsTotalOrder bound_cmp
bound_total = on_total bound_signs signs_total

pub place_total : IsTotalOrder place_cmp
place_total = on_total place_signs signs_total

pub partition_total : IsTotalOrder partition_cmp
partition_total =
    then_total (on_total (λ (p : Partition). p.token) int_cmp_total)
    (then_total (on_total (λ (p : Partition). p.table) nat_cmp_total) (on_total (λ (p : Partition). p.key) nat_list_cmp_total))

-- partitions compare as equal where their parts are equal
pub partition_ties : (a b : Partition) → (int_eq a.token b.token && ((a.table == b.table) && pointwise ◌==◌ a.key b.key)) ≡ is_eq (partition_cmp a b)
partition_ties a b = both_tied _ _ _ _ refl (both_tied _ _ _ _ (unsigned_ties a.table b.table) (texts_ties a.key b.key))

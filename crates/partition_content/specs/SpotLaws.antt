-- The order of keys is total, which `Ord` asks.
use Rattle.std.specs.Prelude.{ℕ}
use Rattle.std.specs.Cmp.{IsTotalOrder}
use Rattle.std.proofs.lemmas.Cmp.{nat_cmp_total, on_total, then_total, lists_total}
use Rattle.changes.specs.Order.{sign_cmp}
use Rattle.partition_content.specs.Spots.{spot_signs, spot_cmp}

pub sign_total : IsTotalOrder sign_cmp
sign_total = then_total (on_total (λ (s : ℕ × ℕ). s.0) nat_cmp_total) (on_total (λ (s : ℕ × ℕ). s.1) nat_cmp_total)

pub spot_total : IsTotalOrder spot_cmp
spot_total = on_total spot_signs (lists_total sign_total)

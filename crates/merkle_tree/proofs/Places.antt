-- Where a token stands in a range, and so in which of its leaves.
use Rattle.std.proofs.Common.{◌≡◌, ◌⊎◌, inl, inr, ℕ, ◌+◌, ◌-◌, ◌*◌, ◌/◌, ◌%◌, ◌^◌, ◌<◌, ◌≤◌, ap₂, ◌∙◌, arith, ℤ}
use Rattle.std.proofs.lemmas.Bool.{ltb-true}
use Rattle.std.proofs.lemmas.Nat.{le-div}
use Rattle.std.proofs.Math.Nat.{div-lt_iff_lt-mul, div-mul-le_self}
use Rattle.cs_base.specs.declared.range.Range.{Range}
use Rattle.cs_base.specs.Ring.{clockwise, width, leaf_of}
use Rattle.cs_base.proofs.Circle.{place, place_below, clockwise_is, width_is}
use Rattle.merkle_tree.specs.Laws.{LeavesShareOut, LeavesRise}
use Rattle.merkle_tree.specs.Ranges.{HasTokens, IsWithin}

-- how many tokens of the range come before this one
abbrev pub steps : Range → ℤ → ℕ
steps r t = (clockwise r.after t + 2 ^ 64 - 1) % 2 ^ 64

-- from place a clockwise to place b it is that far
abbrev IsWay : ℕ → ℕ → ℕ → Type 0
IsWay a b d = ((a ≤ b) × (d + a ≡ b)) ⊎ ((b < a) × (d + a ≡ b + 2 ^ 64))

-- a range of this width leads from place a to place b
abbrev IsWide : ℕ → ℕ → ℕ → Type 0
IsWide a b w = ((a < b) × (w + a ≡ b)) ⊎ ((b ≤ a) × (w + a ≡ b + 2 ^ 64))

-- the way from a to t, and on from t to b, is that of the range; the token at a is the last one of the whole ring
way_through : (a t b d e w : ℕ) → a < 2 ^ 64 → t < 2 ^ 64 → b < 2 ^ 64 → IsWay a t d → IsWay t b e → IsWide a b w → e < w → ((0 < d) × (d + e ≡ w) × (d < 2 ^ 64)) ⊎ ((d ≡ 0) × (e ≡ 0) × (w ≡ 2 ^ 64))
way_through a t b d e w a_low t_low b_low (inl (at, one)) (inl (tb, two)) (inl (ab, three)) h = inl (omega arith, omega arith, omega arith)
way_through a t b d e w a_low t_low b_low (inl (at, one)) (inl (tb, two)) (inr (ab, three)) h = inr (omega arith, omega arith, omega arith)
way_through a t b d e w a_low t_low b_low (inl (at, one)) (inr (tb, two)) (inl (ab, three)) h = absurd (omega arith)
way_through a t b d e w a_low t_low b_low (inl (at, one)) (inr (tb, two)) (inr (ab, three)) h = inl (omega arith, omega arith, omega arith)
way_through a t b d e w a_low t_low b_low (inr (at, one)) (inl (tb, two)) (inl (ab, three)) h = absurd (omega arith)
way_through a t b d e w a_low t_low b_low (inr (at, one)) (inl (tb, two)) (inr (ab, three)) h = inl (omega arith, omega arith, omega arith)
way_through a t b d e w a_low t_low b_low (inr (at, one)) (inr (tb, two)) w_is h = absurd (omega arith)

steps_of : (d e w : ℕ) → ((0 < d) × (d + e ≡ w) × (d < 2 ^ 64)) ⊎ ((d ≡ 0) × (e ≡ 0) × (w ≡ 2 ^ 64)) → (d + 2 ^ 64 - 1) % 2 ^ 64 + e + 1 ≡ w
steps_of d e w (inl (some, whole, low)) = omega arith
steps_of d e w (inr (none, last, all)) = omega arith

-- the tokens before one, those behind it, and itself are all of the range
pub steps_through : (r : Range) (t : ℤ) → HasTokens r → IsWithin r t → steps r t + clockwise t r.upto + 1 ≡ width r
steps_through r t ends within =
    steps_of (clockwise r.after t) (clockwise t r.upto) (width r)
    (way_through (place r.after) (place t) (place r.upto) (clockwise r.after t) (clockwise t r.upto) (width r)
    (place_below r.after ends.0) (place_below t within.0) (place_below r.upto ends.1)
    (clockwise_is r.after t ends.0 within.0) (clockwise_is t r.upto within.0 ends.1) (width_is r ends.0 ends.1)
    (ltb-true (clockwise t r.upto) (width r) within.1))

leaf_low : (x w : ℕ) → x < w → (x * 256) / w < 256
leaf_low x w h = (div-lt_iff_lt-mul (omega arith)).1 (omega arith)

pub shared_out : LeavesShareOut
shared_out r t ends within = let through = steps_through r t ends within in leaf_low (steps r t) (width r) (omega arith)

leaf_rises : (x y w : ℕ) → x ≤ y → 0 < w → (x * 256) / w ≤ (y * 256) / w
leaf_rises x y w h some = let down = div-mul-le_self (x * 256) w in le-div ((x * 256) / w) (y * 256) w some (omega arith)

pub rises : LeavesRise
rises r s t ends s_within t_within h =
    let before = steps_through r s ends s_within in
    let behind = steps_through r t ends t_within in
    leaf_rises (steps r s) (steps r t) (width r) (omega arith) (omega arith)

-- ---- what the code computes

one_less : (d before n : ℕ) → before ≡ d → n ≡ (before + 18446744073709551615) % 18446744073709551616 → n ≡ (d + 2 ^ 64 - 1) % 2 ^ 64
one_less d before n e f = omega arith

quotient : (n m v w : ℕ) → n ≡ m → v ≡ w → (n * 256) / v ≡ (m * 256) / w
quotient n m v w e f = ap₂ (λ (x y : ℕ). (x * 256) / y) e f

pub leaf_is : (r : Range) (t after token : ℤ) (before n w : ℕ) → after ≡ r.after → token ≡ t → before ≡ clockwise after token
    → n ≡ (before + 18446744073709551615) % 18446744073709551616 → w ≡ width r → (n * 256) / w ≡ leaf_of r t
leaf_is r t after token before n w a b e f g =
    quotient n (steps r t) w (width r) (one_less (clockwise r.after t) before n (e ∙ ap₂ clockwise a b) f) g

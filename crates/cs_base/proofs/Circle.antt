-- Tokens as places from 0 on, so that distances round the circle are plain numbers.
use Rattle.std.proofs.Common.{◌≡◌, ◌⊎◌, inl, inr, ℕ, suc, ◌+◌, ◌-◌, ◌^◌, ◌<◌, ◌≤◌, Bool, true, false, refl, sym, ◌∙◌, arith, ℤ, pos, negsuc, ◌+ℤ◌, ◌-ℤ◌, ◌≤ℤ◌, ◌<ℤ◌, FitsSigned, w64, eqb}
use Rattle.std.specs.Prelude.{int_le, nat_abs}
use Rattle.std.proofs.lemmas.Bool.{eqb-true, eqb-false, lt-ltb, le-ltb}
use Rattle.std.proofs.lemmas.Int.{ints}
use Rattle.cs_base.specs.declared.range.Range.{Range}
use Rattle.cs_base.specs.Ring.{clockwise, width, in_range}

-- the token, counted from the least one
abbrev pub place : ℤ → ℕ
place (pos n) = n + 2 ^ 63
place (negsuc n) = 2 ^ 63 - suc n

pub place_below : (t : ℤ) → FitsSigned w64 t → place t < 2 ^ 64
place_below (pos n) h = omega arith
place_below (negsuc n) h = omega arith

place_is : (t : ℤ) → FitsSigned w64 t → pos (place t) ≡ t +ℤ pos (2 ^ 63)
place_is (pos n) h = refl
place_is (negsuc n) h = omega (arith, ints)

abs_is : (z : ℤ) → pos 0 ≤ℤ z → pos (nat_abs z) ≡ z
abs_is (pos n) h = refl
abs_is (negsuc n) h = absurd (omega (arith, ints))

le_is : (a b : ℤ) → int_le a b ≡ true → a ≤ℤ b
le_is a b h = omega (arith, ints)

gt_is : (a b : ℤ) → int_le a b ≡ false → b <ℤ a
gt_is a b h = omega (arith, ints)

ahead : (a b : ℤ) → FitsSigned w64 a → FitsSigned w64 b → a ≤ℤ b → (place a ≤ place b) × (nat_abs (b -ℤ a) + place a ≡ place b)
ahead a b f g h =
    let size = abs_is (b -ℤ a) (omega (arith, ints)) in
    let here = place_is a f in
    let there = place_is b g in
    (omega (arith, ints), omega (arith, ints))

behind : (a b : ℤ) → FitsSigned w64 a → FitsSigned w64 b → b <ℤ a → (place b < place a) × ((2 ^ 64 - nat_abs (a -ℤ b)) + place a ≡ place b + 2 ^ 64)
behind a b f g h =
    let back = ahead b a g f (omega (arith, ints)) in
    let below = place_below a f in
    let here = place_is a f in
    let there = place_is b g in
    (omega (arith, ints), omega arith)

clockwise_at : (a b : ℤ) → FitsSigned w64 a → FitsSigned w64 b → (t : Bool) → int_le a b ≡ t
    → ((place a ≤ place b) × (clockwise a b + place a ≡ place b)) ⊎ ((place b < place a) × (clockwise a b + place a ≡ place b + 2 ^ 64))
clockwise_at a b f g true e = let r = ahead a b f g (le_is a b e) in inl (rw e r)
clockwise_at a b f g false e = let r = behind a b f g (gt_is a b e) in inr (rw e r)

-- the distance, by whether the way passes the greatest token
pub clockwise_is : (a b : ℤ) → FitsSigned w64 a → FitsSigned w64 b
    → ((place a ≤ place b) × (clockwise a b + place a ≡ place b)) ⊎ ((place b < place a) × (clockwise a b + place a ≡ place b + 2 ^ 64))
clockwise_is a b f g = clockwise_at a b f g (int_le a b) refl

-- the same order
pub place_le : (a b : ℤ) → FitsSigned w64 a → FitsSigned w64 b → a ≤ℤ b → place a ≤ place b
place_le a b f g h = (ahead a b f g h).0

pub place_lt : (a b : ℤ) → FitsSigned w64 a → FitsSigned w64 b → a <ℤ b → place a < place b
place_lt a b f g h = (behind b a g f h).0

pub same_place : (a b : ℤ) → FitsSigned w64 a → FitsSigned w64 b → place a ≡ place b → a ≡ b
same_place a b f g h =
    let here = place_is a f in
    let there = place_is b g in
    omega (arith, ints)

width_at : (r : Range) → FitsSigned w64 r.after → FitsSigned w64 r.upto → (t : Bool) → eqb (clockwise r.after r.upto) 0 ≡ t
    → ((place r.after < place r.upto) × (width r + place r.after ≡ place r.upto)) ⊎ ((place r.upto ≤ place r.after) × (width r + place r.after ≡ place r.upto + 2 ^ 64))
width_at r f g true e =
    let none = eqb-true (clockwise r.after r.upto) 0 e in
    let upper = place_below r.after f in
    elim (clockwise_is r.after r.upto f g) [
      | inl (under, d) ↦ inr (omega arith, rw e (omega arith))
      | inr (over, d) ↦ absurd (omega arith)
    ]
width_at r f g false e =
    let some = eqb-false (clockwise r.after r.upto) 0 e in
    elim (clockwise_is r.after r.upto f g) [
      | inl (under, d) ↦ inl (omega arith, rw e d)
      | inr (over, d) ↦ inr (omega arith, rw e d)
    ]

-- how many tokens a range has, by whether it passes the greatest token
pub width_is : (r : Range) → FitsSigned w64 r.after → FitsSigned w64 r.upto
    → ((place r.after < place r.upto) × (width r + place r.after ≡ place r.upto)) ⊎ ((place r.upto ≤ place r.after) × (width r + place r.after ≡ place r.upto + 2 ^ 64))
width_is r f g = width_at r f g (eqb (clockwise r.after r.upto) 0) refl

-- whether a token is in a range, as plain numbers: three cases of where the lower end, the token and the upper end stand
in_range_within : (r : Range) (t : ℤ) → clockwise t r.upto < width r → in_range r t ≡ true
in_range_within r t h = lt-ltb (clockwise t r.upto) (width r) h

in_range_beyond : (r : Range) (t : ℤ) → width r ≤ clockwise t r.upto → in_range r t ≡ false
in_range_beyond r t h = le-ltb (clockwise t r.upto) (width r) h

-- a token up to the lower end of a range that passes the greatest token
pub wrapped : (r : Range) (t : ℤ) → FitsSigned w64 r.after → FitsSigned w64 r.upto → FitsSigned w64 t → r.upto ≤ℤ r.after → t ≤ℤ r.after → int_le t r.upto ≡ in_range r t
wrapped r t f g k over low =
    let order = place_le r.upto r.after g f over in
    let lower = place_le t r.after k f low in
    let upper = place_below r.after f in
    wrapped_at r t k g (int_le t r.upto) refl order lower upper (width_is r f g)
  where
    wrapped_at : (r : Range) (t : ℤ) → FitsSigned w64 t → FitsSigned w64 r.upto → (b : Bool) → int_le t r.upto ≡ b
        → place r.upto ≤ place r.after → place t ≤ place r.after → place r.after < 2 ^ 64
        → ((place r.after < place r.upto) × (width r + place r.after ≡ place r.upto)) ⊎ ((place r.upto ≤ place r.after) × (width r + place r.after ≡ place r.upto + 2 ^ 64))
        → int_le t r.upto ≡ in_range r t
    wrapped_at r t k g true e order lower upper w =
        let low = place_le t r.upto k g (le_is t r.upto e) in
        elim (clockwise_is t r.upto k g) [
          | inl (under, d) ↦ e ∙ sym (in_range_within r t (omega arith))
          | inr (over, d) ↦ absurd (omega arith)
        ]
    wrapped_at r t k g false e order lower upper w =
        let high = place_lt r.upto t g k (gt_is t r.upto e) in
        elim (clockwise_is t r.upto k g) [
          | inl (under, d) ↦ absurd (omega arith)
          | inr (over, d) ↦ e ∙ sym (in_range_beyond r t (omega arith))
        ]

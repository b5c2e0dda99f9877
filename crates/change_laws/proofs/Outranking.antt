-- Outranking is a strict order, so what a change outranks falls with it.
use Rattle.std.proofs.Common.{inl, inr, sym, subst, arith}
use Rattle.std.specs.Prelude.{ℤ, ◌≤ℤ◌}
use Rattle.std.proofs.lemmas.Int.{ints}
use Rattle.std.proofs.lemmas.Cmp.{tied_itself}
use Rattle.changes.specs.declared.Place.{Place}
use Rattle.changes.specs.declared.Held.{Held}
use Rattle.changes.specs.Order.{Encloses, Outranks}
use Rattle.changes.proofs.Places.{Encloses_irrefl, Encloses_trans}
use Rattle.changes.proofs.Ranks.{Above, Beats_trans, above, beats_late, outranks, rank_total}

≤ℤ_trans : (a b c : ℤ) → a ≤ℤ b → b ≤ℤ c → a ≤ℤ c
≤ℤ_trans a b c p q = omega (arith, ints, p, q)

Above_trans : (x y z : Held) → Above x y → Above y z → Above x z
Above_trans x y z (inl p) (inl q) = inl (Beats_trans x y z p q)
Above_trans x y z (inl (p, g)) (inr (e, late)) =
    inr (subst (λ (v : Place). Encloses v z.place) (sym p) e, ≤ℤ_trans z.timestamp y.timestamp x.timestamp late (beats_late x y g))
Above_trans x y z (inr (e, late)) (inl (q, h)) =
    inr (subst (λ (v : Place). Encloses x.place v) q e, ≤ℤ_trans z.timestamp y.timestamp x.timestamp (beats_late y z h) late)
Above_trans x y z (inr (e, late)) (inr (f, later)) =
    inr (Encloses_trans x.place y.place z.place e f, ≤ℤ_trans z.timestamp y.timestamp x.timestamp later late)

Above_irrefl : (x : Held) → Above x x → ⊥
Above_irrefl x (inl (p, g)) = let e = tied_itself rank_total x in cc
Above_irrefl x (inr (e, late)) = Encloses_irrefl x.place e

pub Outranks_trans : (x y z : Held) → Outranks x y → Outranks y z → Outranks x z
Outranks_trans x y z p q = outranks x z (Above_trans x y z (above x y p) (above y z q))

pub Outranks_irrefl : (x : Held) → Outranks x x → ⊥
Outranks_irrefl x p = Above_irrefl x (above x x p)

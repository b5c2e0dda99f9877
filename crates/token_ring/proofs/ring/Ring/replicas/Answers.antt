use Rattle.std.proofs.Common.{rules, arith, sym, ◌≡◌, subst, List, ℤ, length, FitsSigned, w64}
use Rattle.std.proofs.lemmas.Int.{to_z-of_z}
use Rattle.cs_base.specs.Ring.{IsRing}
use Rattle.token_ring.specs.Placement.{AreReplicas}
use Rattle.token_ring.proofs.Rings.{replicas_from_places}
use Rattle.token_ring.proofs.ring.Ring.replicas.Goals as goal

pub returns : goal.returns
returns c =
    let token : FitsSigned w64 c.args.token = search rules in
    let value = c.tokens-tokens.ensures.value in
    let count : length c.loop-place.out ≡ c.args.rf = let e = c.loop-place.invariant.0 in omega arith in
    subst (λ (ring : List ℤ). AreReplicas ring c.args.rf c.args.token c.loop-place.out) value
    (replicas_from_places c.tokens-tokens.result.now c.args.rf c.args.token c.loop-place.out (subst IsRing (sym value) c.tokens-tokens.ensures.ring) token count (simp to_z-of_z at c.loop-place.invariant.1))

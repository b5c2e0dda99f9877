use Rattle.std.proofs.Common.{◌≡◌, ◌≢◌, ◌==◌, false, ◌<◌, ◌∙◌, ℕ, refl, sym, ap, subst, arith}
use Rattle.std.proofs.lemmas.Bool.{eqb-false}
use Rattle.gate_log.specs.Place.{Place, IsAtRest}
use Rattle.gate_log.proofs.Clearing.{rest_opens, empty_rests}
use Rattle.gate_log.proofs.log.GateLog.clear.Goals as goal

-- a gate that is not the first one is behind it
ltb_or_eq : (gate : ℕ) → gate == 0 ≡ false → 0 < gate
ltb_or_eq gate is = let other : gate ≢ 0 = eqb-false gate 0 is in omega (arith, other)

pub empty_file-requires-clause-begins : goal.empty_file-requires-clause-begins
empty_file-requires-clause-begins g c honest =
    let old = g.S.Store.disk c.args.store.now in
    let rest : IsAtRest c.self.inside.gate (old.seen c.self.inside.file) = subst (λ (p : Place). IsAtRest p.gate (old.seen p.file)) (sym c.self.view_is) (c.requires.at_rest honest) in
    let same = ap (λ (p : Place). p.gate) c.self.view_is in
    let open_gate = ltb_or_eq c.args.self.now.gate (sym (c.is_empty.ensures) ∙ c.if-not-is_empty.true) in
    rest_opens c.self.inside.gate _ rest (omega (arith, same, open_gate))

pub returns-in_err-empty_file-clause-surely : goal.returns-in_err-empty_file-clause-surely
returns-in_err-empty_file-clause-surely g c m n more spares = cc ((c.in_err-empty_file.ensures.surely m n more spares).0)

pub returns-in_ok-empty_file-clause-at_rest : goal.returns-in_ok-empty_file-clause-at_rest
returns-in_ok-empty_file-clause-at_rest g c honest =
    let new = g.S.Store.disk c.empty_file.new.store in
    subst (λ (p : Place). IsAtRest 0 (new.seen p.file)) c.self.view_is (empty_rests _ (c.in_ok-empty_file.ensures.emptied honest))

pub returns-else-not-is_empty-clause-surely : goal.returns-else-not-is_empty-clause-surely
returns-else-not-is_empty-clause-surely g c m n more spares = (refl, g.met.S.Store.spares_fewer c.args.store.now m n (omega arith) spares)

use Rattle.std.proofs.Common.{◌≡◌, ℕ, ◌+◌, ◌^◌, ◌<◌, ◌∙◌, List, length, sym, ap, subst, arith}
use Rattle.cs_store.specs.Disk.{overwritten}
use Rattle.cs_store.proofs.Crashes.{weaker, and_then}
use Rattle.gate_log.specs.Format.{Adds, IsBeforeOrAfter}
use Rattle.gate_log.specs.Place.{Place, IsAtRest}
use Rattle.gate_log.proofs.Crash.{behind}
use Rattle.gate_log.proofs.Moves.{after_first, after_second, rests, adds, same_log}
use Rattle.gate_log.proofs.log.GateLog.append.Goals as goal

-- the first write leaves the entries as they were
pub returns-in_err-write_durably-clause-any_moment : goal.returns-in_err-write_durably-clause-any_moment
returns-in_err-write_durably-clause-any_moment g c honest =
    let gate = c.self.inside.gate in
    let old = g.S.Store.disk c.args.store.now in
    let file = old.seen c.self.inside.file in
    let rest : IsAtRest gate file = subst (λ (p : Place). IsAtRest p.gate (old.seen p.file)) (sym c.self.view_is) (c.requires.at_rest honest) in
    let first = weaker _ _ _ (IsBeforeOrAfter c.args.bytes.now file) _ (c.write_durably.ensures.any_moment honest) (λ d torn. after_first gate file c.args.bytes.now rest _ d torn) in
    same_log _ _ c.self.view_is c.args.bytes.now _ _ first

-- the second leaves them with the new one or without
pub returns-in_err-write_durably-2-clause-any_moment : goal.returns-in_err-write_durably-2-clause-any_moment
returns-in_err-write_durably-2-clause-any_moment g c honest =
    let gate = c.self.inside.gate in
    let old = g.S.Store.disk c.args.store.now in
    let file = old.seen c.self.inside.file in
    let rest : IsAtRest gate file = subst (λ (p : Place). IsAtRest p.gate (old.seen p.file)) (sym c.self.view_is) (c.requires.at_rest honest) in
    let first = weaker _ _ _ (IsBeforeOrAfter c.args.bytes.now file) _ (c.write_durably.ensures.any_moment honest) (λ d torn. after_first gate file c.args.bytes.now rest _ d torn) in
    let fits : length c.args.bytes.now < 2 ^ 32 = omega (arith, c.requires.reserved.limit) in
    let staged : (g.S.Store.disk c.write_durably.new.store).seen c.self.inside.file ≡ overwritten file (gate + 1) (behind c.args.bytes.now) =
    (c.in_ok-write_durably.ensures.written honest).file ∙ ap (λ (l : List ℕ). overwritten file (gate + 1) l) (c.deref.ensures.value ∙ c.fill.ensures.items) in
    let second = and_then _ _ _ _ (IsBeforeOrAfter c.args.bytes.now file) _ first (c.write_durably-2.ensures.any_moment honest) (λ d torn. after_second gate file c.args.bytes.now rest fits _ staged d torn) in
    same_log _ _ c.self.view_is c.args.bytes.now _ _ second

pub returns-clause-any_moment : goal.returns-clause-any_moment
returns-clause-any_moment g c honest =
    let gate = c.self.inside.gate in
    let old = g.S.Store.disk c.args.store.now in
    let file = old.seen c.self.inside.file in
    let rest : IsAtRest gate file = subst (λ (p : Place). IsAtRest p.gate (old.seen p.file)) (sym c.self.view_is) (c.requires.at_rest honest) in
    let first = weaker _ _ _ (IsBeforeOrAfter c.args.bytes.now file) _ (c.write_durably.ensures.any_moment honest) (λ d torn. after_first gate file c.args.bytes.now rest _ d torn) in
    let fits : length c.args.bytes.now < 2 ^ 32 = omega (arith, c.requires.reserved.limit) in
    let staged : (g.S.Store.disk c.write_durably.new.store).seen c.self.inside.file ≡ overwritten file (gate + 1) (behind c.args.bytes.now) =
    (c.in_ok-write_durably.ensures.written honest).file ∙ ap (λ (l : List ℕ). overwritten file (gate + 1) l) (c.deref.ensures.value ∙ c.fill.ensures.items) in
    let second = and_then _ _ _ _ (IsBeforeOrAfter c.args.bytes.now file) _ first (c.write_durably-2.ensures.any_moment honest) (λ d torn. after_second gate file c.args.bytes.now rest fits _ staged d torn) in
    same_log _ _ c.self.view_is c.args.bytes.now _ _ second

-- and then the new one is on the disk
pub returns-clause-acknowledged : goal.returns-clause-acknowledged
returns-clause-acknowledged g c honest =
    let gate = c.self.inside.gate in
    let old = g.S.Store.disk c.args.store.now in
    let file = old.seen c.self.inside.file in
    let rest : IsAtRest gate file = subst (λ (p : Place). IsAtRest p.gate (old.seen p.file)) (sym c.self.view_is) (c.requires.at_rest honest) in
    let fits : length c.args.bytes.now < 2 ^ 32 = omega (arith, c.requires.reserved.limit) in
    let staged : (g.S.Store.disk c.write_durably.new.store).seen c.self.inside.file ≡ overwritten file (gate + 1) (behind c.args.bytes.now) =
    (c.in_ok-write_durably.ensures.written honest).file ∙ ap (λ (l : List ℕ). overwritten file (gate + 1) l) (c.deref.ensures.value ∙ c.fill.ensures.items) in
    let done = subst (λ (l : List ℕ). Adds c.args.bytes.now file l) (sym (c.in_ok-write_durably-2.ensures.written honest).file) (adds gate file c.args.bytes.now rest fits _ staged) in
    subst (λ (p : Place). Adds c.args.bytes.now (old.seen p.file) ((g.S.Store.disk c.write_durably-2.new.store).seen p.file)) c.self.view_is done

pub returns-clause-at_rest : goal.returns-clause-at_rest
returns-clause-at_rest g c honest =
    let gate = c.self.inside.gate in
    let old = g.S.Store.disk c.args.store.now in
    let file = old.seen c.self.inside.file in
    let rest : IsAtRest gate file = subst (λ (p : Place). IsAtRest p.gate (old.seen p.file)) (sym c.self.view_is) (c.requires.at_rest honest) in
    let fits : length c.args.bytes.now < 2 ^ 32 = omega (arith, c.requires.reserved.limit) in
    let staged : (g.S.Store.disk c.write_durably.new.store).seen c.self.inside.file ≡ overwritten file (gate + 1) (behind c.args.bytes.now) =
    (c.in_ok-write_durably.ensures.written honest).file ∙ ap (λ (l : List ℕ). overwritten file (gate + 1) l) (c.deref.ensures.value ∙ c.fill.ensures.items) in
    let done = subst (λ (l : List ℕ). IsAtRest (gate + (length c.args.bytes.now + 5)) l) (sym (c.in_ok-write_durably-2.ensures.written honest).file) (rests gate file c.args.bytes.now rest fits _ staged) in
    subst (λ (p : Place). IsAtRest (gate + (length c.args.bytes.now + 5)) ((g.S.Store.disk c.write_durably-2.new.store).seen p.file)) c.self.view_is done

-- a call that fails takes one of the next four
pub returns-in_err-write_durably-clause-surely : goal.returns-in_err-write_durably-clause-surely
returns-in_err-write_durably-clause-surely g c m n more spares = cc ((c.in_err-write_durably.ensures.surely m (n + 2) (omega arith) spares).0)

pub returns-in_err-write_durably-2-clause-surely : goal.returns-in_err-write_durably-2-clause-surely
returns-in_err-write_durably-2-clause-surely g c m n more spares =
    let first = c.in_ok-write_durably.ensures.surely m (n + 2) (omega arith) spares in
    cc ((c.in_err-write_durably-2.ensures.surely (n + 2) n (omega arith) first.1).0)

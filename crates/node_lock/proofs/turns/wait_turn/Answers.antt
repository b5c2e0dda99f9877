use Rattle.std.proofs.Common.{rules, List, [], ◌∷◌, ℕ, ◌%◌, ◌^◌, ◌<◌, ◌≡◌, sym, ap, ◌∙◌, subst, None, Some}
use Rattle.node_lock.specs.Held.{log_of}
use Rattle.node_lock.specs.Rules.{Slot, Mine, Takes, holding}
use Rattle.node_lock.proofs.Keeps.{looks}
use Rattle.node_lock.proofs.Lifting.{lifted}
use Rattle.node_lock.proofs.turns.wait_turn.Goals as goal

pub load-serving-requires : goal.load-serving-requires
load-serving-requires g c = let r = c.requires.seat in let same = c.loop.invariant.2 in let M : Type 0 = Mine g.row.N.Denot g.row.N-Entry.Denot in
    (search rules, search rules, looks _ _ _ _ _ _ (ap (λ (m : M). m.0.tickets) same ∙ r.1) (ap (λ (m : M). m.0.stage) same ∙ r.2) (subst (λ (m : M). 0 < m.0.owned) (sym same) r.3))

pub lift-requires-clause-seat : goal.lift-requires-clause-seat
lift-requires-clause-seat g c =
    let r = c.requires.seat in let same = c.loop.invariant.2 in let M : Type 0 = Mine g.row.N.Denot g.row.N-Entry.Denot in
    let hit = c.load-serving.ensures.2.0 (c.if-serving-ticket.true ∙ (sym c.requires.ticket ∙ ap (λ (m : M). m.0.ticket % 2 ^ 64) (sym same))) in
    (hit.0, ap (λ (m : M). m.1) hit.1 ∙ ap (λ (l : List (ℕ × Slot g.row.N.Denot g.row.N-Entry.Denot)). (0, Some hit.0) ∷ l) (ap (λ (m : M). m.1) same ∙ r.0))

pub returns-then-serving-ticket-clause-held : goal.returns-then-serving-ticket-clause-held
returns-then-serving-ticket-clause-held g c =
    let r = c.requires.seat in let same = c.loop.invariant.2 in let M : Type 0 = Mine g.row.N.Denot g.row.N-Entry.Denot in
    let hit = c.load-serving.ensures.2.0 (c.if-serving-ticket.true ∙ (sym c.requires.ticket ∙ ap (λ (m : M). m.0.ticket % 2 ^ 64) (sym same))) in
    subst (λ (m : M). (c.lift.new.seat.me ≡ (holding m.0 (log_of c.lift.result), (0, None) ∷ [])) × Takes g.N.Stepper.steps m.0 c.lift.result) same
    (lifted g.N.Stepper.steps c.loop.seat.me c.load-serving.new.seat.me c.lift.new.seat.me hit.0 c.lift.result (ap (λ (m : M). m.1) same ∙ r.0) hit.1 hit.2 c.lift.ensures.held c.lift.ensures.seat.2)

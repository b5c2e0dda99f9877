use Rattle.std.proofs.Common.{◌≡◌, ◌+◌, ◌<◌, ℕ, [], ◌∷◌, ◌++◌, length, sym, refl, ap, ◌∙◌, subst, arith, append-nil, length-append}
use Rattle.node_lock.specs.Held.{log_of, Makes}
use Rattle.node_lock.specs.Histories.{entries_by}
use Rattle.node_lock.specs.Rules.{shown, Mine, Takes, waiting, resting}
use Rattle.node_lock.specs.Stepped.{IsSamePass}
use Rattle.node_lock.specs.declared.view.SeatView.{SeatView}
use Rattle.node_lock.specs.declared.view.Stage.TheVariants.{Giving}
use Rattle.node_lock.specs.declared.held.Held.{Held}
use Rattle.node_lock.proofs.Lifting.{has_slot, has_given, has_published, may_give_same, may_give_more, HasMade, has_stepped, HasRefused, has_found, has_declined}
use Rattle.node_lock.proofs.turns.take_turn.Given.{Over}
use Rattle.node_lock.proofs.turns.take_turn.Goals as goal

-- what was taken, said of the view before the ticket
taken : {S E : Type 0} (steps : S → E → S → Type 0) (v : SeatView S E) (a m : Mine S E) (t : ℕ) (h : Held S E) → a.0 ≡ v → m ≡ (waiting a.0 t, a.1) → Takes steps m.0 h → Takes steps (waiting v t) h
taken {S} {E} steps v a m t h was is took = subst (λ (x : SeatView S E). Takes steps (waiting x t) h) was (subst (λ (x : Mine S E). Takes steps x.0 h) is took)

pub give_back-requires-clause-held : goal.give_back-requires-clause-held
give_back-requires-clause-held g c =
    let s = g.N.Stepper in let v = c.args.seat.now.me.0 in let d = c.draw-ticket.ensures.drawn in let h = c.wait_turn-held.result in
    let took = taken s.steps v c.args.seat.now.me c.draw-ticket.new.seat.me d.0 h refl d.2 c.wait_turn-held.ensures.held.1 in
    let here = has_slot v d.0 h c.args.seat.now.me c.draw-ticket.new.seat.me c.wait_turn-held.new.seat.me refl d.2 c.wait_turn-held.ensures.held.0 in
    let made = subst (λ (n : ℕ). Makes s.steps s.event_of s.reply_of h n c.args.event c.in-Ok.receipt c.make.new.held) (sym c.requires.number.0) c.in-Ok.ensures.ok in
    may_give_more v d.0 h s.steps s.event_of s.reply_of c.wait_turn-held.new.seat.me c.make.new.held c.args.event c.in-Ok.receipt here took.held made

pub publish-requires-clause-seat : goal.publish-requires-clause-seat
publish-requires-clause-seat g c =
    let s = g.N.Stepper in let v = c.args.seat.now.me.0 in let d = c.draw-ticket.ensures.drawn in let h = c.wait_turn-held.result in
    let here = has_slot v d.0 h c.args.seat.now.me c.draw-ticket.new.seat.me c.wait_turn-held.new.seat.me refl d.2 c.wait_turn-held.ensures.held.0 in
    let made = subst (λ (n : ℕ). Makes s.steps s.event_of s.reply_of h n c.args.event c.in-Ok.receipt c.make.new.held) (sym c.requires.number.0) c.in-Ok.ensures.ok in
    let more = (v.number, made.entry) ∷ [] in
    let given = has_given v d.0 h c.wait_turn-held.new.seat.me c.give_back.new.seat.me c.make.new.held more here made.log c.give_back.ensures.given in
    subst (λ (x : Mine g.row.N.Denot g.row.N-Entry.Denot). (x.0.tickets ≡ 1) × (x.0.stage ≡ Giving) × (0 < x.0.owned)) (sym given) (refl, refl, c.requires.number.1)

pub publish-requires-clause-count : goal.publish-requires-clause-count
publish-requires-clause-count g c =
    let s = g.N.Stepper in let v = c.args.seat.now.me.0 in let d = c.draw-ticket.ensures.drawn in let h = c.wait_turn-held.result in
    let here = has_slot v d.0 h c.args.seat.now.me c.draw-ticket.new.seat.me c.wait_turn-held.new.seat.me refl d.2 c.wait_turn-held.ensures.held.0 in
    let made = subst (λ (n : ℕ). Makes s.steps s.event_of s.reply_of h n c.args.event c.in-Ok.receipt c.make.new.held) (sym c.requires.number.0) c.in-Ok.ensures.ok in
    let more = (v.number, made.entry) ∷ [] in
    let given = has_given v d.0 h c.wait_turn-held.new.seat.me c.give_back.new.seat.me c.make.new.held more here made.log c.give_back.ensures.given in
    let place = made.place_is in subst (λ (x : Mine g.row.N.Denot g.row.N-Entry.Denot). c.in-Ok.receipt.place + 1 ≡ length (x.0.seen ++ x.0.pending)) (sym given) (omega (arith, length-append (log_of h) more))

pub advance-requires-clause-seat : goal.advance-requires-clause-seat
advance-requires-clause-seat g c =
    let s = g.N.Stepper in let v = c.args.seat.now.me.0 in let d = c.draw-ticket.ensures.drawn in let h = c.wait_turn-held.result in
    let here = has_slot v d.0 h c.args.seat.now.me c.draw-ticket.new.seat.me c.wait_turn-held.new.seat.me refl d.2 c.wait_turn-held.ensures.held.0 in
    let made = subst (λ (n : ℕ). Makes s.steps s.event_of s.reply_of h n c.args.event c.in-Ok.receipt c.make.new.held) (sym c.requires.number.0) c.in-Ok.ensures.ok in
    let more = (v.number, made.entry) ∷ [] in
    let given = has_given v d.0 h c.wait_turn-held.new.seat.me c.give_back.new.seat.me c.make.new.held more here made.log c.give_back.ensures.given in
    let visible = has_published v d.0 h c.give_back.new.seat.me c.publish.new.seat.me more given c.publish.ensures.published in
    subst (λ (x : Mine g.row.N.Denot g.row.N-Entry.Denot). (x.0.tickets ≡ 1) × (x.0.stage ≡ Giving) × (x.0.pending ≡ [])) (sym visible) (refl, refl, refl)

pub give_back-requires-in-Err-clause-held : goal.give_back-requires-in-Err-clause-held
give_back-requires-in-Err-clause-held g c =
    let s = g.N.Stepper in let v = c.args.seat.now.me.0 in let d = c.draw-ticket.ensures.drawn in let h = c.wait_turn-held.result in
    let took = taken s.steps v c.args.seat.now.me c.draw-ticket.new.seat.me d.0 h refl d.2 c.wait_turn-held.ensures.held.1 in
    let here = has_slot v d.0 h c.args.seat.now.me c.draw-ticket.new.seat.me c.wait_turn-held.new.seat.me refl d.2 c.wait_turn-held.ensures.held.0 in
    let f = c.in-Err.ensures.err in
    may_give_same v d.0 h s.steps c.wait_turn-held.new.seat.me c.make.new.held here took.held f.0 f.1

pub advance-requires-in-Err-clause-seat : goal.advance-requires-in-Err-clause-seat
advance-requires-in-Err-clause-seat g c =
    let s = g.N.Stepper in let v = c.args.seat.now.me.0 in let d = c.draw-ticket.ensures.drawn in let h = c.wait_turn-held.result in
    let here = has_slot v d.0 h c.args.seat.now.me c.draw-ticket.new.seat.me c.wait_turn-held.new.seat.me refl d.2 c.wait_turn-held.ensures.held.0 in
    let f = c.in-Err.ensures.err in
    let given = has_given v d.0 h c.wait_turn-held.new.seat.me c.give_back-in-Err.new.seat.me c.make.new.held [] here (f.1 ∙ sym (append-nil (log_of h))) c.give_back-in-Err.ensures.given in
    subst (λ (x : Mine g.row.N.Denot g.row.N-Entry.Denot). (x.0.tickets ≡ 1) × (x.0.stage ≡ Giving) × (x.0.pending ≡ [])) (sym given) (refl, refl, refl)

-- a turn whose step was made
made_turn : (g : Over) (c : goal.After-advance g)
    → HasMade c.args.seat.now.me.0 c.draw-ticket.ensures.drawn.0 c.wait_turn-held.result g.N.Stepper.steps g.N.Stepper.event_of g.N.Stepper.reply_of c.make.new.held c.args.event c.in-Ok.receipt c.give_back.new.seat.me c.advance.new.seat.me
made_turn g c =
    let s = g.N.Stepper in let v = c.args.seat.now.me.0 in let d = c.draw-ticket.ensures.drawn in let h = c.wait_turn-held.result in
    let took = taken s.steps v c.args.seat.now.me c.draw-ticket.new.seat.me d.0 h refl d.2 c.wait_turn-held.ensures.held.1 in
    let here = has_slot v d.0 h c.args.seat.now.me c.draw-ticket.new.seat.me c.wait_turn-held.new.seat.me refl d.2 c.wait_turn-held.ensures.held.0 in
    let made = subst (λ (n : ℕ). Makes s.steps s.event_of s.reply_of h n c.args.event c.in-Ok.receipt c.make.new.held) (sym c.requires.number.0) c.in-Ok.ensures.ok in
    let more = (v.number, made.entry) ∷ [] in
    let given = has_given v d.0 h c.wait_turn-held.new.seat.me c.give_back.new.seat.me c.make.new.held more here made.log c.give_back.ensures.given in
    let visible = has_published v d.0 h c.give_back.new.seat.me c.publish.new.seat.me more given c.publish.ensures.published in
    record {
      took = took;
      made = made;
      given = given;
      rests = c.advance.ensures.rests ∙ ap (λ (x : Mine g.row.N.Denot g.row.N-Entry.Denot). (resting x.0, x.1)) visible;
    }

-- a turn whose step was refused
refused_turn : (g : Over) (c : goal.After-advance-in-Err g)
    → HasRefused c.args.seat.now.me.0 c.draw-ticket.ensures.drawn.0 c.wait_turn-held.result g.N.Stepper.steps c.advance-in-Err.new.seat.me
refused_turn g c =
    let s = g.N.Stepper in let v = c.args.seat.now.me.0 in let d = c.draw-ticket.ensures.drawn in let h = c.wait_turn-held.result in
    let here = has_slot v d.0 h c.args.seat.now.me c.draw-ticket.new.seat.me c.wait_turn-held.new.seat.me refl d.2 c.wait_turn-held.ensures.held.0 in
    let given = has_given v d.0 h c.wait_turn-held.new.seat.me c.give_back-in-Err.new.seat.me c.make.new.held [] here (c.in-Err.ensures.err.1 ∙ sym (append-nil (log_of h))) c.give_back-in-Err.ensures.given in
    record {
      took = taken s.steps v c.args.seat.now.me c.draw-ticket.new.seat.me d.0 h refl d.2 c.wait_turn-held.ensures.held.1;
      rests = c.advance-in-Err.ensures.rests ∙ ap (λ (x : Mine g.row.N.Denot g.row.N-Entry.Denot). (resting x.0, x.1)) given;
    }

pub returns-in-Ok-clause-rests : goal.returns-in-Ok-clause-rests
returns-in-Ok-clause-rests g c = subst (λ (x : Mine g.row.N.Denot g.row.N-Entry.Denot). (x.1 ≡ []) × (x.0.tickets ≡ 0)) (sym (made_turn g c).rests) (refl, refl)

pub returns-in-Ok-clause-start : goal.returns-in-Ok-clause-start
returns-in-Ok-clause-start g c = subst (λ (x : Mine g.row.N.Denot g.row.N-Entry.Denot). x.0.start ≡ c.args.seat.now.me.0.start) (sym (made_turn g c).rests) refl

pub returns-in-Ok-clause-pass : goal.returns-in-Ok-clause-pass
returns-in-Ok-clause-pass g c =
    subst (λ (x : Mine g.row.N.Denot g.row.N-Entry.Denot). IsSamePass (shown c.args.seat.now.me.0) (shown x.0)) (sym (made_turn g c).rests) record { number = refl; owned = refl; seats = refl }

pub returns-in-Ok-clause-ok : goal.returns-in-Ok-clause-ok
returns-in-Ok-clause-ok g c =
    let s = g.N.Stepper in let t = made_turn g c in
    has_stepped c.args.seat.now.me.0 c.draw-ticket.ensures.drawn.0 c.wait_turn-held.result s.steps s.event_of s.reply_of c.args.shared.now.key.state.value c.advance.new.seat.me c.make.new.held c.args.event c.in-Ok.receipt
    t.made c.requires.start t.took.held t.took.later (ap (λ (x : Mine g.row.N.Denot g.row.N-Entry.Denot). x.0) t.rests)
    (subst (λ (x : Mine g.row.N.Denot g.row.N-Entry.Denot). entries_by x.0.number (x.0.seen ++ x.0.pending) ≡ entries_by x.0.number (x.0.mine ++ x.0.pending)) t.given c.publish.ensures.once)

pub returns-in-Err-clause-rests : goal.returns-in-Err-clause-rests
returns-in-Err-clause-rests g c = subst (λ (x : Mine g.row.N.Denot g.row.N-Entry.Denot). (x.1 ≡ []) × (x.0.tickets ≡ 0)) (sym (refused_turn g c).rests) (refl, refl)

pub returns-in-Err-clause-start : goal.returns-in-Err-clause-start
returns-in-Err-clause-start g c = subst (λ (x : Mine g.row.N.Denot g.row.N-Entry.Denot). x.0.start ≡ c.args.seat.now.me.0.start) (sym (refused_turn g c).rests) refl

pub returns-in-Err-clause-pass : goal.returns-in-Err-clause-pass
returns-in-Err-clause-pass g c =
    subst (λ (x : Mine g.row.N.Denot g.row.N-Entry.Denot). IsSamePass (shown c.args.seat.now.me.0) (shown x.0)) (sym (refused_turn g c).rests) record { number = refl; owned = refl; seats = refl }

pub returns-in-Err-clause-err : goal.returns-in-Err-clause-err
returns-in-Err-clause-err g c =
    let s = g.N.Stepper in let v = c.args.seat.now.me.0 in let d = c.draw-ticket.ensures.drawn in let h = c.wait_turn-held.result in
    let t = refused_turn g c in
    let rested = ap (λ (x : Mine g.row.N.Denot g.row.N-Entry.Denot). x.0) t.rests in (
      has_found v d.0 h s.steps c.advance-in-Err.new.seat.me t.took rested,
      has_declined v d.0 h s.steps s.refuses c.args.shared.now.key.state.value c.advance-in-Err.new.seat.me c.args.event c.in-Err.refused c.requires.start t.took.held rested c.in-Err.ensures.err.2,
    )

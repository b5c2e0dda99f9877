use Rattle.std.proofs.Common.{◌≡◌, true, false, inl, inr, sym, ◌∙◌}
use Rattle.node_core.proofs.DueKeys.{deadline_due, expiry_due, nothing_due}
use Rattle.node_core.proofs.due.has_due.Goals as goal

pub returns-clause-none : goal.returns-clause-none
returns-clause-none c = λ none. nothing_due c.args.base.now c.args.hints.now.now c.args.time (c.has_deadline.ensures.none c.if-has_deadline.false) (c.has_deadline-2.ensures.none c.if-has_deadline-2.false) (λ h. false_true (sym none ∙ c.has_expired.ensures.1 h))
  where
    false_true : false ≡ true → ⊥
    false_true e = cc

pub returns-clause-some : goal.returns-clause-some
returns-clause-some c = λ some. expiry_due c.args.base.now c.args.hints.now.now c.args.time (c.has_expired.ensures.0 some)

pub returns-then-has_deadline-clause-some : goal.returns-then-has_deadline-clause-some
returns-then-has_deadline-clause-some c = λ some.
    let first = c.has_deadline.ensures.some c.if-has_deadline.true in
    deadline_due c.args.base.now c.args.hints.now.now c.args.time first.0 (inl first.1) first.2

pub returns-then-has_deadline-2-clause-some : goal.returns-then-has_deadline-2-clause-some
returns-then-has_deadline-2-clause-some c = λ some.
    let first = c.has_deadline-2.ensures.some c.if-has_deadline-2.true in
    deadline_due c.args.base.now c.args.hints.now.now c.args.time first.0 (inr first.1) first.2

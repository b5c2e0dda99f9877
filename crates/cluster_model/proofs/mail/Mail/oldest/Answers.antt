use Rattle.std.proofs.Common.{rules, sym, ap, ◌∙◌, Bool, List}
use Rattle.cluster_model.specs.State.{Post, oldest_from}
use Rattle.cluster_model.proofs.Open.{oldest_found, oldest_none, not_true, plain_passed}
use Rattle.cluster_model.proofs.mail.Mail.oldest.Goals as goal

pub returns-then-self-len-clause-none : goal.returns-then-self-len-clause-none
returns-then-self-len-clause-none c = c.loop-self.invariant.2 ∙ c.requires.none

pub returns-then-self-len-clause-place : goal.returns-then-self-len-clause-place
returns-then-self-len-clause-place c =
    let m = c.loop-self.self in
    let long = m.passed.ok.0 in
    let none = c.loop-self.invariant.2 ∙ c.requires.none in
    sym (oldest_found m.oldest m.passed.items c.loop-self.invariant.0.older (λ e. not_true (c.loop-self-test.ensures.1 e)) (search rules))
    ∙ ap (λ (bs : List Bool). oldest_from 0 bs) (sym (plain_passed m none) ∙ ap (λ (p : Post). p.passed) c.loop-self.invariant.1)

pub returns-else-self-len-clause-none : goal.returns-else-self-len-clause-none
returns-else-self-len-clause-none c = c.loop-self.invariant.2 ∙ c.requires.none

pub returns-else-self-len-clause-place : goal.returns-else-self-len-clause-place
returns-else-self-len-clause-place c =
    let m = c.loop-self.self in
    let none = c.loop-self.invariant.2 ∙ c.requires.none in
    sym (oldest_none m.oldest m.passed.items c.loop-self.invariant.0.older (search rules))
    ∙ ap (λ (bs : List Bool). oldest_from 0 bs) (sym (plain_passed m none) ∙ ap (λ (p : Post). p.passed) c.loop-self.invariant.1)

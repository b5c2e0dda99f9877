use Rattle.std.proofs.Common.{refl}
use Rattle.std.proofs.lemmas.Result.{IfOk-weaker}
use Rattle.node_core.specs.Hinting.{at}
use Rattle.node_core.proofs.DueMatters.{deadline_ends, hint_ends}
use Rattle.node_core.proofs.work.Work.end_due.Goals as goal

pub returns-in_ok-given-in-Deadline-clause-ok : goal.returns-in_ok-given-in-Deadline-clause-ok
returns-in_ok-given-in-Deadline-clause-ok c =
    IfOk-weaker c.give.result _ _
    (λ done sent. deadline_ends c.args.base.now c.args.due (at c.args.self.now c.args.hints.now.now) (at c.end_request.new.self c.end_request.new.hints.now) (at c.give.new.self c.end_request.new.hints.now) c.in_ok-given-in-Deadline.given c.requires.holding c.requires.sound c.requires.unmoved c.requires.due
    (c.requires.key c.in-Deadline.is) c.in-Deadline.is c.requires.next c.in_ok-given-in-Deadline.ensures.ok sent refl)
    c.give.ensures

pub returns-in-Expiry-clause-ok : goal.returns-in-Expiry-clause-ok
returns-in-Expiry-clause-ok c =
    IfOk-weaker c.drop_hint.result _ _ (λ done drops. hint_ends c.args.base.now c.args.due (at c.args.self.now c.args.hints.now.now) (at c.drop_hint.new.self c.drop_hint.new.hints.now) c.in-Expiry.is c.requires.sound c.requires.unmoved drops) c.drop_hint.ensures.ok

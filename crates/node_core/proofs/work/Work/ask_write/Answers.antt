use Rattle.std.proofs.Common.{◌∙◌, sym}
use Rattle.std.proofs.lemmas.Result.{IfOk-weaker}
use Rattle.node_core.specs.Hinting.{at}
use Rattle.node_core.proofs.Asking.{write_refused, write_begun}
use Rattle.node_core.proofs.Beginning.{nothing_begins, write_begins}
use Rattle.node_core.proofs.work.Work.ask_write.Goals as goal

pub returns-in-Some-clause-asks : goal.returns-in-Some-clause-asks
returns-in-Some-clause-asks c =
    IfOk-weaker c.tells.result _ _
    (λ given told. write_refused c.args.base.now c.args.self.now c.args.hints.now.now c.args.level c.args.draft.now c.in_ok-mutation.mutation c.write_fits-fits.result c.refusal_at.result c.in-Some.refusal given c.in_ok-mutation.ensures c.write_fits-fits.ensures.tested
    (λ s down over. c.refusal_at.ensures.decides s (down ∙ sym c.down-down.ensures) (over ∙ sym c.is_overloaded-overloaded.ensures)) c.in-Some.is told)
    c.tells.ensures

pub returns-in-Some-clause-begins : goal.returns-in-Some-clause-begins
returns-in-Some-clause-begins c = IfOk-weaker c.tells.result _ _ (λ given told. nothing_begins c.args.base.now c.args.self.now given told.sends) c.tells.ensures

pub returns-in-None-clause-asks : goal.returns-in-None-clause-asks
returns-in-None-clause-asks c =
    IfOk-weaker c.begin_write.result _ _
    (λ given asks. write_begun c.args.base.now (at c.args.self.now c.args.hints.now.now) (at c.begin_write.new.self c.begin_write.new.hints.now) c.args.level c.args.draft.now c.in_ok-mutation.mutation c.write_fits-fits.result c.refusal_at.result given c.in_ok-mutation.ensures c.write_fits-fits.ensures.tested
    (λ s down over. c.refusal_at.ensures.decides s (down ∙ sym c.down-down.ensures) (over ∙ sym c.is_overloaded-overloaded.ensures)) c.in-None.is asks)
    (c.begin_write.ensures.ok c.args.draft.now c.in_ok-mutation.ensures)

pub returns-in-None-clause-begins : goal.returns-in-None-clause-begins
returns-in-None-clause-begins c =
    IfOk-weaker c.begin_write.result _ _
    (λ given asks. write_begins c.args.base.now (at c.args.self.now c.args.hints.now.now) (at c.begin_write.new.self c.begin_write.new.hints.now) c.args.level c.args.draft.now c.in_ok-mutation.mutation given c.in_ok-mutation.ensures (c.write_fits-fits.ensures.fits (c.refusal_at.ensures.accepts c.in-None.is)) asks)
    (c.begin_write.ensures.ok c.args.draft.now c.in_ok-mutation.ensures)

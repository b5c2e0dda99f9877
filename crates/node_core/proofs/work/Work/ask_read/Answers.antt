use Rattle.std.proofs.Common.{◌∙◌, sym}
use Rattle.std.proofs.lemmas.Result.{IfOk-weaker}
use Rattle.node_core.proofs.Asking.{read_refused, read_begun}
use Rattle.node_core.proofs.Beginning.{nothing_begins, read_begins}
use Rattle.node_core.proofs.work.Work.ask_read.Goals as goal

pub returns-in-Some-clause-asks : goal.returns-in-Some-clause-asks
returns-in-Some-clause-asks c =
    IfOk-weaker c.tells.result _ _
    (λ given told hints. read_refused c.args.base.now c.args.self.now hints c.args.level c.args.query c.args.columns c.query_fits-fits.result c.refusal_at.result c.in-Some.refusal given c.query_fits-fits.ensures
    (λ s down over. c.refusal_at.ensures.decides s (down ∙ sym c.down-down.ensures) (over ∙ sym c.is_overloaded-overloaded.ensures)) c.in-Some.is told)
    c.tells.ensures

pub returns-in-Some-clause-begins : goal.returns-in-Some-clause-begins
returns-in-Some-clause-begins c = IfOk-weaker c.tells.result _ _ (λ given told. nothing_begins c.args.base.now c.args.self.now given told.sends) c.tells.ensures

pub returns-in-None-clause-asks : goal.returns-in-None-clause-asks
returns-in-None-clause-asks c =
    IfOk-weaker c.begin_read.result _ _
    (λ given asks hints. read_begun c.args.base.now c.args.self.now c.begin_read.new.self hints c.args.level c.args.query c.args.columns c.query_fits-fits.result c.refusal_at.result given c.query_fits-fits.ensures
    (λ s down over. c.refusal_at.ensures.decides s (down ∙ sym c.down-down.ensures) (over ∙ sym c.is_overloaded-overloaded.ensures)) c.in-None.is asks)
    c.begin_read.ensures

pub returns-in-None-clause-begins : goal.returns-in-None-clause-begins
returns-in-None-clause-begins c = IfOk-weaker c.begin_read.result _ _ (λ given asks. read_begins c.args.base.now c.args.self.now c.begin_read.new.self c.args.level c.args.query c.args.columns given asks) c.begin_read.ensures

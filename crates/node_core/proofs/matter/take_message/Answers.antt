use Rattle.std.proofs.Common.{sym, ◌∙◌}
use Rattle.std.proofs.lemmas.Result.{IfOk-weaker}
use Rattle.node_core.specs.Hinting.{at}
use Rattle.node_core.proofs.Taking.{message_fit, message_other, message_unfit}
use Rattle.node_core.proofs.matter.take_message.Goals as goal

pub returns-then-not-message_fits-clause-ok : goal.returns-then-not-message_fits-clause-ok
returns-then-not-message_fits-clause-ok g c =
    message_unfit c.args.base.now _ _ (at c.args.work.now c.args.hints.now.now) c.args.message.now c.nothing.result (sym c.message_fits.ensures.tested ∙ c.if-not-message_fits.true) c.nothing.ensures.sends c.nothing.ensures.entries

pub hear-requires-clause-other : goal.hear-requires-clause-other
hear-requires-clause-other g c = λ plain. message_other c.args.base.now.setting c.args.base.now.me c.args.message.now (sym c.message_fits.ensures.tested ∙ c.if-not-message_fits.false)

pub returns-clause-ok : goal.returns-clause-ok
returns-clause-ok g c =
    IfOk-weaker c.hear.result _ _
    (λ given heard. message_fit c.args.base.now g.R.Disk.Store.is_honest (g.R.Replica.durable c.args.replica.now) (at c.args.work.now c.args.hints.now.now) (at c.hear.new.work c.hear.new.hints.now) c.args.message.now given
    (sym c.message_fits.ensures.tested ∙ c.if-not-message_fits.false) c.requires.request heard)
    c.hear.ensures.ok
